use Rattle.std.proofs.Common.{length, refl}
use Rattle.std.specs.Str.{chars}
use Rattle.term_core.specs.Datum.Datum.{atom}
use Rattle.term_core.specs.Fed.{characters_fed, term_fed}
use Rattle.term_core.proofs.FedLemmas.{fed_behind}
use Rattle.term_core.proofs.feed.feed_atom.Goals as goal

pub returns : goal.returns
unfolding term_fed
returns g c =
    let cs = chars c.args.text.now in
    fed_behind g.H.Hasher.write _ _ _ 1 (length cs) (characters_fed cs) (term_fed (atom cs)) (rw c.text_length.ensures at c.feed_kind.ensures) c.feed_characters.ensures (λ rest. refl)
