use Rattle.std.proofs.Common.{◌∷◌, length, refl}
use Rattle.term_core.specs.Datum.Datum.{binary}
use Rattle.term_core.specs.Fed.{term_fed}
use Rattle.term_core.proofs.FedLemmas.{fed_behind, fed_one}
use Rattle.term_core.proofs.feed.feed_binary.Goals as goal

pub returns : goal.returns
unfolding term_fed
returns g c =
    let bs = c.args.bytes.now in
    fed_behind g.H.Hasher.write _ _ _ 6 (length bs) (λ rest. bs ∷ rest) (term_fed (binary bs)) c.feed_kind.ensures (fed_one g.H.Hasher.write _ _ bs c.write.ensures) (λ rest. refl)
