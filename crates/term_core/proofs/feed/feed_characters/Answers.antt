use Rattle.std.proofs.lemmas.Str.{IsUtf8-past_char}
use Rattle.std.specs.Str.{chars}
use Rattle.std.specs.Str.Iter.{chars_rest}
use Rattle.term_core.specs.Fed.{characters_fed}
use Rattle.term_core.proofs.FedLemmas.{fed_one, leads_on, leads_end, characters-past, characters-over}
use Rattle.term_core.proofs.feed.feed_characters.Goals as goal

pub loop-character-preserved : goal.loop-character-preserved
loop-character-preserved g c =
    let held = c.loop-character.invariant in
    let left = chars_rest c.loop-character.character-iterator in
    let rest = chars_rest c.next.new.self in
    let parts = c.in-Some.ensures.steps.0 in (
      IsUtf8-past_char left rest c.in-Some.character held.0 parts,
      leads_on g.H.Hasher.write c.args.state.now c.loop-character.state c.write_u32.new.self _ (characters_fed (chars left)) (characters_fed (chars rest)) (characters_fed (chars c.args.text.now)) (fed_one g.H.Hasher.write _ _ _ (rw c.from.ensures at c.write_u32.ensures)) (characters-past left rest c.in-Some.character held.0 parts) held.1,
    )

pub returns : goal.returns
returns g c =
    let left = chars_rest c.loop-character.character-iterator in
    leads_end g.H.Hasher.write c.args.state.now c.loop-character.state (characters_fed (chars left)) (characters_fed (chars c.args.text.now)) (characters-over left c.in-None.ensures.steps.0.0) c.loop-character.invariant.1
