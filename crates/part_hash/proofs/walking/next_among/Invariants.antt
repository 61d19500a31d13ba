use Rattle.std.proofs.Common.{◌≡◌, drop}
use Rattle.std.specs.Prelude.{find}
use Rattle.part_hash.specs.Classes.{is_next}
use Rattle.part_hash.proofs.walking.next_among.Given as goal

abbrev pub invariant-loop-place : goal.invariant-loop-place
invariant-loop-place g l =
    find (is_next l.settings l.base l.class l.from l.rows) (drop l.place-index l.places) ≡ find (is_next l.settings l.base l.class l.from l.rows) l.places
