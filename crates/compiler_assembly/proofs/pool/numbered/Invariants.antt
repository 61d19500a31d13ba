-- each term from this position on has its number
use Rattle.std.proofs.Common.{◌≡◌, drop}
use Rattle.std.specs.BTreeMap.{get}
use Rattle.term_core.specs.Datum.{Datum}
use Rattle.term_core.specs.Order.{datum_cmp}
use Rattle.compiler_assembly.specs.Pool.{place_from}
use Rattle.compiler_assembly.proofs.pool.numbered.Given as goal

abbrev pub invariant-loop-place : goal.invariant-loop-place
invariant-loop-place g l = (d : Datum) → get datum_cmp l.numbers d ≡ place_from (drop l.place l.terms) l.place d
