use Rattle.std.proofs.Common.{ℕ, ◌≡◌, ◌++◌, List}
use Rattle.ets.specs.Datum.{Datum}
use Rattle.ets.specs.OneThread.{TableState}
use Rattle.ets.specs.Shows.{Shows, home_of}
use Rattle.ets.specs.Walks.{Leaves}
use Rattle.example.proofs.local.answers_after.Given as goal

abbrev pub invariant-loop-piece : goal.invariant-loop-piece
invariant-loop-piece l =
    (q : _) (limit : ℕ) (due : List Datum) (t : TableState) → Shows l.initial.table t → Leaves (home_of l.initial.table) q limit due t l.initial.step
    → (rest : List Datum) × (due ≡ l.answers.items ++ rest) × Shows l.table t × Leaves (home_of l.table) q limit rest t l.step
