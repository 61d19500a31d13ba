-- What it means that a part over rows is in a state, and what an operation leads to.
use Rattle.std.specs.Prelude.{ℕ, ◌≡◌, Option, Some, None}
use Rattle.part_core.specs.declared.settings.Settings.{Settings}
use Rattle.part_core.specs.Acts.{Act, Answer, History}
use Rattle.part_core.specs.Replies.{reply_of}
use Rattle.part_core.specs.After.{after}
use Rattle.part_core.specs.States.{IsState}
use Rattle.part_core.specs.Legal.{state_after, IsLegal}
use Rattle.part_rows.specs.Dead.{Keeps}
use Rattle.part_rows.specs.Shown.{Shown, state_of}
use Rattle.part_engine.specs.declared.stored.StoredPart.{StoredPart}

-- a part, whose rows show a list of which it counts the dead, is in the state after a legal history
pub record IsAfter {R A : Type 0} (shows : Settings → R → Shown → Type 0) (p : StoredPart R A) (log : History) : Type 0 where
  pub shown : Shown
  pub keeps : Keeps shows p.settings p.rows p.dead shown
  pub state : state_after p.settings log ≡ state_of shown p.fixes.items p.base
  pub legal : IsLegal p.settings log

-- An operation leads a part from a state to the state after it, and its answer is that of the state before it. If it
-- runs out of memory, there is no answer, and the state is unchanged.
abbrev pub Leads : {R A : Type 0} → (Settings → R → Shown → Type 0) → StoredPart R A → ℕ → Act → Option Answer → StoredPart R A → Type 0
Leads shows p n act None q =
    (w : Shown) → Keeps shows p.settings p.rows p.dead w
    → (v : Shown) × Keeps shows p.settings q.rows q.dead v × (state_of v q.fixes.items q.base ≡ state_of w p.fixes.items p.base)
Leads shows p n act (Some answer) q =
    (w : Shown) → Keeps shows p.settings p.rows p.dead w → IsState p.settings (state_of w p.fixes.items p.base)
    → (answer ≡ reply_of p.settings (state_of w p.fixes.items p.base) n act)
    × ((v : Shown) × Keeps shows p.settings q.rows q.dead v
    × (state_of v q.fixes.items q.base ≡ after p.settings (state_of w p.fixes.items p.base) n act))
