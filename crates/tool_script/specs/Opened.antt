-- The open table as the code has it in memory, and which sessions have left it.
use Rattle.std.specs.Prelude.{ℕ, ℤ, ◌≡◌, ◌<◌, ◌==◌, Bool, ◌&&◌, ◌||◌, Option, Some, slice_get, List}
use Rattle.term_core.specs.Datum.{Datum}
use Rattle.part_core.specs.declared.part.Part.{Ghosts}
use Rattle.tables.specs.Local.{AreAfter}
use Rattle.tool_script.specs.declared.open.OpenTable as open_type
use Rattle.tool_script.specs.Command.{Ask, Selection}
use Rattle.tool_script.specs.declared.continuations.Continuations.{Continuations}
use Rattle.tool_script.specs.Continuations.{AreHeld}
use Rattle.tool_script.specs.Course.{Takes}
use Rattle.tool_script.specs.Held.{Held}
use Rattle.tool_script.specs.Script.{OpenTable, answered_in, session_number}
use Rattle.tool_script.specs.State.{IsAt}
use Rattle.tool_script.specs.Walks.{selecting_by}

-- the table in memory is in this state, and it is known of each session whether it has left
pub record IsOpen {P A : Type 0} {p : Ghosts P A} (t : open_type.OpenTable P A p) (state : OpenTable) : Type 0 where
  pub table : IsAt t.table.options (AreAfter p.is_after t.table.parts.items) state.table
  pub left : (k : ℕ) → k < t.table.options.sessions → slice_get t.left.items k ≡ Some (state.left k)

-- session `n` is noted as having left if it leaves; the other notes are unchanged
abbrev pub IsNoted : ℕ → Bool → List Bool → List Bool → Type 0
IsNoted n leaves old new =
    (k : ℕ) (b : Bool) → slice_get old k ≡ Some b → slice_get new k ≡ Some (b || (k == n && leaves))

-- the reply to a session's request, by the number of the session; the table is in the state after it
abbrev pub IsSessionAnswered : {P A : Type 0} {p : Ghosts P A} → open_type.OpenTable P A p → open_type.OpenTable P A p → ℤ → Ask → Datum → Type 0
IsSessionAnswered old new number ask reply =
    (state : OpenTable) → IsOpen old state
    → (reply ≡ (answered_in state ask (session_number state number)).0)
    × IsOpen new (answered_in state ask (session_number state number)).1

-- the reply to a session's request with a specification, or for a walk, by the number of the session; the table and the
-- script's walks are in the state after it
abbrev pub IsSelectionAnswered : {P A : Type 0} {p : Ghosts P A} → open_type.OpenTable P A p → open_type.OpenTable P A p
    → (old new : Continuations A) → ℤ → Selection → Datum → Type 0
IsSelectionAnswered before now old new number selection reply =
    (count : ℕ) (state : OpenTable) (walks : List (Option Held)) → before.table.options.name < count
    → IsOpen before state → AreHeld (Some before.table.options) count old walks
    → Takes (selecting_by (record { table = state.table; walks = walks }) selection (session_number state number)) reply
    (λ w. IsOpen now (record { table = w.table; left = state.left })
    × AreHeld (Some now.table.options) count new w.walks)
