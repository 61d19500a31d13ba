-- What walks return if a session is alone with its table: what the definitions for one thread say.
use Rattle.std.specs.Prelude.{ℕ, ◌≡◌, ◌<◌, IsTrue, List, [], length}
use Rattle.term_core.specs.Datum.{Datum}
use Rattle.mcode.specs.Answer.{answer_of}
use Rattle.part_core.specs.Acts.Purpose.{Answers, Counts, Deletes}
use Rattle.part_core.specs.Legal.{state_after}
use Rattle.tables.specs.Options.{settings_of}
use Rattle.tables.specs.OneThread.{TableState}
use Rattle.tables.specs.Turns.{Home, Views}
use Rattle.walk_core.specs.Walk.{Position, named_count}
use Rattle.walk_core.specs.Walk.Position.{Over}
use Rattle.walk_query.specs.declared.query.Query.{Query}
use Rattle.walks.specs.declared.continuation.Step.{Step}
use Rattle.walks.specs.declared.continuation.Step.TheVariants as step
use Rattle.walks.specs.Counting.{FinishesCount}
use Rattle.walks.specs.Pieces.{Steps}
use Rattle.walk_core.specs.Positions.{IsThere, position_of}
use Rattle.walks.specs.Query.{kept_of, plan_of, walk_of}
use Rattle.walks.specs.Sights.{Piece, after_removal, number_true, piece_of, selected, sights_from}
use Rattle.walks.specs.Whole.{Finishes}

-- a table's states are those that the session sees of its parts
pub record IsSeen (h : Home) (t : TableState) (v : Views) : Type 0 where
  pub options : t.options ≡ h.options
  pub states : (part : ℕ) → part < h.options.parts → t.states part ≡ state_after (settings_of h.options) (v part)

-- a walk with a query can be there
abbrev pub IsAlong : {A : Type 0} → Home → Query A → Position → Type 0
IsAlong h q at = IsThere h.options.parts (named_count (plan_of q h.options)) at

-- what a walk in pieces returns, what it keeps and its position then; it ends if there is no answer left
abbrev pub IsPieceOf : {A : Type 0} → Piece → Step A → Type 0
IsPieceOf p (step.Piece answers c) =
    (0 < length p.given) × (answers.items ≡ p.given) × (kept_of c.kept ≡ p.kept) × (position_of c.at ≡ p.at)
IsPieceOf p (step.End q) = (p.given ≡ []) × (p.kept ≡ []) × (p.at ≡ Over)

-- A step of a walk in pieces returns the piece of the definitions, and changes no state. The walk can be at the
-- position after it.
abbrev pub StepsArePieces : Type 0 → Type 0
StepsArePieces A =
    (h : Home) (t : TableState) (q : Query A) (limit : ℕ) (at : Position) (kept : List Datum) (s : Step A) (v u : Views)
    → IsTrue h.alone → 0 < h.options.parts → IsSeen h t v → IsAlong h q at → Steps h q limit at kept s v u
    → IsPieceOf (piece_of (answer_of q.code) limit kept at (sights_from t (plan_of q h.options) at)) s
    × IsAlong h q (piece_of (answer_of q.code) limit kept at (sights_from t (plan_of q h.options) at)).at × IsSeen h t u

-- a whole walk returns all answers that are selected, and changes no state
abbrev pub WholeWalksSelect : Type 0 → Type 0
WholeWalksSelect A =
    (h : Home) (t : TableState) (q : Query A) (wanted : ℕ → ℕ) (gained : List Datum) (v u : Views)
    → IsTrue h.alone → 0 < h.options.parts → IsSeen h t v → Finishes h (walk_of h Answers q) wanted gained v u
    → (gained ≡ selected t (plan_of q h.options) (answer_of q.code)) × IsSeen h t u

-- a walk that counts returns the number of objects for which the query returns true, and changes no state
abbrev pub WholeWalksCount : Type 0 → Type 0
WholeWalksCount A =
    (h : Home) (t : TableState) (q : Query A) (count : ℕ) (v u : Views)
    → IsTrue h.alone → 0 < h.options.parts → IsSeen h t v → FinishesCount h (walk_of h Counts q) count v u
    → (count ≡ number_true t (plan_of q h.options) (answer_of q.code)) × IsSeen h t u

-- a walk that deletes returns the number of objects for which the query returns true, and leaves the table without them
abbrev pub WholeWalksRemove : Type 0 → Type 0
WholeWalksRemove A =
    (h : Home) (t : TableState) (q : Query A) (count : ℕ) (v u : Views)
    → IsTrue h.alone → 0 < h.options.parts → IsSeen h t v → FinishesCount h (walk_of h Deletes q) count v u
    → (count ≡ number_true t (plan_of q h.options) (answer_of q.code))
    × IsSeen h (after_removal t (plan_of q h.options) (answer_of q.code)) u
