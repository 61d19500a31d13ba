-- A walk of one part, with its own fix.
use Rattle.std.proofs.Common.{◌≡◌, ℕ, ◌+◌, ◌<◌, sym, subst, ◌∙◌, arith, List, []}
use Rattle.std.specs.Prelude.{Bool, true, IfOk, IfErr, Result, Ok, Err}
use Rattle.std.proofs.Math.Logic.{∥∥₁_map}
use Rattle.term_core.specs.Datum.{Datum}
use Rattle.part_core.specs.Acts.Act.{Fix, Unfix}
use Rattle.part_core.specs.Acts.Said.{Nothing}
use Rattle.part_core.specs.Legal.{fix_count}
use Rattle.tables.specs.Turns.{Home, Views, Follows}
use Rattle.walk_core.specs.Goes.{way, whole, Stops}
use Rattle.walk_core.specs.Moments.{AreLegal}
use Rattle.walk_core.specs.Walk.{Walk, Position, start_of}
use Rattle.walk_core.specs.Walk.Position.{Over}
use Rattle.walk_core.proofs.CountLemmas.{turned_count, goes_count, drifted_count}
use Rattle.walk_core.proofs.TurnLemmas.{drifts_nowhere}
use Rattle.walks.specs.Own.{is_fixed_first}
use Rattle.parallel_select.specs.declared.gained.Gained.{Gained}
use Rattle.parallel_select.specs.Parts.{ChangesFix, FixesFirst, GoesGaining, StopsGaining, SelectsGaining, CeasesGaining}

-- the fix that a walk made first is still there at its end
held_by : (h : Home) (w : Walk) (part : ℕ) (at : Position) (found : List Datum) (v fixed last : Views) → part < h.options.parts → FixesFirst h part true v fixed → Stops h w whole (way fixed (start_of w) []) at found last → 0 < fix_count h.number (last part)
held_by h w part at found v fixed last inside fixes (there, walk, drifted) =
    let count : fix_count h.number (last part) ≡ fix_count h.number (fixed part) = drifted_count h there last part inside drifted ∙ goes_count h w whole (way fixed (start_of w) []) (way there at found) part walk in
    let one : fix_count h.number (fixed part) ≡ fix_count h.number (v part) + 1 = turned_count h (v part) (fixed part) Fix Nothing fixes.1.here in
    omega (arith, count, one)

-- a walk that ended is a walk with no further visit
stopped_at_end : {A : Type 0} (h : Home) (w : Walk) (g k : Gained A) (fixed last : Views → Type 0) → ((v : Views) → last v → AreLegal h.options v) → Follows fixed last (GoesGaining h w (start_of w) Over g k) → Follows fixed last (λ v u. (found : List Datum) × Stops h w whole (way v (start_of w) []) Over found u)
stopped_at_end h w g k fixed last legal goes v b =
    let t = goes v b in (t.0, t.1, (t.2.0, (t.0, t.2.1, drifts_nowhere h t.0 (legal t.0 t.1))))

pub held_own : {A X Y : Type 0} (r : Result X Y) (h : Home) (w : Walk) (part : ℕ) (own : Bool) (g k : Gained A) (before fixed last : Views → Type 0) → part < h.options.parts → ∥ ((v : Views) × before v) ∥₁ → ((v : Views) → last v → AreLegal h.options v) → Follows before fixed (FixesFirst h part own) → IfOk r (λ _. Follows fixed last (GoesGaining h w (start_of w) Over g k)) → IfErr r (λ _. Follows fixed last (StopsGaining h w (start_of w) g k)) → own ≡ true → ∥ ((v : Views) × last v × (0 < fix_count h.number (v part))) ∥₁
held_own (Ok x) h w part own g k before fixed last inside seen legal fixes goes stops is_own =
    ∥∥₁_map seen
    (λ s.
    let f = fixes s.0 s.1 in
    let t = stopped_at_end h w g k fixed last legal goes f.0 f.1 in
    (t.0, t.1, held_by h w part Over t.2.0 s.0 f.0 t.0 inside (subst (λ (b : Bool). FixesFirst h part b s.0 f.0) is_own f.2) t.2.1))
held_own (Err y) h w part own g k before fixed last inside seen legal fixes goes stops is_own =
    ∥∥₁_map seen
    (λ s.
    let f = fixes s.0 s.1 in
    let t = stops f.0 f.1 in
    (t.0, t.1, held_by h w part t.2.0 t.2.1 s.0 f.0 t.0 inside (subst (λ (b : Bool). FixesFirst h part b s.0 f.0) is_own f.2) t.2.2))

-- a walk through one part to its end
pub selects : {A : Type 0} (h : Home) (w : Walk) (part : ℕ) (own : Bool) (g k : Gained A) (before fixed last now : Views → Type 0) → w.from ≡ part → ((v : Views) → last v → AreLegal h.options v) → Follows before fixed (FixesFirst h part own) → Follows fixed last (GoesGaining h w (start_of w) Over g k) → Follows last now (ChangesFix h Unfix part own) → Follows before now (SelectsGaining h w g k)
selects h w part own g k before fixed last now from legal fixes goes releases v b =
    let f = fixes v b in
    let t = goes f.0 f.1 in
    let r = releases t.0 t.1 in
    let first : own ≡ is_fixed_first h v w.from = f.2.0 ∙ sym (λ i. is_fixed_first h v (from i)) in (
      r.0,
      r.1,
      (
        t.2.0,
        record {
          fixed = f.0;
          fixes = subst (λ (at : ℕ). ChangesFix h Fix at (is_fixed_first h v w.from) v f.0) (sym from) (subst (λ (here : Bool). ChangesFix h Fix part here v f.0) first f.2.1);
          last = t.0;
          visits = (t.0, t.2.1, drifts_nowhere h t.0 (legal t.0 t.1));
          releases = subst (λ (at : ℕ). ChangesFix h Unfix at (is_fixed_first h v w.from) t.0 r.0) (sym from) (subst (λ (here : Bool). ChangesFix h Unfix part here t.0 r.0) first r.2);
        },
        t.2.2,
      ),
    )

-- a walk through one part that failed
pub ceases : {A : Type 0} (h : Home) (w : Walk) (part : ℕ) (own : Bool) (g k : Gained A) (before fixed last now : Views → Type 0) → w.from ≡ part → Follows before fixed (FixesFirst h part own) → Follows fixed last (StopsGaining h w (start_of w) g k) → Follows last now (ChangesFix h Unfix part own) → Follows before now (CeasesGaining h w g k)
ceases h w part own g k before fixed last now from fixes stops releases v b =
    let f = fixes v b in
    let t = stops f.0 f.1 in
    let r = releases t.0 t.1 in
    let first : own ≡ is_fixed_first h v w.from = f.2.0 ∙ sym (λ i. is_fixed_first h v (from i)) in (
      r.0,
      r.1,
      (
        t.2.0,
        t.2.1,
        record {
          fixed = f.0;
          fixes = subst (λ (at : ℕ). ChangesFix h Fix at (is_fixed_first h v w.from) v f.0) (sym from) (subst (λ (here : Bool). ChangesFix h Fix part here v f.0) first f.2.1);
          last = t.0;
          visits = t.2.2;
          releases = subst (λ (at : ℕ). ChangesFix h Unfix at (is_fixed_first h v w.from) t.0 r.0) (sym from) (subst (λ (here : Bool). ChangesFix h Unfix part here t.0 r.0) first r.2);
        },
        t.2.3,
      ),
    )
