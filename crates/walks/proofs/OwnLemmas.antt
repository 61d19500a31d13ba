-- Fixes that a call makes itself.
use Rattle.std.proofs.Common.{zero, suc, ◌≡◌, ◌≢◌, ℕ, ◌+◌, ◌<◌, ◌≤◌, ◌==◌, refl, ap, sym, subst, ◌∙◌, arith, length, get_or, List, set}
use Rattle.std.specs.Prelude.{Bool, true, false, not, ◌&&◌, replicate}
use Rattle.std.proofs.Math.Logic.{∥∥₁_map}
use Rattle.std.proofs.lemmas.List.{length-replicate}
use Rattle.part_core.specs.Acts.{History}
use Rattle.part_core.specs.Acts.Act.{Fix, Unfix}
use Rattle.part_core.specs.Legal.{fix_count}
use Rattle.part_core.specs.Settings.{is_ordered}
use Rattle.tables.specs.Turns.{Home, Views, Follows}
use Rattle.walks.specs.Own.{is_fixed_first, ChangedWhere, FixesFirst, AreHeld}

-- ---- fixing

-- the parts below a number are fixed if the call fixes them first, and the others are as they were
pub record FixedBelow (h : Home) (own : List Bool) (part : ℕ) (v w : Views) : Type 0 where
  pub below : (k : ℕ) → k < part → (get_or own k false ≡ is_fixed_first h v k) × ChangedWhere h Fix (is_fixed_first h v k) (v k) (w k)
  pub above : (k : ℕ) → part ≤ k → w k ≡ v k

-- no part from a number on is fixed by the call
abbrev pub AreFreeFrom : List Bool → ℕ → Type 0
AreFreeFrom own part = (k : ℕ) → part ≤ k → get_or own k false ≡ false

-- the list of no part has none
in_none : (n k : ℕ) → get_or (replicate n false) k false ≡ false
in_none zero zero = refl
in_none zero (suc k) = refl
in_none (suc n) zero = refl
in_none (suc n) (suc k) = in_none n k

pub none_yet : (n : ℕ) (own : List Bool) → own ≡ replicate n false → (k : ℕ) → get_or own k false ≡ false
none_yet n own is k = ap (λ (bs : List Bool). get_or bs k false) is ∙ in_none n k

pub count_yet : (n : ℕ) (own : List Bool) → own ≡ replicate n false → length own ≡ n
count_yet n own is = ap length is ∙ length-replicate n false

pub none_fixed : (h : Home) (own : List Bool) (now : Views → Type 0) → Follows now now (FixedBelow h own 0)
none_fixed h own now v b =
    (v, b, record { below = λ k below. absurd (omega (arith, below)); above = λ k above. refl })

-- an ordered set is not fixed
pub none_of_ordered : (h : Home) (own : List Bool) (now : Views → Type 0) → is_ordered h.options.kind ≡ true → ((k : ℕ) → get_or own k false ≡ false) → Follows now now (FixesFirst h own)
none_of_ordered h own now ordered free v b = (v, b, λ part inside. rw ordered (free part, refl))

-- ---- releasing

-- the parts of the call below a number were released, and the others are as they were
pub record ReleasedBelow (h : Home) (own : List Bool) (part : ℕ) (v w : Views) : Type 0 where
  pub below : (k : ℕ) → k < part → ChangedWhere h Unfix (get_or own k false) (v k) (w k)
  pub above : (k : ℕ) → part ≤ k → w k ≡ v k

-- a part that is still to be released is fixed by the session
pub held_still : (h : Home) (own : List Bool) (part : ℕ) (before now : Views → Type 0) → part < h.options.parts → get_or own part false ≡ true → ∥ ((v : Views) × before v × AreHeld h own v) ∥₁ → Follows before now (ReleasedBelow h own part) → ∥ ((w : Views) × now w × (0 < fix_count h.number (w part))) ∥₁
held_still h own part before now inside is_own held released =
    ∥∥₁_map held (λ s. let f = released s.0 s.1 in (f.0, f.1, subst (λ (log : History). 0 < fix_count h.number log) (sym (f.2.above part (omega arith))) (s.2 part inside is_own)))
