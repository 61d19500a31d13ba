use Rattle.std.proofs.Common.{arith, inl, inr, ap, ◌⊎◌, ◌≡◌, ◌≤◌, ◌<◌, ℕ, length, rules}
use Rattle.mcode.proofs.RiseLemmas.{frame_count}
use Rattle.mcode.proofs.builder.frame_fault.Goals as goal

-- neither count exceeds its limit
few : (m n l p q : ℕ) → m ≡ n → n < l → q ≤ p → (l ≤ m) ⊎ (p < q) → ⊥
few m n l p q same short fits many = elim many [ inl h ↦ absurd (omega (arith, same)) | inr h ↦ absurd (omega arith) ]

pub returns-then-as_slice-gt-MAX_COUNT-clause-refused : goal.returns-then-as_slice-gt-MAX_COUNT-clause-refused
returns-then-as_slice-gt-MAX_COUNT-clause-refused g c =
    inr (omega (arith, ap length c.as_slice.ensures, c.if-as_slice-gt-MAX_COUNT.true))

pub returns-then-not-is_above-clause-refused : goal.returns-then-not-is_above-clause-refused
returns-then-not-is_above-clause-refused g c = (
  λ many. few _ _ _ _ _ (frame_count c.args.frames.now) (search rules) (omega (arith, ap length c.as_slice.ensures, c.if-as_slice-gt-MAX_COUNT.false)) many,
  λ next. let yes = c.is_above.ensures.1 next.above in absurd (cc),
)

pub returns-then-not-is_ordered-clause-refused : goal.returns-then-not-is_ordered-clause-refused
returns-then-not-is_ordered-clause-refused g c = (
  λ many. few _ _ _ _ _ (frame_count c.args.frames.now) (search rules) (omega (arith, ap length c.as_slice.ensures, c.if-as_slice-gt-MAX_COUNT.false)) many,
  λ next. let yes = c.is_ordered.ensures.1 next.ordered in absurd (cc),
)

pub returns-clause-fits : goal.returns-clause-fits
returns-clause-fits g c many =
    few _ _ _ _ _ (frame_count c.args.frames.now) (search rules) (omega (arith, ap length c.as_slice.ensures, c.if-as_slice-gt-MAX_COUNT.false)) many
