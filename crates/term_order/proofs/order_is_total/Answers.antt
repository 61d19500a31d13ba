use Rattle.std.proofs.Common.{◌≡◌, ◌⊎◌, inl, inr, refl, sym, ◌∙◌}
use Rattle.std.specs.declared.cmp.Ordering.{Ordering}
use Rattle.std.specs.declared.cmp.Ordering.TheVariants.{Less, Equal, Greater}
use Rattle.std.specs.Ordering.{MatchOrdering}
use Rattle.term_core.specs.Datum.{Datum}
use Rattle.term_core.specs.Order.{IsBelow, datum_cmp}
use Rattle.term_core.specs.OrderLaws.{datum_cmp_total, datum_cmp-says, datum_cmp-same, IsBelow-less}
use Rattle.term_order.proofs.order_is_total.Goals as goal

one_of : (o : Ordering) (P E Q : Type 0) → MatchOrdering o P E Q → P ⊎ (E ⊎ Q)
one_of Less P E Q m = inl m
one_of Equal P E Q m = inr (inl m)
one_of Greater P E Q m = inr (inr m)

less_says : (a b : Datum) → datum_cmp a b ≡ Less → IsBelow a b
less_says a b e = rw e at (datum_cmp-says a b)

pub returns : goal.returns
returns c = record {
  irreflexive = λ a h. let e = sym (IsBelow-less a a h) ∙ datum_cmp-same refl in cc;
  transitive = λ a b c p q. less_says a c (datum_cmp_total.trans a b c (IsBelow-less a b p) (IsBelow-less b c q));
  connected = λ a b. one_of (datum_cmp a b) (IsBelow a b) (a ≡ b) (IsBelow b a) (datum_cmp-says a b);
}
