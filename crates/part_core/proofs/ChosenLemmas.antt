-- Objects for which a query returns true.
use Rattle.std.proofs.Common.{◌≡◌, ◌↔◌, ◌≤◌, [], ◌∷◌, refl, ap, sym, ◌∙◌}
use Rattle.std.specs.Prelude.{Bool, true, false, ◌||◌, if◌then◌else◌, IsTrue, Option, Some, None}
use Rattle.std.specs.Option.{option_map_or}
use Rattle.std.proofs.lemmas.Bool.{true≢false}
use Rattle.term_core.specs.Datum.{Datum}
use Rattle.term_operand.specs.Operand.{boolean}
use Rattle.term_operand.specs.Order.{is_same}
use Rattle.mcode.specs.Answer.{answer_of}
use Rattle.mcode.specs.Program.{Program}
use Rattle.part_core.specs.Visits.{is_true}
use Rattle.part_core.proofs.KeyLemmas.{by_test, same_is, same_from}

-- a test that agrees with the code's answer being the atom true is `is_true`
pub holds_is : (p : Program) (t : Datum) (b : Bool) → (IsTrue b ↔ (answer_of p t ≡ Some (boolean true))) → b ≡ is_true p t
holds_is p t b both = of (answer_of p t) b both
  where
    of : (answer : Option Datum) (x : Bool) → (IsTrue x ↔ (answer ≡ Some (boolean true))) → x ≡ option_map_or (is_same (boolean true)) answer false
    of None true both = absurd (some_none (both.0 refl))
      where
        some_none : None ≡ Some (boolean true) → ⊥
        some_none e = cc
    of None false both = refl
    of (Some d) x both =
        by_test (is_same (boolean true) d) _
        (λ same. both.1 (ap Some (sym (same_is (boolean true) d same))) ∙ sym same)
        (λ apart. by_test x _ (λ told. absurd (true≢false (sym (same_from (boolean true) d (sym (some_is (both.0 told)))) ∙ apart))) (λ silent. silent ∙ sym apart))
      where
        some_is : Some d ≡ Some (boolean true) → d ≡ boolean true
        some_is e = cc
