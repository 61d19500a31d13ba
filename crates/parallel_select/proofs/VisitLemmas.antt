-- What visits return.
use Rattle.std.proofs.Common.{◌≡◌, ℕ, refl, IsTrue, Some}
use Rattle.std.specs.Prelude.{Bool, true, false, ◌||◌}
use Rattle.mcode.specs.Program.{Program}
use Rattle.part_core.specs.declared.settings.Settings.{Settings}
use Rattle.part_core.specs.Acts.{Answer, Scope, Said, is_refused}
use Rattle.part_core.specs.Acts.Act.{Visit}
use Rattle.part_core.specs.Acts.Answer.{Replied, Refused}
use Rattle.part_core.specs.Replies.{reply_of}
use Rattle.part_core.specs.Rows.{PartState}
use Rattle.part_core.specs.Visits.{is_inside}
use Rattle.part_core.proofs.KeyLemmas.{by_test}
use Rattle.tables.specs.Options.{settings_of}
use Rattle.tables.specs.Turns.{Home, Views, Turned, Follows}
use Rattle.tables.proofs.TurnLemmas.{answered_so}
use Rattle.parallel_select.specs.declared.gained.Gained.{Gained}
use Rattle.parallel_select.specs.declared.gained.Gained.TheVariants as gained
use Rattle.parallel_select.specs.declared.gained.Asking.{Asking}
use Rattle.parallel_select.specs.declared.gained.Asking.TheVariants as asking
use Rattle.parallel_select.specs.Gained.{IsFor, is_told, purpose_of}

or_none : (b : Bool) → (b || false) ≡ true → b ≡ true
or_none true h = refl
or_none false h = h

-- an answer returns what can be gained
abbrev tells : {A : Type 0} → Gained A → Answer → Bool
tells g (Replied said) = is_told g said
tells g (Refused refusal) = false

told_or_refused : {A : Type 0} (g : Gained A) (a : Asking) → IsFor a g → (o : Settings) (s : PartState) (n : ℕ) (p : Program) (scope : Scope) (wanted : ℕ) → (tells g (reply_of o s n (Visit (purpose_of a) p scope wanted)) || is_refused (reply_of o s n (Visit (purpose_of a) p scope wanted))) ≡ true
unfolding reply_of
told_or_refused (gained.Answers answers) asking.Answers fits o s n p scope wanted =
    by_test (is_inside o s scope) _ (λ inside. rw inside refl) (λ outside. rw outside refl)
told_or_refused (gained.Count count) asking.Counts fits o s n p scope wanted =
    by_test (is_inside o s scope) _ (λ inside. rw inside refl) (λ outside. rw outside refl)
told_or_refused (gained.Count count) asking.Deletes fits o s n p scope wanted =
    by_test (is_inside o s scope) _ (λ inside. rw inside refl) (λ outside. rw outside refl)
told_or_refused (gained.Count count) asking.Answers fits o s n p scope wanted = cc
told_or_refused (gained.Answers answers) asking.Counts fits o s n p scope wanted = cc
told_or_refused (gained.Answers answers) asking.Deletes fits o s n p scope wanted = cc

-- a visit that was not refused returns what can be gained
pub visit_told : {A : Type 0} (h : Home) (part : ℕ) (a : Asking) (g : Gained A) (p : Program) (scope : Scope) (wanted : ℕ) (said : Said) (before now : Views → Type 0) → IsFor a g → ∥ ((v : Views) × before v) ∥₁ → Follows before now (Turned h part (Visit (purpose_of a) p scope wanted) (Some (Replied said))) → IsTrue (is_told g said)
visit_told h part a g p scope wanted said before now fits seen follows =
    or_none (is_told g said) (answered_so (λ answer. tells g answer || is_refused answer) h part (Visit (purpose_of a) p scope wanted) (Replied said) before now seen follows (λ s. told_or_refused g a fits (settings_of h.options) s h.number p scope wanted))
