use Rattle.std.proofs.Common.{ℕ, Option, ◌∙◌, sym, subst, inl, inr}
use Rattle.term_core.specs.Datum.{Datum}
use Rattle.mcode.specs.Answer.{answer_of}
use Rattle.mcode.specs.Run.{HasRun}
use Rattle.mspec_meaning.specs.Meaning.{Means}
use Rattle.verifier.specs.Typing.{IsTyped}
use Rattle.compiler.proofs.compilation.compile.Goals as goal

pub unreachable-requires : goal.unreachable-requires
unreachable-requires g c =
    elim c.in-Err.ensures.refused.1 [
      | inl memory ↦ c.in_default.not-Memory memory
      | inr first ↦ c.faulty_code_is_untyped.ensures c.in_ok-code.code c.in-Err.refused.fault.body c.in-Err.refused.fault.fault first (subst IsTyped (sym c.in_ok-code.ensures) c.is_good.ensures.typed)
    ]

pub returns-in-Ok-clause-runs : goal.returns-in-Ok-clause-runs
returns-in-Ok-clause-runs g c =
    subst (λ p. (object : Datum) → (answer : Option Datum) × (n : ℕ) × Means c.args.specification.now object answer × HasRun p object n answer)
    (sym (c.in-Ok.ensures.ok.0 ∙ c.in_ok-code.ensures)) c.answers_as_meant.ensures.runs

pub returns-in-Ok-clause-answers : goal.returns-in-Ok-clause-answers
returns-in-Ok-clause-answers g c =
    subst (λ p. (object : Datum) → Means c.args.specification.now object (answer_of p object))
    (sym (c.in-Ok.ensures.ok.0 ∙ c.in_ok-code.ensures)) c.answers_as_meant.ensures.answers
