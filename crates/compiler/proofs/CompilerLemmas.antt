-- What holds of the code of every specification.
use Rattle.std.proofs.Common.{◌≡◌, ℕ, List, length, ◌∙◌, ap, subst, arith, Option}
use Rattle.std.specs.Prelude.{All}
use Rattle.term_core.specs.Datum.{Datum}
use Rattle.mcode.specs.Answer.{answer_of}
use Rattle.mcode.specs.Program.{Program}
use Rattle.mcode.specs.Run.{HasRun}
use Rattle.mcode.proofs.BodyLemmas.{alone_main}
use Rattle.machine_bodies.specs.Laws.{RunsEndWithTheAnswer}
use Rattle.mspec_syntax.specs.Sound.{IsSoundClause}
use Rattle.mspec_syntax.specs.Specification.{Specification, specification_variables}
use Rattle.mspec_meaning.specs.Meaning.{Means}
use Rattle.mspec_meaning.proofs.MeaningLemmas.{one-meaning}
use Rattle.verifier_types.specs.Fit.{IsFrameFit}
use Rattle.verifier.specs.Typing.{IsTyped}
use Rattle.compiler_assembly.specs.Assembled.{assembled}
use Rattle.compiler_assembly.specs.Line.{Block}
use Rattle.compiler_assembly.proofs.StandLemmas.{assembled_alone, instruction_count}
use Rattle.compiler_clauses.specs.Clauses.{blocks_of, code_of}
use Rattle.compiler_clauses.proofs.CountLemmas.{code_size}
use Rattle.compiler.specs.Meaning.{AreFramesInside, CodeRunsAsMeant}
use Rattle.compiler.specs.Typing.{IsGoodCode, CodeIsTyped}
use Rattle.compiler.proofs.CodeFlow.{depth_within_nodes, found_frame}
use Rattle.compiler.specs.Laws.{CodeAnswersAsMeant, CodeIsShort, CodeIsShallow}

-- the code of a specification's blocks is its code
pub code_is : (spec : Specification) (slots : ℕ) (names : List ℕ) (blocks : List Block) → slots ≡ length names → names ≡ specification_variables spec → blocks ≡ blocks_of (specification_variables spec) spec → assembled slots blocks ≡ code_of spec
unfolding code_of
code_is spec slots names blocks count named written =
    ap (λ n. assembled n blocks) (count ∙ ap length named)
    ∙ ap (assembled (length (specification_variables spec))) written

-- in typed code each frame is at an instruction
pub inside : (p : Program) → IsTyped p → AreFramesInside p
inside p typed n f e =
    let own = typed.bodies 0 (omega arith) in
    let found = found_frame (IsFrameFit p) p.frames n f own.1.frames e in omega (arith, found.0.inside, found.1)

-- what the runs of a specification's code end with
abbrev pub Ends : Specification → Type 0
Ends spec =
    (o : Datum) → (answer : Option Datum) × (n : ℕ) × Means spec o answer × HasRun (code_of spec) o n answer

pub good_ends : CodeRunsAsMeant → (spec : Specification) → All IsSoundClause spec → IsGoodCode spec → Ends spec
good_ends runs spec sound good = runs spec sound (inside (code_of spec) good.typed)

-- the code has no routines
code_main : (spec : Specification) → (code_of spec).around.number ≡ 0
unfolding code_of
code_main spec = alone_main (code_of spec) (assembled_alone _ _)

pub good_answers : RunsEndWithTheAnswer → (spec : Specification) → Ends spec → IsGoodCode spec → (o : Datum) → Means spec o (answer_of (code_of spec) o)
good_answers last spec ends good o =
    let run = ends o in
    subst (Means spec o) (last (code_of spec) o (code_main spec) good.typed run.1 run.0 run.3) run.2

pub code_answers : CodeIsTyped → CodeRunsAsMeant → RunsEndWithTheAnswer → CodeAnswersAsMeant
code_answers typed runs last spec o answer sound limits means =
    let good = typed spec sound limits in
    one-meaning spec o answer (answer_of (code_of spec) o) means
    (good_answers last spec (good_ends runs spec sound good) good o)

pub short : CodeIsShort
unfolding code_of
short spec sound =
    let names = specification_variables spec in
    omega (arith, code_size spec sound names, instruction_count (length names) (blocks_of names spec))

pub shallow : CodeIsShallow
shallow spec depth sound limits d = depth_within_nodes spec sound limits depth d
