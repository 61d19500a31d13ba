-- What is at the end of a body's lines.
use Rattle.std.proofs.Common.{◌≡◌, ℕ, suc, ◌+◌, ◌-◌, ◌<◌, Some, List, [], ◌∷◌, ◌++◌, length, slice_get, ap, subst, arith, length-append}
use Rattle.mcode.specs.Program.{Program, Frame, frame_at}
use Rattle.mspec_syntax.specs.Expression.{Expression}
use Rattle.mspec_syntax.specs.Mode.Position.{by_itself}
use Rattle.compiler_assembly.specs.Line.{SourceLine}
use Rattle.compiler_assembly.specs.Stands.{Stands}
use Rattle.compiler_assembly.specs.declared.line.Label.TheVariants.{Clean}
use Rattle.compiler_assembly.specs.declared.op.Op.TheVariants as op
use Rattle.compiler_assembly.proofs.StandLemmas.{stands_back}
use Rattle.compiler_expressions.specs.Expressions.{Site, lines_at}
use Rattle.compiler_clauses.specs.Clauses.{body_lines}

-- the line that answers, before the next clause or the end
abbrev pub answer_line : SourceLine
answer_line = record { op = op.Answer; label = Some Clean }

-- the frame after the answer line
abbrev pub clean_frame : ℕ → Frame
clean_frame pc = record { pc = pc; depth = 0; places = []; slots = [] }

-- only the last expression of a body has lines
pub body_last : (site : Site) (es : List Expression) (e : Expression) → Some e ≡ slice_get es (length es - 1) → body_lines site es ≡ lines_at site 0 [] e by_itself ++ answer_line ∷ []
body_last site [] e is = absurd (cc)
body_last site (f ∷ []) e is = let same : f ≡ e = cc in ap (λ x. lines_at site 0 [] x by_itself ++ answer_line ∷ []) same
body_last site (f ∷ h ∷ es) e is =
    let place : length (f ∷ h ∷ es) - 1 ≡ suc (length (h ∷ es) - 1) = omega arith in
    body_last site (h ∷ es) e (subst (λ i. Some e ≡ slice_get (f ∷ h ∷ es) i) place is)

-- there is a clean frame after a body's lines
pub body_framed : (p : Program) (frame_slots : List ℕ) (behind : ℕ) (w : Site) (es : List Expression) (pc : ℕ) → 0 < length es → Stands p frame_slots behind pc (body_lines w es) → frame_at p.frames (pc + length (body_lines w es)) ≡ Some (clean_frame (pc + length (body_lines w es)))
body_framed p frame_slots behind w [] pc some stands = absurd (omega (arith, some))
body_framed p frame_slots behind w (e ∷ f ∷ es) pc some stands = body_framed p frame_slots behind w (f ∷ es) pc (omega arith) stands
body_framed p frame_slots behind w (e ∷ []) pc some stands =
    let front = lines_at w 0 [] e by_itself in
    let back = stands_back p frame_slots behind pc front (answer_line ∷ []) stands in
    let there : suc (pc + length front) ≡ pc + length (front ++ answer_line ∷ []) = omega (arith, length-append front (answer_line ∷ [])) in
    subst (λ n. frame_at p.frames n ≡ Some (clean_frame n)) there back.0.frame
