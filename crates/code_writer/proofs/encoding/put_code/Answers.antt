use Rattle.std.proofs.Common.{All, arith, subst, ◌∙◌, sym}
use Rattle.term_core.specs.Limits.{IsTerm}
use Rattle.code_writer.specs.File.{HoldsArguments, HoldsFrame, HoldsRoutine}
use Rattle.code_writer.proofs.FileLemmas.{code_written, some_left}
use Rattle.code_writer.proofs.WriteLemmas.{six}
use Rattle.code_writer.proofs.encoding.put_code.Goals as goal

pub returns : goal.returns
returns g c = record {
  constants = subst (All IsTerm) c.constants.ensures.value c.in_ok-put_constants.ensures.held;
  instructions = subst (All HoldsArguments) c.instructions.ensures.value c.in_ok-put_parts.ensures.arguments;
  frames = subst (All HoldsFrame) c.frames.ensures.value c.in_ok-put_parts.ensures.frames;
  routines = subst (All HoldsRoutine) c.routines-routines.ensures.value c.in_ok-put_routines.ensures.held;
  spelling =
      code_written c.args.code.now c.put_routines.new.out.items _ _ _ _ _ _ c.slots.ensures.value c.constants.ensures.value c.instructions.ensures.value c.frames.ensures.value
      (omega arith) c.routines-routines.ensures.value (some_left c.routines-routines.result.now (λ none. c.requires.some (sym c.routines-routines.ensures.value ∙ none)))
      (six _ _ _ _ _ _ _ _ _ _ _ _ _ c.requires.empty c.in_ok-put_header.ensures c.in_ok-put_constants.ensures.bytes c.in_ok-put_u16.ensures c.in_ok-put_u16-2.ensures c.in_ok-put_parts.ensures.bytes c.in_ok-put_routines.ensures.bytes);
}
