use Rattle.std.proofs.Common.{sym, ap, ◌∙◌}
use Rattle.mcode.specs.Program.{seen_by}
use Rattle.mcode.proofs.BodyLemmas.{none_is_main, seen_is}
use Rattle.mcode.proofs.body.Body.of.Goals as goal

pub invariant_of-result : goal.invariant_of-result
invariant_of-result g c = record {
  whole = c.routine_of.ensures.whole;
  routine = sym c.routine_of.ensures.value;
  main = λ none. none_is_main c.args.code.now c.args.number c.requires (sym c.routine_of.ensures.value ∙ none);
}

pub returns : goal.returns
returns g c = ap (seen_by c.args.code.now c.args.number) c.routine_of.ensures.value ∙ seen_is c.args.code.now c.args.number c.requires
