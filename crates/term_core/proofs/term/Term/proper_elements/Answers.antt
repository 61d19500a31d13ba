use Rattle.std.proofs.Common.{ap}
use Rattle.std.specs.Option.{option_copied}
use Rattle.term_core.proofs.ProperLemmas.{proper-elements, improper-elements}
use Rattle.term_core.proofs.term.Term.proper_elements.Goals as goal

pub returns-in-List-default-None-clause-value : goal.returns-in-List-default-None-clause-value
returns-in-List-default-None-clause-value g c =
    let arm = c.in-List-default-None in
    proper-elements arm.elements.now (option_copied arm.field-1) c.args.self.now (ap option_copied arm.field-1-is) arm.ensures.value

pub returns-in-List-default-Some-clause-value : goal.returns-in-List-default-Some-clause-value
returns-in-List-default-Some-clause-value g c =
    let arm = c.in-List-default-Some in
    improper-elements arm.field-0.now (option_copied arm.field-1) arm.field-1-0.now c.args.self.now (ap option_copied arm.field-1-is) arm.ensures.value arm.ensures.split.1
