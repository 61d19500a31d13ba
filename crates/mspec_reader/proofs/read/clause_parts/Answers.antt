use Rattle.std.specs.Option.{option_copied}
use Rattle.term_core.specs.Term.{tail_of}
use Rattle.mspec_reader.proofs.ReadingLemmas.{other-triple, list-triple}
use Rattle.mspec_reader.proofs.read.clause_parts.Goals as goal

pub returns-then-elements-ne3-clause-missing : goal.returns-then-elements-ne3-clause-missing
returns-then-elements-ne3-clause-missing g c =
    other-triple c.in-Tuple.elements.now c.args.term.now c.in-Tuple.ensures.value c.if-elements-ne3.true

pub returns-in-List-clause-missing : goal.returns-in-List-clause-missing
returns-in-List-clause-missing g c =
    let arm = c.in-List in
    list-triple arm.field-0.now (tail_of (option_copied arm.field-1)) c.args.term.now arm.ensures.value arm.ensures.split.0
