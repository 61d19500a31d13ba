use Rattle.term_core.specs.Term.{tail_of}
use Rattle.std.specs.Option.{option_copied}
use Rattle.mspec_syntax.proofs.PatternLemmas.{list-head}
use Rattle.mspec_reader.proofs.head.read_head.Goals as goal

pub returns-in-List-clause-refused : goal.returns-in-List-clause-refused
returns-in-List-clause-refused g c =
    let arm = c.in-List in list-head c.args.clause arm.field-0.now (tail_of (option_copied arm.field-1)) _ arm.ensures.value arm.ensures.split.0
