use Rattle.std.proofs.Common.{ap, rules}
use Rattle.std.specs.Option.{option_copied}
use Rattle.term_operand.specs.Operand.{operand_datum}
use Rattle.prims.proofs.ListLemmas.{length_of-proper, length_of-improper}
use Rattle.prims.proofs.lists.length.Goals as goal

pub returns-in-List-default-None : goal.returns-in-List-default-None
returns-in-List-default-None g c =
    let list = c.in-List-default-None in
    rw (length_of-proper list.elements.now (option_copied list.field-1) (operand_datum c.args.list) (ap option_copied list.field-1-is) list.ensures.shown)
    (search rules)

pub returns-in-List-default-Some : goal.returns-in-List-default-Some
returns-in-List-default-Some g c =
    let list = c.in-List-default-Some in
    let ended = list.ensures.split.1 in
    let ended = rw list.field-1-is at ended in
    let value = list.ensures.shown in
    let value = rw list.field-1-is at value in
    length_of-improper list._elements.now list._tail.now (operand_datum c.args.list) ended value
