use Rattle.std.proofs.Common.{arith}
use Rattle.std.proofs.lemmas.List.Elements.{recursion_from_All}
use Rattle.code_writer.specs.File.{IsU8}
use Rattle.code_writer.proofs.FileLemmas.{few_slots}
use Rattle.code_writer.proofs.WriteLemmas.{bytes_each}
use Rattle.code_writer.proofs.frame.put_slots.Goals as goal

pub overflow_cast-slots : goal.overflow_cast-slots
overflow_cast-slots g c =
    omega (arith, few_slots c.args.slots.now c.requires (recursion_from_All IsU8 c.args.slots.now (bytes_each c.args.slots.now (λ i. omega (arith, c.type_inv.slots i)))))

pub returns-in_err-put_u16-clause-held : goal.returns-in_err-put_u16-clause-held
returns-in_err-put_u16-clause-held g c = bytes_each c.args.slots.now (λ i. omega (arith, c.type_inv.slots i))

pub returns-clause-held : goal.returns-clause-held
returns-clause-held g c = bytes_each c.args.slots.now (λ i. omega (arith, c.type_inv.slots i))
