use Rattle.std.proofs.Common.{length, sym, subst, ◌∙◌, arith, eqb-true}
use Rattle.std.proofs.lemmas.Bool.{eqb-false}
use Rattle.code_file.specs.Faults.{IsRead}
use Rattle.code_file.proofs.DecodeLemmas.{spells_read, goes_on, nothing_left}
use Rattle.code_file.proofs.reading.whole.Goals as goal

pub returns-then-is_empty-clause-ok : goal.returns-then-is_empty-clause-ok
returns-then-is_empty-clause-ok g c =
    let none = nothing_left c.args.rest.now (eqb-true (length c.args.rest.now) 0 (sym c.is_empty.ensures ∙ c.if-is_empty.true)) in
    spells_read c.args.bytes.now c.args.code (subst (IsRead c.args.bytes.now c.args.code) none c.requires)

pub returns-clause-refused : goal.returns-clause-refused
returns-clause-refused g c =
    let some = eqb-false (length c.args.rest.now) 0 (sym c.is_empty.ensures ∙ c.if-is_empty.false) in
    rw c.saturating_sub.ensures (goes_on c.args.bytes.now c.args.code c.args.rest.now c.requires (omega (arith, some)))
