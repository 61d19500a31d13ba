use Rattle.verifier.proofs.VerifiedLemmas.{tables_more}
use Rattle.verifier.proofs.verification.learn_routine.Goals as goal

pub returns-clause-tables : goal.returns-clause-tables
returns-clause-tables g c =
    rw (c.in_ok-note_table.ensures, c.in_ok-table.ensures.same) (tables_more c.args.code.now c.args.number c.args.known.now.tables.items c.in_ok-table.table c.requires.inside c.requires.tables c.in_ok-table.ensures.table)
