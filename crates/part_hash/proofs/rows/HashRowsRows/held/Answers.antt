use Rattle.part_hash.proofs.rows.HashRowsRows.held.Goals as goal

pub returns : goal.returns
returns g c = λ w shown sound. c.held.ensures c.args._settings w.rows shown.rows
