use Rattle.tables.proofs.local.LocalAtTryTurns.turn.Goals as goal

pub returns-clause-entry : goal.returns-clause-entry
returns-clause-entry g c = c.turn.ensures.entry c.args.self.now.table.ghost_name
