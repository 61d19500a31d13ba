use Rattle.judge_sessions.proofs.worker.Worker.call_by_key.Goals as goal

pub call_by_term-recorded-requires : goal.call_by_term-recorded-requires
call_by_term-recorded-requires g c = c.requires
