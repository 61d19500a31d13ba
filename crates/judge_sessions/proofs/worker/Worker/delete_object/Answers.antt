use Rattle.judge_sessions.proofs.worker.Worker.delete_object.Goals as goal

pub delete_object-requires : goal.delete_object-requires
delete_object-requires g c = c.requires
