use Rattle.judge_sessions.proofs.runs.is_part_of.Goals as goal

pub part_of_key-requires : goal.part_of_key-requires
part_of_key-requires c = c.requires
