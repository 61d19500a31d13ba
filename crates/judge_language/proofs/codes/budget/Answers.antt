use Rattle.judge_language.proofs.codes.budget.Goals as goal

pub longest-requires : goal.longest-requires
longest-requires g c = c.all_forward.ensures.0 c.if-all_forward.true
