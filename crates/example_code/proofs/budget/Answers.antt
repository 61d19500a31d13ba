use Rattle.example_code.proofs.budget.Goals as goal

pub longest-requires : goal.longest-requires
longest-requires c = c.all_forward.ensures.0 c.if-all_forward.true
