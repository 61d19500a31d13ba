use Rattle.tests_gate.proofs.objects.is_there.Goals as goal

pub member-is_there-requires : goal.member-is_there-requires
member-is_there-requires g c = c.requires
