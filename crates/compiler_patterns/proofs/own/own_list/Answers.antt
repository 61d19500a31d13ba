use Rattle.compiler_patterns.proofs.FoundLemmas.{no-none}
use Rattle.compiler_patterns.proofs.own.own_list.Goals as goal

pub unreachable-requires : goal.unreachable-requires
unreachable-requires g c =
    let none = rw c.in-None.is at c.in_ok-list.ensures in
    no-none _ c.requires.spells none
