use Rattle.std.proofs.Common.{◌∙◌}
use Rattle.compiler_patterns.proofs.SpelledLemmas.{tuple-spells}
use Rattle.compiler_patterns.proofs.FoundLemmas.{no-none}
use Rattle.compiler_patterns.proofs.own.own_tuple.Goals as goal

pub unreachable-requires : goal.unreachable-requires
unreachable-requires g c =
    let none = rw c.in-None.is at c.in_ok-tuple.ensures in
    no-none _ (tuple-spells c.args.elements.now ∙ c.requires.spells) none
