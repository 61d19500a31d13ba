-- by size, a list of patterns after a pattern of its size; what is left decides
use Rattle.std.proofs.Common.{◌≡◌, ◌+◌, ◌*◌, drop}
use Rattle.mspec_syntax.specs.Pattern.{pattern_size, patterns_size, patterns_of}
use Rattle.mspec_syntax.specs.PatternView.{tail_pattern}
use Rattle.compiler_patterns.specs.Spelled.{all_spell}
use Rattle.compiler_patterns.proofs.own.+spells.Given as goal

abbrev pub decreases-spells : goal.decreases-spells
decreases-spells g l = 2 * pattern_size l.pattern.now

abbrev pub decreases-all_spell : goal.decreases-all_spell
decreases-all_spell g l = 2 * patterns_size (patterns_of l.patterns.now) + 1

abbrev pub decreases-tail_spells : goal.decreases-tail_spells
decreases-tail_spells g l = 2 * pattern_size (tail_pattern l.tail.now) + 1

abbrev pub invariant-all_spell-loop-pattern : goal.invariant-all_spell-loop-pattern
invariant-all_spell-loop-pattern g l =
    all_spell (drop l.pattern-index l.patterns) ≡ all_spell l.patterns
