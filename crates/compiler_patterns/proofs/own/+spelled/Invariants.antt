-- by size, a list after its elements and its tail; the terms so far and those that are left are all
use Rattle.std.proofs.Common.{◌≡◌, ◌+◌, ◌*◌, ◌++◌, Some, map, drop}
use Rattle.mspec_syntax.specs.Pattern.{own_term, pattern_size, patterns_size, patterns_of}
use Rattle.mspec_syntax.specs.PatternView.{tail_pattern}
use Rattle.compiler_patterns.proofs.own.+spelled.Given as goal

abbrev pub decreases-spelled : goal.decreases-spelled
decreases-spelled g l = 3 * pattern_size l.pattern.now + 1

abbrev pub decreases-spelled_all : goal.decreases-spelled_all
decreases-spelled_all g l = 3 * patterns_size (patterns_of l.patterns.now) + 2

abbrev pub decreases-spelled_tuple : goal.decreases-spelled_tuple
decreases-spelled_tuple g l = 3 * patterns_size (patterns_of l.elements.now) + 3

abbrev pub decreases-spelled_list : goal.decreases-spelled_list
decreases-spelled_list g l =
    3 * patterns_size (patterns_of l.elements.now) + 3 * pattern_size (tail_pattern l.tail.now)

abbrev pub decreases-spelled_tail : goal.decreases-spelled_tail
decreases-spelled_tail g l = 3 * pattern_size (tail_pattern l.tail.now) + 2

abbrev pub invariant-spelled_all-loop-pattern : goal.invariant-spelled_all-loop-pattern
invariant-spelled_all-loop-pattern g l =
    map Some l.terms.items ++ map own_term (drop l.pattern-index l.patterns) ≡ map own_term l.patterns
