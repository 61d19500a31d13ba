-- size decreases, with a row of patterns after a pattern of its size; the remaining room and the remaining nodes
use Rattle.std.proofs.Common.{◌≡◌, ◌+◌, ◌*◌, drop}
use Rattle.mspec_syntax.specs.Pattern.{pattern_size, patterns_size, fields_size, patterns_of, fields_of, patterns_nodes, fields_nodes}
use Rattle.mspec_reader.proofs.size.+size.Given as goal

abbrev pub decreases-after_pattern : goal.decreases-after_pattern
decreases-after_pattern g l = 2 * pattern_size l.pattern.now

abbrev pub decreases-after_patterns : goal.decreases-after_patterns
decreases-after_patterns g l = 2 * patterns_size (patterns_of l.patterns.now) + 1

abbrev pub decreases-after_fields : goal.decreases-after_fields
decreases-after_fields g l = 2 * fields_size (fields_of l.fields.now) + 1

abbrev pub invariant-after_patterns-loop-pattern : goal.invariant-after_patterns-loop-pattern
invariant-after_patterns-loop-pattern g l =
    l.left + patterns_nodes (patterns_of l.patterns) ≡ l.fn.room + patterns_nodes (patterns_of (drop l.pattern-index l.patterns))

abbrev pub invariant-after_fields-loop-pattern : goal.invariant-after_fields-loop-pattern
invariant-after_fields-loop-pattern g l =
    l.left + fields_nodes (fields_of l.fields) ≡ l.fn.room + fields_nodes (fields_of (drop l.pattern-index l.fields))
