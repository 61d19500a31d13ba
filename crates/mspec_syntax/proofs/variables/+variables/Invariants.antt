-- size decreases, with a row of patterns after a pattern of its size; what is collected so far and what remains make up
-- the whole
use Rattle.std.proofs.Common.{◌≡◌, ◌+◌, ◌*◌, ◌++◌, drop}
use Rattle.mspec_syntax.specs.Pattern.{pattern_size, patterns_size, fields_size, patterns_of, fields_of, patterns_variables, fields_variables}
use Rattle.mspec_syntax.proofs.variables.+variables.Given as goal

abbrev pub decreases-collect : goal.decreases-collect
decreases-collect g l = 2 * pattern_size l.pattern.now

abbrev pub decreases-collect_all : goal.decreases-collect_all
decreases-collect_all g l = 2 * patterns_size (patterns_of l.patterns.now) + 1

abbrev pub decreases-collect_fields : goal.decreases-collect_fields
decreases-collect_fields g l = 2 * fields_size (fields_of l.fields.now) + 1

abbrev pub invariant-collect_all-loop-pattern : goal.invariant-collect_all-loop-pattern
invariant-collect_all-loop-pattern g l =
    l.numbers.items ++ patterns_variables (patterns_of (drop l.pattern-index l.patterns)) ≡ l.fn.numbers.items ++ patterns_variables (patterns_of l.patterns)

abbrev pub invariant-collect_fields-loop-pattern : goal.invariant-collect_fields-loop-pattern
invariant-collect_fields-loop-pattern g l =
    l.numbers.items ++ fields_variables (fields_of (drop l.pattern-index l.fields)) ≡ l.fn.numbers.items ++ fields_variables (fields_of l.fields)
