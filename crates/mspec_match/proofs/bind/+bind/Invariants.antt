-- size decreases, with a row of patterns after a pattern of its size; what is bound so far
use Rattle.std.proofs.Common.{◌+◌, ◌*◌, drop}
use Rattle.term_operand.specs.Operand.{operand_datum}
use Rattle.mspec_syntax.specs.Pattern.{pattern_size, patterns_size, fields_size, patterns_of, fields_of}
use Rattle.mspec_match.specs.Slots.{seen, LeadsOn}
use Rattle.mspec_match.proofs.FitLemmas.{AllFront, FieldsFront}
use Rattle.mspec_match.proofs.bind.+bind.Given as goal

abbrev pub decreases-bind : goal.decreases-bind
decreases-bind g l = 2 * pattern_size l.pattern.now

abbrev pub decreases-bind_all : goal.decreases-bind_all
decreases-bind_all g l = 2 * patterns_size (patterns_of l.patterns.now) + 1

abbrev pub decreases-bind_front : goal.decreases-bind_front
decreases-bind_front g l = 2 * patterns_size (patterns_of l.patterns.now) + 1

abbrev pub decreases-bind_fields : goal.decreases-bind_fields
decreases-bind_fields g l = 2 * fields_size (fields_of l.fields.now) + 1

abbrev pub invariant-bind_all-loop-i : goal.invariant-bind_all-loop-i
invariant-bind_all-loop-i g l = AllFront l.variables (seen l.fn.slots) (seen l.slots) l.patterns l.terms l.i

abbrev pub invariant-bind_fields-loop-key : goal.invariant-bind_fields-loop-key
invariant-bind_fields-loop-key g l = FieldsFront l.variables (seen l.fn.slots) (seen l.slots) l.fields l.pairs l.key-index

abbrev pub invariant-bind_front-loop-pattern : goal.invariant-bind_front-loop-pattern
invariant-bind_front-loop-pattern g l =
    LeadsOn l.variables (seen l.fn.slots) (seen l.slots) l.patterns (operand_datum l.fn.list) (drop l.pattern-index l.patterns) (operand_datum l.rest)
