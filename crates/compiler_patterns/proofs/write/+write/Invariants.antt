-- by size, a list after its elements and its tail; writing the lines that are left completes the lines
use Rattle.std.proofs.Common.{suc, ◌+◌, ◌*◌, drop}
use Rattle.mspec_syntax.specs.Pattern.{pattern_size, patterns_size, fields_size, patterns_of, fields_of, cells_of, pattern_variables, patterns_variables, fields_variables}
use Rattle.mspec_syntax.specs.PatternView.{tail_pattern}
use Rattle.compiler_patterns.specs.Written.{Draft, Writes}
use Rattle.compiler_patterns.specs.Patterns.{pattern_lines, element_lines, field_lines}
use Rattle.compiler_patterns.proofs.write.+write.Given as goal

abbrev pub decreases-write_pattern : goal.decreases-write_pattern
decreases-write_pattern g l = 5 * pattern_size l.pattern.now + 1

abbrev pub decreases-write_tuple : goal.decreases-write_tuple
decreases-write_tuple g l = 5 * patterns_size (patterns_of l.elements.now) + 4

abbrev pub decreases-write_elements : goal.decreases-write_elements
decreases-write_elements g l = 5 * patterns_size (patterns_of l.elements.now) + 3

abbrev pub decreases-write_element : goal.decreases-write_element
decreases-write_element g l = 5 * pattern_size l.element.now + 2

abbrev pub decreases-write_list : goal.decreases-write_list
decreases-write_list g l =
    5 * patterns_size (patterns_of l.elements.now) + 5 * pattern_size (tail_pattern l.tail.now)

abbrev pub decreases-write_cell : goal.decreases-write_cell
decreases-write_cell g l = 5 * pattern_size l.head.now + 2

abbrev pub decreases-write_tail : goal.decreases-write_tail
decreases-write_tail g l = 5 * pattern_size (tail_pattern l.tail.now) + 2

abbrev pub decreases-write_map : goal.decreases-write_map
decreases-write_map g l = 5 * fields_size (fields_of l.fields.now) + 4

abbrev pub decreases-write_fields : goal.decreases-write_fields
decreases-write_fields g l = 5 * fields_size (fields_of l.fields.now) + 3

abbrev pub decreases-write_field : goal.decreases-write_field
decreases-write_field g l = 5 * pattern_size l.value.now + 2

abbrev pub invariant-write_elements-loop-place : goal.invariant-write_elements-loop-place
invariant-write_elements-loop-place g l =
    (new : Draft) → Writes l.slots (λ k. element_lines l.slots k (suc l.place) (patterns_of (drop l.place l.elements))) (patterns_variables (patterns_of (drop l.place l.elements))) l.draft new
    → Writes l.slots (λ k. element_lines l.slots k 1 (patterns_of l.elements)) (patterns_variables (patterns_of l.elements)) l.initial.draft new

abbrev pub invariant-write_list-loop-place : goal.invariant-write_list-loop-place
invariant-write_list-loop-place g l =
    (new : Draft) → Writes l.slots (λ k. pattern_lines l.slots k (cells_of (drop l.place l.elements) (tail_pattern l.tail))) (pattern_variables (cells_of (drop l.place l.elements) (tail_pattern l.tail))) l.draft new
    → Writes l.slots (λ k. pattern_lines l.slots k (cells_of l.elements (tail_pattern l.tail))) (pattern_variables (cells_of l.elements (tail_pattern l.tail))) l.initial.draft new

abbrev pub invariant-write_fields-loop-place : goal.invariant-write_fields-loop-place
invariant-write_fields-loop-place g l =
    (new : Draft) → Writes l.slots (λ k. field_lines l.slots k (fields_of (drop l.place l.fields))) (fields_variables (fields_of (drop l.place l.fields))) l.draft new
    → Writes l.slots (λ k. field_lines l.slots k (fields_of l.fields)) (fields_variables (fields_of l.fields)) l.initial.draft new
