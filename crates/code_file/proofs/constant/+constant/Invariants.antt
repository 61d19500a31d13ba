-- The recursion decreases the number of levels that are left.
use Rattle.std.proofs.Common.{◌+◌, ◌*◌, ◌-◌}
use Rattle.term_core.specs.ShortRow.{row_items}
use Rattle.code_writer.specs.Formats.{constant_format, pair_format, RisingPairs}
use Rattle.code_file.proofs.RowLemmas.{IsRowSoFar}
use Rattle.code_file.proofs.constant.+constant.Given as goal

abbrev pub decreases-read_constant : goal.decreases-read_constant
decreases-read_constant g l = 4 * l.room

abbrev pub decreases-read_elements : goal.decreases-read_elements
decreases-read_elements g l = 4 * l.room + 1

abbrev pub decreases-read_pair : goal.decreases-read_pair
decreases-read_pair g l = 4 * l.room + 1

abbrev pub decreases-read_pairs : goal.decreases-read_pairs
decreases-read_pairs g l = 4 * l.room + 2

abbrev pub decreases-read_tuple : goal.decreases-read_tuple
decreases-read_tuple g l = 4 * l.room - 1

abbrev pub decreases-read_short_row : goal.decreases-read_short_row
decreases-read_short_row g l = 4 * l.room + 1

abbrev pub decreases-read_short_tuple : goal.decreases-read_short_tuple
decreases-read_short_tuple g l = 4 * l.room - 2

abbrev pub decreases-read_map_of_one : goal.decreases-read_map_of_one
decreases-read_map_of_one g l = 4 * l.room - 2

abbrev pub decreases-read_map : goal.decreases-read_map
decreases-read_map g l = 4 * l.room - 1

abbrev pub decreases-read_list : goal.decreases-read_list
decreases-read_list g l = 4 * l.room - 1

abbrev pub invariant-read_elements-loop-read : goal.invariant-read_elements-loop-read
invariant-read_elements-loop-read g l = IsRowSoFar (constant_format l.room) (λ _. Unit {0}) l.bytes l.elements.items l.rest l.read

abbrev pub invariant-read_short_row-loop-read : goal.invariant-read_short_row-loop-read
invariant-read_short_row-loop-read g l = IsRowSoFar (constant_format l.room) (λ _. Unit {0}) l.bytes (row_items l.row) l.rest l._read

abbrev pub invariant-read_pairs-loop-read : goal.invariant-read_pairs-loop-read
invariant-read_pairs-loop-read g l = IsRowSoFar (pair_format l.room) RisingPairs l.bytes l.pairs.items l.rest l.read
