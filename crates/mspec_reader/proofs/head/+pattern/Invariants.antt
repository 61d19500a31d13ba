-- depth decreases, with a row of terms after a term of its depth; what is read so far
use Rattle.std.proofs.Common.{◌+◌, ◌*◌}
use Rattle.term_core.specs.Datum.{items_of, entries_of}
use Rattle.term_core.specs.Limits.{depth, items_depth, entries_depth}
use Rattle.mspec_syntax.proofs.PatternLemmas.{ReadsFront, FieldsFront}
use Rattle.mspec_reader.proofs.head.+pattern.Given as goal

abbrev pub decreases-read_pattern : goal.decreases-read_pattern
decreases-read_pattern g l = 2 * depth l.term.now

abbrev pub decreases-read_patterns : goal.decreases-read_patterns
decreases-read_patterns g l = 2 * items_depth (items_of l.terms.now) + 1

abbrev pub decreases-read_fields : goal.decreases-read_fields
decreases-read_fields g l = 2 * entries_depth (entries_of l.pairs.now) + 1

abbrev pub invariant-read_patterns-loop-term : goal.invariant-read_patterns-loop-term
invariant-read_patterns-loop-term g l = ReadsFront l.clause l.terms l.term-index l.patterns.items

abbrev pub invariant-read_fields-loop-key : goal.invariant-read_fields-loop-key
invariant-read_fields-loop-key g l = FieldsFront l.clause l.pairs l.key-index l.fields.items
