use Rattle.std.proofs.Common.{◌≡◌, ◌-◌, [], ◌∷◌, ◌∙◌, arith, refl, rules}
use Rattle.std.proofs.lemmas.Result.{err_from_is_err_and, IfErr-weaker}
use Rattle.std.specs.Prelude.{Ok, IfErr}
use Rattle.term_core.specs.Datum.Datum.{tuple, map}
use Rattle.term_core.specs.Datum.{items_of, entries_of, cells}
use Rattle.term_core.specs.ShortRow.{row_items}
use Rattle.term_core.specs.declared.fault.Fault.TheVariants.{Memory}
use Rattle.code_writer.specs.Formats.{constant_format, pair_format, RisingPairs}
use Rattle.code_file.specs.Due.{BeginsWith}
use Rattle.code_file.proofs.RowLemmas.{row_start, row_step, plain_step, not_so}
use Rattle.code_file.proofs.LevelLemmas.{tag_short, level_past, nil_begins, tag_unnamed, elements_stop, tuple_short, tuple_stop, tuple_begins, made, pair_key_stop, pair_value_stop, key_unordered, pair_begins, pairs_stop, map_short, map_stop, map_begins, map_of_one, map_made, map_term, list_short, list_stop, tail_stop, tail_joined, tail_no_cell, list_begins}
use Rattle.code_file.proofs.constant.+constant.Goals as goal

pub read_constant-returns-in_err-tag : goal.read_constant-returns-in_err-tag
read_constant-returns-in_err-tag g t c =
    let p = err_from_is_err_and c.from_residual.result c.from_residual.ensures.1 in
    rw (p.1, p.2) (tag_short c.args.room c.args.bytes.now _ c.in_err-tag.ensures)

pub read_constant-returns-then-room-eq0 : goal.read_constant-returns-then-room-eq0
read_constant-returns-then-room-eq0 g t c = rw c.if-room-eq0.true (level_past c.args.bytes.now c.in_ok-tag.tag c.in_ok-tag.rest.now c.in_ok-tag.ensures)

pub read_constant-returns-in-5 : goal.read_constant-returns-in-5
read_constant-returns-in-5 g t c = rw c.nil.ensures (nil_begins c.args.room c.args.bytes.now c.in_ok-tag.tag c.in_ok-tag.rest.now (omega arith) c.in-5.is c.in_ok-tag.ensures)

pub read_constant-returns-in_default : goal.read_constant-returns-in_default
read_constant-returns-in_default g t c =
    tag_unnamed (c.args.room - 1) c.args.room c.args.bytes.now c.in_ok-tag.tag c.in_ok-tag.rest.now (omega arith) c.in_ok-tag.ensures (omega arith) (omega arith) (omega arith) (omega arith) (omega arith) (omega arith) (omega arith)

pub read_elements-returns-in_err-element : goal.read_elements-returns-in_err-element
read_elements-returns-in_err-element g t c =
    let p = err_from_is_err_and c.from_residual-in_err-element.result c.from_residual-in_err-element.ensures.1 in
    rw (p.1, p.2) (elements_stop c.args.room c.args.count c.args.bytes.now c.loop-read.elements.items c.loop-read.rest.now c.loop-read.read _ c.loop-read.invariant c.loop-read-test.true c.in_err-element.ensures)

pub read_elements-loop-read-preserved : goal.read_elements-loop-read-preserved
read_elements-loop-read-preserved g t c =
    rw (c.in_ok-push.ensures.items, c.make_room.ensures.same)
    (plain_step (constant_format c.args.room) c.args.bytes.now c.loop-read.elements.items c.loop-read.rest.now c.loop-read.read c.in_ok-element.element c.in_ok-element.behind.now c.loop-read.invariant c.in_ok-element.ensures)

pub read_tuple-returns-in_err-count : goal.read_tuple-returns-in_err-count
read_tuple-returns-in_err-count g t c =
    let p = err_from_is_err_and c.from_residual.result c.from_residual.ensures.1 in
    rw (p.1, p.2) (tuple_short (c.args.room - 1) c.args.room c.args.bytes.now c.args.rest.now _ (omega arith) c.requires.tag c.in_err-count.ensures)

pub read_tuple-returns-in_err-elements : goal.read_tuple-returns-in_err-elements
read_tuple-returns-in_err-elements g t c =
    let p = err_from_is_err_and c.from_residual-in_err-elements.result c.from_residual-in_err-elements.ensures.1 in
    rw (p.1, p.2) (tuple_stop (c.args.room - 1) c.args.room c.args.bytes.now c.args.rest.now c.in_ok-count.count c.in_ok-count.behind.now _ (omega arith) c.requires.tag c.in_ok-count.ensures (rw c.from.ensures at c.in_err-elements.ensures))

pub read_tuple-returns : goal.read_tuple-returns
read_tuple-returns g t c =
    let is : c.tuple.result ≡ Ok c.in_ok-tuple.tuple = search rules in
    rw (rw is at c.tuple.ensures.ok) (tuple_begins (c.args.room - 1) c.args.room c.args.bytes.now c.args.rest.now c.in_ok-count.count c.in_ok-count.behind.now c.in_ok-elements.elements.items c.in_ok-elements.behind.now (omega arith) c.requires.tag c.in_ok-count.ensures (rw c.from.ensures at c.in_ok-elements.ensures))

pub read_tuple-map_err-requires : goal.read_tuple-map_err-requires
read_tuple-map_err-requires g t c =
    let begun = tuple_begins (c.args.room - 1) c.args.room c.args.bytes.now c.args.rest.now c.in_ok-count.count c.in_ok-count.behind.now c.in_ok-elements.elements.items c.in_ok-elements.behind.now (omega arith) c.requires.tag c.in_ok-count.ensures (rw c.from.ensures at c.in_ok-elements.ensures) in
    let alone : IfErr c.tuple.result (λ refused. refused.fault ≡ Memory) =
    IfErr-weaker c.tuple.result _ _ (λ refused k. made c.args.room c.args.bytes.now (tuple (items_of c.in_ok-elements.elements.items)) c.in_ok-elements.behind.now refused.fault (omega arith) begun k.1) c.tuple.ensures.refused in
    search (rules, alone)

pub read_short_row-returns-in_err-first : goal.read_short_row-returns-in_err-first
read_short_row-returns-in_err-first g t c =
    let row = row_start (constant_format c.args.room) (λ _. Unit {0}) c.args.bytes.now tt in
    let p = err_from_is_err_and c.from_residual.result c.from_residual.ensures.1 in
    rw (p.1, p.2) (elements_stop c.args.room c.args.count c.args.bytes.now [] c.args.bytes.now 0 _ row c.requires.some c.in_err-first.ensures)

pub read_short_row-returns-in_err-term : goal.read_short_row-returns-in_err-term
read_short_row-returns-in_err-term g t c =
    let p = err_from_is_err_and c.from_residual-in_err-term.result c.from_residual-in_err-term.ensures.1 in
    rw (p.1, p.2) (elements_stop c.args.room c.args.count c.args.bytes.now (row_items c.loop-read.row) c.loop-read.rest.now c.loop-read._read _ c.loop-read.invariant c.loop-read-test.true c.in_err-term.ensures)

pub read_short_row-loop-read-preserved : goal.read_short_row-loop-read-preserved
read_short_row-loop-read-preserved g t c =
    rw c.with-row.ensures
    (plain_step (constant_format c.args.room) c.args.bytes.now (row_items c.loop-read.row) c.loop-read.rest.now c.loop-read._read c.in_ok-term.term c.in_ok-term.after.now c.loop-read.invariant c.in_ok-term.ensures)

pub read_short_tuple-returns-in_err-elements : goal.read_short_tuple-returns-in_err-elements
read_short_tuple-returns-in_err-elements g t c =
    let p = err_from_is_err_and c.from_residual.result c.from_residual.ensures.1 in
    rw (p.1, p.2) (tuple_stop (c.args.room - 1) c.args.room c.args.bytes.now c.args.rest.now c.args.count c.args.behind.now _ (omega arith) c.requires.tag c.requires.count c.in_err-elements.ensures)

pub read_short_tuple-returns : goal.read_short_tuple-returns
read_short_tuple-returns g t c =
    let is : c.short_tuple.result ≡ Ok c.in_ok-tuple.tuple = search rules in
    rw (rw is at c.short_tuple.ensures.ok) (tuple_begins (c.args.room - 1) c.args.room c.args.bytes.now c.args.rest.now c.args.count c.args.behind.now (row_items c.in_ok-elements.elements) c.in_ok-elements.behind.now (omega arith) c.requires.tag c.requires.count c.in_ok-elements.ensures)

pub read_short_tuple-map_err-requires : goal.read_short_tuple-map_err-requires
read_short_tuple-map_err-requires g t c =
    let begun = tuple_begins (c.args.room - 1) c.args.room c.args.bytes.now c.args.rest.now c.args.count c.args.behind.now (row_items c.in_ok-elements.elements) c.in_ok-elements.behind.now (omega arith) c.requires.tag c.requires.count c.in_ok-elements.ensures in
    let alone : IfErr c.short_tuple.result (λ refused. refused.fault ≡ Memory) =
    IfErr-weaker c.short_tuple.result _ _ (λ refused k. made c.args.room c.args.bytes.now (tuple (items_of (row_items c.in_ok-elements.elements))) c.in_ok-elements.behind.now refused.fault (omega arith) begun k.1) c.short_tuple.ensures.refused in
    search (rules, alone)

pub read_pair-returns-in_err-key : goal.read_pair-returns-in_err-key
read_pair-returns-in_err-key g t c =
    let p = err_from_is_err_and c.from_residual.result c.from_residual.ensures.1 in
    rw (p.1, p.2) (pair_key_stop c.args.room c.args.before.now c.args.bytes.now _ c.in_err-key.ensures)

pub read_pair-returns-then-not-is_key_above : goal.read_pair-returns-then-not-is_key_above
read_pair-returns-then-not-is_key_above g t c = key_unordered c.args.room c.args.before.now c.args.bytes.now c.in_ok-key.key c.in_ok-key.rest.now c.in_ok-key.ensures (not_so c.if-not-is_key_above.ensures.1)

pub read_pair-returns-in_err-value : goal.read_pair-returns-in_err-value
read_pair-returns-in_err-value g t c =
    let p = err_from_is_err_and c.from_residual-in_err-value.result c.from_residual-in_err-value.ensures.1 in
    rw (p.1, p.2) (pair_value_stop c.args.room c.args.before.now c.args.bytes.now c.in_ok-key.key c.in_ok-key.rest.now _ c.in_ok-key.ensures (c.if-not-is_key_above.ensures.0 refl) c.in_err-value.ensures)

pub read_pair-returns : goal.read_pair-returns
read_pair-returns g t c = pair_begins c.args.room c.args.before.now c.args.bytes.now c.in_ok-key.key c.in_ok-key.rest.now c.in_ok-value.value c.in_ok-value.rest.now c.requires.rising (c.if-not-is_key_above.ensures.0 refl) c.in_ok-key.ensures c.in_ok-value.ensures

pub read_pairs-returns-in_err-pair : goal.read_pairs-returns-in_err-pair
read_pairs-returns-in_err-pair g t c =
    let p = err_from_is_err_and c.from_residual-in_err-pair.result c.from_residual-in_err-pair.ensures.1 in
    rw (p.1, p.2) (pairs_stop c.args.room c.args.count c.args.bytes.now c.loop-read.pairs.items c.loop-read.rest.now c.loop-read.read _ c.loop-read.invariant c.loop-read-test.true (rw c.as_slice.ensures.value at c.in_err-pair.ensures))

pub read_pairs-loop-read-preserved : goal.read_pairs-loop-read-preserved
read_pairs-loop-read-preserved g t c =
    rw (c.in_ok-push.ensures.items, c.make_room.ensures.same)
    (row_step (pair_format c.args.room) RisingPairs c.args.bytes.now c.loop-read.pairs.items c.loop-read.rest.now c.loop-read.read c.in_ok-pair.pair c.in_ok-pair.behind.now c.loop-read.invariant (rw c.as_slice.ensures.value at c.in_ok-pair.ensures))

pub read_map_of_one-returns-in_err-key : goal.read_map_of_one-returns-in_err-key
read_map_of_one-returns-in_err-key g t c =
    let room = c.args.room - 1 in
    let start = row_start (pair_format room) RisingPairs c.args.behind.now tt in
    let p = err_from_is_err_and c.from_residual.result c.from_residual.ensures.1 in
    rw (p.1, p.2) (map_stop room c.args.room c.args.bytes.now c.args.rest.now 1 c.args.behind.now _ (omega arith) c.requires.tag c.requires.count
    (pairs_stop room 1 c.args.behind.now [] c.args.behind.now 0 _ start (omega arith) (rw (c.as_slice.ensures.value ∙ c.new-before.ensures.items) at c.in_err-key.ensures)))

pub read_map_of_one-returns : goal.read_map_of_one-returns
read_map_of_one-returns g t c =
    let is : c.map_of_one.result ≡ Ok c.in_ok-map.map = search rules in
    rw (rw is at c.map_of_one.ensures.ok) (map_of_one (c.args.room - 1) c.args.room c.args.bytes.now c.args.rest.now c.args.behind.now (c.in_ok-key.key, c.in_ok-key.value) c.in_ok-key.behind.now (omega arith) c.requires.tag c.requires.count (rw (c.as_slice.ensures.value ∙ c.new-before.ensures.items) at c.in_ok-key.ensures))

pub read_map_of_one-map_err-requires : goal.read_map_of_one-map_err-requires
read_map_of_one-map_err-requires g t c =
    let begun = map_of_one (c.args.room - 1) c.args.room c.args.bytes.now c.args.rest.now c.args.behind.now (c.in_ok-key.key, c.in_ok-key.value) c.in_ok-key.behind.now (omega arith) c.requires.tag c.requires.count (rw (c.as_slice.ensures.value ∙ c.new-before.ensures.items) at c.in_ok-key.ensures) in
    let alone : IfErr c.map_of_one.result (λ refused. refused.fault ≡ Memory) =
    IfErr-weaker c.map_of_one.result _ _ (λ refused k. made c.args.room c.args.bytes.now (map (entries_of ((c.in_ok-key.key, c.in_ok-key.value) ∷ []))) c.in_ok-key.behind.now refused.fault (omega arith) begun k.1) c.map_of_one.ensures.refused in
    search (rules, alone)

pub read_map-returns-in_err-count : goal.read_map-returns-in_err-count
read_map-returns-in_err-count g t c =
    let p = err_from_is_err_and c.from_residual.result c.from_residual.ensures.1 in
    rw (p.1, p.2) (map_short (c.args.room - 1) c.args.room c.args.bytes.now c.args.rest.now _ (omega arith) c.requires.tag c.in_err-count.ensures)

pub read_map-returns-in_err-pairs : goal.read_map-returns-in_err-pairs
read_map-returns-in_err-pairs g t c =
    let p = err_from_is_err_and c.from_residual-in_err-pairs.result c.from_residual-in_err-pairs.ensures.1 in
    rw (p.1, p.2) (map_stop (c.args.room - 1) c.args.room c.args.bytes.now c.args.rest.now c.in_ok-count.count c.in_ok-count.behind.now _ (omega arith) c.requires.tag c.in_ok-count.ensures c.in_err-pairs.ensures)

pub read_map-returns : goal.read_map-returns
read_map-returns g t c =
    let is : c.map_of_pairs.result ≡ Ok c.in_ok-map.map = search rules in
    rw (← map_term c.in_ok-pairs.pairs.items c.in_ok-map.map c.in_ok-pairs.ensures.fits.1 (rw is at c.map_of_pairs.ensures.only)) (map_begins (c.args.room - 1) c.args.room c.args.bytes.now c.args.rest.now c.in_ok-count.count c.in_ok-count.behind.now c.in_ok-pairs.pairs.items c.in_ok-pairs.behind.now (omega arith) c.requires.tag c.in_ok-count.ensures c.in_ok-pairs.ensures)

pub read_map-map_err-requires : goal.read_map-map_err-requires
read_map-map_err-requires g t c =
    let begun = map_begins (c.args.room - 1) c.args.room c.args.bytes.now c.args.rest.now c.in_ok-count.count c.in_ok-count.behind.now c.in_ok-pairs.pairs.items c.in_ok-pairs.behind.now (omega arith) c.requires.tag c.in_ok-count.ensures c.in_ok-pairs.ensures in
    let alone : IfErr c.map_of_pairs.result (λ refused. refused.fault ≡ Memory) =
    IfErr-weaker c.map_of_pairs.result _ _ (λ refused k. map_made c.args.room c.args.bytes.now c.in_ok-pairs.pairs.items c.in_ok-pairs.behind.now refused.fault (omega arith) c.in_ok-pairs.ensures.fits.1 begun k.1) c.map_of_pairs.ensures.refused in
    search (rules, alone)

pub read_list-returns-in_err-count : goal.read_list-returns-in_err-count
read_list-returns-in_err-count g t c =
    let p = err_from_is_err_and c.from_residual.result c.from_residual.ensures.1 in
    rw (p.1, p.2) (list_short (c.args.room - 1) c.args.room c.args.bytes.now c.args.rest.now _ (omega arith) c.requires.tag c.in_err-count.ensures)

pub read_list-returns-in_err-elements : goal.read_list-returns-in_err-elements
read_list-returns-in_err-elements g t c =
    let p = err_from_is_err_and c.from_residual-in_err-elements.result c.from_residual-in_err-elements.ensures.1 in
    rw (p.1, p.2) (list_stop (c.args.room - 1) c.args.room c.args.bytes.now c.args.rest.now c.in_ok-count.count c.in_ok-count.behind.now _ (omega arith) c.requires.tag c.in_ok-count.ensures c.in_err-elements.ensures)

pub read_list-returns-then-begins_list : goal.read_list-returns-then-begins_list
read_list-returns-then-begins_list g t c = tail_joined (c.args.room - 1) c.args.room c.args.bytes.now c.args.rest.now c.in_ok-count.count c.in_ok-count.behind.now c.in_ok-elements.elements.items c.in_ok-elements.behind.now (omega arith) c.requires.tag c.in_ok-count.ensures c.in_ok-elements.ensures (c.if-begins_list.ensures.0 refl)

pub read_list-returns-in_err-tail : goal.read_list-returns-in_err-tail
read_list-returns-in_err-tail g t c =
    let p = err_from_is_err_and c.from_residual-in_err-tail.result c.from_residual-in_err-tail.ensures.1 in
    rw (p.1, p.2) (tail_stop (c.args.room - 1) c.args.room c.args.bytes.now c.args.rest.now c.in_ok-count.count c.in_ok-count.behind.now c.in_ok-elements.elements.items c.in_ok-elements.behind.now _ (omega arith) c.requires.tag c.in_ok-count.ensures c.in_ok-elements.ensures (not_so {P = BeginsWith (6 ∷ []) c.in_ok-elements.behind.now} c.if-begins_list.ensures.1) c.in_err-tail.ensures)

pub read_list-returns : goal.read_list-returns
read_list-returns g t c =
    let is : c.list.result ≡ Ok c.in_ok-list.list = search rules in
    let no_cell = tail_no_cell (c.args.room - 1) c.in_ok-elements.behind.now c.in_ok-tail.tail c.in_ok-tail.behind.now c.in_ok-tail.ensures (not_so {P = BeginsWith (6 ∷ []) c.in_ok-elements.behind.now} c.if-begins_list.ensures.1) in
    rw (rw is at c.list.ensures.ok) (list_begins (c.args.room - 1) c.args.room c.args.bytes.now c.args.rest.now c.in_ok-count.count c.in_ok-count.behind.now c.in_ok-elements.elements.items c.in_ok-elements.behind.now c.in_ok-tail.tail c.in_ok-tail.behind.now (omega arith) c.requires.tag c.in_ok-count.ensures c.in_ok-elements.ensures c.in_ok-tail.ensures no_cell)

pub read_list-map_err-requires : goal.read_list-map_err-requires
read_list-map_err-requires g t c =
    let no_cell = tail_no_cell (c.args.room - 1) c.in_ok-elements.behind.now c.in_ok-tail.tail c.in_ok-tail.behind.now c.in_ok-tail.ensures (not_so {P = BeginsWith (6 ∷ []) c.in_ok-elements.behind.now} c.if-begins_list.ensures.1) in
    let begun = list_begins (c.args.room - 1) c.args.room c.args.bytes.now c.args.rest.now c.in_ok-count.count c.in_ok-count.behind.now c.in_ok-elements.elements.items c.in_ok-elements.behind.now c.in_ok-tail.tail c.in_ok-tail.behind.now (omega arith) c.requires.tag c.in_ok-count.ensures c.in_ok-elements.ensures c.in_ok-tail.ensures no_cell in
    let alone : IfErr c.list.result (λ refused. refused.fault ≡ Memory) =
    IfErr-weaker c.list.result _ _ (λ refused k. made c.args.room c.args.bytes.now (cells c.in_ok-elements.elements.items c.in_ok-tail.tail) c.in_ok-tail.behind.now refused.fault (omega arith) begun k.1) c.list.ensures.refused in
    search (rules, alone)
