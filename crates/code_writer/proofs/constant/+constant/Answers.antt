use Rattle.std.proofs.Common.{[], ◌∷◌, ap, arith}
use Rattle.std.proofs.lemmas.Result.{on_ok_weaker}
use Rattle.std.specs.Option.{option_copied}
use Rattle.term_core.specs.Limits.{IsTerm, depth}
use Rattle.term_core.specs.Term.{tail_of}
use Rattle.term_core.specs.TermFalls.{depth-cells}
use Rattle.term_core.proofs.RowLemmas.{depth-element, depth-entry}
use Rattle.code_writer.specs.Spelling.{constant_bytes, pair_bytes}
use Rattle.code_writer.proofs.ConstantLemmas.{tuple_bytes, map_bytes, list_bytes, no_cell-tail, tuple_few, map_few, list_few}
use Rattle.code_writer.proofs.WriteLemmas.{two, three, four, written_next, written_each}
use Rattle.code_writer.proofs.constant.+constant.Goals as goal

pub put_constant-put_tuple-requires : goal.put_constant-put_tuple-requires
put_constant-put_tuple-requires g t c κs within =
    (omega (arith, ap depth c.in-Tuple.ensures.value), (within.0, (within.1, tuple_few _ _ c.in-Tuple.ensures.value c.in-Tuple.ensures.within)))

pub put_constant-put_map-requires : goal.put_constant-put_map-requires
put_constant-put_map-requires g t c κs within =
    (omega (arith, ap depth c.in-Map.ensures.value), (within.0, (within.1, map_few _ _ c.in-Map.ensures.value c.in-Map.ensures.within)))

pub put_constant-put_list-requires : goal.put_constant-put_list-requires
put_constant-put_list-requires g t c κs within = (
  omega (arith, ap depth c.in-List.ensures.value, depth-cells c.in-List.elements.now (tail_of (option_copied c.in-List.tail)) c.in-List.ensures.split.0),
  (within.0, (within.1, (c.in-List.ensures.split, list_few c.in-List.elements.now (tail_of (option_copied c.in-List.tail)) _ c.in-List.ensures.value c.in-List.ensures.within))),
)

pub put_elements-put_constant-requires : goal.put_elements-put_constant-requires
put_elements-put_constant-requires g t c κs within =
    (omega (arith, depth-element _ c.loop-element.element-index c.element-item.result c.loop-element-test.true c.element-item.is), within)

pub put_elements-loop-element-preserved : goal.put_elements-loop-element-preserved
put_elements-loop-element-preserved g t c =
    written_next constant_bytes IsTerm _ c.loop-element.element-index c.element-item.result _ _ _ c.loop-element.invariant c.loop-element-test.true c.element-item.is c.in_ok-put_constant.ensures.bytes c.in_ok-put_constant.ensures.held

pub put_elements-returns-clause-held : goal.put_elements-returns-clause-held
put_elements-returns-clause-held g t c = written_each constant_bytes IsTerm _ c.loop-element.element-index _ _ c.loop-element.invariant c.loop-element-test.false

pub put_list-returns : goal.put_list-returns
put_list-returns g t c =
    rw (list_bytes _ _ c.requires.some.0 (no_cell-tail _ c.requires.some.1))
    (on_ok_weaker c.put_tail.result (λ last. four _ (6 ∷ []) _ _ _ _ _ _ _ c.in_ok-put_u8.ensures c.in_ok-put_u32.ensures c.in_ok-put_elements.ensures.bytes last) c.put_tail.ensures)

pub put_map-returns : goal.put_map-returns
put_map-returns g t c =
    rw (map_bytes _) (on_ok_weaker c.put_pairs.result (λ last. three _ (4 ∷ []) _ _ _ _ _ c.in_ok-put_u8.ensures c.in_ok-put_u16.ensures last) c.put_pairs.ensures)

pub put_tuple-returns : goal.put_tuple-returns
put_tuple-returns g t c =
    rw (tuple_bytes _) (on_ok_weaker c.put_elements.result (λ last. three _ (3 ∷ []) _ _ _ _ _ c.in_ok-put_u8.ensures c.in_ok-put_u16.ensures last) c.put_elements.ensures.bytes)

pub put_pairs-put_constant-requires : goal.put_pairs-put_constant-requires
put_pairs-put_constant-requires g t c κs within =
    (omega (arith, depth-entry _ c.loop-key.key-index c.loop-key-item.result c.loop-key-test.true c.loop-key-item.is), within)

pub put_pairs-put_constant-requires-in-loop-key : goal.put_pairs-put_constant-requires-in-loop-key
put_pairs-put_constant-requires-in-loop-key g t c κs within =
    (omega (arith, depth-entry _ c.loop-key.key-index c.loop-key-item.result c.loop-key-test.true c.loop-key-item.is), within)

pub put_pairs-loop-key-preserved : goal.put_pairs-loop-key-preserved
put_pairs-loop-key-preserved g t c =
    written_next pair_bytes (λ _. Unit {0}) _ c.loop-key.key-index c.loop-key-item.result _ _ _ c.loop-key.invariant c.loop-key-test.true c.loop-key-item.is (two _ _ _ _ _ c.in_ok-put_constant.ensures.bytes c.in_ok-put_constant-2.ensures.bytes) tt
