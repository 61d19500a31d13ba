use Rattle.std.proofs.Common.{refl}
use Rattle.std.proofs.lemmas.Result.{IfErr-weaker, IfOk-weaker}
use Rattle.term_core.proofs.MapLemmas.{IsMapOf-one, apart-no_twin, apart_from_rising, map_from_rising, memory_fault, within_limits}
use Rattle.term_core.proofs.term.Term.map.Goals as goal

pub returns-then-is_rising-clause-refused : goal.returns-then-is_rising-clause-refused
returns-then-is_rising-clause-refused g c =
    let es = c.args.pairs.items in
    let within = rw c.as_slice.ensures.value at c.in-Ok.ensures.ok in
    IfErr-weaker c.from_rising.result _ _ (λ r. memory_fault c.in-Ok.depth es r.value.items r.fault within) c.from_rising.ensures.refused

pub returns-then-is_rising-clause-only : goal.returns-then-is_rising-clause-only
returns-then-is_rising-clause-only g c =
    let es = c.args.pairs.items in
    let rising = rw c.as_slice-2.ensures.value at (c.is_rising.ensures.0 c.if-is_rising.true) in
    IfOk-weaker c.from_rising.result _ _ (λ t is d m. IsMapOf-one es d t m (map_from_rising es t rising is)) c.from_rising.ensures.ok

pub returns-in-Ok-false-clause-only : goal.returns-in-Ok-false-clause-only
returns-in-Ok-false-clause-only g c =
    let es = c.args.pairs.items in
    IfOk-weaker c.sorted_map.result _ _ (λ t n d m. IsMapOf-one es d t m n) c.sorted_map.ensures.ok

pub returns-then-is_rising-clause-apart : goal.returns-then-is_rising-clause-apart
returns-then-is_rising-clause-apart g c =
    let es = c.args.pairs.items in
    let rising = rw c.as_slice-2.ensures.value at (c.is_rising.ensures.0 c.if-is_rising.true) in
    IfOk-weaker c.from_rising.result _ _ (λ t is. apart-no_twin es (apart_from_rising es rising)) c.from_rising.ensures.ok

pub returns-in-Ok-true-clause-refused : goal.returns-in-Ok-true-clause-refused
returns-in-Ok-true-clause-refused g c =
    let es = c.args.pairs.items in
    let within = rw c.as_slice.ensures.value at c.in-Ok.ensures.ok in
    let limits = within_limits c.in-Ok.depth es within in
    (refl, (limits.0, limits.1, rw c.as_slice-3.ensures.value at (c.in-Ok-true.ensures.0 c.in-Ok-true.field-0-test)))

pub returns-in-Ok-false-clause-refused : goal.returns-in-Ok-false-clause-refused
returns-in-Ok-false-clause-refused g c =
    let es = c.args.pairs.items in
    let within = rw c.as_slice.ensures.value at c.in-Ok.ensures.ok in
    IfErr-weaker c.sorted_map.result _ _ (λ r. memory_fault c.in-Ok.depth es r.value.items r.fault within) c.sorted_map.ensures.refused

pub returns-in-Err-has_twin-clause-refused : goal.returns-in-Err-has_twin-clause-refused
returns-in-Err-has_twin-clause-refused g c =
    let es = c.args.pairs.items in
    let within = rw c.as_slice.ensures.value at c.in-Ok.ensures.ok in
    (refl, within_limits c.in-Ok.depth es within)
