use Rattle.std.proofs.Common.{refl, ap, arith, ◌∙◌, ◌≡◌, ◌∷◌, [], ◌++◌, length}
use Rattle.std.proofs.Math.Seq.{take-append_seam}
use Rattle.std.proofs.lemmas.List.{length-append}
use Rattle.compiler_assembly.proofs.PoolLemmas.{pool_same, before_last, new_last}
use Rattle.compiler_assembly.proofs.pool.Pool.add.Goals as goal

pub same-self : goal.same-self
same-self g c = refl

pub invariant_of-self : goal.invariant_of-self
invariant_of-self g c = rw c.in_default.ensures.kept c.self.invariant

pub enter_last-requires-clause-last : goal.enter_last-requires-clause-last
enter_last-requires-clause-last g c =
    let front = c.self.inside.terms.items in
    let all : c.as_slice.result.now ≡ front ++ c.args.term ∷ [] = c.as_slice.ensures.value ∙ c.in-Ok.ensures.ok in
    let count : c.len-place.result ≡ length front = c.len-place.ensures ∙ c.self.inside.terms.ok.0 in
    omega (arith, ap length all, length-append front (c.args.term ∷ []), count)

pub enter_last-requires-clause-count : goal.enter_last-requires-clause-count
enter_last-requires-clause-count g c =
    let front = c.self.inside.terms.items in
    let all : c.as_slice.result.now ≡ front ++ c.args.term ∷ [] = c.as_slice.ensures.value ∙ c.in-Ok.ensures.ok in
    let count : c.len-place.result ≡ length front = c.len-place.ensures ∙ c.self.inside.terms.ok.0 in
    omega (arith, ap length all, length-append front (c.args.term ∷ []), count, c.if-place-ge-MAX_COUNT.false)

pub enter_last-requires-clause-front : goal.enter_last-requires-clause-front
enter_last-requires-clause-front g c =
    let front = c.self.inside.terms.items in
    let all : c.as_slice.result.now ≡ front ++ c.args.term ∷ [] = c.as_slice.ensures.value ∙ c.in-Ok.ensures.ok in
    let count : c.len-place.result ≡ length front = c.len-place.ensures ∙ c.self.inside.terms.ok.0 in
    rw (all, count, take-append_seam front (c.args.term ∷ [])) c.self.invariant

pub enter_last-requires-clause-new : goal.enter_last-requires-clause-new
enter_last-requires-clause-new g c = λ d at.
    let front = c.self.inside.terms.items in
    let all : c.as_slice.result.now ≡ front ++ c.args.term ∷ [] = c.as_slice.ensures.value ∙ c.in-Ok.ensures.ok in
    let count : c.len-place.result ≡ length front = c.len-place.ensures ∙ c.self.inside.terms.ok.0 in
    let new = rw (← c.self.view_is) at c.requires in
    new_last front c.args.term d c.len-place.result c.as_slice.result.now all count new at

pub invariant_of-self-in-Ok-enter_last : goal.invariant_of-self-in-Ok-enter_last
invariant_of-self-in-Ok-enter_last g c = rw (← c.as_slice.ensures.value) c.in-Ok-enter_last.ensures.ok

pub invariant_of-self-in_default-enter_last : goal.invariant_of-self-in_default-enter_last
invariant_of-self-in_default-enter_last g c =
    let front = c.self.inside.terms.items in
    rw (c.take_back.ensures, c.in-Ok.ensures.ok, before_last front c.args.term) (pool_same _ _ front c.self.invariant c.in_default-enter_last.ensures.kept)

pub overflow_cast-number : goal.overflow_cast-number
overflow_cast-number g c = omega (arith, c.if-place-ge-MAX_COUNT.false)
