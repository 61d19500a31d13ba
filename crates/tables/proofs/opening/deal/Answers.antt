use Rattle.std.proofs.Common.{ℕ, ◌≡◌, ◌+◌, ◌-◌, ◌<◌, [], ◌∷◌, ◌++◌, Some, slice_get, slice_set, length, ap, subst, sym, ◌∙◌, arith, refl, rules}
use Rattle.std.proofs.lemmas.List.{length-set}
use Rattle.std.proofs.lemmas.Option.{slice_get_read}
use Rattle.gate.specs.Views.{Ticket, first_ticket}
use Rattle.tables.specs.Options.{settings_of}
use Rattle.tables.proofs.OpeningLemmas.{AreDealtFrom, some_left, last_left, deal_begins, deal_step, deal_ends}
use Rattle.tables.proofs.opening.deal.Goals as goal

pub loop-number-init : goal.loop-number-init
loop-number-init g c = (
  refl,
  c.requires.passes,
  (λ gates dealt. deal_begins (settings_of c.args.options) gates c.args._gate.now c.args.sessions.now.items c.args.options.sessions c.requires.count dealt),
)

pub unreachable-requires : goal.unreachable-requires
unreachable-requires g c =
    let next : c.loop-number.number ≡ (c.loop-number.number - 1) + 1 = omega (arith, c.loop-number-test.true) in
    let some = some_left (first_ticket c.args._gate.now (settings_of c.args.options)) c.loop-number.number (c.loop-number.number - 1) c.loop-number.passes.items [] next c.loop-number.invariant.1 in
    let there = c.in_default.ensures.variant.1 (subst (λ (n : ℕ). 0 < n) (sym c.loop-number.passes.ok.0) some) in
    search (rules, there)

pub give-requires : goal.give-requires
give-requires g c =
    let next : c.loop-number.number ≡ (c.loop-number.number - 1) + 1 = omega (arith, c.loop-number-test.true) in
    let last = last_left (first_ticket c.args._gate.now (settings_of c.args.options)) c.loop-number.number (c.loop-number.number - 1) c.loop-number.passes.items c.pop.new.self.items next c.loop-number.invariant.1 c.in-Some.pass c.in-Some.ensures.items in
    ap (λ (t : Ticket). t.log) last.1

pub loop-number-preserved : goal.loop-number-preserved
loop-number-preserved g c =
    let o = settings_of c.args.options in
    let gate = c.args._gate.now in
    let m : ℕ = c.loop-number.number - 1 in
    let next : c.loop-number.number ≡ m + 1 = omega (arith, c.loop-number-test.true) in
    let last = last_left (first_ticket gate o) c.loop-number.number m c.loop-number.passes.items c.pop.new.self.items next c.loop-number.invariant.1 c.in-Some.pass c.in-Some.ensures.items in
    let below : m < c.args.options.sessions = omega (arith, next, c.loop-number.auto.number) in
    let inside : c.from.result < length c.loop-number.sessions.items = omega (arith, c.from.ensures, below, c.loop-number.invariant.0, c.requires.count) in
    let there : slice_get c.loop-number.sessions.items c.from.result ≡ Some c.index_mut.result.now = slice_get_read c.loop-number.sessions.items (length c.loop-number.sessions.items) c.from.result c.index_mut.result.now refl inside c.index_mut.ensures.value in
    let at : c.from.result ≡ m = c.from.ensures in (
      length-set c.loop-number.sessions.items c.from.result c.give.new.self ∙ c.loop-number.invariant.0,
      last.0,
      (λ gates dealt. subst (λ (k : ℕ). AreDealtFrom o gates gate m (slice_set c.loop-number.sessions.items k c.give.new.self)) (sym at)
          (deal_step o gates gate c.loop-number.sessions.items c.loop-number.number m c.index_mut.result.now c.give.new.self next
          (subst (λ (k : ℕ). slice_get c.loop-number.sessions.items k ≡ Some c.index_mut.result.now) at there)
          c.give.ensures.number
          (c.in_ok-give.ensures.given ∙ ap (λ (t : Ticket). c.index_mut.result.now.passes.items ++ t ∷ []) last.1)
          (c.loop-number.invariant.2 gates dealt))),
    )

pub returns-clause-dealt : goal.returns-clause-dealt
returns-clause-dealt g c = λ gates dealt.
    deal_ends (settings_of c.args.options) gates c.args._gate.now c.loop-number.sessions.items c.loop-number.number (omega (arith, c.loop-number-test.false)) (c.loop-number.invariant.2 gates dealt)
