use Rattle.std.proofs.Common.{◌≡◌, List, [], ◌∷◌, length, refl, ap, sym, subst, ◌∙◌, arith}
use Rattle.std.proofs.lemmas.List.{nil_from_length, length-append}
use Rattle.gate.specs.declared.session.Session.{Session}
use Rattle.tables.specs.Sessions.{IsOpened, Sees}
use Rattle.tables.specs.declared.table.Table.{Table}
use Rattle.table_sessions.specs.declared.own.OwnSession.{OwnSession}
use Rattle.table_sessions.proofs.ShareLemmas.{AreLeft, HaveShares, all_left, next_left, others_left, none_yet, home_there, one_more}
use Rattle.table_sessions.proofs.opening.share.Goals as goal

pub loop-seat-init : goal.loop-seat-init
loop-seat-init g c =
    let t = c.args.table in
    let given = c.into_iter-seat-iterator.ensures.into_iter_gives.0 in
    let none = c.new-shares.ensures.items in (
      omega (arith, ap length none, ap length given),
      subst (λ (xs : List (OwnSession _ _)). AreLeft t.options t.gates.items (length xs) c.into_iter-seat-iterator.result.rest.items) (sym none)
          (subst (AreLeft t.options t.gates.items 0) (sym given) (all_left t.options t.gates.items c.args.sessions.items c.requires)),
      none_yet t.options t.gates.items c.new-shares.result.items none,
    )

pub shared-requires : goal.shared-requires
shared-requires g c =
    let t = c.args.table in
    let n = length c.loop-seat.shares.items in
    let next = next_left t.options t.gates.items n c.in-Some.seat c.next.new.self.rest.items (subst (AreLeft t.options t.gates.items n) c.in-Some.ensures.steps.0 c.loop-seat.invariant.1) in
    subst (λ (u : Table _ _). IsOpened u.options u.gates.items c.in-Some.seat.number c.in-Some.seat.passes.items) (sym c.in_ok-table.ensures.ok) next.1.0

pub loop-seat-preserved : goal.loop-seat-preserved
loop-seat-preserved g c =
    let t = c.args.table in
    let split = c.in-Some.ensures.steps.0 in
    let n = length c.loop-seat.shares.items in
    let own = c.in_ok-own.own in
    let left = subst (AreLeft t.options t.gates.items n) split c.loop-seat.invariant.1 in
    let next = next_left t.options t.gates.items n c.in-Some.seat c.next.new.self.rest.items left in
    let items = c.in-Ok.ensures.items in
    let more = length-append c.loop-seat.shares.items (own ∷ []) in
    let seat = c.in_ok-own.ensures.1 in (
      omega (arith, ap length items, more, ap length split, c.loop-seat.invariant.0),
      others_left t.options t.gates.items n (length c.push.new.self.items) c.in-Some.seat c.next.new.self.rest.items (omega (arith, ap length items, more)) left,
      subst (HaveShares t.options t.gates.items) (sym items)
          (one_more t.options t.gates.items c.loop-seat.shares.items n own refl
          (home_there t.options t.gates.items own t n (c.in_ok-own.ensures.0 ∙ c.in_ok-table.ensures.ok) refl refl (ap (λ (s : Session _ _). s.number) seat ∙ next.0))
          (subst (λ (s : Session _ _). Sees s.passes.items (λ part. [])) (sym seat) next.1.1) c.loop-seat.invariant.2),
    )

pub returns : goal.returns
returns g c =
    let over : c.loop-seat.seat-iterator.rest.items ≡ [] = nil_from_length c.loop-seat.seat-iterator.rest.items (sym c.loop-seat.seat-iterator.rest.ok.0 ∙ c.in-None.ensures.steps.0) in
    record {
      gates = c.args.table.gates.items;
      count = omega (arith, ap length over, c.loop-seat.invariant.0, c.requires.count);
      homes = λ k s got. (c.loop-seat.invariant.2 k s got).0;
      seen = λ k s got. (c.loop-seat.invariant.2 k s got).1;
    }
