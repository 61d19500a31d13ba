use Rattle.std.proofs.Common.{◌≡◌, ◌∷◌, arith, sym, subst}
use Rattle.std.proofs.lemmas.List.Elements.{All-head, All-rest, All-same}
use Rattle.std.proofs.lemmas.Result.{on_ok_weaker}
use Rattle.tables.specs.Sessions.{IsOpened}
use Rattle.tool_scan.specs.Asking.{AreSeated}
use Rattle.tool_scan.proofs.AskingLemmas.{nil_of, none_seated, seated_join}
use Rattle.tool_scan.proofs.asking.+seat_all.Goals as goal

pub seat_one-requires : goal.seat_one-requires
seat_one-requires g t c =
    All-head (λ s. IsOpened c.args.table.now.options c.args.table.now.gates.items s.number s.passes.items) c.in-Some.first.now c.in-Some.rest.now
    (All-same (λ s. IsOpened c.args.table.now.options c.args.table.now.gates.items s.number s.passes.items) (c.in-Some.first.now ∷ c.in-Some.rest.now) c.args.sessions.now (sym c.in-Some.ensures.cases.0) c.requires)

pub seat_all-requires : goal.seat_all-requires
seat_all-requires g t c κs within = (
  omega (arith, c.in-Some.ensures.cases.1, c.decreases),
  (
    within.0,
    (
      within.1.0,
      (
        within.1.1,
        All-rest (λ s. IsOpened c.args.table.now.options c.args.table.now.gates.items s.number s.passes.items) c.in-Some.first.now c.in-Some.rest.now c.args.sessions.now c.in-Some.ensures.cases.0 c.requires,
      ),
    ),
  ),
)

pub returns-in_ok-seat_one-in-Some : goal.returns-in_ok-seat_one-in-Some
returns-in_ok-seat_one-in-Some g t c =
    on_ok_weaker c.seat_all.result
    (λ seated. subst (λ ss. AreSeated (λ m s. (m.table.now ≡ c.args.table.now) × (m.session.now ≡ s)) ss c.args.members.now.items c.seat_all.new.members.items) (sym c.in-Some.ensures.cases.0)
    (seated_join (λ m s. (m.table.now ≡ c.args.table.now) × (m.session.now ≡ s)) c.in-Some.first.now c.in-Some.rest.now _ _ _ c.in_ok-seat_one-in-Some.ensures seated))
    c.seat_all.ensures

pub returns-in-None : goal.returns-in-None
returns-in-None g t c =
    subst (λ ss. AreSeated (λ m s. (m.table.now ≡ c.args.table.now) × (m.session.now ≡ s)) ss c.args.members.now.items c.args.members.now.items) (sym (nil_of c.args.sessions.now c.in-None.ensures.cases))
    (none_seated (λ m s. (m.table.now ≡ c.args.table.now) × (m.session.now ≡ s)) c.args.members.now.items)
