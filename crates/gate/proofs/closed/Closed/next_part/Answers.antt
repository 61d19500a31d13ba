use Rattle.std.proofs.Common.{ℕ, ◌≡◌, ◌<◌, [], ◌∷◌, ◌++◌, ap, sym, subst, ◌∙◌, rules}
use Rattle.std.specs.Coded.{codes}
use Rattle.std.proofs.Props.{props}
use Rattle.std.proofs.Math.Logic.{∥∥₁_elim, ∥∥₁_map}
use Rattle.atomic_table.specs.Seated.{table_id_coded}
use Rattle.gate.specs.Views.{GateId, Ticket}
use Rattle.gate.proofs.ClosedLemmas.{last_made, made_still, passes_left}
use Rattle.gate.proofs.closed.Closed.next_part.Goals as goal

pub invariant_of-self-2 : goal.invariant_of-self-2
invariant_of-self-2 g c = record {
  made = ∥∥₁_map c.args.self.now.made (λ made.
      made_still (λ (t : Ticket). t.gate) _ _ _ _ c.in-Some.gate made c.in-Some.ensures.items c.pop-2.result c.pop-2.ensures.items
      (λ some. c.pop-2.ensures.variant.1 (subst (λ (n : ℕ). 0 < n) (sym c.args.self.now.passes.ok.0) some)));
}

pub unreachable-requires : goal.unreachable-requires
unreachable-requires g c =
    ∥∥₁_elim c.args.self.now.made (hlevel props) (λ made.
    let some = passes_left (λ (t : Ticket). t.gate) _ [] _ c.pop.new.self.items c.in-Some.gate made c.in-Some.ensures.items in
    let there = c.pop-2.ensures.variant.1 (subst (λ (n : ℕ). 0 < n) (sym c.args.self.now.passes.ok.0) some) in
    search (rules, there))

pub close-requires : goal.close-requires
close-requires g c =
    ∥∥₁_elim c.args.self.now.made (hlevel (codes, table_id_coded)) (λ made.
    (last_made (λ (t : Ticket). t.gate) _ _ _ _ c.in-Some.gate made c.in-Some.ensures.items c.in-Some-pop.pass c.in-Some-pop.ensures.items).1)

pub returns : goal.returns
returns g c =
    let same : c.in-Some-pop.pass.gate ≡ c.in-Some.gate = ∥∥₁_elim c.args.self.now.made (hlevel (codes, table_id_coded)) (λ made.
    (last_made (λ (t : Ticket). t.gate) _ _ _ _ c.in-Some.gate made c.in-Some.ensures.items c.in-Some-pop.pass c.in-Some-pop.ensures.items).1) in (
      c.in-Some-pop.pass,
      c.in-Some.ensures.items ∙ ap (λ (gate : GateId). c.pop.new.self.items ++ gate ∷ []) (sym same),
      c.in-Some-pop.ensures.items,
      c.close.ensures,
    )
