use Rattle.std.proofs.Common.{ℕ, ◌≡◌, ◌∙◌, ap, subst, sym, rules}
use Rattle.part_core.specs.Ops.{act_of, answer_in}
use Rattle.tables.specs.declared.local.LocalTable.{LocalTable}
use Rattle.tables.specs.Local.{AreAfter, local_home}
use Rattle.tables.specs.Turns.{Home, Turned}
use Rattle.open_table.proofs.LinkLemmas.{renamed}
use Rattle.open_table.proofs.parts.turn_in.Goals as goal

pub returns-clause-options : goal.returns-clause-options
returns-clause-options g c =
    let name : c.turn.new.self.table.ghost_name ≡ c.at-session.result.table.ghost_name = ap (λ (h : Home). h.table) c.turn.ensures.same in
    let back : c.turn.new.self.table.now ≡ c.table-1.given.0 = search (rules, name) in
    subst (λ (l : LocalTable g.row.P.Denot g.row.A.Denot g.P.Part). l.options ≡ c.args.table.now.options) back
    (ap (λ (h : Home). h.options) c.turn.ensures.same ∙ ap (λ (l : LocalTable g.row.P.Denot g.row.A.Denot g.P.Part). l.options) c.at-session.ensures.table)

pub returns-clause-entry : goal.returns-clause-entry
returns-clause-entry g c = λ v sees.
    let name : c.turn.new.self.table.ghost_name ≡ c.at-session.result.table.ghost_name = ap (λ (h : Home). h.table) c.turn.ensures.same in
    let back : c.turn.new.self.table.now ≡ c.table-1.given.0 = search (rules, name) in
    let there = c.at-session.ensures.table in
    let at = c.at-session.result in
    let next = c.turn.ensures.entry v (subst (λ (l : LocalTable g.row.P.Denot g.row.A.Denot g.P.Part). AreAfter g.P.Part.is_after l.parts.items v) (sym there) sees) in
    let act = act_of c.args.op.now in
    let answer = answer_in c.turn.result in
    let turned = renamed at.table.now.options at.number at.table.ghost_name 0 c.args.part act answer v next.0 next.2 in
    let numbered = subst (λ (n : ℕ). Turned (local_home at.table.now.options n 0) c.args.part act answer v next.0) c.at-session.ensures.number turned in (
      next.0,
      subst (λ (l : LocalTable g.row.P.Denot g.row.A.Denot g.P.Part). AreAfter g.P.Part.is_after l.parts.items next.0) back next.1,
      subst (λ (l : LocalTable g.row.P.Denot g.row.A.Denot g.P.Part). Turned (local_home l.options c.args.session 0) c.args.part act answer v next.0) there numbered,
    )
