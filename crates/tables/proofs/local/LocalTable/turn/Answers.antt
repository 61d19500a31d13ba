use Rattle.std.proofs.Common.{ℕ, ◌≡◌, ◌<◌, Some, slice_get, slice_set, length, refl, subst, arith, ◌∙◌, rules}
use Rattle.std.proofs.Math.Logic.{∥∥₁_map}
use Rattle.std.proofs.lemmas.List.Elements.{All-set}
use Rattle.std.proofs.lemmas.Option.{slice_get_read}
use Rattle.part_core.specs.Ops.{act_of, answer_in}
use Rattle.tables.specs.Options.{settings_of}
use Rattle.tables.specs.Turns.{Turned, Follows}
use Rattle.tables.specs.Local.{AreAfter, local_home}
use Rattle.tables.proofs.LocalLemmas.{settings_there, local_turn}
use Rattle.tables.proofs.local.LocalTable.turn.Goals as goal

pub invariant_of-self : goal.invariant_of-self
invariant_of-self g c =
    let inside : c.from.result < length c.args.self.now.parts.items = omega (arith, c.from.ensures, c.requires.part, c.args.self.now.count) in
    let there : slice_get c.args.self.now.parts.items c.from.result ≡ Some c.index_mut.result.now = slice_get_read c.args.self.now.parts.items (length c.args.self.now.parts.items) c.from.result c.index_mut.result.now refl inside c.index_mut.ensures.value in
    record {
      some = c.args.self.now.some;
      count = search rules;
      same = ∥∥₁_map c.args.self.now.same (λ all. All-set (λ p. g.P.Part.settings p ≡ settings_of c.args.self.now.options) c.args.self.now.parts.items c.from.result c.apply.new.self (c.apply.ensures.settings ∙ settings_there g.P.Part.settings (settings_of c.args.self.now.options) c.args.self.now.parts.items c.from.result c.index_mut.result.now there all) all);
      seen = ∥∥₁_map c.args.self.now.seen (λ s.
          let t = local_turn g.P.Part.settings g.P.Part.is_after g.met.P.Part.legal c.args.self.now.options c.args.number 0 c.args.self.now.parts.items c.from.result c.index_mut.result.now c.apply.new.self (act_of c.args.op.now) (answer_in c.apply.result) there c.apply.ensures.settings c.args.self.now.same c.apply.ensures.entry s.0 s.1 in (t.0, t.1));
    }

pub returns-clause-entry : goal.returns-clause-entry
returns-clause-entry g c = λ table.
    let inside : c.from.result < length c.args.self.now.parts.items = omega (arith, c.from.ensures, c.requires.part, c.args.self.now.count) in
    let there : slice_get c.args.self.now.parts.items c.from.result ≡ Some c.index_mut.result.now = slice_get_read c.args.self.now.parts.items (length c.args.self.now.parts.items) c.from.result c.index_mut.result.now refl inside c.index_mut.ensures.value in
    subst (λ (part : ℕ). Follows (AreAfter g.P.Part.is_after c.args.self.now.parts.items) (AreAfter g.P.Part.is_after (slice_set c.args.self.now.parts.items c.from.result c.apply.new.self)) (Turned (local_home c.args.self.now.options c.args.number table) part (act_of c.args.op.now) (answer_in c.apply.result))) c.from.ensures
    (local_turn g.P.Part.settings g.P.Part.is_after g.met.P.Part.legal c.args.self.now.options c.args.number table c.args.self.now.parts.items c.from.result c.index_mut.result.now c.apply.new.self (act_of c.args.op.now) (answer_in c.apply.result) there c.apply.ensures.settings c.args.self.now.same c.apply.ensures.entry)
