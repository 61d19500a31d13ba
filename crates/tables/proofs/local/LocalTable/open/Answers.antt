use Rattle.std.proofs.Common.{◌≡◌, ◌<◌, [], refl, sym, arith, ◌∙◌}
use Rattle.std.proofs.lemmas.List.Elements.{All-weaker}
use Rattle.part_core.specs.Settings.{is_ordered}
use Rattle.part_core.specs.Served.{IsServed}
use Rattle.tables.specs.Options.{settings_of}
use Rattle.tables.proofs.LocalLemmas.{all_got, all_said, one_part}
use Rattle.tables.proofs.local.LocalTable.open.Goals as goal

pub invariant_of-result : goal.invariant_of-result
invariant_of-result g c =
    let settings = settings_of c.args.options in
    let some : 0 < c.args.options.parts = omega (arith, c.if-options-eq0.false) in
    record {
      some = some;
      count = c.in_ok-parts.ensures.count;
      same = ∣ (All-weaker (λ p. IsServed g.P.Part.serves settings × (g.P.Part.settings p ≡ settings) × g.P.Part.is_after p []) (λ p. g.P.Part.settings p ≡ settings) (λ p h. h.1) c.in_ok-parts.parts.items c.in_ok-parts.ensures.each) ∣₁;
      seen = ∣ ((λ part. []), (λ k p got. (all_got (λ p. IsServed g.P.Part.serves settings × (g.P.Part.settings p ≡ settings) × g.P.Part.is_after p []) c.in_ok-parts.parts.items k p c.in_ok-parts.ensures.each got).2)) ∣₁;
    }

pub returns-clause-opened : goal.returns-clause-opened
returns-clause-opened g c =
    let settings = settings_of c.args.options in
    let some : 0 < c.args.options.parts = omega (arith, c.if-options-eq0.false) in (
      record {
        served = all_said (IsServed g.P.Part.serves settings) (λ p. g.P.Part.settings p ≡ settings) (λ p. g.P.Part.is_after p []) c.in_ok-parts.parts.items (omega (arith, some, c.in_ok-parts.ensures.count)) c.in_ok-parts.ensures.each;
        whole = one_part (is_ordered c.args.options.kind) c.args.options.parts (sym c.is_split_order.ensures ∙ c.if-is_split_order.false);
      },
      refl,
      (λ k p got. (all_got (λ p. IsServed g.P.Part.serves settings × (g.P.Part.settings p ≡ settings) × g.P.Part.is_after p []) c.in_ok-parts.parts.items k p c.in_ok-parts.ensures.each got).2),
    )
