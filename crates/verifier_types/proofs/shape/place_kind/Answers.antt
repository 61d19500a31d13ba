use Rattle.std.proofs.Common.{rules, ap}
use Rattle.std.proofs.lemmas.Fn.{always_returns_same}
use Rattle.std.specs.Ordering.{nat_cmp}
use Rattle.mcode.specs.Program.{place_number}
use Rattle.mcode.specs.declared.kind.Kind.TheVariants as kind
use Rattle.mcode.proofs.RiseLemmas.{number_found, number_between, numbers_partition}
use Rattle.term_core.proofs.RowLemmas.{nat_cmp-equal}
use Rattle.verifier_types.proofs.ShapeLemmas.{found_kind}
use Rattle.verifier_types.proofs.shape.place_kind.Goals as goal

pub returns-in-Ok : goal.returns-in-Ok
returns-in-Ok c =
    let places = c.args.places.now in
    let same = c.in-Ok.ensures.position (λ p. nat_cmp p.0 c.args.place) (always_returns_same _ _ _ (λ a r f' k. search rules)) in
    ap found_kind (number_found place_number places c.args.place c.in-Ok.index (0, kind.Any) c.requires c.in-Ok.ensures.bound (nat_cmp-equal _ _ (same (0, kind.Any))))

pub returns-in-Err : goal.returns-in-Err
returns-in-Err c =
    let places = c.args.places.now in
    ap found_kind (number_between place_number places c.args.place c.in-Err.field-0
    (c.in-Err.ensures.position (λ p. nat_cmp p.0 c.args.place) (always_returns_same _ _ _ (λ a r f' k. search rules)) (numbers_partition place_number places c.args.place c.requires)))
