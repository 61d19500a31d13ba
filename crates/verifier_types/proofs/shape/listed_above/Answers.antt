use Rattle.std.proofs.Common.{get_or, refl, ◌≡◌, ◌≢◌, IsTrue, Some, slice_get}
use Rattle.std.proofs.lemmas.List.{get_or_default, take_all}
use Rattle.std.proofs.lemmas.List.Elements.{All-more}
use Rattle.mcode.specs.Kind.{is_below}
use Rattle.mcode.specs.Program.{place_number}
use Rattle.verifier_types.specs.Shape.{place_kind}
use Rattle.mcode.specs.declared.kind.Kind.TheVariants as kind
use Rattle.verifier_types.proofs.CursorLemmas.{IsFirstFrom, front_above, front_passed, here_below, below_here, passed_more, passed_one}
use Rattle.verifier_types.proofs.shape.listed_above.Goals.{then-is_at, else-is_at+else-not-is_any}
use Rattle.verifier_types.proofs.shape.listed_above.Goals as goal

pub loop-index-init : goal.loop-index-init
loop-index-init c =
    let places = c.args.places.now in
    let listed = c.args.listed.now in
    let same = c.same_front-front.ensures in (
      front_above places listed c.same_front-front.result c.requires.places same.places same.same,
      front_passed places listed c.same_front-front.result c.requires.listed same.listed same.same,
    )

pub returns-then-not-is_any : goal.returns-then-not-is_any
returns-then-not-is_any c =
    let listed = c.args.listed.now in
    let i = c.loop-index.index in
    let entry = get_or listed i (0, kind.Any) in
    let first : IsFirstFrom c.args.places.now (place_number entry) c.skip_below-next.result = record { before = c.skip_below-next.ensures.before; here = c.skip_below-next.ensures.here } in
    let other : entry.1 ≢ kind.Any = λ same. let yes = c.is_any.ensures.1 same in absurd (cc) in (
      λ never. absurd (cc),
      λ above.
          let here = below_here c.args.places.now c.skip_below-next.result entry c.requires.places first other (above i (0, kind.Any) c.loop-index-test.true) in
          let yes = c.is_at.ensures.1 here in
          absurd (cc),
    )

pub loop-index-preserved : goal.loop-index-preserved
loop-index-preserved c =
    let places = c.args.places.now in
    let listed = c.args.listed.now in
    let i = c.loop-index.index in
    let inside = c.loop-index-test.true in
    let entry = get_or listed i (0, kind.Any) in
    let before = c.skip_below-next.ensures.before in
    let first : IsFirstFrom c.args.places.now (place_number entry) c.skip_below-next.result = record { before = before; here = c.skip_below-next.ensures.here } in
    let more = All-more (λ place. IsTrue (is_below (place_kind places (place_number place)) place.1)) listed i (0, kind.Any) inside c.loop-index.invariant.0 in
    let is = get_or_default listed i (0, kind.Any) entry inside in
    elim c.if-is_at.branch [
      | then-is_at w ↦
          let here : slice_get places c.skip_below-next.result ≡ Some entry = c.is_at.ensures.0 w.if-is_at.true in
          (more (here_below places c.skip_below-next.result entry c.requires.places first here), rw w.next-is (passed_one places listed c.skip_below-next.result i entry c.requires.listed is before here))
      | else-is_at+else-not-is_any w ↦
          let any : entry.1 ≡ kind.Any = w.is_any.ensures.0 w.if-not-is_any.false in
          (more (rw any refl), rw w.next-is (passed_more places listed c.skip_below-next.result i entry c.requires.listed is before))
    ]

pub returns : goal.returns
returns c =
    let all = c.loop-index.invariant.0 in
    let all = rw (take_all c.loop-index.index c.args.listed.now c.loop-index-test.false) at all in
    (λ yes. all, λ above. refl)
