use Rattle.std.proofs.Common.{arith, ◌≤◌}
use Rattle.mcode.specs.Frame.{frame_of}
use Rattle.verifier_types.proofs.ShapeLemmas.{depth_is, below_cut, cut_below}
use Rattle.verifier_types.proofs.shape.Shape.is_below_at_cut.Goals as goal

pub returns-then-not-listed_above : goal.returns-then-not-listed_above
returns-then-not-listed_above g c =
    let inside = c.self.inside in
    let low : c.args.frame.now.depth ≤ inside.depth = omega (arith, c.requires.deep, depth_is _ _ _ _ c.self.view_is) in (
      λ never. absurd (cc),
      λ below.
          let parts = cut_below inside.depth inside.places.items inside.bound.items c.args.self.now (frame_of c.args.frame.now) c.self.view_is low c.requires.frame below in
          let yes = c.listed_above.ensures.1 (rw (c.as_slice.ensures.value, c.as_slice-2.ensures) parts.0) in
          absurd (cc),
    )

pub returns : goal.returns
returns g c =
    let inside = c.self.inside in
    let low : c.args.frame.now.depth ≤ inside.depth = omega (arith, c.requires.deep, depth_is _ _ _ _ c.self.view_is) in (
      λ all.
          let above = c.listed_above.ensures.0 c.if-not-listed_above.false in
          let above = rw (c.as_slice.ensures.value, c.as_slice-2.ensures) at above in
          let slots = c.all_bound.ensures.0 all in
          let slots = rw (c.as_slice-3.ensures.value, c.as_slice-4.ensures) at slots in
          below_cut inside.depth inside.places.items inside.bound.items c.args.self.now (frame_of c.args.frame.now) c.self.view_is low above slots,
      λ below.
          let parts = cut_below inside.depth inside.places.items inside.bound.items c.args.self.now (frame_of c.args.frame.now) c.self.view_is low c.requires.frame below in
          c.all_bound.ensures.1 (rw (c.as_slice-3.ensures.value, c.as_slice-4.ensures) parts.1),
    )
