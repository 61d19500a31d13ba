use Rattle.std.proofs.Common.{◌∙◌, refl, ap, arith}
use Rattle.mcode.specs.Program.{Program}
use Rattle.machine_bodies.proofs.activation.Activation.new.Goals as goal

pub returns : goal.returns
returns g c =
    let own = c.depth.ensures in
    record {
      body = refl;
      pc = refl;
      height = refl;
      cells = refl;
      slots = c.in_ok-slots.ensures.count ∙ c.slots.ensures.value ∙ ap (λ (p : Program). p.slots) c.code.ensures;
      typed = λ seen. record {
        depths = own.depths;
        shapes = own.shapes;
        typing = own.typing;
        seen = seen;
        deepest = λ pc i depth found at. omega (arith, own.most.greatest pc i depth found at, c.in_ok-stack.ensures.count);
        few = omega (arith, c.in_ok-stack.ensures.count, c.depth.type_inv);
      };
    }
