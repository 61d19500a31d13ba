use Rattle.std.proofs.Common.{◌≡◌, ◌≤◌, length, Some, ap, ◌∙◌, arith}
use Rattle.mcode.specs.Machine.{map_made}
use Rattle.machine_stack.specs.Keys.{keys_in}
use Rattle.machine_stack.specs.Stack.{stack_at}
use Rattle.machine_stack.proofs.MakeLemmas.{map_is}
use Rattle.machine_stack.proofs.StackLemmas.{stack_height}
use Rattle.machine_stack.proofs.places.Places.make_map.Goals as goal

pub returns-clause-flow : goal.returns-clause-flow
returns-clause-flow g c p object held same pc slots are on =
    let keys = c.in_ok-keys.keys.items in
    let stack = stack_at c.args.self.now.terms c.args.height in
    let deep = c.requires.deep in
    let deep = rw c.in_ok-keys.ensures.keys at deep in
    let deep : length keys ≤ length stack = omega (arith, deep, stack_height c.args.self.now.terms c.args.height c.requires.within) in
    let keys_are : keys_in p.constants c.args.keys ≡ Some keys = rw same c.in_ok-keys.ensures.keys in (
      slots,
      are,
      c.push_or_jump.ensures.flow p pc slots
          ∙ map_is p object pc slots c.args.keys c.args.otherwise keys stack _ _ _ keys_are (omega (arith, c.len-count.ensures, c.in_ok-keys.keys.ok.0)) deep c.in_ok-values.ensures.rest
          (c.in_ok-map.ensures ∙ ap (map_made keys) c.in_ok-values.ensures.terms),
    )
