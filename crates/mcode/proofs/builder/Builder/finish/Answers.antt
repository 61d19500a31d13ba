use Rattle.std.proofs.Common.{◌-◌, length, ap, arith, ◌∙◌}
use Rattle.mcode.specs.Program.{Program}
use Rattle.mcode.specs.Building.{finished, with_stored}
use Rattle.mcode.proofs.BuildLemmas.{some_begun, finished_some, finished_none}
use Rattle.mcode.proofs.builder.Builder.finish.Goals as goal

pub overflow_sub-count : goal.overflow_sub-count
overflow_sub-count g c =
    let some = some_begun c.self.inside.code c.self.inside.main c.in-Some.main c.in-Some.is c.self.invariant in
    omega (arith, some, ap length c.routines-count.ensures.value)

pub store-requires : goal.store-requires
store-requires g c =
    let some = some_begun c.self.inside.code c.self.inside.main c.in-Some.main c.in-Some.is c.self.invariant in
    omega (arith, some, ap length c.routines-count.ensures.value, ap (λ (p : Program). length p.around.routines) c.exchange-newest.ensures.code)

pub returns-in-Some : goal.returns-in-Some
returns-in-Some g c =
    finished_some c.self.inside.code c.exchange-newest.new.self c.store.new.self c.self.inside.main c.in-Some.main c.exchange-newest.result c.in-Some.is c.exchange-newest.ensures.code c.exchange-newest.ensures.before c.self.invariant
    (c.store.ensures ∙ ap (λ n. with_stored c.exchange-newest.new.self (n - 1) c.exchange-newest.result) (ap length c.routines-count.ensures.value))
    ∙ ap finished c.self.view_is

pub returns-in_default : goal.returns-in_default
returns-in_default g c =
    finished_none c.self.inside.code c.self.inside.main c.in_default.is c.routines-count.ensures.within c.self.invariant
    ∙ ap finished c.self.view_is
