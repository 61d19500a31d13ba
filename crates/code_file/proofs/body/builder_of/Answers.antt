use Rattle.std.proofs.Common.{◌≡◌, length, ap}
use Rattle.code_file.proofs.BodyLemmas.{begun_with, one_begun, few_begun, all_begun}
use Rattle.code_file.proofs.body.builder_of.Goals as goal

pub loop-constant-init : goal.loop-constant-init
loop-constant-init g c = begun_with _ _ _ _ c.in_ok-builder.ensures c.reverse.ensures.items

pub add_constant-requires : goal.add_constant-requires
add_constant-requires g c =
    few_begun _ _ _ c.pop.new.self.items c.in-Some.constant c.in-Some.ensures.items c.loop-constant.invariant c.requires.constants

pub loop-constant-preserved : goal.loop-constant-preserved
loop-constant-preserved g c =
    one_begun _ _ c.in-Some.constant _ _ _ c.in_ok-add_constant.ensures c.in-Some.ensures.items c.loop-constant.invariant

pub returns : goal.returns
returns g c =
    all_begun _ _ c.loop-constant.left.items c.loop-constant.left.len c.loop-constant.left.ok.0 c.in_default.ensures.cases.0 c.loop-constant.invariant
