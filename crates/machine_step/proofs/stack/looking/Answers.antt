use Rattle.std.proofs.Common.{refl, arith}
use Rattle.mcode.specs.declared.instr.Instr.TheVariants as instr
use Rattle.mcode.specs.declared.kind.Kind.TheVariants as kind
use Rattle.machine_step.proofs.TableLemmas.{tests, dropped_is, answered_is}
use Rattle.machine_step.proofs.stack.looking.Goals as goal

pub returns-in-Tuple-clause-flow : goal.returns-in-Tuple-clause-flow
returns-in-Tuple-clause-flow g c =
    tests c.args.instr (instr.Tuple c.in-Tuple.size c.in-Tuple.otherwise) (kind.Tuple c.in-Tuple.size) c.in-Tuple.otherwise c.args.height c.args.stack.now.terms c.test.result c.in-Tuple.is c.requires.deep (λ p. refl) c.requires.within (λ p object pc d stack slots. refl) c.test.ensures.flow

pub returns-in-Cons-clause-flow : goal.returns-in-Cons-clause-flow
returns-in-Cons-clause-flow g c =
    tests c.args.instr (instr.Cons c.in-Cons.otherwise) kind.Cons c.in-Cons.otherwise c.args.height c.args.stack.now.terms c.test-in-Cons.result c.in-Cons.is c.requires.deep (λ p. refl) c.requires.within (λ p object pc d stack slots. refl) c.test-in-Cons.ensures.flow

pub returns-in-Map-clause-flow : goal.returns-in-Map-clause-flow
returns-in-Map-clause-flow g c =
    tests c.args.instr (instr.Map c.in-Map.otherwise) kind.Map c.in-Map.otherwise c.args.height c.args.stack.now.terms c.test-in-Map.result c.in-Map.is c.requires.deep (λ p. refl) c.requires.within (λ p object pc d stack slots. refl) c.test-in-Map.ensures.flow

pub returns-in-Int-clause-flow : goal.returns-in-Int-clause-flow
returns-in-Int-clause-flow g c =
    tests c.args.instr (instr.Int c.in-Int.otherwise) kind.Int c.in-Int.otherwise c.args.height c.args.stack.now.terms c.test-in-Int.result c.in-Int.is c.requires.deep (λ p. refl) c.requires.within (λ p object pc d stack slots. refl) c.test-in-Int.ensures.flow

pub returns-in-Bool-clause-flow : goal.returns-in-Bool-clause-flow
returns-in-Bool-clause-flow g c =
    tests c.args.instr (instr.Bool c.in-Bool.otherwise) kind.Bool c.in-Bool.otherwise c.args.height c.args.stack.now.terms c.test-in-Bool.result c.in-Bool.is c.requires.deep (λ p. refl) c.requires.within (λ p object pc d stack slots. refl) c.test-in-Bool.ensures.flow

pub returns-in-Equal-clause-flow : goal.returns-in-Equal-clause-flow
returns-in-Equal-clause-flow g c = rw c.in-Equal.is c.equal.ensures.flow

pub returns-in-Branch-clause-flow : goal.returns-in-Branch-clause-flow
returns-in-Branch-clause-flow g c = rw c.in-Branch.is c.branch-stack.ensures.flow

pub returns-in-Drop-clause-flow : goal.returns-in-Drop-clause-flow
returns-in-Drop-clause-flow g c =
    let deep = c.requires.deep.1 in
    let deep = rw c.in-Drop.is at deep in
    rw c.in-Drop.is (λ p object held pc slots are on. (slots, are, dropped_is p object pc slots c.args.stack.now.terms c.args.height (omega (arith, deep)) c.requires.within))

pub returns-in-Answer-clause-flow : goal.returns-in-Answer-clause-flow
returns-in-Answer-clause-flow g c =
    let deep = c.requires.deep.1 in
    let deep = rw c.in-Answer.is at deep in
    rw c.in-Answer.is (λ p object held pc slots are on. (slots, are, answered_is p object pc slots c.args.stack.now.terms c.args.height (omega (arith, deep)) c.requires.within))

pub returns-in-Tuple-clause-within : goal.returns-in-Tuple-clause-within
returns-in-Tuple-clause-within g c = c.test.ensures.within

pub returns-in-Cons-clause-within : goal.returns-in-Cons-clause-within
returns-in-Cons-clause-within g c = c.test-in-Cons.ensures.within

pub returns-in-Map-clause-within : goal.returns-in-Map-clause-within
returns-in-Map-clause-within g c = c.test-in-Map.ensures.within

pub returns-in-Int-clause-within : goal.returns-in-Int-clause-within
returns-in-Int-clause-within g c = c.test-in-Int.ensures.within

pub returns-in-Bool-clause-within : goal.returns-in-Bool-clause-within
returns-in-Bool-clause-within g c = c.test-in-Bool.ensures.within

pub returns-in-Equal-clause-within : goal.returns-in-Equal-clause-within
returns-in-Equal-clause-within g c = c.equal.ensures.within

pub returns-in-Branch-clause-within : goal.returns-in-Branch-clause-within
returns-in-Branch-clause-within g c = c.branch-stack.ensures.within

pub returns-in-Jump-clause-within : goal.returns-in-Jump-clause-within
returns-in-Jump-clause-within g c = c.requires.within

pub returns-in-Drop-clause-within : goal.returns-in-Drop-clause-within
returns-in-Drop-clause-within g c = omega (arith, c.requires.within)

pub returns-in-Jump-clause-flow : goal.returns-in-Jump-clause-flow
returns-in-Jump-clause-flow g c = rw c.in-Jump.is (λ p object held pc slots are on. (slots, are, refl))

pub returns-in-NoAnswer-clause-flow : goal.returns-in-NoAnswer-clause-flow
returns-in-NoAnswer-clause-flow g c = rw c.in-NoAnswer.is (λ p object held pc slots are on. (slots, are, refl))
