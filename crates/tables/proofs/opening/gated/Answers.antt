use Rattle.std.proofs.Common.{refl, ◌∙◌}
use Rattle.tables.specs.Options.{settings_of}
use Rattle.tables.proofs.OpeningLemmas.{all_opened}
use Rattle.tables.proofs.opening.gated.Goals as goal

pub new_gates-requires-clause-dealt : goal.new_gates-requires-clause-dealt
new_gates-requires-clause-dealt g c = c.in_ok-sessions.ensures.1 (settings_of c.args.options)

pub returns-clause-opened : goal.returns-clause-opened
returns-clause-opened g c = (
  refl,
  all_opened c.args.options c.in_ok-gates.gates.items c.new_gates.new.sessions.items c.requires.some
      (c.in_ok-gates.ensures.dealt.0 ∙ c.requires.count) (c.new_gates.ensures.count ∙ c.in_ok-sessions.ensures.0) c.in_ok-gates.ensures.dealt.1,
)
