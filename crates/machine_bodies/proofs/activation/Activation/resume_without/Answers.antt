use Rattle.std.proofs.Common.{refl, sym, ap, ◌∙◌, is_some}
use Rattle.std.proofs.lemmas.Bool.{false≢true}
use Rattle.machine_bodies.proofs.StandLemmas.{targets, target_framed, resumed_at}
use Rattle.machine_bodies.proofs.activation.Activation.resume_without.Goals as goal

pub unreachable-requires : goal.unreachable-requires
unreachable-requires g c =
    let waits = c.requires.2 in
    let some = targets waits c.fetch.result c.fetch.ensures.read in
    let none = sym c.target.ensures ∙ c.in_default.is in
    false≢true (sym (ap is_some none) ∙ some)

pub frame_depth-self-requires : goal.frame_depth-self-requires
frame_depth-self-requires g c =
    target_framed c.requires.2 c.fetch.result c.fetch.ensures.read c.in-Some.landing (sym c.target.ensures ∙ c.in-Some.is)

pub returns-clause-on : goal.returns-clause-on
returns-clause-on g c t s waits =
    resumed_at waits c.fetch.result c.fetch.ensures.read c.in-Some.landing (sym c.target.ensures ∙ c.in-Some.is) refl refl refl waits.none refl c.frame_depth-self.ensures
