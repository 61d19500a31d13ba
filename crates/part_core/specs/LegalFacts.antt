-- That a history is legal is a fact: there is at most one proof of it, so that types can keep it.
use Rattle.std.specs.Prelude.{[], ◌∷◌}
use Rattle.std.specs.Coded.{codes}
use Rattle.std.proofs.Props.{props}
use Rattle.term_core.specs.DatumCode.{datum_code}
use Rattle.part_core.specs.declared.settings.Settings.{Settings}
use Rattle.part_core.specs.Acts.{Act, Answer, Entry, History, IsAsked}
use Rattle.part_core.specs.Acts.Act.{Visit}
use Rattle.part_core.specs.Rows.{PartState, opening}
use Rattle.part_core.specs.After.{after}
use Rattle.part_core.specs.Legal.{IsRight, IsLegalFrom, IsLegal}

answers_set : IsSet Answer
answers_set = hlevel (codes, datum_code)

asked_prop : (act : Act) → IsProp (IsAsked act)
asked_prop (Visit purpose p scope wanted) = hlevel props
asked_prop act = hlevel

right_prop : (o : Settings) (s : PartState) (e : Entry) → IsProp (IsRight o s e)
right_prop o s e = hlevel (props, asked_prop, answers_set)

pub legal_from_prop : (o : Settings) (s : PartState) (es : History) → IsProp (IsLegalFrom o s es)
legal_from_prop o s [] = hlevel
legal_from_prop o s (e ∷ es) = hlevel (right_prop o s e, legal_from_prop o (after o s e.session e.act) es)

pub legal_prop : (o : Settings) (log : History) → IsProp (IsLegal o log)
legal_prop o log = legal_from_prop o (opening o) log
