-- The replies to walks by keys.
use Rattle.std.proofs.Common.{◌≡◌, ◌≢◌, ◌<◌, inl, inr, refl, ap, ◌∙◌, Option, Err, arith}
use Rattle.std.specs.Prelude.{IsTrue}
use Rattle.term_core.specs.Datum.{Datum}
use Rattle.part_core.specs.declared.fault.Fault.{Fault}
use Rattle.part_core.specs.declared.fault.Fault.TheVariants as fault
use Rattle.part_core.specs.FaultNumbers.{fault_number}
use Rattle.tables.specs.Turns.{Home, Views, Follows}
use Rattle.tables.specs.OneThread.{TableState}
use Rattle.walks.specs.OneThread.{key_after}
use Rattle.walks.specs.Keys.{FoundFirst, FoundNext, RefusedNext}
use Rattle.walks.proofs.OneThreadLemmas.{found_first, found_next, refused_next}
use Rattle.tool_script.specs.Command.{Ask}
use Rattle.tool_script.specs.Script.{error, answer_term, key_or_end}
use Rattle.tool_script.specs.State.{IsAt, IsAnswered, IsReplied}

pub first_answered : (h : Home) (before now : Views → Type 0) (key : Option Datum) → IsTrue h.alone → Follows before now (FoundFirst h 0 key) → IsAnswered h.options h.number before now Ask.First (key_or_end key)
first_answered h before now key alone follows = λ t at.
    let next = follows at.views at.seen in
    let found = found_first h t at.views next.0 0 key (omega arith) alone at.options at.states next.2 in
    (ap key_or_end found.0, record { options = at.options; views = next.0; seen = next.1; states = found.1 })

pub next_answered : (h : Home) (before now : Views → Type 0) (k : Datum) (next : Option Datum) → IsTrue h.alone → 0 < h.options.parts → Follows before now (FoundNext h k next) → IsAnswered h.options h.number before now (Ask.Next k) (key_or_end next)
next_answered h before now k next alone some follows = λ t at.
    let behind = follows at.views at.seen in
    let found = found_next h t at.views behind.0 k next some alone at.options at.states behind.2 in
    (ap answer_term found.0, record { options = at.options; views = behind.0; seen = behind.1; states = found.1 })

pub next_refused : (h : Home) (before now : Views → Type 0) (k : Datum) (f : Fault) (reply : Datum) → IsTrue h.alone → 0 < h.options.parts → Follows before now (RefusedNext h k f) → IsReplied {U = Unit {0}} (Err f) reply → IsAnswered h.options h.number before now (Ask.Next k) reply
next_refused h before now k f reply alone some follows replied = λ t at.
    let behind = follows at.views at.seen in
    by t at f behind.0 behind.1 behind.2 replied.0 replied.1
  where
    by : (t : TableState) (at : IsAt h.options before t) (f : Fault) (w : Views) → now w → RefusedNext h k f at.views w → f ≢ fault.Memory → reply ≡ error (fault_number f) → (reply ≡ answer_term (key_after t h.number k)) × IsAt h.options now t
    by t at f w seen (inr refused) other is = absurd (other refused.0)
    by t at fault.Memory w seen (inl refused) other is = absurd (other refl)
    by t at fault.BadKey w seen (inl refused) other is =
        let found = refused_next h t at.views w k some alone at.options at.states refused in
        (is ∙ ap answer_term found.0, record { options = at.options; views = w; seen = seen; states = found.1 })
    by t at fault.TooSmall w seen (inl refused) other is = absurd refused
    by t at fault.FixLimit w seen (inl refused) other is = absurd refused
    by t at fault.NotFixed w seen (inl refused) other is = absurd refused
    by t at fault.CursorOutside w seen (inl refused) other is = absurd refused
