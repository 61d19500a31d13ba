-- Why an input has no terms.
use Rattle.std.proofs.Common.{◌≡◌, ◌≢◌, ◌↔◌, ◌⊎◌, ℕ, inl, inr, Option, Some, None, List, [], ◌∷◌, length, refl, arith}
use Rattle.std.specs.Str.{IsUtf8, IsValidUpTo, chars}
use Rattle.term_core.specs.Datum.{Datum}
use Rattle.term_text.specs.Text.{Spells, Sentences}
use Rattle.term_text.specs.Laws.{IsRefusal, HasOneFault}
use Rattle.term_text.specs.Causes.{HasCause}
use Rattle.term_text.specs.declared.fault.TextFault.{TextFault}
use Rattle.term_text.specs.declared.fault.TextFault.TheVariants as text
use Rattle.tool_io.specs.declared.fault.ToolFault.{ToolFault}
use Rattle.tool_io.specs.declared.fault.ToolFault.TheVariants as fault
use Rattle.tool_io.specs.Input.{IsReadFault}
use Rattle.tool_io.specs.Terms.{OfInput, IsNoText, IsUnspelled, IsUnread}
use Rattle.tool_io.specs.Wrapped.{of_text}

no_text : (input : List ℕ) (f : TextFault) → f ≢ text.Memory → ((ds : List Datum) → Spells input ds → f ≡ text.Memory) → HasCause input f → ((at : ℕ) → (f ≡ text.BadUtf8 at) ↔ IsValidUpTo input at) → IsNoText input f
no_text input f other only cause bad = record { unspelled = λ ds spelled. other (only ds spelled); other = other; cause = cause; bad_utf8 = bad }

refused_input : HasOneFault → (input : List ℕ) (f : TextFault) → IsRefusal input f → IsNoText input f
refused_input one input f r = record { unspelled = λ ds spelled. one.none input ds f spelled r; other = r.other; cause = r.cause; bad_utf8 = r.bad_utf8 }

-- a rejected text spells nothing, unless memory ran out
pub text_refused : (input : List ℕ) (f : TextFault) → ((ds : List Datum) → Spells input ds → f ≡ text.Memory) → HasCause input f → ((at : ℕ) → (f ≡ text.BadUtf8 at) ↔ IsValidUpTo input at) → IsUnspelled input (of_text f)
text_refused input text.Memory only cause bad = tt
text_refused input (text.TooDeep at) only cause bad = no_text input (text.TooDeep at) (λ e. absurd (cc)) only cause bad
text_refused input (text.TooLong at) only cause bad = no_text input (text.TooLong at) (λ e. absurd (cc)) only cause bad
text_refused input (text.DuplicateKey at) only cause bad = no_text input (text.DuplicateKey at) (λ e. absurd (cc)) only cause bad
text_refused input (text.Syntax at) only cause bad = no_text input (text.Syntax at) (λ e. absurd (cc)) only cause bad
text_refused input (text.BadUtf8 at) only cause bad = no_text input (text.BadUtf8 at) (λ e. absurd (cc)) only cause bad
text_refused input (text.IntegerRange at) only cause bad = no_text input (text.IntegerRange at) (λ e. absurd (cc)) only cause bad
text_refused input (text.UnsupportedEscape at) only cause bad = no_text input (text.UnsupportedEscape at) (λ e. absurd (cc)) only cause bad

-- an input that spells no term is a syntax error at its end
pub input_empty : (input : List ℕ) (terms : List Datum) → length terms ≡ 0 → Spells input terms → IsUnread input (fault.Text (text.Syntax (length input)))
input_empty input [] none spelled = inr (record { spelled = spelled; place = refl })
input_empty input (d ∷ ds) none spelled = absurd (omega (arith, none))

read_fault : (input : List ℕ) (f : ToolFault) → IsReadFault f → IsUnspelled input f
read_fault input fault.Memory h = tt
read_fault input fault.ReadFailed h = tt
read_fault input (fault.Text f) h = absurd h
read_fault input fault.BadInput h = absurd h
read_fault input fault.TooSmall h = absurd h
read_fault input fault.BadOptions h = absurd h
read_fault input (fault.Specification f) h = absurd h
read_fault input (fault.File f) h = absurd h
read_fault input (fault.Code f b) h = absurd h
read_fault input fault.WriteFailed h = absurd h

-- a fault that says that an input spells no terms also says that it does not have one
pub unspelled_is_unread : (input : List ℕ) (f : ToolFault) → IsUnspelled input f → IsUnread input f
unspelled_is_unread input fault.Memory h = tt
unspelled_is_unread input fault.ReadFailed h = tt
unspelled_is_unread input (fault.Text f) h = inl h
unspelled_is_unread input fault.BadInput h = absurd h
unspelled_is_unread input fault.TooSmall h = absurd h
unspelled_is_unread input fault.BadOptions h = absurd h
unspelled_is_unread input (fault.Specification f) h = absurd h
unspelled_is_unread input (fault.File f) h = absurd h
unspelled_is_unread input (fault.Code f b) h = absurd h
unspelled_is_unread input fault.WriteFailed h = absurd h

-- where reading fails, the terms of the input (maybe none) can't be returned
pub unspelled : (known : Option (List ℕ)) (f : ToolFault) → IsReadFault f → OfInput known (λ input. IsUnspelled input f)
unspelled None f h = ([], tt, read_fault [] f h)
unspelled (Some bytes) f h = (bytes, refl, read_fault bytes f h)

-- where reading fails, the terms of the input (at least one) can't be returned
pub unread : (known : Option (List ℕ)) (f : ToolFault) → IsReadFault f → OfInput known (λ input. IsUnread input f)
unread known f h =
    let none = unspelled known f h in
    (none.0, none.1, unspelled_is_unread none.0 f none.2)

-- ---- term by term

-- a fault of the text is a fault of the input
pub refusal_unspelled : HasOneFault → (input : List ℕ) (f : TextFault) → IsRefusal input f → IsUnspelled input (of_text f)
refusal_unspelled one input text.Memory r = tt
refusal_unspelled one input (text.TooDeep at) r = refused_input one input (text.TooDeep at) r
refusal_unspelled one input (text.TooLong at) r = refused_input one input (text.TooLong at) r
refusal_unspelled one input (text.DuplicateKey at) r = refused_input one input (text.DuplicateKey at) r
refusal_unspelled one input (text.Syntax at) r = refused_input one input (text.Syntax at) r
refusal_unspelled one input (text.BadUtf8 at) r = refused_input one input (text.BadUtf8 at) r
refusal_unspelled one input (text.IntegerRange at) r = refused_input one input (text.IntegerRange at) r
refusal_unspelled one input (text.UnsupportedEscape at) r = refused_input one input (text.UnsupportedEscape at) r

pub next_unspelled : HasOneFault → (input : List ℕ) (f : TextFault) → (f ≡ text.Memory) ⊎ IsRefusal input f → IsUnspelled input (of_text f)
next_unspelled one input f (inl memory) = rw memory tt
next_unspelled one input f (inr r) = refusal_unspelled one input f r

-- a text with no sentence is a syntax error at its end
pub nothing_first : (input : List ℕ) → IsUtf8 input → Sentences (chars input) [] → IsUnread input (fault.Text (text.Syntax (length input)))
nothing_first input utf8 s = inr (record { spelled = record { utf8 = utf8; sentences = s }; place = refl })
