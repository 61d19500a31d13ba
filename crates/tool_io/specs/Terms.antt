-- The terms of an input, and why there are none.
use Rattle.std.specs.Prelude.{ℕ, ◌≡◌, ◌≢◌, ◌<◌, ◌⊎◌, ◌↔◌, Option, IfSome, List, [], length}
use Rattle.std.specs.Str.{IsValidUpTo}
use Rattle.term_core.specs.Datum.{Datum}
use Rattle.term_text.specs.Text.{Spells}
use Rattle.term_text.specs.Causes.{HasCause}
use Rattle.term_text.specs.declared.fault.TextFault.{TextFault}
use Rattle.term_text.specs.declared.fault.TextFault.TheVariants as text
use Rattle.tool_io.specs.declared.fault.ToolFault.{ToolFault}
use Rattle.tool_io.specs.declared.fault.ToolFault.TheVariants as fault

-- `P` is true of what the reader gave: of exactly what it has left where that is known, else of some input
abbrev pub OfInput : Option (List ℕ) → (List ℕ → Type 0) → Type 0
OfInput known P = (input : List ℕ) × IfSome known (λ bytes. input ≡ bytes) × P input

-- an input spells these terms, at least one
pub record HasTerms (input : List ℕ) (terms : List Datum) : Type 0 where
  pub spelled : Spells input terms
  pub some : 0 < length terms

-- `P` is true of the terms that the reader gave, at least one
abbrev pub OfTerms : Option (List ℕ) → (List Datum → Type 0) → Type 0
OfTerms known P = OfInput known (λ input. (terms : List Datum) × HasTerms input terms × P terms)

-- why an input spells no terms: the fault that is named is at its byte, and bytes that are not UTF-8 are named as such
pub record IsNoText (input : List ℕ) (f : TextFault) : Type 0 where
  pub unspelled : (ds : List Datum) → ¬ Spells input ds
  pub other : f ≢ text.Memory
  pub cause : HasCause input f
  pub bad_utf8 : (at : ℕ) → (f ≡ text.BadUtf8 at) ↔ IsValidUpTo input at

-- why the terms of an input (maybe none) can't be returned: out of memory, a reader that failed, or a text that spells
-- no terms
abbrev pub IsUnspelled : List ℕ → ToolFault → Type 0
IsUnspelled input fault.Memory = Unit {0}
IsUnspelled input fault.ReadFailed = Unit {0}
IsUnspelled input (fault.Text f) = IsNoText input f
IsUnspelled input f = ⊥

-- an input that spells no term: the fault is a syntax error at its end
pub record IsEmpty (input : List ℕ) (f : TextFault) : Type 0 where
  pub spelled : Spells input []
  pub place : f ≡ text.Syntax (length input)

-- why an input has no terms: its text is not valid, or it has no term
abbrev pub IsTextFault : List ℕ → TextFault → Type 0
IsTextFault input f = IsNoText input f ⊎ IsEmpty input f

-- why the terms of an input (at least one) can't be returned: out of memory, a reader that failed, or the text
abbrev pub IsUnread : List ℕ → ToolFault → Type 0
IsUnread input fault.Memory = Unit {0}
IsUnread input fault.ReadFailed = Unit {0}
IsUnread input (fault.Text f) = IsTextFault input f
IsUnread input f = ⊥
