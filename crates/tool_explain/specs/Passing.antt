-- A text that is passed to a writer bit by bit.
use Rattle.std.specs.Prelude.{ℕ, ◌≡◌, Option, List, ◌++◌}
use Rattle.std.specs.Io.KnownBytes.{Appends}
use Rattle.tool_io.specs.declared.fault.ToolFault.{ToolFault}
use Rattle.tool_io.specs.declared.fault.ToolFault.TheVariants as fault

-- a writer gained the beginning of a whole text; the gathered lines and what is left are the rest of it
pub record Leads (whole : List ℕ) (start now : Option (List ℕ)) (lines left : List ℕ) : Type 0 where
  pub part : List ℕ
  pub gained : Appends start now part
  pub is : part ++ (lines ++ left) ≡ whole

-- a writer gained the beginning of a whole text, maybe nothing
pub record GainsFront (whole : List ℕ) (start now : Option (List ℕ)) : Type 0 where
  pub front : List ℕ
  pub rest : List ℕ
  pub is : whole ≡ front ++ rest
  pub gained : Appends start now front

-- how passing ends early: out of memory, with a beginning of the text written; or the writer failed, and its contents are
-- unspecified
abbrev pub StopsPassing : (whole : List ℕ) → (start now : Option (List ℕ)) → ToolFault → Type 0
StopsPassing whole start now fault.Memory = GainsFront whole start now
StopsPassing whole start now fault.WriteFailed = Unit {0}
StopsPassing whole start now f = ⊥

-- a text is passed on: whatever whole text it belongs to
abbrev pub Passes : (text : List ℕ) → (before after : Option (List ℕ)) → (lines more : List ℕ) → Type 0
Passes text before after lines more =
    (whole left : List ℕ) (start : Option (List ℕ)) → Leads whole start before lines (text ++ left)
    → Leads whole start after more left

-- passing a text on ends early
abbrev pub Stops : (text : List ℕ) → (before after : Option (List ℕ)) → (lines : List ℕ) → ToolFault → Type 0
Stops text before after lines f =
    (whole left : List ℕ) (start : Option (List ℕ)) → Leads whole start before lines (text ++ left)
    → StopsPassing whole start after f
