-- Lines that are gathered, and then written.
use Rattle.std.specs.Prelude.{ℕ, ◌≡◌, Option, List, [], ◌∷◌, ◌++◌}
use Rattle.std.specs.Io.KnownBytes.{Appends}
use Rattle.std.specs.Str.{encode_utf8_all}
use Rattle.term_core.specs.Datum.{Datum}
use Rattle.term_text.specs.Canonical.{text_as}
use Rattle.term_text.specs.declared.write.Form.{Form}
use Rattle.term_text.specs.declared.write.Form.TheVariants as forms
use Rattle.tool_io.specs.declared.fault.ToolFault.{ToolFault}
use Rattle.tool_io.specs.declared.fault.ToolFault.TheVariants as fault

-- the text of a term in the given form, in UTF-8
abbrev pub text_in : Form → Datum → List ℕ
text_in f d = encode_utf8_all (text_as f d)

-- the text of a term in the given form, in UTF-8, followed by a dot and a line feed
abbrev pub line_in : Form → Datum → List ℕ
line_in f d = text_in f d ++ 46 ∷ 10 ∷ []

-- the canonical text of a term, in UTF-8
abbrev pub text_of : Datum → List ℕ
text_of d = text_in forms.Canonical d

-- the canonical text of a term, in UTF-8, followed by a dot and a line feed
abbrev pub line : Datum → List ℕ
line d = line_in forms.Canonical d

-- gathered bytes either reach the writer or stay gathered: none is lost and the order stays
pub record Passes (before after : Option (List ℕ)) (old new : List ℕ) : Type 0 where
  pub part : List ℕ
  pub gained : Appends before after part
  pub kept : part ++ new ≡ old

-- how a command ends when memory runs out: the gathered lines are written; if the writer fails, its contents are
-- unspecified
abbrev pub EndsBy : Option (List ℕ) → Option (List ℕ) → List ℕ → ToolFault → Type 0
EndsBy old new lines fault.Memory = Appends old new lines
EndsBy old new lines fault.WriteFailed = Unit {0}
EndsBy old new lines f = ⊥
