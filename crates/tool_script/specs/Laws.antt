-- Laws of the replies to a script, and of what a shell writes.
use Rattle.std.specs.Prelude.{ℕ, ◌≡◌, List, [], ◌∷◌, ◌++◌, flat_map, true}
use Rattle.term_core.specs.Datum.{Datum}
use Rattle.term_text.specs.Text.{Spells}
use Rattle.tool_io.specs.Lines.{line}
use Rattle.tool_script.specs.declared.line.Effect.TheVariants as effect
use Rattle.tool_script.specs.Line.{AreWholeLines, IsLineBefore, effect_of, is_empty}
use Rattle.tool_script.specs.Script.{ScriptState, beginning}
use Rattle.tool_script.specs.Replied.{AreReplies}
use Rattle.tool_script.specs.Shell.{Goes, Answered}

-- from a state, the same terms always have the same replies
abbrev pub RepliesAreOne : Type 0
RepliesAreOne =
    (st : ScriptState) (terms a b : List Datum) → AreReplies st terms a → AreReplies st terms b
    → a ≡ b

-- From a state and a pending text, a shell's output for an input is determined, and so is the state after it.
abbrev pub ShellOutputIsOne : Type 0
ShellOutputIsOne =
    (st p q : ScriptState) (begun input a b : List ℕ) → Goes st begun input a p → Goes st begun input b q
    → (a ≡ b) × (p ≡ q)

-- a line contains whole commands: it ends with its line feed, has a dot at which it is examined, and spells these terms
pub record IsCommandLine (bytes : List ℕ) (terms : List Datum) : Type 0 where
  pub whole : (rest : List ℕ) → IsLineBefore bytes rest
  pub looked_at : effect_of [] bytes ≡ effect.LooksAt
  pub spells : Spells bytes terms

-- each of these lines contains whole commands
abbrev pub AreCommandLines : List (List ℕ × List Datum) → Type 0
AreCommandLines [] = Unit {0}
AreCommandLines (row ∷ rows) = IsCommandLine row.0 row.1 × AreCommandLines rows

-- the output of a shell for lines that contain whole commands is the replies to a script of these commands
abbrev pub LinesAreAScript : Type 0
LinesAreAScript =
    (rows : List (List ℕ × List Datum)) (out : List ℕ) → AreCommandLines rows
    → Answered beginning [] (flat_map (λ row. row.0) rows) out
    → (replies : List Datum) × AreReplies beginning (flat_map (λ row. row.1) rows) replies × (out ≡ flat_map line replies)

-- an empty line of an input is never inside of a term: the whole lines before it spell terms
abbrev pub IsUnbroken : List ℕ → Type 0
IsUnbroken input =
    (front blank rest : List ℕ) → input ≡ front ++ (blank ++ rest) → AreWholeLines front → IsLineBefore blank rest
    → is_empty blank ≡ true → (terms : List Datum) × Spells front terms

-- the output of a shell for a text that spells terms, with no empty line inside of a term, is the replies to a script
-- of these terms
abbrev pub AScriptIsAShell : Type 0
AScriptIsAShell =
    (input out : List ℕ) (terms : List Datum) → Spells input terms → IsUnbroken input → Answered beginning [] input out
    → (replies : List Datum) × AreReplies beginning terms replies × (out ≡ flat_map line replies)
