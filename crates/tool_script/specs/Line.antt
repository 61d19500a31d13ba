-- The lines of an input, and what a line does to the pending text (the lines since the last that was examined or given
-- up).
use Rattle.std.specs.Prelude.{ℕ, ◌≡◌, ◌≢◌, ◌<◌, ◌-◌, ◌==◌, ◌&&◌, ◌||◌, Bool, true, false, Option, IfSome, if◌then◌else◌}
use Rattle.std.specs.Prelude.{List, [], ◌∷◌, ◌++◌, length, slice_index}
use Rattle.std.specs.Io.KnownBytes.{Consumes}
use Rattle.std.specs.Io.BufRead.{take_through, drop_through}
use Rattle.term_text.specs.Character.{line_feed, percent, dot, single_quote, double_quote, backslash, is_white_space}
use Rattle.term_text.specs.TokenReading.{begins_gap}
use Rattle.tool_script.specs.declared.line.Effect.{Effect}
use Rattle.tool_script.specs.declared.line.Effect.TheVariants as effect
use Rattle.tool_script.specs.declared.line.Within.{Within}
use Rattle.tool_script.specs.declared.line.Within.TheVariants as within
use Rattle.tool_script.specs.declared.line.Progress.{Progress}
use Rattle.tool_script.specs.declared.line.Progress.TheVariants as progress

-- the first line of an input, with its line feed if it has one; and the input after it
abbrev pub first_line : List ℕ → List ℕ
first_line input = take_through line_feed input

abbrev pub behind_line : List ℕ → List ℕ
behind_line input = drop_through line_feed input

-- an empty line: white space alone, or the end of the input
abbrev pub is_empty : List ℕ → Bool
is_empty [] = true
is_empty (c ∷ line) = is_white_space c && is_empty line

-- an idle line: white space or a comment alone, or the end of the input
abbrev pub is_idle : List ℕ → Bool
is_idle [] = true
is_idle (c ∷ line) = c == percent || (is_white_space c && is_idle line)

-- what the byte after this one is within: a percent sign begins a comment, and a line feed ends it; quotation marks begin
-- and end with the same mark, unless a backslash is before it
abbrev pub within_after : Within → ℕ → Within
within_after within.Nothing c =
    if c == percent then within.Comment else if c == single_quote || c == double_quote then within.Marks c else within.Nothing
within_after within.Comment c = if c == line_feed then within.Nothing else within.Comment
within_after (within.Marks mark) c =
    if c == mark then within.Nothing else if c == backslash then within.Escape mark else within.Marks mark
within_after (within.Escape mark) c = within.Marks mark

-- what the byte after these bytes is within
abbrev pub within_end : Within → List ℕ → Within
within_end w [] = w
within_end w (c ∷ bytes) = within_end (within_after w c) bytes

-- a dot within nothing that white space, a percent sign or the end follows
abbrev pub ends_term : Within → ℕ → List ℕ → Bool
ends_term within.Nothing c rest = c == dot && begins_gap rest
ends_term w c rest = false

-- a line has such a dot
abbrev pub has_dot : Within → List ℕ → Bool
has_dot w [] = false
has_dot w (c ∷ line) = ends_term w c line || has_dot (within_after w c) line

-- What a line does after the pending text. If nothing is pending, an idle line passes. A pending text is given up at an
-- empty line, examined together with a line that has a dot outside of comments and quotation marks, and goes on with any
-- other line.
abbrev pub effect_of : List ℕ → List ℕ → Effect
effect_of [] line =
    if is_idle line then effect.Passes else if has_dot within.Nothing line then effect.LooksAt else effect.GoesOn
effect_of (b ∷ begun) line =
    if is_empty line then effect.GivesUp
    else if has_dot (within_end within.Nothing (b ∷ begun)) line then effect.LooksAt
    else effect.GoesOn

-- these bytes are the first line of an input that goes on with `rest`
abbrev pub IsLineBefore : List ℕ → List ℕ → Type 0
IsLineBefore line rest = (first_line (line ++ rest) ≡ line) × (behind_line (line ++ rest) ≡ rest)

-- these bytes are a line whatever follows; or they are the last line, and all that was left
abbrev pub IsLine : List ℕ → Progress → Option (List ℕ) → Type 0
IsLine line progress.More left = (rest : List ℕ) → IsLineBefore line rest
IsLine line progress.End left = IsLineBefore line [] × IfSome left (λ bytes. bytes ≡ line)

-- one line is taken from a reader, and appended to these bytes
pub record TakesLine (before after : Option (List ℕ)) (old new : List ℕ) (p : Progress) : Type 0 where
  pub line : List ℕ
  pub gained : new ≡ old ++ line
  pub lost : Consumes before after line
  pub whole : IsLine line p before

-- `More` if the last byte is a line feed, `End` if it is not or there is none
abbrev pub EndsLine : List ℕ → Progress → Type 0
EndsLine line progress.More = (0 < length line) × (slice_index line (length line - 1) ≡ line_feed)
EndsLine line progress.End = 0 < length line → slice_index line (length line - 1) ≢ line_feed

-- whole lines: the last byte, if there is one, is a line feed
abbrev pub AreWholeLines : List ℕ → Type 0
AreWholeLines [] = Unit {0}
AreWholeLines (c ∷ []) = c ≡ line_feed
AreWholeLines (c ∷ d ∷ bytes) = AreWholeLines (d ∷ bytes)
