-- What the words of the command line request.
use Rattle.std.specs.Prelude.{ℕ, pos, Bool, true, false, not, ◌≡◌, ◌≢◌, ◌⊎◌, ◌||◌, ◌&&◌, ◌==◌, List, [], ◌∷◌, ◌++◌, map}
use Rattle.std.specs.Prelude.{Option, Some, None, is_some, option_map, Result, Ok, Err, codes, if◌then◌else◌, take, drop, find, fold}
use Rattle.std.specs.List.{list_any}
use Rattle.std.specs.Option.{option_and_then, option_map_or}
use Rattle.std.specs.Str.{bytes_eq, chars}
use Rattle.std.specs.Str.Parse.{digits_value, without_leading_plus}
use Rattle.clap.specs.Lexer.{long_of, without_minus}
use Rattle.clap.specs.ValueTests.{accepts, is_signed_in}
use Rattle.clap.specs.Values.{bool_text, reading_of}
use Rattle.clap.specs.Walk.{Row, Rule, one_of}
use Rattle.clap.specs.Words.{App, Text, kind_of, new_app, new_rule, with_subcommand}
use Rattle.clap.specs.Simple.{Shape}
use Rattle.clap.specs.declared.builder.action.ArgAction.{ArgAction}
use Rattle.clap.specs.declared.builder.action.ArgAction.TheVariants.{SetTrue}
use Rattle.clap.specs.declared.builder.value_parser.Reading.TheVariants as reading
use Rattle.clap.specs.declared.builder.value_parser.ValueParser.{ValueParser}
use Rattle.clap.specs.declared.builder.value_parser.ValueParser.TheVariants as parser
use Rattle.clap.specs.declared.error.Error.{Error}
use Rattle.clap.specs.declared.error.kind.ErrorKind.TheVariants as error
use Rattle.term_text.specs.Canonical.{shows_strings}
use Rattle.term_text.specs.declared.write.Form.{Form}
use Rattle.term_text.specs.declared.write.Form.TheVariants as form
use Rattle.tool_scan.specs.Options.{is_kind, kind_named}
use Rattle.tool_scan.specs.declared.options.ScanKind.{ScanKind}
use Rattle.tool_scan.specs.declared.options.ScanOptions.{ScanOptions}
use Rattle.tool_cli.specs.declared.words.Detail.{Detail}
use Rattle.tool_cli.specs.declared.words.Detail.TheVariants as detail
use Rattle.tool_cli.specs.declared.words.Invocation.{Invocation}
use Rattle.tool_cli.specs.declared.words.Request.{Request}
use Rattle.tool_cli.specs.declared.words.Request.TheVariants as request

-- a command, to which options may be given
pub data Optioned : Type 0 where
  to_run : Optioned
  to_test : Optioned
  to_compile : Optioned
  to_verify : Optioned
  to_script : Optioned
  to_shell : Optioned
  to_scan : Optioned
  to_explain : Optioned

-- the commands whose only options are `--why` and, for some, `--strings`; and all commands
abbrev pub plain_commands : List Optioned
plain_commands = to_run ∷ to_test ∷ to_compile ∷ to_verify ∷ to_script ∷ []

abbrev pub commands : List Optioned
commands = plain_commands ++ to_shell ∷ to_scan ∷ to_explain ∷ []

-- the name of a command
abbrev pub name_of : Optioned → Text
name_of to_run = codes "run"
name_of to_test = codes "test"
name_of to_compile = codes "compile"
name_of to_verify = codes "verify"
name_of to_script = codes "script"
name_of to_shell = codes "shell"
name_of to_scan = codes "scan"
name_of to_explain = codes "explain"

-- What words request: a command, with how much of a fault is reported; help by a flag; the version by a flag; help by
-- the word `help` and the words after it; or nothing that is understood.
pub data Asked : Type 0 where
  command : Invocation → Asked
  help : Asked
  version : Asked
  topic : Asked
  mistake : Asked

-- whether a word is a hyphen followed by this text, or by this letter and anything
abbrev pub is_flag_of : (text letter : Text) → Text → Bool
is_flag_of text letter [] = false
is_flag_of text letter (x ∷ rest) =
    x == 45 && (bytes_eq text rest || bytes_eq letter (take 1 (chars rest)))

abbrev pub is_help_flag : Text → Bool
is_help_flag = is_flag_of (codes "-help") (codes "h")

abbrev pub is_version_flag : Text → Bool
is_version_flag = is_flag_of (codes "-version") (codes "V")

-- what a flag after a command requests
abbrev pub asked_by_flag : Text → Asked
asked_by_flag word = if is_help_flag word then help else mistake

-- what a flag instead of a command requests, which may also be the version
abbrev pub asked_first : Text → Asked
asked_first word = if is_version_flag word then version else asked_by_flag word

-- ---- the options of commands

-- what an option takes: a number from 1 to a maximum, the name of a kind of table, or nothing
pub data Takes : Type 0 where
  number : ℕ → Takes
  kind : Takes
  nothing : Takes

-- options, each with its name
abbrev pub Options : Type 0
Options = List (Text × Takes)

-- the options of a command
abbrev pub options_of : Optioned → Options
options_of to_scan =
    (codes "kind", kind)
    ∷ (codes "keypos", number 65535)
    ∷ (codes "parts", number 64) ∷ (codes "workers", number 16) ∷ (codes "why", nothing) ∷ []
options_of to_shell = (codes "prompt", nothing) ∷ (codes "why", nothing) ∷ []
options_of to_explain = (codes "keypos", number 65535) ∷ (codes "why", nothing) ∷ []
options_of to_run = (codes "strings", nothing) ∷ (codes "why", nothing) ∷ []
options_of to_test = (codes "strings", nothing) ∷ (codes "why", nothing) ∷ []
options_of which = (codes "why", nothing) ∷ []

-- what the option of a name takes, or `None` if there is no such option
abbrev pub takes_in : Options → Text → Option Takes
takes_in options name = option_map (λ o. o.1) (find (λ o. bytes_eq o.0 name) options)

abbrev pub takes_of : Optioned → Text → Option Takes
takes_of which = takes_in (options_of which)

-- the options that were given, in their order: the name and the text of each; the text of a flag is `true`
abbrev pub Given : Type 0
Given = List (Text × Text)

abbrev pub is_given : Given → Text → Bool
is_given given name = list_any (λ g. bytes_eq g.0 name) given

-- whether the text is a value that the option takes
abbrev pub is_value_of : Option Takes → Text → Bool
is_value_of (Some (number most)) value = is_signed_in (pos 1) (pos most) value
is_value_of (Some kind) value = is_kind value
is_value_of takes value = false

-- whether an option is accepted: it was not given before, and takes this value
abbrev pub is_taken : Optioned → Given → Text → Text → Bool
is_taken which given name value =
    not (is_given given name) && is_value_of (takes_of which name) value

-- the text of an option, or `other` if it is not given
abbrev pub text_given : Text → Text → Given → Text
text_given name other [] = other
text_given name other (g ∷ rest) =
    if bytes_eq g.0 name then g.1 else text_given name other rest

-- the number of an option, or 1 if it is not given
abbrev pub number_given : Text → Given → ℕ
number_given name given =
    digits_value 10 (without_leading_plus (text_given name (codes "1") given))

-- the options of a scan; the kind is a set if none is given
abbrev pub options_by : Given → ScanOptions
options_by given = record {
  kind = kind_named (text_given (codes "kind") (codes "set") given);
  keypos = number_given (codes "keypos") given;
  parts = number_given (codes "parts") given;
  workers = number_given (codes "workers") given;
}

-- the form of texts: readable if `--strings` is given, else canonical
abbrev pub form_by : Given → Form
form_by given = if is_given given (codes "strings") then form.Readable else form.Canonical

-- the shell: for a person if `--prompt` is given
abbrev pub shell_for : Bool → Request
shell_for is_prompting = if is_prompting then request.Prompt else request.Shell

-- the request that a command and its options make
abbrev pub request_of : Optioned → Given → Request
request_of to_run given = request.Run (form_by given)
request_of to_test given = request.Test (form_by given)
request_of to_compile given = request.Compile
request_of to_verify given = request.Verify
request_of to_script given = request.Script
request_of to_shell given = shell_for (is_given given (codes "prompt"))
request_of to_scan given = request.Scan (options_by given)
request_of to_explain given = request.Explain (number_given (codes "keypos") given)

-- how much of a fault is reported: an explanation if `--why` is given
abbrev pub detail_by : Given → Detail
detail_by given = if is_given given (codes "why") then detail.Explained else detail.Line

abbrev pub invocation_of : Optioned → Given → Invocation
invocation_of which given = record { request = request_of which given; detail = detail_by given }

-- the option of which the word is `--name` or `--name=value`, with that value
abbrev pub option_in : Optioned → Text → Option (Text × Option Text)
option_in which word =
    option_and_then (λ p. if is_some (takes_of which p.0) then Some p else None) (long_of word)

-- whether a hyphen is followed by characters
abbrev pub is_some_text : Text → Bool
is_some_text [] = false
is_some_text (c ∷ cs) = true

abbrev pub is_flag : Text → Bool
is_flag [] = false
is_flag (x ∷ rest) = x == 45 && is_some_text (chars rest)

-- an option with its value: it is accepted, or a mistake
abbrev pub taken : Optioned → Given → Text → Text → (Given → Asked) → Asked
taken which given name value next =
    if is_taken which given name value then next (given ++ (name, value) ∷ []) else mistake

-- a flag: it is accepted, or a mistake if it was given before
abbrev pub taken_flag : Given → Text → (Given → Asked) → Asked
taken_flag given name next =
    if is_given given name then mistake else next (given ++ (name, codes "true") ∷ [])

-- whether an option takes nothing
abbrev pub takes_nothing : Option Takes → Bool
takes_nothing (Some nothing) = true
takes_nothing takes = false

-- a word of options: an option with its value, a flag, an option whose value is the next word, or another word
abbrev pub asked_word : Optioned → Given → Text → Option (Text × Option Text) → (Given → Asked) → (Text → Asked) → Asked
asked_word which given word None next behind = asked_by_flag word
asked_word which given word (Some (name, Some value)) next behind = taken which given name value next
asked_word which given word (Some (name, None)) next behind =
    if takes_nothing (takes_of which name) then taken_flag given name next else behind name

-- what the words after a command request: options, each at most once, and maybe `--` at the end
abbrev pub asked_options : Optioned → Given → List Text → Asked
asked_options which given [] = command (invocation_of which given)
asked_options which given (word ∷ []) =
    if bytes_eq (codes "--") word then command (invocation_of which given)
    else asked_word which given word (option_in which word) (λ more. command (invocation_of which more)) (λ name. mistake)
asked_options which given (word ∷ next ∷ rest) =
    if bytes_eq (codes "--") word then mistake
    else asked_word which given word (option_in which word) (λ more. asked_options which more (next ∷ rest))
    (λ name. if is_flag next then mistake else taken which given name next (λ more. asked_options which more rest))

-- the command of this name
abbrev pub command_named : Text → Option Optioned
command_named word = find (λ which. bytes_eq (name_of which) word) commands

-- what the words after the program's name request
abbrev pub asked_by : List Text → Asked
asked_by [] = mistake
asked_by (word ∷ rest) =
    option_map_or (λ which. asked_options which [] rest) (command_named word)
    (if bytes_eq (codes "help") word then topic else asked_first word)

-- what all words request, the program's name first
abbrev pub asked : List Text → Asked
asked words = asked_by (drop 1 words)

-- How the words are read. If they request a command, it is returned. If they request help or the version by a flag, the
-- error is of that kind; if they are a mistake, it is of neither kind. After the word `help`, the error is help or an
-- unknown command. In each case the error may be out of memory instead.
abbrev pub Reads : Asked → Result Invocation Error → Type 0
Reads (command i) (Ok answer) = answer ≡ i
Reads (command i) (Err e) = kind_of e ≡ error.OutOfMemory
Reads help (Err e) = (kind_of e ≡ error.OutOfMemory) ⊎ (kind_of e ≡ error.DisplayHelp)
Reads version (Err e) =
    (kind_of e ≡ error.OutOfMemory) ⊎ (kind_of e ≡ error.DisplayVersion)
Reads topic (Err e) =
    (kind_of e ≡ error.OutOfMemory)
    ⊎ (kind_of e ≡ error.DisplayHelp) ⊎ (kind_of e ≡ error.InvalidSubcommand)
Reads mistake (Err e) = (kind_of e ≢ error.DisplayHelp) × (kind_of e ≢ error.DisplayVersion)
Reads a (Ok answer) = ⊥

-- the program, which requires a command, as `clap` is given it
abbrev pub tool_shape : Shape
tool_shape = record (new_app (codes "ets_tool")).top { subcommand_required = true; has_version = true }

abbrev pub bare_app : App
bare_app = record { top = tool_shape; subs = [] }

-- A parser that accepts the names of kinds, and reads them as they are written: what is known of the parser of
-- `--kind`, whose names are in a slice that `clap` holds.
pub record IsKindParser (p : ValueParser) : Type 0 where
  pub accepts : (value : Text) → accepts false p value ≡ is_kind value
  pub reading : reading_of p ≡ reading.AsWritten

abbrev pub parser_for : ValueParser → Takes → Option ValueParser
parser_for p (number most) = Some (parser.Signed (pos 1) (pos most))
parser_for p kind = Some p
parser_for p nothing = None

-- the default value of an option
abbrev pub defaults_for : Takes → List Text
defaults_for (number most) = codes "1" ∷ []
defaults_for kind = codes "set" ∷ []
defaults_for nothing = []

abbrev pub action_for : Takes → Option ArgAction
action_for nothing = Some SetTrue
action_for takes = None

-- how many value names an option has
abbrev pub names_for : Takes → ℕ
names_for nothing = 0
names_for takes = 1

-- the rule of an option, by what it takes, with the parser of kinds
abbrev pub rule_for : ValueParser → Text → Takes → Rule
rule_for p name takes = record (new_rule name) {
  long = Some name;
  action = action_for takes;
  value_names = names_for takes;
  defaults = defaults_for takes;
  parser = parser_for p takes;
}

-- the rule of an option with a value
abbrev pub option_rule : Text → Text → ValueParser → Rule
option_rule name default p = record (new_rule name) {
  long = Some name;
  value_names = 1;
  defaults = default ∷ [];
  parser = Some p;
}

-- the shape of a command with this name and these options
abbrev pub shape_with : ValueParser → Text → Options → Shape
shape_with p name options =
    record (new_app name).top { rules = map (λ o. rule_for p o.0 o.1) options }

abbrev pub command_shape : ValueParser → Optioned → Shape
command_shape p which = shape_with p (name_of which) (options_of which)

-- the program with its commands, as `clap` has it
abbrev pub tool_app : ValueParser → App
tool_app p = fold with_subcommand bare_app (map (command_shape p) commands)

-- the option has a row, whose text is this number, from 1 to the maximum
pub record IsReadOf (name : Text) (most n : ℕ) (rows : List Row) : Type 0 where
  pub text : Text
  pub looked : one_of name rows ≡ Some (without_minus text)
  pub passes : is_signed_in (pos 1) (pos most) text ≡ true
  pub number : n ≡ digits_value 10 (without_leading_plus text)

-- the option `--kind` has a row, whose text names this kind
pub record IsKindOf (k : ScanKind) (rows : List Row) : Type 0 where
  pub text : Text
  pub looked : one_of (codes "kind") rows ≡ Some text
  pub passes : is_kind text ≡ true
  pub named : k ≡ kind_named text

-- each option of `scan` has a row with its value
pub record AreRead (o : ScanOptions) (rows : List Row) : Type 0 where
  pub kind : IsKindOf o.kind rows
  pub keypos : IsReadOf (codes "keypos") 65535 o.keypos rows
  pub parts : IsReadOf (codes "parts") 64 o.parts rows
  pub workers : IsReadOf (codes "workers") 16 o.workers rows

-- the flag has a row, whose text says whether it is given
pub record IsFlagOf (name : Text) (given : Bool) (rows : List Row) : Type 0 where
  pub looked : one_of name rows ≡ Some (bool_text given)

abbrev pub is_explained : Detail → Bool
is_explained detail.Line = false
is_explained detail.Explained = true

-- what a command requests is what its rows say
abbrev pub IsRequestOf : Optioned → Request → List Row → Type 0
IsRequestOf to_run r rows =
    (f : Form) × (r ≡ request.Run f) × IsFlagOf (codes "strings") (shows_strings f) rows
IsRequestOf to_test r rows =
    (f : Form) × (r ≡ request.Test f) × IsFlagOf (codes "strings") (shows_strings f) rows
IsRequestOf to_compile r rows = r ≡ request.Compile
IsRequestOf to_verify r rows = r ≡ request.Verify
IsRequestOf to_script r rows = r ≡ request.Script
IsRequestOf to_shell r rows = (b : Bool) × (r ≡ shell_for b) × IsFlagOf (codes "prompt") b rows
IsRequestOf to_scan r rows = (o : ScanOptions) × (r ≡ request.Scan o) × AreRead o rows
IsRequestOf to_explain r rows =
    (n : ℕ) × (r ≡ request.Explain n) × IsReadOf (codes "keypos") 65535 n rows

-- how much of a fault is reported is also what the rows say
pub record IsReadAs (which : Optioned) (i : Invocation) (rows : List Row) : Type 0 where
  pub request : IsRequestOf which i.request rows
  pub detail : IsFlagOf (codes "why") (is_explained i.detail) rows

-- the command that was entered requests this, with its rows
pub record IsEntered (i : Invocation) (found : Option (Text × List Row)) : Type 0 where
  pub which : Optioned
  pub rows : List Row
  pub named : found ≡ Some (name_of which, rows)
  pub read : IsReadAs which i rows
