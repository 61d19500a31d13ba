-- What is read of the command that was entered: its name, its flags and its options.
use Rattle.std.proofs.Common.{◌≡◌, ◌≢◌, ◌∙◌, Bool, true, false, true≢false, Global, List, Option, Some, None, refl, sym, subst, ap, codes}
use Rattle.std.specs.Prelude.{Box, option_map}
use Rattle.std.specs.Box.{box_value}
use Rattle.clap.specs.Matches.{one_text, subcommand_name_of}
use Rattle.clap.specs.Walk.{Row, Text, rows_of}
use Rattle.clap.specs.Words.{subcommand_rows}
use Rattle.clap.specs.declared.parser.matches.ArgMatches.{ArgMatches}
use Rattle.clap.specs.declared.parser.matches.ArgMatches.TheViews.{out-ArgMatches, out-SubCommand}
use Rattle.clap.specs.declared.parser.matches.Found.{Found}
use Rattle.clap.specs.declared.parser.matches.SubCommand.{SubCommand}
use Rattle.clap.proofs.WalkLemmas.{one_text-rows}
use Rattle.term_text.specs.Canonical.{shows_strings}
use Rattle.term_text.specs.declared.write.Form.{Form}
use Rattle.term_text.specs.declared.write.Form.TheVariants as form
use Rattle.tool_cli.specs.Words.{Optioned, to_run, to_test, to_compile, to_verify, to_script, to_shell, to_scan, to_explain, name_of, command_named}
use Rattle.tool_cli.specs.Words.{is_explained, IsFlagOf, IsRequestOf, IsReadAs, IsEntered}
use Rattle.tool_cli.specs.declared.words.Detail.{Detail}
use Rattle.tool_cli.specs.declared.words.Detail.TheVariants as detail
use Rattle.tool_cli.specs.declared.words.Invocation.{Invocation}
use Rattle.tool_cli.specs.declared.words.Request.{Request}
use Rattle.tool_cli.specs.declared.words.Request.TheVariants as request

-- ---- flags

-- a flag is read as its row says
pub flag_read : (f : Found) (name : Text) (given r : Bool) → IsFlagOf name given (rows_of f) → (one_text f name ≡ Some (codes "true") → r ≡ true)
    → (one_text f name ≡ Some (codes "false") → r ≡ false) → r ≡ given
flag_read f name true r is if_so if_not = if_so (one_text-rows f name ∙ is.looked)
flag_read f name false r is if_so if_not = if_not (one_text-rows f name ∙ is.looked)

pub explained : (d : Detail) → true ≡ is_explained d → detail.Explained ≡ d
explained detail.Line is = absurd (true≢false is)
explained detail.Explained is = refl

pub unexplained : (d : Detail) → false ≡ is_explained d → detail.Line ≡ d
unexplained detail.Line is = refl
unexplained detail.Explained is = absurd (true≢false (sym is))

pub readable : (f : Form) → true ≡ shows_strings f → form.Readable ≡ f
readable form.Canonical is = absurd (true≢false is)
readable form.Readable is = refl

pub unreadable : (f : Form) → false ≡ shows_strings f → form.Canonical ≡ f
unreadable form.Canonical is = refl
unreadable form.Readable is = absurd (true≢false (sym is))

-- ---- the command's name

-- the command with the name of a command is that command
named_back : (which : Optioned) → command_named (name_of which) ≡ Some which
named_back to_run = refl
named_back to_test = refl
named_back to_compile = refl
named_back to_verify = refl
named_back to_script = refl
named_back to_shell = refl
named_back to_scan = refl
named_back to_explain = refl

same_command : (which other : Optioned) → name_of which ≡ name_of other → which ≡ other
same_command which other e = same which other (sym (named_back which) ∙ (ap command_named e ∙ named_back other))
  where
    same : (c d : Optioned) → Some c ≡ Some d → c ≡ d
    same c d e = cc

-- what the rows of a command request does not depend on which command of that name is meant
pub request_named : (which other : Optioned) (r : Request) (rows : List Row) (name : Text) → name ≡ name_of which → name ≡ name_of other → IsRequestOf which r rows → IsRequestOf other r rows
request_named which other r rows name is named read =
    subst (λ c. IsRequestOf c r rows) (same_command which other (sym is ∙ named)) read

-- a name that is none of the other commands' names is `run`
pub record IsNoOther (name : Text) : Type 0 where
  pub test : name ≢ codes "test"
  pub compile : name ≢ codes "compile"
  pub verify : name ≢ codes "verify"
  pub script : name ≢ codes "script"
  pub shell : name ≢ codes "shell"
  pub scan : name ≢ codes "scan"
  pub explain : name ≢ codes "explain"

pub run_left : (which : Optioned) (r : Request) (rows : List Row) (name : Text) → name ≡ name_of which → IsNoOther name → IsRequestOf which r rows → IsRequestOf to_run r rows
run_left to_run r rows name is other read = read
run_left to_test r rows name is other read = absurd (other.test is)
run_left to_compile r rows name is other read = absurd (other.compile is)
run_left to_verify r rows name is other read = absurd (other.verify is)
run_left to_script r rows name is other read = absurd (other.script is)
run_left to_shell r rows name is other read = absurd (other.shell is)
run_left to_scan r rows name is other read = absurd (other.scan is)
run_left to_explain r rows name is other read = absurd (other.explain is)

-- ---- the command that was entered

-- a command of this name, with these rows, requests this
pub record IsOf (i : Invocation) (name : Text) (rows : List Row) : Type 0 where
  pub which : Optioned
  pub named : name ≡ name_of which
  pub read : IsReadAs which i rows

name_of_rows : (s : Option (Box SubCommand Global)) → option_map (λ b. (out-SubCommand (box_value b)).name.now) s ≡ option_map (λ p. p.0) (subcommand_rows s)
name_of_rows None = refl
name_of_rows (Some b) = refl

pub entered_of : (m : ArgMatches) (i : Invocation) (name : Text) (rows : List Row) → IsEntered i (subcommand_rows (out-ArgMatches m).subcommand)
    → Some name ≡ subcommand_name_of m → Some rows ≡ option_map (λ p. p.1) (subcommand_rows (out-ArgMatches m).subcommand) → IsOf i name rows
entered_of m i name rows is named found = record {
  which = is.which;
  named = same name (name_of is.which) (named ∙ (name_of_rows (out-ArgMatches m).subcommand ∙ ap (option_map (λ p. p.0)) is.named));
  read = subst (IsReadAs is.which i) (sym (same rows is.rows (found ∙ ap (option_map (λ p. p.1)) is.named))) is.read;
}
  where
    same : {X : Type 0} (a b : X) → Some a ≡ Some b → a ≡ b
    same a b e = cc

pub none_entered : (m : ArgMatches) (i : Invocation) → IsEntered i (subcommand_rows (out-ArgMatches m).subcommand) → None ≡ subcommand_name_of m → ⊥
none_entered m i is named =
    apart (name_of is.which) (named ∙ (name_of_rows (out-ArgMatches m).subcommand ∙ ap (option_map (λ p. p.0)) is.named))
  where
    apart : (a : Text) → None ≡ Some a → ⊥
    apart a e = cc
