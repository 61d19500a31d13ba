-- What the words of the command line request is what `clap` makes of them.
use Rattle.std.proofs.Common.{◌≡◌, ◌≢◌, ◌∙◌, Bool, true, false, true≢false, ◌||◌, List, [], ◌∷◌, ◌++◌}
use Rattle.std.proofs.Common.{Option, Some, None, Result, Ok, Err, IsErrAnd, refl, sym, subst, ap, ap₂}
use Rattle.std.proofs.Common.{inl, inr, codes, fold, length, arith}
use Rattle.std.proofs.lemmas.List.{append_assoc, append-nil}
use Rattle.std.proofs.lemmas.Bool.{and_parts}
use Rattle.std.specs.Prelude.{if◌then◌else◌, find}
use Rattle.std.specs.List.{list_all}
use Rattle.std.specs.Option.{option_map_or}
use Rattle.std.specs.Str.{bytes_eq, chars}
use Rattle.clap.specs.Words.{App, HasMatchesOf, HasKind, Rule, Text, built, fault_of, is_simple, is_simple_and_free}
use Rattle.clap.specs.Words.{AddsArg, AddsSubcommand, rule_of, app_of, kind_of, shape_of, subcommand_of, subcommand_rows, with_subcommand}
use Rattle.clap.specs.Faults.{level_fault, walk_fault, defaults_fault}
use Rattle.clap.specs.Kinds.{IsAmong, Kinds, or_else}
use Rattle.clap.specs.Simple.{Shape, entered}
use Rattle.clap.specs.Walk.{Row, Names, Walk, nothing_held, walk_from, walked}
use Rattle.clap.specs.declared.builder.arg.Arg.{Arg}
use Rattle.clap.specs.declared.builder.command.Command.{Command}
use Rattle.clap.specs.declared.builder.command.Command.TheViews.{out-Command as fields_of}
use Rattle.clap.specs.declared.builder.value_parser.ValueParser.{ValueParser}
use Rattle.clap.specs.declared.error.Error.{Error}
use Rattle.clap.specs.declared.error.kind.ErrorKind.{ErrorKind}
use Rattle.clap.specs.declared.error.kind.ErrorKind.TheVariants as error
use Rattle.clap.specs.declared.parser.matches.ArgMatches.{ArgMatches}
use Rattle.clap.specs.declared.parser.matches.ArgMatches.TheViews.{out-ArgMatches}
use Rattle.clap.proofs.OnLiterals.{clap_on_literals}
use Rattle.tool_cli.specs.Words.{Asked, command, help, version, topic, mistake, asked, asked_first, asked_options, command_named, commands}
use Rattle.tool_cli.specs.Words.{Optioned, to_run, to_test, to_compile, to_verify, to_script, to_shell, to_scan, to_explain, name_of, tool_app, Reads, IsEntered, IsKindParser}
use Rattle.tool_cli.specs.declared.words.Invocation.{Invocation}
use Rattle.tool_cli.proofs.KindLemmas.{by_test, same_text, is_mistake, are_mistakes, Refuses, still_refused, no_more}
use Rattle.tool_cli.proofs.RuleLemmas.{level}
use Rattle.tool_cli.proofs.OptionLemmas.{rest_rows, Comes, options_lead}
use Rattle.tool_cli.proofs.FirstLemmas.{top as top_with, top_names as names_with, no_command_refused}

-- ---- errors

memory_refused : (a : Asked) (e : Error) → kind_of e ≡ error.OutOfMemory → Reads a (Err e)
memory_refused (command i) e h = h
memory_refused help e h = inl h
memory_refused version e h = inl h
memory_refused topic e h = inl h
memory_refused mistake e h = ((λ other. absurd (cc)), (λ other. absurd (cc)))

-- an error for out of memory
pub memory_handed : (a : Asked) (r : Result Invocation Error) → IsErrAnd r (λ e. kind_of e ≡ error.OutOfMemory) → Reads a r
memory_handed a (Ok i) h = absurd h
memory_handed a (Err e) h = memory_refused a e h

-- an error that is passed on as it is
pub handed_on : (a : Asked) (e : Error) (r : Result Invocation Error) → IsErrAnd r (λ x. x ≡ e) → Reads a (Err e) → Reads a r
handed_on a e (Ok i) is h = absurd is
handed_on a e (Err x) is h = rw is h

-- ---- one more command of the program

pub command_added : (old new added : Command) (app : App) (s : Shape) → app_of old ≡ app → (fields_of added).has_globals ≡ false → shape_of added ≡ s
    → AddsSubcommand old added new → app_of new ≡ with_subcommand app s
command_added old new added app s is local shape h =
    h.shape local ∙ ap (λ a. with_subcommand a (shape_of added)) is ∙ ap (with_subcommand app) shape

-- a command with one more option
abbrev with_option : Shape → Rule → Shape
with_option s r = record s { rules = s.rules ++ r ∷ [] }

pub option_added : (old new : Command) (added : Arg) (s : Shape) (r : Rule) → shape_of old ≡ s → added.global ≡ false → rule_of added ≡ r
    → AddsArg old added new → shape_of new ≡ with_option s r
option_added old new added s r is local rule h = ap top_of (h.shape local) ∙ ap₂ with_option is rule
  where
    top_of : App → Shape
    top_of a = a.top

-- an option that applies to no command below it
pub option_local : (old new : Command) (added : Arg) → (fields_of old).has_globals ≡ false → added.global ≡ false → AddsArg old added new → (fields_of new).has_globals ≡ false
option_local old new added none local h = h.globals ∙ ap₂ (λ a b. a || b) none local

-- ---- after a command's name

-- the walk at the program's own level has stopped, with these words left
abbrev stopped_at : Text → List Text → Walk
stopped_at name words = record (walk_from nothing_held) { stopped = Some (name, words) }

past_stop : (rules : List Rule) (names : Names) (name : Text) (words rest : List Text)
    → fold (walked rules names) (stopped_at name words) rest ≡ stopped_at name (words ++ rest)
unfolding walked
past_stop rules names name words [] = ap (stopped_at name) (sym (append-nil words))
past_stop rules names name words (word ∷ rest) =
    past_stop rules names name (words ++ word ∷ []) rest ∙ ap (stopped_at name) (append_assoc words (word ∷ []) rest)

no_fault_past_stop : (s : Shape) (names : Names) (name : Text) (words rest : List Text) → walk_fault s names (stopped_at name words) rest ≡ []
unfolding walked walk_fault
no_fault_past_stop s names name words [] = refl
no_fault_past_stop s names name words (word ∷ rest) = no_fault_past_stop s names name (words ++ word ∷ []) rest

-- a command that is found by a word has that word as its name
named_so : (list : List Optioned) (word : Text) (which : Optioned) → find (λ c. bytes_eq (name_of c) word) list ≡ Some which → name_of which ≡ word
named_so [] word which is = absurd (none_some which is)
  where
    none_some : (c : Optioned) → None ≡ Some c → ⊥
    none_some c e = cc
named_so (c ∷ rest) word which is =
    by_test (bytes_eq (name_of c) word) (name_of which ≡ word)
    (λ e. ap name_of (sym (same c which (rw e at is))) ∙ same_text (name_of c) word e) (λ e. named_so rest word which (rw e at is))
  where
    same : (c d : Optioned) → Some c ≡ Some d → c ≡ d
    same c d e = cc

-- ---- kinds of errors

some_none : (k : ErrorKind) (ks : Kinds) → k ∷ ks ≡ [] → ⊥
some_none k ks h = omega (arith, ap length h)

mistake_is_no_help : (k : ErrorKind) → is_mistake k ≡ true → (k ≢ error.DisplayHelp) × (k ≢ error.DisplayVersion)
mistake_is_no_help k h = ((λ e. true≢false (sym (rw e at h))), (λ e. true≢false (sym (rw e at h))))

no_help_among : (k : ErrorKind) (ks : Kinds) → list_all is_mistake ks ≡ true → IsAmong k ks → (k ≢ error.DisplayHelp) × (k ≢ error.DisplayVersion)
no_help_among k [] all among = absurd among
no_help_among k (x ∷ ks) all (inl is) = mistake_is_no_help k (rw is ((and_parts (is_mistake x) (list_all is_mistake ks) all).0))
no_help_among k (x ∷ ks) all (inr among) = no_help_among k ks ((and_parts (is_mistake x) (list_all is_mistake ks) all).1) among

all_mistakes : (ks : Kinds) → are_mistakes ks ≡ true → list_all is_mistake ks ≡ true
all_mistakes [] h = refl
all_mistakes (k ∷ ks) h = h

-- Parameters: the parser of kinds, with what it accepts and how that is read; the facts about the program's own app
-- depend on it.
module _ (kinds : ValueParser) (good : IsKindParser kinds) where
  -- ---- what `clap` makes of words

  -- the errors for words that request this, and the command that is entered with its rows
  abbrev Leads : Asked → Kinds → Option (Text × List Row) → Type 0
  Leads (command i) ks found = (ks ≡ []) × IsEntered i found
  Leads help ks found = ks ≡ error.DisplayHelp ∷ []
  Leads version ks found = ks ≡ error.DisplayVersion ∷ []
  Leads topic ks found = ks ≡ error.DisplayHelp ∷ error.InvalidSubcommand ∷ []
  Leads mistake ks found = are_mistakes ks ≡ true

  refusal_leads : (a : Asked) (ks : Kinds) (name : Option (Text × List Row)) → Refuses a ks → Leads a ks name
  refusal_leads help ks name h = h
  refusal_leads version ks name h = h
  refusal_leads mistake ks name h = h
  refusal_leads (command i) ks name h = absurd h
  refusal_leads topic ks name h = absurd h

  first_decides : (a : Asked) (ks more rest : Kinds) (name : Option (Text × List Row)) → Refuses a ks → Leads a (or_else (or_else ks more) rest) name
  first_decides a ks more rest name h =
      refusal_leads a (or_else (or_else ks more) rest) name (still_refused a (or_else ks more) rest (still_refused a ks more h))

  abbrev top : Shape
  top = top_with kinds

  abbrev top_names : Names
  top_names = names_with kinds

  abbrev fault_at : List Text → Kinds
  fault_at words = fault_of (tool_app kinds) words

  -- the command that `clap` enters
  abbrev found_by : List Text → Option (Text × List Row)
  found_by words = subcommand_of (tool_app kinds) words

  -- ---- after a command's name

  abbrev fault_behind : Optioned → List Text → Kinds
  fault_behind which rest = level_fault (level kinds which) [] nothing_held rest false []

  abbrev following_rows : Optioned → List Text → List Row
  following_rows which rest = rest_rows kinds good which (walk_from nothing_held) rest

  behind : (which : Optioned) (p : Text) (rest : List Text) → fault_at (p ∷ name_of which ∷ rest) ≡ fault_behind which rest
  unfolding walked walk_fault defaults_fault
  behind to_run p rest = rw (no_fault_past_stop top top_names (codes "run") [] rest, past_stop top.rules top_names (codes "run") [] rest) (no_more (fault_behind to_run rest))
  behind to_test p rest = rw (no_fault_past_stop top top_names (codes "test") [] rest, past_stop top.rules top_names (codes "test") [] rest) (no_more (fault_behind to_test rest))
  behind to_compile p rest = rw (no_fault_past_stop top top_names (codes "compile") [] rest, past_stop top.rules top_names (codes "compile") [] rest) (no_more (fault_behind to_compile rest))
  behind to_verify p rest = rw (no_fault_past_stop top top_names (codes "verify") [] rest, past_stop top.rules top_names (codes "verify") [] rest) (no_more (fault_behind to_verify rest))
  behind to_script p rest = rw (no_fault_past_stop top top_names (codes "script") [] rest, past_stop top.rules top_names (codes "script") [] rest) (no_more (fault_behind to_script rest))
  behind to_shell p rest = rw (no_fault_past_stop top top_names (codes "shell") [] rest, past_stop top.rules top_names (codes "shell") [] rest) (no_more (fault_behind to_shell rest))
  behind to_scan p rest = rw (no_fault_past_stop top top_names (codes "scan") [] rest, past_stop top.rules top_names (codes "scan") [] rest) (no_more (fault_behind to_scan rest))
  behind to_explain p rest = rw (no_fault_past_stop top top_names (codes "explain") [] rest, past_stop top.rules top_names (codes "explain") [] rest) (no_more (fault_behind to_explain rest))

  found_at : (which : Optioned) (p : Text) (rest : List Text) → found_by (p ∷ name_of which ∷ rest) ≡ Some (name_of which, following_rows which rest)
  unfolding walked
  found_at to_run p rest = ap (λ w. entered (built (tool_app kinds)) w.stopped) (past_stop top.rules top_names (codes "run") [] rest)
  found_at to_test p rest = ap (λ w. entered (built (tool_app kinds)) w.stopped) (past_stop top.rules top_names (codes "test") [] rest)
  found_at to_compile p rest = ap (λ w. entered (built (tool_app kinds)) w.stopped) (past_stop top.rules top_names (codes "compile") [] rest)
  found_at to_verify p rest = ap (λ w. entered (built (tool_app kinds)) w.stopped) (past_stop top.rules top_names (codes "verify") [] rest)
  found_at to_script p rest = ap (λ w. entered (built (tool_app kinds)) w.stopped) (past_stop top.rules top_names (codes "script") [] rest)
  found_at to_shell p rest = ap (λ w. entered (built (tool_app kinds)) w.stopped) (past_stop top.rules top_names (codes "shell") [] rest)
  found_at to_scan p rest = ap (λ w. entered (built (tool_app kinds)) w.stopped) (past_stop top.rules top_names (codes "scan") [] rest)
  found_at to_explain p rest = ap (λ w. entered (built (tool_app kinds)) w.stopped) (past_stop top.rules top_names (codes "explain") [] rest)

  -- words lead to what is requested
  abbrev LeadsTo : Asked → List Text → Type 0
  LeadsTo a words = Leads a (fault_at words) (found_by words)

  command_leads : (which : Optioned) (p : Text) (rest : List Text) → LeadsTo (asked_options which [] rest) (p ∷ name_of which ∷ rest)
  command_leads which p rest = lead (asked_options which [] rest) (options_lead kinds good which rest)
    where
      lead : (a : Asked) → Comes which a (fault_behind which rest) (following_rows which rest) → LeadsTo a (p ∷ name_of which ∷ rest)
      lead (command i) h = (behind which p rest ∙ h.0, record { which = which; rows = following_rows which rest; named = found_at which p rest; read = h.1 })
      lead help h = behind which p rest ∙ h
      lead topic h = absurd h
      lead version h = absurd h
      lead mistake h = ap are_mistakes (behind which p rest) ∙ h

  -- ---- all words

  topic_leads : (p : Text) (rest : List Text) → LeadsTo topic (p ∷ codes "help" ∷ rest)
  unfolding walked walk_fault defaults_fault
  topic_leads p rest = refl

  dashes_lead : (p : Text) (rest : List Text) → LeadsTo mistake (p ∷ codes "--" ∷ rest)
  unfolding walked walk_fault defaults_fault
  dashes_lead p [] = refl
  dashes_lead p (next ∷ more) = refl

  other_leads : (p word : Text) (rest : List Text) → command_named word ≡ None → bytes_eq (codes "help") word ≡ false → LeadsTo (asked_first word) (p ∷ word ∷ rest)
  unfolding walked walk_fault defaults_fault chars
  other_leads p word rest none no_topic =
      by_test (bytes_eq (codes "--") word) (LeadsTo (asked_first word) (p ∷ word ∷ rest))
      (λ e. rw (← same_text (codes "--") word e) (dashes_lead p rest))
      (λ e. first_decides (asked_first word) _ _ _ (found_by (p ∷ word ∷ rest)) (no_command_refused kinds word none no_topic e))

  words_lead : (words : List Text) → LeadsTo (asked words) words
  unfolding clap_on_literals
  words_lead [] = refl
  words_lead (p ∷ []) = refl
  words_lead (p ∷ word ∷ rest) = by_name (command_named word) refl
    where
      asked_at : Option Optioned → Bool → Asked
      asked_at found is_topic =
          option_map_or (λ which. asked_options which [] rest) found (if is_topic then topic else asked_first word)

      by_name : (found : Option Optioned) → command_named word ≡ found → LeadsTo (asked (p ∷ word ∷ rest)) (p ∷ word ∷ rest)
      by_name (Some which) is =
          subst (λ found. LeadsTo (asked_at found (bytes_eq (codes "help") word)) (p ∷ word ∷ rest)) (sym is)
          (subst (λ w. LeadsTo (asked_options which [] rest) (p ∷ w ∷ rest)) (named_so commands word which is) (command_leads which p rest))
      by_name None is =
          subst (λ found. LeadsTo (asked_at found (bytes_eq (codes "help") word)) (p ∷ word ∷ rest)) (sym is)
          (by_test (bytes_eq (codes "help") word) (LeadsTo (asked_at None (bytes_eq (codes "help") word)) (p ∷ word ∷ rest))
          (λ e. subst (λ b. LeadsTo (asked_at None b) (p ∷ word ∷ rest)) (sym e) (subst (λ w. LeadsTo topic (p ∷ w ∷ rest)) (same_text (codes "help") word e) (topic_leads p rest)))
          (λ e. subst (λ b. LeadsTo (asked_at None b) (p ∷ word ∷ rest)) (sym e) (other_leads p word rest is e)))

  -- ---- what is read

  -- words without an error request the command that is entered
  command_asked : (words : List Text) → fault_at words ≡ [] → (i : Invocation) × (asked words ≡ command i) × IsEntered i (found_by words)
  command_asked words none = by_asked (asked words) refl (words_lead words)
    where
      by_asked : (a : Asked) → asked words ≡ a → LeadsTo a words → (i : Invocation) × (asked words ≡ command i) × IsEntered i (found_by words)
      by_asked (command i) e h = (i, e, h.1)
      by_asked help e h = absurd (some_none _ _ (sym h ∙ none))
      by_asked version e h = absurd (some_none _ _ (sym h ∙ none))
      by_asked topic e h = absurd (some_none _ _ (sym h ∙ none))
      by_asked mistake e h = absurd (true≢false (sym (rw none at h)))

  asked_refused : (words : List Text) (e : Error) → HasKind (fault_at words) e → Reads (asked words) (Err e)
  asked_refused words e (inl memory) = memory_refused (asked words) e memory
  asked_refused words e (inr among) = refused_as (asked words) (words_lead words)
    where
      refused_as : (a : Asked) → LeadsTo a words → Reads a (Err e)
      refused_as (command i) h = absurd (rw h.0 at among)
      refused_as help h = elim (rw h at among) [ inl is ↦ inr is | inr none ↦ absurd none ]
      refused_as version h = elim (rw h at among) [ inl is ↦ inr is | inr none ↦ absurd none ]
      refused_as topic h = elim (rw h at among) [ inl is ↦ inr (inl is) | inr more ↦ elim more [ inl is ↦ inr (inr is) | inr none ↦ absurd none ] ]
      refused_as mistake h = no_help_among (kind_of e) (fault_at words) (all_mistakes (fault_at words) h) among

  -- ---- the program's own app

  simple_and_free : is_simple_and_free (tool_app kinds) ≡ true
  unfolding clap_on_literals
  simple_and_free = refl

  simple : is_simple (tool_app kinds) ≡ true
  simple = refl

  pub command_read : (app : App) (words : List Text) (m : ArgMatches) → app ≡ (tool_app kinds) → (is_simple_and_free app ≡ true → fault_of app words ≡ []) → HasMatchesOf app words m
      → (i : Invocation) × (asked words ≡ command i) × IsEntered i (subcommand_rows (out-ArgMatches m).subcommand)
  command_read app words m is none matches =
      let free = rw is at none in
      let found = rw is at matches in
      let read = command_asked words (free simple_and_free) in
      (read.0, read.1, subst (IsEntered read.0) (sym (found simple).1) read.2)

  pub words_refused : (app : App) (words : List Text) (e : Error) → app ≡ (tool_app kinds)
      → (is_simple_and_free app ≡ true → HasKind (fault_of app words) e) → Reads (asked words) (Err e)
  words_refused app words e is has =
      let free = rw is at has in
      asked_refused words e (free simple_and_free)
