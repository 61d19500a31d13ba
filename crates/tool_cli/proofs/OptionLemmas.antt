-- What `clap` makes of the words after a command, one after the other.
use Rattle.std.proofs.Common.{◌≡◌, ◌∙◌, ℕ, Bool, true, false, true≢false, ◌&&◌, List, [], ◌∷◌, ◌++◌}
use Rattle.std.proofs.Common.{Option, Some, None, inl, inr, ◌⊎◌, refl, sym, subst, ap, codes, fold, not}
use Rattle.std.proofs.lemmas.Bool.{and_parts}
use Rattle.std.specs.Prelude.{if◌then◌else◌, is_some}
use Rattle.std.specs.Option.{option_and_then, option_map_or}
use Rattle.std.specs.Str.{bytes_eq, chars}
use Rattle.clap.specs.Lexer.{long_of, short_of}
use Rattle.clap.specs.Faults.{turn_fault, level_fault, step_fault, flag_word_fault, flags_fault, walk_fault, defaults_fault, settle_fault, use_fault, check_fault, long_fault, positional_fault}
use Rattle.clap.specs.Kinds.{Kinds, or_else}
use Rattle.clap.specs.Walk.{arg_by_id, arg_by_long, Held, Row, Rule, Step, Text, Walk, Waiting, idle, option, trailing, bundle_met, finished, has_row, long_or_other, nothing_held, settled, used, walk_from, walked, after_flag, after_step, long_met, option_word, used_by_id}
use Rattle.clap.specs.Simple.{Shape}
use Rattle.clap.specs.declared.builder.value_parser.ValueParser.{ValueParser}
use Rattle.clap.specs.declared.error.kind.ErrorKind.TheVariants as error
use Rattle.tool_cli.specs.Words.{Asked, command, help, version, topic, mistake, asked_by_flag, is_help_flag, IsKindParser, IsReadAs}
use Rattle.tool_cli.specs.Words.{Optioned, options_of, Given, Takes, number, kind, nothing, takes_of, is_given, is_value_of, is_taken, invocation_of, option_in, is_flag, taken, taken_flag, takes_nothing, asked_word, asked_options}
use Rattle.tool_cli.proofs.KindLemmas.{by_test, same_text, text_itself, other_text, are_mistakes, else_else, no_more}
use Rattle.tool_cli.proofs.RuleLemmas.{level as level_with, rule as rule_with, rules as rules_with, by_long, by_id, no_index, none_required}
use Rattle.tool_cli.proofs.RowLemmas.{IsValued, not_true}
use Rattle.tool_cli.proofs.RowLemmas as row
use Rattle.tool_cli.proofs.FlagLemmas.{FlagFault, IsPlainWord}
use Rattle.tool_cli.proofs.FlagLemmas as flags

-- the errors and rows that words lead to, given what they request
abbrev pub Comes : Optioned → Asked → Kinds → List Row → Type 0
Comes which (command i) ks rows = (ks ≡ []) × IsReadAs which i rows
Comes which help ks rows = ks ≡ error.DisplayHelp ∷ []
Comes which topic ks rows = ⊥
Comes which version ks rows = ⊥
Comes which mistake ks rows = are_mistakes ks ≡ true

-- Parameters: the parser of kinds, with what it accepts and how that is read, and the command.
module _ (kinds : ValueParser) (good : IsKindParser kinds) (which : Optioned) where
  abbrev pub level : Shape
  level = level_with kinds which

  abbrev pub rules : List Rule
  rules = rules_with kinds which

  abbrev rule : Text → Takes → Rule
  rule = rule_with kinds

  abbrev held : List Row → Option (Text × List Text) → Held
  held = row.held kinds good

  abbrev rows_of : Given → List Row
  rows_of = row.rows_of kinds good which

  -- the errors of the pending option, with the rows so far
  abbrev fault_held : List Row → Option (Text × List Text) → Kinds
  fault_held = flags.fault_held kinds good which

  abbrev rows_held : List Row → Option (Text × List Text) → List Row
  rows_held rows pending = (settled rules (held rows pending)).rows

  -- all options that were given are held, without an error
  record Holds (given : Given) (rows : List Row) (pending : Option (Text × List Text)) : Type 0 where
    fault : fault_held rows pending ≡ []
    now : rows_held rows pending ≡ rows_of given
    fit : row.AreFit kinds good which given

  -- ---- the rule of an option, and words that have no rule

  record IsRule (name : Text) (takes : Takes) : Type 0 where
    by_long : arg_by_long rules name ≡ Some (rule name takes)
    by_id : arg_by_id rules name ≡ Some (rule name takes)

  rule_of_option : (name : Text) (takes : Takes) → takes_of which name ≡ Some takes → IsRule name takes
  rule_of_option name takes is = record { by_long = by_long kinds (options_of which) name takes is; by_id = by_id kinds (options_of which) name takes is }

  unknown_step : (h : Held) → step_fault level 1 h Step.value ≡ error.UnknownArgument ∷ []
  unknown_step h =
      ap (λ found. option_map_or (λ a. positional_fault rules false a h) found (error.UnknownArgument ∷ [])) (no_index kinds (options_of which))

  no_check : (rows : List Row) → check_fault level rows false ≡ []
  no_check rows = ap (λ b. if b then error.MissingRequiredArgument ∷ [] else []) (none_required kinds (options_of which) rows)

  -- ---- a word

  abbrev walk_at : Held → Waiting → Walk
  walk_at h waiting = record (walk_from h) { waiting = waiting }

  abbrev step_met : Held → Waiting → Text → Bool → Option (Text × Option Text) → Held × Step
  step_met h waiting word is_end flag =
      if is_end then (h, trailing 1) else long_or_other rules waiting word flag h

  abbrev turn_by : Held → Waiting → Text → Bool → Option (Text × Option Text) → Kinds
  turn_by h waiting word is_end flag =
      or_else (if is_end then [] else flag_word_fault rules false flag word h)
      (step_fault level 1 (step_met h waiting word is_end flag).0 (step_met h waiting word is_end flag).1)

  abbrev moved_by : Held → Waiting → Text → Bool → Option (Text × Option Text) → Walk
  moved_by h waiting word is_end flag =
      after_step rules word (walk_at h waiting) (step_met h waiting word is_end flag).0 (step_met h waiting word is_end flag).1

  turn_idle : (h : Held) (word : Text) → turn_fault level [] (walk_at h idle) word ≡ turn_by h idle word (bytes_eq word (codes "--")) (long_of word)
  turn_idle h word = refl

  turn_waiting : (h : Held) (name word : Text) → turn_fault level [] (walk_at h (option name)) word ≡ turn_by h (option name) word (bytes_eq word (codes "--")) (long_of word)
  turn_waiting h name word = refl

  moved_idle : (h : Held) (word : Text) → walked rules [] (walk_at h idle) word ≡ moved_by h idle word (bytes_eq word (codes "--")) (long_of word)
  unfolding walked
  moved_idle h word = refl

  moved_waiting : (h : Held) (name word : Text) → walked rules [] (walk_at h (option name)) word ≡ moved_by h (option name) word (bytes_eq word (codes "--")) (long_of word)
  unfolding walked
  moved_waiting h name word = refl

  -- the errors for a long flag, given its rule
  abbrev long_turn : Held → Text → Option Text → Option Rule → Kinds
  long_turn h word v found =
      or_else (long_fault rules false found v h)
      (step_fault level 1 (after_flag rules idle word (long_met rules found v h).0 (long_met rules found v h).1).0 (after_flag rules idle word (long_met rules found v h).0 (long_met rules found v h).1).1)

  abbrev long_moved : Held → Text → Option Text → Option Rule → Walk
  long_moved h word v found =
      after_step rules word (walk_at h idle) (after_flag rules idle word (long_met rules found v h).0 (long_met rules found v h).1).0 (after_flag rules idle word (long_met rules found v h).0 (long_met rules found v h).1).1

  option_turn : (h : Held) (word name : Text) (v : Option Text) (takes : Takes) → IsRule name takes → bytes_eq word (codes "--") ≡ false → long_of word ≡ Some (name, v)
      → turn_fault level [] (walk_at h idle) word ≡ long_turn h word v (Some (rule name takes))
  option_turn h word name v takes r other long =
      turn_idle h word
      ∙ (ap (λ b. turn_by h idle word b (long_of word)) other
      ∙ (ap (turn_by h idle word false) long ∙ ap (long_turn h word v) r.by_long))

  option_moved : (h : Held) (word name : Text) (v : Option Text) (takes : Takes) → IsRule name takes → bytes_eq word (codes "--") ≡ false → long_of word ≡ Some (name, v)
      → walked rules [] (walk_at h idle) word ≡ long_moved h word v (Some (rule name takes))
  option_moved h word name v takes r other long =
      moved_idle h word
      ∙ (ap (λ b. moved_by h idle word b (long_of word)) other
      ∙ (ap (moved_by h idle word false) long ∙ ap (long_moved h word v) r.by_long))

  -- `--name=value`
  attached_turn : (rows : List Row) (pending : Option (Text × List Text)) (word name value : Text) (takes : Takes) → IsValued takes → fault_held rows pending ≡ []
      → long_turn (held rows pending) word (Some value) (Some (rule name takes)) ≡ use_fault false (rule name takes) (value ∷ []) (rows_held rows pending)
  attached_turn rows pending word name value (number most) valued fault =
      no_more _ ∙ ap (λ s. or_else s (use_fault false (rule name (number most)) (value ∷ []) (rows_held rows pending))) fault
  attached_turn rows pending word name value kind valued fault =
      no_more _ ∙ ap (λ s. or_else s (use_fault false (rule name kind) (value ∷ []) (rows_held rows pending))) fault
  attached_turn rows pending word name value nothing valued fault = absurd valued

  attached_moved : (rows : List Row) (pending : Option (Text × List Text)) (word name value : Text) (takes : Takes) → IsValued takes
      → long_moved (held rows pending) word (Some value) (Some (rule name takes)) ≡ walk_at (held (used (rule name takes) (value ∷ []) (rows_held rows pending)) None) idle
  attached_moved rows pending word name value (number most) valued = refl
  attached_moved rows pending word name value kind valued = refl
  attached_moved rows pending word name value nothing valued = absurd valued

  -- `--name`
  alone_turn : (rows : List Row) (pending : Option (Text × List Text)) (word name : Text) (takes : Takes) → IsValued takes → fault_held rows pending ≡ []
      → long_turn (held rows pending) word None (Some (rule name takes)) ≡ []
  alone_turn rows pending word name (number most) valued fault = no_more _ ∙ fault
  alone_turn rows pending word name kind valued fault = no_more _ ∙ fault
  alone_turn rows pending word name nothing valued fault = absurd valued

  alone_moved : (rows : List Row) (pending : Option (Text × List Text)) (word name : Text) (takes : Takes) → IsValued takes
      → long_moved (held rows pending) word None (Some (rule name takes)) ≡ walk_at (held (rows_held rows pending) (Some (name, []))) (option name)
  alone_moved rows pending word name (number most) valued = refl
  alone_moved rows pending word name kind valued = refl
  alone_moved rows pending word name nothing valued = absurd valued

  -- `--name` of a flag, alone and with a value, which it does not take
  flag_turn : (rows : List Row) (pending : Option (Text × List Text)) (word name : Text) → fault_held rows pending ≡ []
      → long_turn (held rows pending) word None (Some (rule name nothing)) ≡ use_fault false (rule name nothing) [] (rows_held rows pending)
  flag_turn rows pending word name fault =
      no_more _ ∙ ap (λ s. or_else s (use_fault false (rule name nothing) [] (rows_held rows pending))) fault

  flag_moved : (rows : List Row) (pending : Option (Text × List Text)) (word name : Text)
      → long_moved (held rows pending) word None (Some (rule name nothing)) ≡ walk_at (held (used (rule name nothing) [] (rows_held rows pending)) None) idle
  flag_moved rows pending word name = refl

  flag_value_turn : (h : Held) (word name value : Text) → are_mistakes (long_turn h word (Some value) (Some (rule name nothing))) ≡ true
  flag_value_turn h word name value = refl

  dashes_flag : is_flag (codes "--") ≡ true
  unfolding chars
  dashes_flag = refl

  flags_dashes : (word : Text) → bytes_eq (codes "--") word ≡ true → is_flag word ≡ true
  flags_dashes word e = subst (λ w. is_flag w ≡ true) (same_text (codes "--") word e) dashes_flag

  -- ---- a pending option that has an error

  record IsBad (rows : List Row) (pending : Option (Text × List Text)) : Type 0 where
    mistakes : are_mistakes (fault_held rows pending) ≡ true

  mistakes_first : (a b : Kinds) → are_mistakes a ≡ true → are_mistakes (or_else a b) ≡ true
  mistakes_first [] b h = absurd (true≢false (sym h))
  mistakes_first (k ∷ ks) b h = h

  -- after such an option a flag that is no option is a mistake too
  bad_flag : (helps : Bool) (pending ks : Kinds) → are_mistakes pending ≡ true → FlagFault helps pending ks → are_mistakes ks ≡ true
  bad_flag true pending ks bad fault =
      rw fault.1 (mistakes_first (or_else pending (error.DisplayHelp ∷ [])) fault.0 (mistakes_first pending (error.DisplayHelp ∷ []) bad))
  bad_flag false pending ks bad fault = fault

  -- after such an option another option is a mistake too
  bad_option : (rows : List Row) (pending : Option (Text × List Text)) (word name : Text) (v : Option Text) (takes : Takes) → IsBad rows pending
      → are_mistakes (long_fault rules false (Some (rule name takes)) v (held rows pending)) ≡ true
  bad_option rows pending word name None (number most) bad = bad.mistakes
  bad_option rows pending word name None kind bad = bad.mistakes
  bad_option rows pending word name None nothing bad = mistakes_first (fault_held rows pending) _ bad.mistakes
  bad_option rows pending word name (Some value) (number most) bad = mistakes_first (fault_held rows pending) _ bad.mistakes
  bad_option rows pending word name (Some value) kind bad = mistakes_first (fault_held rows pending) _ bad.mistakes
  bad_option rows pending word name (Some value) nothing bad = refl

  -- ---- all words that follow

  abbrev end_fault : Held → Kinds
  end_fault h =
      or_else (settle_fault rules false h) (or_else (defaults_fault (settled rules h).rows rules) (check_fault level (finished rules h) false))

  abbrev rest_fault : Walk → List Text → Kinds
  rest_fault w [] = end_fault w.held
  rest_fault w (word ∷ rest) = or_else (turn_fault level [] w word) (rest_fault (walked rules [] w word) rest)

  abbrev pub rest_rows : Walk → List Text → List Row
  rest_rows w words = finished rules (fold (walked rules []) w words).held

  rest_is : (w : Walk) (words : List Text) → or_else (walk_fault level [] w words) (end_fault (fold (walked rules []) w words).held) ≡ rest_fault w words
  unfolding walk_fault
  rest_is w [] = refl
  rest_is w (word ∷ rest) =
      else_else (turn_fault level [] w word) (walk_fault level [] (walked rules [] w word) rest) (end_fault (fold (walked rules []) (walked rules [] w word) rest).held)
      ∙ ap (or_else (turn_fault level [] w word)) (rest_is (walked rules [] w word) rest)

  good_end : (rows : List Row) (pending : Option (Text × List Text)) → fault_held rows pending ≡ [] → end_fault (held rows pending) ≡ []
  good_end rows pending fault =
      ap (λ ks. or_else ks (or_else (defaults_fault (rows_held rows pending) rules) (check_fault level (finished rules (held rows pending)) false))) fault
      ∙ ap (λ ks. or_else ks (check_fault level (finished rules (held rows pending)) false)) (row.no_default_fault kinds good which (rows_held rows pending))
      ∙ no_check (finished rules (held rows pending))

  -- ---- words that are rejected from here on

  abbrev trailing_at : Held → Waiting → Walk
  trailing_at h waiting = record (walk_at h waiting) { is_trailing = true }

  stray : (h : Held) (waiting : Waiting) (word : Text) → turn_fault level [] (trailing_at h waiting) word ≡ error.UnknownArgument ∷ []
  stray h waiting word = unknown_step h

  dashes_idle : (h : Held) → (turn_fault level [] (walk_at h idle) (codes "--") ≡ []) × (walked rules [] (walk_at h idle) (codes "--") ≡ trailing_at h idle)
  unfolding walked
  dashes_idle h = (refl, refl)

  dashes_waiting : (h : Held) (name : Text) → (turn_fault level [] (walk_at h (option name)) (codes "--") ≡ []) × (walked rules [] (walk_at h (option name)) (codes "--") ≡ trailing_at h (option name))
  unfolding walked
  dashes_waiting h name = (refl, refl)

  -- the errors for a word, and then those for the rest
  abbrev step_on : Kinds → List Text → Walk → Kinds
  step_on turn rest w = or_else turn (rest_fault w rest)

  stepped : (w next : Walk) (word : Text) (rest : List Text) → turn_fault level [] w word ≡ [] → walked rules [] w word ≡ next → rest_fault w (word ∷ rest) ≡ rest_fault next rest
  stepped w next word rest none moved = ap (λ ks. step_on ks rest (walked rules [] w word)) none ∙ ap (λ x. rest_fault x rest) moved

  turn_refused : (w : Walk) (word : Text) (rest : List Text) → are_mistakes (turn_fault level [] w word) ≡ true → are_mistakes (rest_fault w (word ∷ rest)) ≡ true
  turn_refused w word rest h = mistakes_first (turn_fault level [] w word) (rest_fault (walked rules [] w word) rest) h

  -- after `--` only the end is not rejected
  bad_behind_dashes : (rows : List Row) (pending : Option (Text × List Text)) (waiting : Waiting) → IsBad rows pending → (rest : List Text) → are_mistakes (rest_fault (trailing_at (held rows pending) waiting) rest) ≡ true
  bad_behind_dashes rows pending waiting bad [] = mistakes_first (fault_held rows pending) _ bad.mistakes
  bad_behind_dashes rows pending waiting bad (word ∷ rest) = turn_refused (trailing_at (held rows pending) waiting) word rest (ap are_mistakes (stray (held rows pending) waiting word))

  strays_behind_dashes : (h : Held) (waiting : Waiting) (word : Text) (rest : List Text) → are_mistakes (rest_fault (trailing_at h waiting) (word ∷ rest)) ≡ true
  strays_behind_dashes h waiting word rest = turn_refused (trailing_at h waiting) word rest (ap are_mistakes (stray h waiting word))

  -- a word that is not a flag
  plain_idle : (h : Held) (word : Text) → h.skip ≡ 0 → IsPlainWord which word → turn_fault level [] (walk_at h idle) word ≡ error.UnknownArgument ∷ []
  unfolding flags_fault bundle_met
  plain_idle h word skip plain =
      turn_idle h word ∙ (ap (λ b. turn_by h idle word b (long_of word)) plain.other ∙ (ap (turn_by h idle word false) plain.long ∙ by_short plain.short))
    where
      by_short : (short_of word ≡ None) ⊎ ((y : ℕ) × (ys : Text) × (short_of word ≡ Some (y ∷ ys)) × (chars (y ∷ ys) ≡ [])) → turn_by h idle word false None ≡ error.UnknownArgument ∷ []
      by_short (inl none) = rw none (unknown_step h)
      by_short (inr (y, ys, is, first)) = rw (is, skip, first) (unknown_step (record h { skip = 0 }))

  plain_waiting : (h : Held) (name word : Text) → h.skip ≡ 0 → IsPlainWord which word → turn_fault level [] (walk_at h (option name)) word ≡ []
  unfolding flags_fault bundle_met
  plain_waiting h name word skip plain =
      turn_waiting h name word ∙ (ap (λ b. turn_by h (option name) word b (long_of word)) plain.other ∙ (ap (turn_by h (option name) word false) plain.long ∙ by_short plain.short))
    where
      by_short : (short_of word ≡ None) ⊎ ((y : ℕ) × (ys : Text) × (short_of word ≡ Some (y ∷ ys)) × (chars (y ∷ ys) ≡ [])) → turn_by h (option name) word false None ≡ []
      by_short (inl none) = rw none refl
      by_short (inr (y, ys, is, first)) = rw (is, skip, first) refl

  -- the walk after a word that is the value of the option before it
  abbrev pushed_by : List Row → Text → Text → Option Rule → Walk
  pushed_by rows name word found =
      walk_at (option_word found name word (held rows (Some (name, [])))).0 (option_word found name word (held rows (Some (name, [])))).1

  plain_moved : (rows : List Row) (name word : Text) (takes : Takes) → IsValued takes → IsRule name takes → IsPlainWord which word
      → walked rules [] (walk_at (held rows (Some (name, []))) (option name)) word ≡ walk_at (held rows (Some (name, word ∷ []))) idle
  unfolding bundle_met
  plain_moved rows name word takes valued r plain =
      moved_waiting (held rows (Some (name, []))) name word
      ∙ (ap (λ b. moved_by (held rows (Some (name, []))) (option name) word b (long_of word)) plain.other
      ∙ (ap (moved_by (held rows (Some (name, []))) (option name) word false) plain.long
      ∙ (by_short plain.short ∙ (ap (pushed_by rows name word) r.by_id ∙ counted takes valued))))
    where
      by_short : (short_of word ≡ None) ⊎ ((y : ℕ) × (ys : Text) × (short_of word ≡ Some (y ∷ ys)) × (chars (y ∷ ys) ≡ []))
          → moved_by (held rows (Some (name, []))) (option name) word false None ≡ pushed_by rows name word (arg_by_id rules name)
      by_short (inl none) = rw none refl
      by_short (inr (y, ys, is, first)) = rw (is, first) refl

      counted : (takes : Takes) → IsValued takes → pushed_by rows name word (Some (rule name takes)) ≡ walk_at (held rows (Some (name, word ∷ []))) idle
      counted (number most) valued = rw (text_itself name) refl
      counted kind valued = rw (text_itself name) refl
      counted nothing valued = absurd valued

  -- a flag, of an option or another, while a pending option has an error
  bad_flag_fault : (rows : List Row) (pending : Option (Text × List Text)) (word : Text) → IsBad rows pending → (option_in which word ≡ None → flags.HasFlagFault kinds good which rows pending word)
      → are_mistakes (flags.flag_fault kinds good which (held rows pending) word) ≡ true
  bad_flag_fault rows pending word bad other = by_long (long_of word) refl
    where
      by_long : (flag : Option (Text × Option Text)) → long_of word ≡ flag → are_mistakes (flags.flag_fault kinds good which (held rows pending) word) ≡ true
      by_long None long =
          bad_flag (is_help_flag word) (fault_held rows pending) (flags.flag_fault kinds good which (held rows pending) word) bad.mistakes (other (ap (option_and_then (λ p. if is_some (takes_of which p.0) then Some p else None)) long))
      by_long (Some (name, v)) long = by_taken (takes_of which name) refl
        where
          by_taken : (m : Option Takes) → takes_of which name ≡ m → are_mistakes (flags.flag_fault kinds good which (held rows pending) word) ≡ true
          by_taken None none =
              bad_flag (is_help_flag word) (fault_held rows pending) (flags.flag_fault kinds good which (held rows pending) word) bad.mistakes
              (other (ap (option_and_then (λ p. if is_some (takes_of which p.0) then Some p else None)) long ∙ ap (λ m. if is_some m then Some (name, v) else None) none))
          by_taken (Some takes) is =
              ap are_mistakes (ap (flags.fault_by kinds good which (held rows pending) word) long ∙ ap (flags.long_by kinds good which (held rows pending) v) (rule_of_option name takes is).by_long) ∙ bad_option rows pending word name v takes bad

  bad_rest : (rows : List Row) (pending : Option (Text × List Text)) → IsBad rows pending → (words : List Text) → are_mistakes (rest_fault (walk_at (held rows pending) idle) words) ≡ true
  bad_rest rows pending bad [] = mistakes_first (fault_held rows pending) _ bad.mistakes
  bad_rest rows pending bad (word ∷ rest) =
      by_test (bytes_eq (codes "--") word) (are_mistakes (rest_fault (walk_at (held rows pending) idle) (word ∷ rest)) ≡ true)
      (λ e. subst (λ w. are_mistakes (rest_fault (walk_at (held rows pending) idle) (w ∷ rest)) ≡ true) (same_text (codes "--") word e)
      (ap are_mistakes (stepped (walk_at (held rows pending) idle) (trailing_at (held rows pending) idle) (codes "--") rest (dashes_idle (held rows pending)).0 (dashes_idle (held rows pending)).1)
      ∙ bad_behind_dashes rows pending idle bad rest))
      (λ e. turn_refused (walk_at (held rows pending) idle) word rest (by_word e (flags.flag_or_plain kinds good which rows pending word e)))
    where
      by_word : bytes_eq (codes "--") word ≡ false → flags.ByWord kinds good which rows pending word → are_mistakes (turn_fault level [] (walk_at (held rows pending) idle) word) ≡ true
      by_word e (inl flag) =
          ap are_mistakes (turn_idle (held rows pending) word ∙ ap (λ b. turn_by (held rows pending) idle word b (long_of word)) (other_text (codes "--") word e))
          ∙ mistakes_first (flags.flag_fault kinds good which (held rows pending) word) _ (bad_flag_fault rows pending word bad flag.1)
      by_word e (inr plain) = ap are_mistakes (plain_idle (held rows pending) word refl plain.1)

  -- an option without a value
  lacks_value : (rows : List Row) (name : Text) (takes : Takes) → IsValued takes → IsRule name takes → IsBad rows (Some (name, []))
  lacks_value rows name takes valued r = record { mistakes = ap are_mistakes (ap fault_of_found r.by_id) ∙ lacks takes valued }
    where
      fault_of_found : Option Rule → Kinds
      fault_of_found found = option_map_or (λ a. use_fault false a [] rows) found []

      lacks : (takes : Takes) → IsValued takes → are_mistakes (use_fault false (rule name takes) [] rows) ≡ true
      lacks (number most) valued = refl
      lacks kind valued = refl
      lacks nothing valued = absurd valued

  flag_for_value : (rows : List Row) (name word : Text) (takes : Takes) (rest : List Text) → IsValued takes → IsRule name takes → is_flag word ≡ true → are_mistakes (rest_fault (walk_at (held rows (Some (name, []))) (option name)) (word ∷ rest)) ≡ true
  flag_for_value rows name word takes rest valued r flag =
      by_test (bytes_eq (codes "--") word) (are_mistakes (rest_fault (walk_at h (option name)) (word ∷ rest)) ≡ true)
      (λ e. subst (λ w. are_mistakes (rest_fault (walk_at h (option name)) (w ∷ rest)) ≡ true) (same_text (codes "--") word e)
      (ap are_mistakes (stepped (walk_at h (option name)) (trailing_at h (option name)) (codes "--") rest (dashes_waiting h name).0 (dashes_waiting h name).1)
      ∙ bad_behind_dashes rows (Some (name, [])) (option name) bad rest))
      (λ e. turn_refused (walk_at h (option name)) word rest (by_word e (flags.flag_or_plain kinds good which rows (Some (name, [])) word e)))
    where
      h : Held
      h = held rows (Some (name, []))

      bad : IsBad rows (Some (name, []))
      bad = lacks_value rows name takes valued r

      by_word : bytes_eq (codes "--") word ≡ false → flags.ByWord kinds good which rows (Some (name, [])) word → are_mistakes (turn_fault level [] (walk_at h (option name)) word) ≡ true
      by_word e (inl is) =
          ap are_mistakes (turn_waiting h name word ∙ ap (λ b. turn_by h (option name) word b (long_of word)) (other_text (codes "--") word e))
          ∙ mistakes_first (flags.flag_fault kinds good which h word) _ (bad_flag_fault rows (Some (name, [])) word bad is.1)
      by_word e (inr plain) = absurd (true≢false (sym flag ∙ plain.0))

  -- ---- the words after the command

  abbrev ComesFrom : Asked → Walk → List Text → Type 0
  ComesFrom a w words = Comes which a (rest_fault w words) (rest_rows w words)

  comes_stepped : (a : Asked) (w next : Walk) (word : Text) (rest : List Text) → turn_fault level [] w word ≡ [] → walked rules [] w word ≡ next → ComesFrom a next rest → ComesFrom a w (word ∷ rest)
  comes_stepped a w next word rest none moved h =
      subst (λ ks. Comes which a ks (rest_rows w (word ∷ rest))) (sym (stepped w next word rest none moved))
      (subst (λ rows. Comes which a (rest_fault next rest) rows) (ap (λ x. rest_rows x rest) (sym moved)) h)

  good_comes : (given : Given) (rows : List Row) (pending : Option (Text × List Text)) → Holds given rows pending → ComesFrom (command (invocation_of which given)) (walk_at (held rows pending) idle) []
  good_comes given rows pending holds = (
    good_end rows pending holds.fault,
    subst (IsReadAs which (invocation_of which given)) (sym (row.finished_is kinds good which rows pending ∙ ap (row.with_defaults kinds good which) holds.now)) (row.read_in_the_end kinds good which given holds.fit),
  )

  good_behind_dashes : (given : Given) (rows : List Row) (pending : Option (Text × List Text)) → Holds given rows pending → ComesFrom (command (invocation_of which given)) (trailing_at (held rows pending) idle) []
  good_behind_dashes given rows pending holds = good_comes given rows pending holds

  abbrev own_step : Held → Text → Kinds
  own_step h word = step_fault level 1 (step_met h idle word false (long_of word)).0 (step_met h idle word false (long_of word)).1

  -- a word that is neither an option nor `--`
  other_comes : (rows : List Row) (pending : Option (Text × List Text)) (word : Text) (rest : List Text) → fault_held rows pending ≡ [] → bytes_eq (codes "--") word ≡ false → option_in which word ≡ None
      → ComesFrom (asked_by_flag word) (walk_at (held rows pending) idle) (word ∷ rest)
  other_comes rows pending word rest fault e none = by_word (flags.flag_or_plain kinds good which rows pending word e)
    where
      h : Held
      h = held rows pending

      asked : Bool → Asked
      asked helps = if helps then help else mistake

      by_flag : (helps : Bool) → FlagFault helps (fault_held rows pending) (flags.flag_fault kinds good which h word) → ComesFrom (asked helps) (walk_at h idle) (word ∷ rest)
      by_flag true flag =
          ap (λ ks. or_else ks (rest_fault (walked rules [] (walk_at h idle) word) rest))
          (turn_idle h word ∙ (ap (λ b. turn_by h idle word b (long_of word)) (other_text (codes "--") word e)
          ∙ (ap (λ ks. or_else ks (own_step h word)) flag.1 ∙ ap (λ ks. or_else (or_else (or_else ks (error.DisplayHelp ∷ [])) flag.0) (own_step h word)) fault)))
      by_flag false flag =
          turn_refused (walk_at h idle) word rest
          (ap are_mistakes (turn_idle h word ∙ ap (λ b. turn_by h idle word b (long_of word)) (other_text (codes "--") word e)) ∙ mistakes_first (flags.flag_fault kinds good which h word) _ flag)

      by_word : flags.ByWord kinds good which rows pending word → ComesFrom (asked_by_flag word) (walk_at h idle) (word ∷ rest)
      by_word (inl flag) = by_flag (is_help_flag word) (flag.1 none)
      by_word (inr plain) =
          subst (λ b. ComesFrom (asked b) (walk_at h idle) (word ∷ rest)) (sym plain.1.no_help)
          (turn_refused (walk_at h idle) word rest (ap are_mistakes (plain_idle h word refl plain.1)))

  -- what is requested by the words that follow
  abbrev Follows : List Text → Type 0
  Follows rest =
      (more : Given) (rows : List Row) (pending : Option (Text × List Text)) → Holds more rows pending → ComesFrom (asked_options which more rest) (walk_at (held rows pending) idle) rest

  -- `--name=value`
  valued_comes : (given : Given) (rows : List Row) (pending : Option (Text × List Text)) (word name value : Text) (takes : Takes) (rest : List Text) → IsValued takes → Holds given rows pending
      → bytes_eq word (codes "--") ≡ false → long_of word ≡ Some (name, Some value) → takes_of which name ≡ Some takes → Follows rest
      → ComesFrom (taken which given name value (λ more. asked_options which more rest)) (walk_at (held rows pending) idle) (word ∷ rest)
  valued_comes given rows pending word name value takes rest valued holds other long is follows =
      by_test (is_taken which given name value) (ComesFrom (chosen (is_taken which given name value)) w (word ∷ rest))
      (λ does. subst (λ b. ComesFrom (chosen b) w (word ∷ rest)) (sym does) (fine does))
      (λ fails. subst (λ b. ComesFrom (chosen b) w (word ∷ rest)) (sym fails) (turn_refused w word rest (ap are_mistakes turn ∙ row.bad_use kinds good name value takes (rows_held rows pending) valued (bad fails))))
    where
      w : Walk
      w = walk_at (held rows pending) idle

      more : Given
      more = given ++ (name, value) ∷ []

      chosen : Bool → Asked
      chosen b = if b then asked_options which more rest else mistake

      r : IsRule name takes
      r = rule_of_option name takes is

      new_is : has_row name (rows_held rows pending) ≡ is_given given name
      new_is = ap (has_row name) holds.now ∙ row.has_row_of kinds good which name given

      turn : turn_fault level [] w word ≡ use_fault false (rule name takes) (value ∷ []) (rows_held rows pending)
      turn = option_turn (held rows pending) word name (Some value) takes r other long ∙ attached_turn rows pending word name value takes valued holds.fault

      split : not (is_given given name) && is_value_of (Some takes) value ≡ is_taken which given name value
      split = ap (λ m. not (is_given given name) && is_value_of m value) (sym is)

      bad : is_taken which given name value ≡ false → not (has_row name (rows_held rows pending)) && is_value_of (Some takes) value ≡ false
      bad fails = ap (λ b. not b && is_value_of (Some takes) value) new_is ∙ (split ∙ fails)

      fine : is_taken which given name value ≡ true → ComesFrom (asked_options which more rest) w (word ∷ rest)
      fine does =
          let both = and_parts (not (is_given given name)) (is_value_of (Some takes) value) (split ∙ does) in
          let new : is_given given name ≡ false = not_true (is_given given name) both.0 in
          comes_stepped (asked_options which more rest) w (walk_at (held (used (rule name takes) (value ∷ []) (rows_held rows pending)) None) idle) word rest
          (turn ∙ row.good_use kinds good name value takes (rows_held rows pending) (new_is ∙ new) both.1)
          (option_moved (held rows pending) word name (Some value) takes r other long ∙ attached_moved rows pending word name value takes valued)
          (follows more (used (rule name takes) (value ∷ []) (rows_held rows pending)) None (record {
            fault = refl;
            now = ap (used (rule name takes) (value ∷ [])) holds.now ∙ row.used_is kinds good which name value takes given is new;
            fit = row.fit_option kinds good which given name value takes holds.fit is both.1;
          }))

  -- a flag with a value is a mistake
  flag_value_comes : (given : Given) (rows : List Row) (pending : Option (Text × List Text)) (word name value : Text) (rest : List Text)
      → bytes_eq word (codes "--") ≡ false → long_of word ≡ Some (name, Some value) → takes_of which name ≡ Some nothing
      → ComesFrom (taken which given name value (λ more. asked_options which more rest)) (walk_at (held rows pending) idle) (word ∷ rest)
  flag_value_comes given rows pending word name value rest other long is =
      subst (λ b. ComesFrom (chosen b) w (word ∷ rest)) (sym fails)
      (turn_refused w word rest (ap are_mistakes (option_turn (held rows pending) word name (Some value) nothing (rule_of_option name nothing is) other long) ∙ flag_value_turn (held rows pending) word name value))
    where
      w : Walk
      w = walk_at (held rows pending) idle

      chosen : Bool → Asked
      chosen b = if b then asked_options which (given ++ (name, value) ∷ []) rest else mistake

      and_false : (b : Bool) → b && false ≡ false
      and_false true = refl
      and_false false = refl

      fails : is_taken which given name value ≡ false
      fails = ap (λ m. not (is_given given name) && is_value_of m value) is ∙ and_false (not (is_given given name))

  attached_comes : (given : Given) (rows : List Row) (pending : Option (Text × List Text)) (word name value : Text) (takes : Takes) (rest : List Text) → Holds given rows pending
      → bytes_eq word (codes "--") ≡ false → long_of word ≡ Some (name, Some value) → takes_of which name ≡ Some takes → Follows rest
      → ComesFrom (taken which given name value (λ more. asked_options which more rest)) (walk_at (held rows pending) idle) (word ∷ rest)
  attached_comes given rows pending word name value (number most) rest holds other long is follows = valued_comes given rows pending word name value (number most) rest tt holds other long is follows
  attached_comes given rows pending word name value kind rest holds other long is follows = valued_comes given rows pending word name value kind rest tt holds other long is follows
  attached_comes given rows pending word name value nothing rest holds other long is follows = flag_value_comes given rows pending word name value rest other long is

  -- a flag
  flag_comes : (given : Given) (rows : List Row) (pending : Option (Text × List Text)) (word name : Text) (rest : List Text) → Holds given rows pending
      → bytes_eq word (codes "--") ≡ false → long_of word ≡ Some (name, None) → takes_of which name ≡ Some nothing → Follows rest
      → ComesFrom (taken_flag given name (λ more. asked_options which more rest)) (walk_at (held rows pending) idle) (word ∷ rest)
  flag_comes given rows pending word name rest holds other long is follows =
      by_test (is_given given name) (ComesFrom (chosen (is_given given name)) w (word ∷ rest))
      (λ old. subst (λ b. ComesFrom (chosen b) w (word ∷ rest)) (sym old) (turn_refused w word rest (ap are_mistakes turn ∙ row.bad_flag_use kinds good name (rows_held rows pending) (new_is ∙ old))))
      (λ new. subst (λ b. ComesFrom (chosen b) w (word ∷ rest)) (sym new) (fine new))
    where
      w : Walk
      w = walk_at (held rows pending) idle

      more : Given
      more = given ++ (name, codes "true") ∷ []

      chosen : Bool → Asked
      chosen b = if b then mistake else asked_options which more rest

      r : IsRule name nothing
      r = rule_of_option name nothing is

      new_is : has_row name (rows_held rows pending) ≡ is_given given name
      new_is = ap (has_row name) holds.now ∙ row.has_row_of kinds good which name given

      turn : turn_fault level [] w word ≡ use_fault false (rule name nothing) [] (rows_held rows pending)
      turn = option_turn (held rows pending) word name None nothing r other long ∙ flag_turn rows pending word name holds.fault

      fine : is_given given name ≡ false → ComesFrom (asked_options which more rest) w (word ∷ rest)
      fine new =
          comes_stepped (asked_options which more rest) w (walk_at (held (used (rule name nothing) [] (rows_held rows pending)) None) idle) word rest
          (turn ∙ row.good_flag kinds good name (rows_held rows pending) (new_is ∙ new))
          (option_moved (held rows pending) word name None nothing r other long ∙ flag_moved rows pending word name)
          (follows more (used (rule name nothing) [] (rows_held rows pending)) None (record {
            fault = refl;
            now = row.flag_used kinds good name (rows_held rows pending) ∙ (ap (used (rule name nothing) (codes "true" ∷ [])) holds.now ∙ row.used_is kinds good which name (codes "true") nothing given is new);
            fit = row.fit_flag kinds good which given name holds.fit is;
          }))

  -- `--name`, with its value in the next word
  behind_comes : (given : Given) (rows : List Row) (pending : Option (Text × List Text)) (word name next : Text) (takes : Takes) (rest : List Text) → IsValued takes → Holds given rows pending
      → bytes_eq word (codes "--") ≡ false → long_of word ≡ Some (name, None) → takes_of which name ≡ Some takes → Follows rest
      → ComesFrom (if is_flag next then mistake else taken which given name next (λ more. asked_options which more rest)) (walk_at (held rows pending) idle) (word ∷ next ∷ rest)
  behind_comes given rows pending word name next takes rest valued holds other long is follows =
      comes_stepped asked w waiting word (next ∷ rest) (option_turn (held rows pending) word name None takes r other long ∙ alone_turn rows pending word name takes valued holds.fault)
      (option_moved (held rows pending) word name None takes r other long ∙ alone_moved rows pending word name takes valued)
      (by_test (is_flag next) (ComesFrom asked waiting (next ∷ rest))
      (λ flag. subst (λ b. ComesFrom (by_flag b) waiting (next ∷ rest)) (sym flag) (flag_for_value now name next takes rest valued r flag))
      (λ fails. subst (λ b. ComesFrom (by_flag b) waiting (next ∷ rest)) (sym fails) (plain_next (plain_of fails))))
    where
      w : Walk
      w = walk_at (held rows pending) idle

      now : List Row
      now = rows_held rows pending

      waiting : Walk
      waiting = walk_at (held now (Some (name, []))) (option name)

      behind : Walk
      behind = walk_at (held now (Some (name, next ∷ []))) idle

      more : Given
      more = given ++ (name, next) ∷ []

      chosen : Bool → Asked
      chosen b = if b then asked_options which more rest else mistake

      by_flag : Bool → Asked
      by_flag b = if b then mistake else taken which given name next (λ more. asked_options which more rest)

      asked : Asked
      asked = by_flag (is_flag next)

      r : IsRule name takes
      r = rule_of_option name takes is

      plain_of : is_flag next ≡ false → IsPlainWord which next
      plain_of fails =
          by_test (bytes_eq (codes "--") next) (IsPlainWord which next)
          (λ e. absurd (true≢false (sym (flags_dashes next e) ∙ fails)))
          (λ e. of (flags.flag_or_plain kinds good which now (Some (name, [])) next e))
        where
          of : flags.ByWord kinds good which now (Some (name, [])) next → IsPlainWord which next
          of (inl flag) = absurd (true≢false (sym flag.0 ∙ fails))
          of (inr plain) = plain.1

      pending_fault : fault_held now (Some (name, next ∷ [])) ≡ use_fault false (rule name takes) (next ∷ []) now
      pending_fault = ap fault_of_found r.by_id
        where
          fault_of_found : Option Rule → Kinds
          fault_of_found found = option_map_or (λ a. use_fault false a (next ∷ []) now) found []

      pending_rows : rows_held now (Some (name, next ∷ [])) ≡ used (rule name takes) (next ∷ []) now
      pending_rows = ap (λ found. used_by_id found (next ∷ []) now) r.by_id

      new_is : has_row name now ≡ is_given given name
      new_is = ap (has_row name) holds.now ∙ row.has_row_of kinds good which name given

      split : not (is_given given name) && is_value_of (Some takes) next ≡ is_taken which given name next
      split = ap (λ m. not (is_given given name) && is_value_of m next) (sym is)

      fine : is_taken which given name next ≡ true → Holds more now (Some (name, next ∷ []))
      fine does =
          let both = and_parts (not (is_given given name)) (is_value_of (Some takes) next) (split ∙ does) in
          let new : is_given given name ≡ false = not_true (is_given given name) both.0 in
          record {
            fault = pending_fault ∙ row.good_use kinds good name next takes now (new_is ∙ new) both.1;
            now = pending_rows ∙ (ap (used (rule name takes) (next ∷ [])) holds.now ∙ row.used_is kinds good which name next takes given is new);
            fit = row.fit_option kinds good which given name next takes holds.fit is both.1;
          }

      bad : is_taken which given name next ≡ false → IsBad now (Some (name, next ∷ []))
      bad fails =
          record { mistakes = ap are_mistakes pending_fault ∙ row.bad_use kinds good name next takes now valued (ap (λ b. not b && is_value_of (Some takes) next) new_is ∙ (split ∙ fails)) }

      plain_next : IsPlainWord which next → ComesFrom (taken which given name next (λ more. asked_options which more rest)) waiting (next ∷ rest)
      plain_next plain =
          comes_stepped (chosen (is_taken which given name next)) waiting behind next rest (plain_waiting (held now (Some (name, []))) name next refl plain) (plain_moved now name next takes valued r plain)
          (by_test (is_taken which given name next) (ComesFrom (chosen (is_taken which given name next)) behind rest)
          (λ does. subst (λ b. ComesFrom (chosen b) behind rest) (sym does) (follows more now (Some (name, next ∷ [])) (fine does)))
          (λ fails. subst (λ b. ComesFrom (chosen b) behind rest) (sym fails) (bad_rest now (Some (name, next ∷ [])) (bad fails) rest)))

  -- all words after the command
  options_come : (given : Given) (rows : List Row) (pending : Option (Text × List Text)) (words : List Text) → Holds given rows pending → ComesFrom (asked_options which given words) (walk_at (held rows pending) idle) words
  options_come given rows pending [] holds = good_comes given rows pending holds
  options_come given rows pending (word ∷ []) holds =
      by_test (bytes_eq (codes "--") word) (ComesFrom (asked_options which given (word ∷ [])) w (word ∷ []))
      (λ e. subst (λ x. ComesFrom (asked_options which given (x ∷ [])) w (x ∷ [])) (same_text (codes "--") word e)
      (comes_stepped (command (invocation_of which given)) w (trailing_at (held rows pending) idle) (codes "--") [] (dashes_idle (held rows pending)).0 (dashes_idle (held rows pending)).1 (good_behind_dashes given rows pending holds)))
      (λ e. subst (λ b. ComesFrom (by_dashes b) w (word ∷ [])) (sym e) (by_long e (long_of word) refl))
    where
      w : Walk
      w = walk_at (held rows pending) idle

      by_option : Option (Text × Option Text) → Asked
      by_option found = asked_word which given word found (λ more. command (invocation_of which more)) (λ name. mistake)

      by_dashes : Bool → Asked
      by_dashes b = if b then command (invocation_of which given) else by_option (option_in which word)

      by_bare : Text → Option Takes → Asked
      by_bare name m = if takes_nothing m then taken_flag given name (λ more. command (invocation_of which more)) else mistake

      in_long : Option (Text × Option Text) → Option (Text × Option Text)
      in_long = option_and_then (λ p. if is_some (takes_of which p.0) then Some p else None)

      in_taken : Text → Option Text → Option Takes → Option (Text × Option Text)
      in_taken name v m = if is_some m then Some (name, v) else None

      by_taken : bytes_eq (codes "--") word ≡ false → (name : Text) (v : Option Text) → long_of word ≡ Some (name, v) → (m : Option Takes) → takes_of which name ≡ m → ComesFrom (by_option (option_in which word)) w (word ∷ [])
      by_taken e name v long None none =
          let fails : option_in which word ≡ None = ap in_long long ∙ ap (in_taken name v) none in
          subst (λ o. ComesFrom (by_option o) w (word ∷ [])) (sym fails) (other_comes rows pending word [] holds.fault e fails)
      by_taken e name (Some value) long (Some takes) is =
          let some : option_in which word ≡ Some (name, Some value) = ap in_long long ∙ ap (in_taken name (Some value)) is in
          subst (λ o. ComesFrom (by_option o) w (word ∷ [])) (sym some)
          (attached_comes given rows pending word name value takes [] holds (other_text (codes "--") word e) long is (λ more rows pending holds. good_comes more rows pending holds))
      by_taken e name None long (Some takes) is =
          let some : option_in which word ≡ Some (name, None) = ap in_long long ∙ ap (in_taken name None) is in
          subst (λ o. ComesFrom (by_option o) w (word ∷ [])) (sym some)
          (subst (λ m. ComesFrom (by_bare name m) w (word ∷ [])) (sym is) (alone takes is))
        where
          lacks : (takes : Takes) → IsValued takes → takes_of which name ≡ Some takes → ComesFrom mistake w (word ∷ [])
          lacks takes valued is =
              let r = rule_of_option name takes is in
              comes_stepped mistake w (walk_at (held (rows_held rows pending) (Some (name, []))) (option name)) word []
              (option_turn (held rows pending) word name None takes r (other_text (codes "--") word e) long ∙ alone_turn rows pending word name takes valued holds.fault)
              (option_moved (held rows pending) word name None takes r (other_text (codes "--") word e) long ∙ alone_moved rows pending word name takes valued)
              (mistakes_first (fault_held (rows_held rows pending) (Some (name, []))) _ (lacks_value (rows_held rows pending) name takes valued r).mistakes)

          alone : (takes : Takes) → takes_of which name ≡ Some takes → ComesFrom (by_bare name (Some takes)) w (word ∷ [])
          alone (number most) is = lacks (number most) tt is
          alone kind is = lacks kind tt is
          alone nothing is = flag_comes given rows pending word name [] holds (other_text (codes "--") word e) long is (λ more rows pending holds. good_comes more rows pending holds)

      by_long : bytes_eq (codes "--") word ≡ false → (flag : Option (Text × Option Text)) → long_of word ≡ flag → ComesFrom (by_option (option_in which word)) w (word ∷ [])
      by_long e None long = subst (λ o. ComesFrom (by_option o) w (word ∷ [])) (sym (ap in_long long)) (other_comes rows pending word [] holds.fault e (ap in_long long))
      by_long e (Some (name, v)) long = by_taken e name v long (takes_of which name) refl
  options_come given rows pending (word ∷ next ∷ rest) holds =
      by_test (bytes_eq (codes "--") word) (ComesFrom (asked_options which given (word ∷ next ∷ rest)) w (word ∷ next ∷ rest))
      (λ e. subst (λ x. ComesFrom (asked_options which given (x ∷ next ∷ rest)) w (x ∷ next ∷ rest)) (same_text (codes "--") word e)
      (comes_stepped mistake w (trailing_at (held rows pending) idle) (codes "--") (next ∷ rest) (dashes_idle (held rows pending)).0 (dashes_idle (held rows pending)).1 (strays_behind_dashes (held rows pending) idle next rest)))
      (λ e. subst (λ b. ComesFrom (by_dashes b) w (word ∷ next ∷ rest)) (sym e)
      (by_long (λ more rows pending holds. options_come more rows pending (next ∷ rest) holds) (λ more rows pending holds. options_come more rows pending rest holds) e (long_of word) refl))
    where
      w : Walk
      w = walk_at (held rows pending) idle

      by_option : Option (Text × Option Text) → Asked
      by_option found =
          asked_word which given word found (λ more. asked_options which more (next ∷ rest)) (λ name. if is_flag next then mistake else taken which given name next (λ more. asked_options which more rest))

      by_dashes : Bool → Asked
      by_dashes b = if b then mistake else by_option (option_in which word)

      by_bare : Text → Option Takes → Asked
      by_bare name m =
          if takes_nothing m then taken_flag given name (λ more. asked_options which more (next ∷ rest))
          else (if is_flag next then mistake else taken which given name next (λ more. asked_options which more rest))

      in_long : Option (Text × Option Text) → Option (Text × Option Text)
      in_long = option_and_then (λ p. if is_some (takes_of which p.0) then Some p else None)

      in_taken : Text → Option Text → Option Takes → Option (Text × Option Text)
      in_taken name v m = if is_some m then Some (name, v) else None

      by_taken : Follows (next ∷ rest) → Follows rest → bytes_eq (codes "--") word ≡ false → (name : Text) (v : Option Text) → long_of word ≡ Some (name, v) → (m : Option Takes) → takes_of which name ≡ m → ComesFrom (by_option (option_in which word)) w (word ∷ next ∷ rest)
      by_taken from behind e name v long None none =
          let fails : option_in which word ≡ None = ap in_long long ∙ ap (in_taken name v) none in
          subst (λ o. ComesFrom (by_option o) w (word ∷ next ∷ rest)) (sym fails) (other_comes rows pending word (next ∷ rest) holds.fault e fails)
      by_taken from behind e name (Some value) long (Some takes) is =
          let some : option_in which word ≡ Some (name, Some value) = ap in_long long ∙ ap (in_taken name (Some value)) is in
          subst (λ o. ComesFrom (by_option o) w (word ∷ next ∷ rest)) (sym some)
          (attached_comes given rows pending word name value takes (next ∷ rest) holds (other_text (codes "--") word e) long is from)
      by_taken from behind e name None long (Some takes) is =
          let some : option_in which word ≡ Some (name, None) = ap in_long long ∙ ap (in_taken name None) is in
          subst (λ o. ComesFrom (by_option o) w (word ∷ next ∷ rest)) (sym some)
          (subst (λ m. ComesFrom (by_bare name m) w (word ∷ next ∷ rest)) (sym is) (alone takes is))
        where
          alone : (takes : Takes) → takes_of which name ≡ Some takes → ComesFrom (by_bare name (Some takes)) w (word ∷ next ∷ rest)
          alone (number most) is = behind_comes given rows pending word name next (number most) rest tt holds (other_text (codes "--") word e) long is behind
          alone kind is = behind_comes given rows pending word name next kind rest tt holds (other_text (codes "--") word e) long is behind
          alone nothing is = flag_comes given rows pending word name (next ∷ rest) holds (other_text (codes "--") word e) long is from

      by_long : Follows (next ∷ rest) → Follows rest → bytes_eq (codes "--") word ≡ false → (flag : Option (Text × Option Text)) → long_of word ≡ flag → ComesFrom (by_option (option_in which word)) w (word ∷ next ∷ rest)
      by_long from behind e None long = subst (λ o. ComesFrom (by_option o) w (word ∷ next ∷ rest)) (sym (ap in_long long)) (other_comes rows pending word (next ∷ rest) holds.fault e (ap in_long long))
      by_long from behind e (Some (name, v)) long = by_taken from behind e name v long (takes_of which name) refl

  -- all words after the command, from the beginning
  pub options_lead : (words : List Text) → Comes which (asked_options which [] words) (level_fault level [] nothing_held words false []) (rest_rows (walk_from nothing_held) words)
  options_lead words =
      subst (λ ks. Comes which (asked_options which [] words) ks (rest_rows (walk_from nothing_held) words)) (sym (rest_is (walk_from nothing_held) words))
      (options_come [] [] None words (record { fault = refl; now = refl; fit = tt }))
