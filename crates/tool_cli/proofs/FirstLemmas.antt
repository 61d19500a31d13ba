-- What `clap` makes of the first word after the program's name, if it is neither a command nor `help`.
use Rattle.std.proofs.Common.{◌≡◌, ◌∙◌, ℕ, Bool, true, false, true≢false, ◌==◌, List, [], ◌∷◌, ◌++◌}
use Rattle.std.proofs.Common.{Option, Some, None, option_map, refl, sym, subst, ap, codes, take}
use Rattle.std.proofs.lemmas.Slice.Eq.{bytes_eq-Decides}
use Rattle.std.proofs.lemmas.Bool.{eqb-true}
use Rattle.std.specs.Prelude.{if◌then◌else◌, find, map}
use Rattle.std.specs.List.{before_first, after_first}
use Rattle.std.specs.Str.{bytes_eq, chars}
use Rattle.clap.specs.Faults.{turn_fault, other_fault, step_fault, flag_word_fault, flags_fault, walk_fault, defaults_fault}
use Rattle.clap.specs.Kinds.{Kinds, or_else}
use Rattle.clap.specs.Lexer.{has_byte, long_of, short_of}
use Rattle.clap.specs.Simple.{Shape, built, names_of}
use Rattle.clap.specs.Walk.{Held, Step, Names, Text, Walk, answers_to, trailing, idle, bundle_met, long_or_other, nothing_held, subcommand_or_other, walk_from, walked}
use Rattle.clap.specs.declared.builder.value_parser.ValueParser.{ValueParser}
use Rattle.tool_cli.specs.Words.{Asked, help, version, mistake, asked_first, is_help_flag, is_version_flag}
use Rattle.tool_cli.specs.Words.{Optioned, name_of, commands, command_named, tool_app}
use Rattle.tool_cli.proofs.KindLemmas.{by_test, same_text, other_text, no_equals_sign, Refuses}

some_none : (which : Optioned) → Some which ≡ None → ⊥
some_none which e = cc

-- the names of commands, as `clap` sees them
abbrev label : Optioned → Text × List Text
label which = (name_of which, [])

no_label : (list : List Optioned) (word : Text) → find (λ which. bytes_eq (name_of which) word) list ≡ None → bytes_eq (codes "help") word ≡ false
    → find (answers_to word) (map label list ++ (codes "help", []) ∷ []) ≡ None
no_label [] word none other = rw other refl
no_label (which ∷ rest) word none other =
    by_test (bytes_eq (name_of which) word) (find (answers_to word) (map label (which ∷ rest) ++ (codes "help", []) ∷ []) ≡ None)
    (λ e. absurd (some_none which (rw e at none))) (λ e. rw e (no_label rest word (rw e at none) other))

module _ (kinds : ValueParser) where
  -- the program, and the names of its commands, as `clap` builds them
  abbrev pub top : Shape
  top = (built (tool_app kinds)).top

  abbrev pub top_names : Names
  top_names = names_of (built (tool_app kinds))

  abbrev pub start : Walk
  start = walk_from nothing_held

  -- the error for a word, given the command that it names
  abbrev turn_at : Text → Option Text → Kinds
  turn_at word met =
      or_else (other_fault top met word nothing_held)
      (step_fault top 1 (subcommand_or_other top.rules met idle 1 word nothing_held).0 (subcommand_or_other top.rules met idle 1 word nothing_held).1)

  -- the word is rejected with the kind of error that its flag requests
  abbrev IsRefused : Text → Type 0
  IsRefused word = Refuses (asked_first word) (turn_at word None)

  -- the error for a word, given what `clap` sees of it: whether it is `--`, and the long flag
  abbrev step_met : Text → Bool → Option (Text × Option Text) → Held × Step
  step_met word is_end flag =
      if is_end then (nothing_held, trailing 1) else long_or_other top.rules idle word flag nothing_held

  abbrev turn_by : Text → Bool → Option (Text × Option Text) → Kinds
  turn_by word is_end flag =
      or_else (if is_end then [] else flag_word_fault top.rules false flag word nothing_held)
      (step_fault top 1 (step_met word is_end flag).0 (step_met word is_end flag).1)

  turn_is : (word : Text) → turn_at word None ≡ turn_by word (bytes_eq word (codes "--")) (long_of word)
  turn_is word = refl

  -- what a word requests that is a flag for help, for the version, or neither
  abbrev asked_as : (helps shows : Bool) → Asked
  asked_as helps shows = if shows then version else (if helps then help else mistake)

  -- what is seen of a word that is not `--`
  record IsSeen (word : Text) (flag : Option (Text × Option Text)) (helps shows : Bool) : Type 0 where
    other : bytes_eq word (codes "--") ≡ false
    long : long_of word ≡ flag
    help : is_help_flag word ≡ helps
    version : is_version_flag word ≡ shows

  refused : (word : Text) (flag : Option (Text × Option Text)) (helps shows : Bool) → IsSeen word flag helps shows → Refuses (asked_as helps shows) (turn_by word false flag) → IsRefused word
  refused word flag helps shows seen h = rw (turn_is word, seen.other, seen.long, seen.version, seen.help) h

  stray : (word : Text) → short_of word ≡ None → Refuses mistake (turn_by word false None)
  stray word is = rw is refl

  -- words that are not flags
  empty : IsRefused []
  empty =
      refused [] None false false (record { other = refl; long = refl; help = refl; version = refl }) (stray [] refl)

  plain : (x : ℕ) (xs : Text) → x == 45 ≡ false → IsRefused (x ∷ xs)
  plain x xs is =
      refused (x ∷ xs) None false false (record { other = rw is refl; long = rw is refl; help = rw is refl; version = rw is refl })
      (stray (x ∷ xs) (rw is refl))

  hyphen : IsRefused (45 ∷ [])
  unfolding chars
  hyphen =
      refused (45 ∷ []) None false false (record { other = refl; long = refl; help = refl; version = refl })
      (stray (45 ∷ []) refl)

  -- short flags, by the first character
  no_character : (word : Text) (y : ℕ) (ys : Text) → short_of word ≡ Some (y ∷ ys) → chars (y ∷ ys) ≡ [] → Refuses mistake (turn_by word false None)
  unfolding walked bundle_met flags_fault walk_fault defaults_fault
  no_character word y ys is first = rw (is, first) refl

  letter_h : (word : Text) (y c : ℕ) (ys cs : Text) → short_of word ≡ Some (y ∷ ys) → chars (y ∷ ys) ≡ c ∷ cs → 104 == c ≡ true → Refuses help (turn_by word false None)
  unfolding walked bundle_met flags_fault walk_fault defaults_fault
  letter_h word y c ys cs is first h = rw (is, first, h) refl

  letter_v : (word : Text) (y c : ℕ) (ys cs : Text) → short_of word ≡ Some (y ∷ ys) → chars (y ∷ ys) ≡ c ∷ cs → 104 == c ≡ false → 86 == c ≡ true → Refuses version (turn_by word false None)
  unfolding walked bundle_met flags_fault walk_fault defaults_fault
  letter_v word y c ys cs is first h v = rw (is, first, h, v) refl

  other_letter : (word : Text) (y c : ℕ) (ys cs : Text) → short_of word ≡ Some (y ∷ ys) → chars (y ∷ ys) ≡ c ∷ cs → 104 == c ≡ false → 86 == c ≡ false → Refuses mistake (turn_by word false None)
  unfolding walked bundle_met flags_fault walk_fault defaults_fault
  other_letter word y c ys cs is first h v = rw (is, first, h, v) refl

  short : (y : ℕ) (ys : Text) → y == 45 ≡ false → IsRefused (45 ∷ y ∷ ys)
  short y ys dash = by_characters (chars (y ∷ ys)) refl
    where
      word : Text
      word = 45 ∷ y ∷ ys

      is_short : short_of word ≡ Some (y ∷ ys)
      is_short = rw dash refl

      no_name : (text : Text) → bytes_eq (y ∷ ys) (45 ∷ text) ≡ false
      no_name text = rw dash refl

      seen : (cs : Text) (helps shows : Bool) → chars (y ∷ ys) ≡ cs → bytes_eq (codes "h") (take 1 cs) ≡ helps → bytes_eq (codes "V") (take 1 cs) ≡ shows → IsSeen word None helps shows
      seen cs helps shows first h v =
          let no_help : bytes_eq (codes "-help") (y ∷ ys) ≡ false = other_text (y ∷ ys) (codes "-help") (no_name (codes "help")) in
          let no_version : bytes_eq (codes "-version") (y ∷ ys) ≡ false = other_text (y ∷ ys) (codes "-version") (no_name (codes "version")) in
          record { other = rw dash refl; long = rw dash refl; help = rw (no_help, first) h; version = rw (no_version, first) v }

      -- the letter h is not V
      h_alone : (c : ℕ) → 104 == c ≡ true → 86 == c ≡ false
      h_alone c h = rw (← eqb-true 104 c h) refl

      by_characters : (cs : Text) → chars (y ∷ ys) ≡ cs → IsRefused word
      by_characters [] first = refused word None false false (seen [] false false first refl refl) (no_character word y ys is_short first)
      by_characters (c ∷ cs) first =
          by_test (104 == c) (IsRefused word)
          (λ h. refused word None true false (seen (c ∷ cs) true false first (rw h refl) (rw (h_alone c h) refl)) (letter_h word y c ys cs is_short first h))
          (λ h. by_test (86 == c) (IsRefused word)
          (λ v. refused word None false true (seen (c ∷ cs) false true first (rw h refl) (rw v refl)) (letter_v word y c ys cs is_short first h v))
          (λ v. refused word None false false (seen (c ∷ cs) false false first (rw h refl) (rw v refl)) (other_letter word y c ys cs is_short first h v)))

  -- long flags, of which `clap` sees a name and a value
  other_name : (word flag : Text) (value : Option Text) → bytes_eq (codes "help") flag ≡ false → bytes_eq (codes "version") flag ≡ false → Refuses mistake (turn_by word false (Some (flag, value)))
  other_name word flag value is other = rw (is, other) refl

  help_with_value : (word value : Text) → Refuses mistake (turn_by word false (Some (codes "help", Some value)))
  help_with_value word value = refl

  version_with_value : (word value : Text) → Refuses mistake (turn_by word false (Some (codes "version", Some value)))
  version_with_value word value = refl

  help_alone : IsRefused (codes "--help")
  unfolding chars
  help_alone =
      refused (codes "--help") (Some (codes "help", None)) true false (record { other = refl; long = refl; help = refl; version = refl }) refl

  version_alone : IsRefused (codes "--version")
  unfolding chars
  version_alone =
      refused (codes "--version") (Some (codes "version", None)) false true (record { other = refl; long = refl; help = refl; version = refl }) refl

  no_help : (z : ℕ) (zs : Text) → bytes_eq (codes "help") (z ∷ zs) ≡ false → is_help_flag (45 ∷ 45 ∷ z ∷ zs) ≡ false
  unfolding chars
  no_help z zs other = rw other refl

  no_version : (z : ℕ) (zs : Text) → bytes_eq (codes "version") (z ∷ zs) ≡ false → is_version_flag (45 ∷ 45 ∷ z ∷ zs) ≡ false
  unfolding chars
  no_version z zs other = rw other refl

  -- the text after two hyphens is neither `help` nor `version`
  record IsNeither (text : Text) : Type 0 where
    help : bytes_eq (codes "help") text ≡ false
    version : bytes_eq (codes "version") text ≡ false

  named : (z : ℕ) (zs flag : Text) (value : Option Text) → IsNeither (z ∷ zs) → long_of (45 ∷ 45 ∷ z ∷ zs) ≡ Some (flag, value)
      → Refuses mistake (turn_by (45 ∷ 45 ∷ z ∷ zs) false (Some (flag, value))) → IsRefused (45 ∷ 45 ∷ z ∷ zs)
  named z zs flag value other is h =
      refused (45 ∷ 45 ∷ z ∷ zs) (Some (flag, value)) false false (record { other = refl; long = is; help = no_help z zs other.help; version = no_version z zs other.version }) h

  long : (z : ℕ) (zs : Text) → IsRefused (45 ∷ 45 ∷ z ∷ zs)
  long z zs =
      by_test (bytes_eq (codes "help") (z ∷ zs)) (IsRefused word)
      (λ is. subst (λ t. IsRefused (45 ∷ 45 ∷ t)) (same_text (codes "help") (z ∷ zs) is) help_alone)
      (λ no_help. by_test (bytes_eq (codes "version") (z ∷ zs)) (IsRefused word)
      (λ is. subst (λ t. IsRefused (45 ∷ 45 ∷ t)) (same_text (codes "version") (z ∷ zs) is) version_alone)
      (λ no_version. by_name (record { help = no_help; version = no_version })))
    where
      word : Text
      word = 45 ∷ 45 ∷ z ∷ zs

      flag : Text
      flag = before_first (λ x. x == 61) (z ∷ zs)

      given : Text
      given = after_first (λ x. x == 61) (z ∷ zs)

      value : Option Text
      value = if has_byte 61 (z ∷ zs) then Some given else None

      -- a name that is `help` or `version` has a value, since the text is not the name alone
      with_value : (which : Text) → bytes_eq which (z ∷ zs) ≡ false → IsNeither (z ∷ zs) → which ≡ flag → ((v : Text) → Refuses mistake (turn_by word false (Some (which, Some v)))) → IsRefused word
      with_value which alone other is refusal =
          by_test (has_byte 61 (z ∷ zs)) (IsRefused word)
          (λ has. named z zs which (Some given) other (rw (has, is) refl) (refusal given))
          (λ lacks. absurd (true≢false (sym ((bytes_eq-Decides which (z ∷ zs)).1 (is ∙ no_equals_sign (z ∷ zs) lacks)) ∙ alone)))

      by_name : IsNeither (z ∷ zs) → IsRefused word
      by_name other =
          by_test (bytes_eq (codes "help") flag) (IsRefused word)
          (λ is. with_value (codes "help") other.help other (same_text (codes "help") flag is) (help_with_value word))
          (λ no_help. by_test (bytes_eq (codes "version") flag) (IsRefused word)
          (λ is. with_value (codes "version") other.version other (same_text (codes "version") flag is) (version_with_value word))
          (λ no_version. named z zs flag value other refl (other_name word flag value no_help no_version)))

  -- any word but `--`
  flagged : (word : Text) → bytes_eq (codes "--") word ≡ false → IsRefused word
  flagged [] other = empty
  flagged (x ∷ xs) other =
      by_test (x == 45) (IsRefused (x ∷ xs)) (λ is. rw (eqb-true x 45 is) (behind_hyphen xs (rw (eqb-true x 45 is) at other)))
      (λ is. plain x xs is)
    where
      behind_two : (ys : Text) → bytes_eq (codes "--") (45 ∷ 45 ∷ ys) ≡ false → IsRefused (45 ∷ 45 ∷ ys)
      behind_two [] other = absurd (true≢false other)
      behind_two (z ∷ zs) other = long z zs

      behind_hyphen : (xs : Text) → bytes_eq (codes "--") (45 ∷ xs) ≡ false → IsRefused (45 ∷ xs)
      behind_hyphen [] other = hyphen
      behind_hyphen (y ∷ ys) other =
          by_test (y == 45) (IsRefused (45 ∷ y ∷ ys)) (λ is. rw (eqb-true y 45 is) (behind_two ys (rw (eqb-true y 45 is) at other)))
          (λ is. short y ys is)

  -- a first word that names no command
  pub no_command_refused : (word : Text) → command_named word ≡ None → bytes_eq (codes "help") word ≡ false → bytes_eq (codes "--") word ≡ false
      → Refuses (asked_first word) (turn_fault top top_names start word)
  no_command_refused word none no_topic other =
      subst (λ met. Refuses (asked_first word) (turn_at word met)) (sym (ap (option_map (λ s. s.0)) (no_label commands word none no_topic))) (flagged word other)
