-- Words after a command that are no option of it: `clap` takes each for a flag, or for none.
use Rattle.std.proofs.Common.{◌≡◌, ◌∙◌, ℕ, Bool, true, false, true≢false, ◌==◌, List, [], ◌∷◌}
use Rattle.std.proofs.Common.{Option, Some, None, inl, inr, ◌⊎◌, refl, sym, subst, ap, codes, take}
use Rattle.std.proofs.lemmas.Bool.{eqb-true}
use Rattle.std.proofs.lemmas.Slice.Eq.{bytes_eq-Decides}
use Rattle.std.specs.Prelude.{if◌then◌else◌, is_some}
use Rattle.std.specs.List.{before_first, after_first}
use Rattle.std.specs.Str.{bytes_eq, chars}
use Rattle.clap.specs.Lexer.{has_byte, long_of, short_of}
use Rattle.clap.specs.Faults.{flag_word_fault, flags_fault, long_fault, settle_fault}
use Rattle.clap.specs.Kinds.{Kinds, or_else}
use Rattle.clap.specs.Walk.{Held, Row, Rule, Text}
use Rattle.clap.specs.declared.builder.value_parser.ValueParser.{ValueParser}
use Rattle.clap.specs.declared.error.kind.ErrorKind.TheVariants as error
use Rattle.tool_cli.specs.Words.{is_help_flag, Optioned, options_of, Takes, takes_of, option_in, is_flag, IsKindParser}
use Rattle.tool_cli.proofs.KindLemmas.{by_test, same_text, other_text, no_equals_sign, are_mistakes, no_more}
use Rattle.tool_cli.proofs.RuleLemmas.{rules, no_rule, by_letter, help_by_long, sound}
use Rattle.tool_cli.proofs.RowLemmas.{held as held_with}

-- The errors for a flag that is no option, given the errors of the pending option: for a help flag those first and then
-- help, else a mistake in any case.
abbrev pub FlagFault : Bool → Kinds → Kinds → Type 0
FlagFault true pending ks = (more : Kinds) × (ks ≡ or_else (or_else pending (error.DisplayHelp ∷ [])) more)
FlagFault false pending ks = are_mistakes ks ≡ true

-- a word that is not a flag
pub record IsPlainWord (which : Optioned) (word : Text) : Type 0 where
  pub other : bytes_eq word (codes "--") ≡ false
  pub long : long_of word ≡ None
  pub short : (short_of word ≡ None) ⊎ ((y : ℕ) × (ys : Text) × (short_of word ≡ Some (y ∷ ys)) × (chars (y ∷ ys) ≡ []))
  pub no_help : is_help_flag word ≡ false
  pub no_option : option_in which word ≡ None

module _ (kinds : ValueParser) (good : IsKindParser kinds) (which : Optioned) where
  abbrev held : List Row → Option (Text × List Text) → Held
  held = held_with kinds good

  -- the errors of the pending option
  abbrev pub fault_held : List Row → Option (Text × List Text) → Kinds
  fault_held rows pending = settle_fault (rules kinds which) false (held rows pending)

  -- the errors for a word that begins with a hyphen
  abbrev pub fault_by : Held → Text → Option (Text × Option Text) → Kinds
  fault_by h word flag = flag_word_fault (rules kinds which) false flag word h

  abbrev pub flag_fault : Held → Text → Kinds
  flag_fault h word = fault_by h word (long_of word)

  abbrev pub HasFlagFault : List Row → Option (Text × List Text) → Text → Type 0
  HasFlagFault rows pending word = FlagFault (is_help_flag word) (fault_held rows pending) (flag_fault (held rows pending) word)

  -- short flags, by the first character
  letter_h : (rows : List Row) (pending : Option (Text × List Text)) (word : Text) (y c : ℕ) (ys cs : Text) → short_of word ≡ Some (y ∷ ys)
      → chars (y ∷ ys) ≡ c ∷ cs → 104 == c ≡ true → FlagFault true (fault_held rows pending) (fault_by (held rows pending) word None)
  unfolding flags_fault
  letter_h rows pending word y c ys cs is first h = rw (is, first, by_letter kinds (options_of which) c, h) (_, refl)

  other_letter : (rows : List Row) (pending : Option (Text × List Text)) (word : Text) (y c : ℕ) (ys cs : Text) → short_of word ≡ Some (y ∷ ys)
      → chars (y ∷ ys) ≡ c ∷ cs → 104 == c ≡ false → FlagFault false (fault_held rows pending) (fault_by (held rows pending) word None)
  unfolding flags_fault
  other_letter rows pending word y c ys cs is first h = rw (is, first, by_letter kinds (options_of which) c, h) refl

  -- long flags, of which `clap` sees a name and a value
  abbrev pub long_by : Held → Option Text → Option Rule → Kinds
  long_by h v found = long_fault (rules kinds which) false found v h

  -- `--help`, alone and with a value, which it does not take
  help_flag : (rows : List Row) (pending : Option (Text × List Text)) → FlagFault true (fault_held rows pending) (fault_by (held rows pending) (codes "--help") (Some (codes "help", None)))
  help_flag rows pending =
      ([], ap (long_by (held rows pending) None) (help_by_long kinds (options_of which) (sound which).no_help) ∙ sym (no_more _))

  help_value : (rows : List Row) (pending : Option (Text × List Text)) (word value : Text) → FlagFault false (fault_held rows pending) (fault_by (held rows pending) word (Some (codes "help", Some value)))
  help_value rows pending word value =
      ap are_mistakes (ap (long_by (held rows pending) (Some value)) (help_by_long kinds (options_of which) (sound which).no_help))

  -- what is seen of a word
  record IsSeen (word : Text) (flag : Option (Text × Option Text)) (helps : Bool) : Type 0 where
    long : long_of word ≡ flag
    help : is_help_flag word ≡ helps

  has_fault : (rows : List Row) (pending : Option (Text × List Text)) (word : Text) (flag : Option (Text × Option Text)) (helps : Bool) → IsSeen word flag helps
      → FlagFault helps (fault_held rows pending) (fault_by (held rows pending) word flag) → HasFlagFault rows pending word
  has_fault rows pending word flag helps seen h =
      subst (λ b. FlagFault b (fault_held rows pending) (flag_fault (held rows pending) word)) (sym seen.help)
      (subst (λ f. FlagFault helps (fault_held rows pending) (fault_by (held rows pending) word f)) (sym seen.long) h)

  short_flag : (rows : List Row) (pending : Option (Text × List Text)) (y c : ℕ) (ys cs : Text) → y == 45 ≡ false → chars (y ∷ ys) ≡ c ∷ cs → HasFlagFault rows pending (45 ∷ y ∷ ys)
  short_flag rows pending y c ys cs dash first =
      by_test (104 == c) (HasFlagFault rows pending word)
      (λ h. has_fault rows pending word None true (seen true (rw h refl)) (letter_h rows pending word y c ys cs is_short first h))
      (λ h. has_fault rows pending word None false (seen false (rw h refl)) (other_letter rows pending word y c ys cs is_short first h))
    where
      word : Text
      word = 45 ∷ y ∷ ys

      is_short : short_of word ≡ Some (y ∷ ys)
      is_short = rw dash refl

      seen : (helps : Bool) → bytes_eq (codes "h") (take 1 (c ∷ cs)) ≡ helps → IsSeen word None helps
      seen helps h =
          let no_help : bytes_eq (codes "-help") (y ∷ ys) ≡ false = other_text (y ∷ ys) (codes "-help") (rw dash refl) in
          record { long = rw dash refl; help = rw (no_help, first) h }

  help_alone : (rows : List Row) (pending : Option (Text × List Text)) → HasFlagFault rows pending (codes "--help")
  help_alone rows pending = has_fault rows pending (codes "--help") (Some (codes "help", None)) true (record { long = refl; help = refl }) (help_flag rows pending)

  pub no_help : (z : ℕ) (zs : Text) → bytes_eq (codes "help") (z ∷ zs) ≡ false → is_help_flag (45 ∷ 45 ∷ z ∷ zs) ≡ false
  unfolding chars
  no_help z zs other = rw other refl

  long_flag : (rows : List Row) (pending : Option (Text × List Text)) (z : ℕ) (zs : Text) → option_in which (45 ∷ 45 ∷ z ∷ zs) ≡ None → HasFlagFault rows pending (45 ∷ 45 ∷ z ∷ zs)
  long_flag rows pending z zs no_option =
      by_test (bytes_eq (codes "help") (z ∷ zs)) (HasFlagFault rows pending word)
      (λ is. subst (λ t. HasFlagFault rows pending (45 ∷ 45 ∷ t)) (same_text (codes "help") (z ∷ zs) is) (help_alone rows pending))
      (λ other. by_test (bytes_eq (codes "help") flag) (HasFlagFault rows pending word)
      (λ is. with_value other (same_text (codes "help") flag is))
      (λ is. has_fault rows pending word (Some (flag, value)) false (record { long = refl; help = no_help z zs other })
      (ap are_mistakes (ap (long_by (held rows pending) value) (no_rule kinds (options_of which) flag (takes_none (takes_of which flag) no_option) is)))))
    where
      word : Text
      word = 45 ∷ 45 ∷ z ∷ zs

      flag : Text
      flag = before_first (λ x. x == 61) (z ∷ zs)

      given : Text
      given = after_first (λ x. x == 61) (z ∷ zs)

      value : Option Text
      value = if has_byte 61 (z ∷ zs) then Some given else None

      chosen : Option Takes → Option (Text × Option Text)
      chosen m = if is_some m then Some (flag, value) else None

      takes_none : (m : Option Takes) → chosen m ≡ None → m ≡ None
      takes_none None e = refl
      takes_none (Some m) e = absurd (cc)

      with_value : bytes_eq (codes "help") (z ∷ zs) ≡ false → codes "help" ≡ flag → HasFlagFault rows pending word
      with_value other is =
          by_test (has_byte 61 (z ∷ zs)) (HasFlagFault rows pending word)
          (λ has. has_fault rows pending word (Some (codes "help", Some given)) false (record { long = rw (has, is) refl; help = no_help z zs other }) (help_value rows pending word given))
          (λ lacks. absurd (true≢false (sym ((bytes_eq-Decides (codes "help") (z ∷ zs)).1 (is ∙ no_equals_sign (z ∷ zs) lacks)) ∙ other)))

  -- a word but `--` is a flag, or none
  abbrev pub ByWord : List Row → Option (Text × List Text) → Text → Type 0
  ByWord rows pending word =
      ((is_flag word ≡ true) × (option_in which word ≡ None → HasFlagFault rows pending word)) ⊎ ((is_flag word ≡ false) × IsPlainWord which word)

  pub flag_or_plain : (rows : List Row) (pending : Option (Text × List Text)) (word : Text) → bytes_eq (codes "--") word ≡ false → ByWord rows pending word
  unfolding chars
  flag_or_plain rows pending [] other = inr (refl, record { other = refl; long = refl; short = inl refl; no_help = refl; no_option = refl })
  flag_or_plain rows pending (x ∷ xs) other =
      by_test (x == 45) (ByWord rows pending (x ∷ xs)) (λ is. rw (eqb-true x 45 is) (behind_hyphen xs (rw (eqb-true x 45 is) at other)))
      (λ is. inr (rw is refl, record { other = rw is refl; long = rw is refl; short = inl (rw is refl); no_help = rw is refl; no_option = rw is refl }))
    where
      behind_two : (ys : Text) → bytes_eq (codes "--") (45 ∷ 45 ∷ ys) ≡ false → ByWord rows pending (45 ∷ 45 ∷ ys)
      behind_two [] other = absurd (true≢false other)
      behind_two (z ∷ zs) other = inl (refl, long_flag rows pending z zs)

      by_characters : (y : ℕ) (ys cs : Text) → y == 45 ≡ false → chars (y ∷ ys) ≡ cs → ByWord rows pending (45 ∷ y ∷ ys)
      by_characters y ys [] dash first =
          let no_help : bytes_eq (codes "-help") (y ∷ ys) ≡ false = other_text (y ∷ ys) (codes "-help") (rw dash refl) in
          inr (rw first refl, record { other = rw dash refl; long = rw dash refl; short = inr (y, ys, rw dash refl, first); no_help = rw (no_help, first) refl; no_option = rw dash refl })
      by_characters y ys (c ∷ cs) dash first = inl (rw first refl, λ none. short_flag rows pending y c ys cs dash first)

      behind_hyphen : (xs : Text) → bytes_eq (codes "--") (45 ∷ xs) ≡ false → ByWord rows pending (45 ∷ xs)
      behind_hyphen [] other = inr (refl, record { other = refl; long = refl; short = inl refl; no_help = refl; no_option = refl })
      behind_hyphen (y ∷ ys) other =
          by_test (y == 45) (ByWord rows pending (45 ∷ y ∷ ys)) (λ is. rw (eqb-true y 45 is) (behind_two ys (rw (eqb-true y 45 is) at other)))
          (λ is. by_characters y ys (chars (y ∷ ys)) is refl)
