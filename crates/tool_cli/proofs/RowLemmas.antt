-- What is held between two words after a command, and the final rows of its options.
use Rattle.std.proofs.Common.{◌≡◌, ◌∙◌, ℕ, Bool, true, false, true≢false, ◌&&◌, ◌||◌, List, [], ◌∷◌, ◌++◌}
use Rattle.std.proofs.Common.{Option, Some, None, inl, inr, ◌⊎◌, refl, sym, subst, ap, codes, fold, not}
use Rattle.std.proofs.lemmas.Bool.{and_parts}
use Rattle.std.specs.Prelude.{if◌then◌else◌, map, pos}
use Rattle.std.specs.List.{list_all}
use Rattle.std.specs.Str.{bytes_eq}
use Rattle.clap.specs.ValueTests.{accepts}
use Rattle.clap.specs.Values.{bool_text, read_as, reading_of, refused_kind}
use Rattle.clap.specs.Faults.{defaults_fault, use_fault, default_fault}
use Rattle.clap.specs.Kinds.{Kinds, or_else}
use Rattle.clap.specs.Walk.{Held, Row, Text, finished, has_row, one_of, settled, used, with_default, with_values, at_row, more_values, without}
use Rattle.clap.specs.declared.builder.value_parser.Reading.{Reading}
use Rattle.clap.specs.declared.builder.value_parser.Reading.TheVariants as reading
use Rattle.clap.specs.declared.builder.value_parser.ValueParser.{ValueParser}
use Rattle.clap.specs.declared.builder.value_parser.ValueParser.TheVariants as parser
use Rattle.clap.specs.declared.parser.matches.ValueSource.TheVariants as source
use Rattle.tool_cli.specs.Words.{Optioned, to_run, to_test, to_compile, to_verify, to_script, to_shell, to_scan, to_explain, Options, options_of, Given, Takes, number, kind, nothing}
use Rattle.term_text.specs.Canonical.{shows_strings}
use Rattle.term_text.specs.declared.write.Form.TheVariants as form
use Rattle.tool_cli.specs.Words.{takes_in, takes_of, is_given, form_by, is_value_of, text_given, number_given, options_by, request_of, invocation_of}
use Rattle.tool_cli.specs.Words.{IsKindParser, IsKindOf, IsReadOf, IsFlagOf, is_explained, IsRequestOf, IsReadAs}
use Rattle.tool_cli.specs.declared.words.Detail.TheVariants as detail
use Rattle.tool_cli.proofs.KindLemmas.{by_test, same_text, text_itself, are_mistakes}
use Rattle.tool_cli.proofs.RuleLemmas.{rule, rules_in, rules, option_rules, help_filled, is_default, sound, none_taken}

-- an option that takes a value
abbrev pub IsValued : Takes → Type 0
IsValued nothing = ⊥
IsValued takes = Unit {0}

-- ---- lists of rows

pub not_true : (b : Bool) → not b ≡ true → b ≡ false
not_true true e = absurd (true≢false (sym e))
not_true false e = refl

-- a row that does not exist is added at the end
added : (name : Text) (change : Row → List Row) (missing rows : List Row) → has_row name rows ≡ false → at_row name change missing rows ≡ rows ++ missing
added name change missing [] e = refl
added name change missing (r ∷ rs) e =
    by_test (bytes_eq r.id name) (at_row name change missing (r ∷ rs) ≡ (r ∷ rs) ++ missing) (λ is. absurd (true≢false (rw is at e)))
    (λ is. rw is (ap (λ l. r ∷ l) (added name change missing rs (rw is at e))))

append_none : (rows : List Row) → rows ++ [] ≡ rows
append_none [] = refl
append_none (r ∷ rs) = ap (λ l. r ∷ l) (append_none rs)

one_more : (name : Text) (r : Row) (rows : List Row) → one_of name (rows ++ r ∷ []) ≡ (if has_row name rows then one_of name rows else one_of name (r ∷ []))
one_more name r [] = refl
one_more name r (x ∷ xs) =
    by_test (bytes_eq x.id name) (one_of name ((x ∷ xs) ++ r ∷ []) ≡ (if has_row name (x ∷ xs) then one_of name (x ∷ xs) else one_of name (r ∷ [])))
    (λ is. rw is refl) (λ is. rw is (one_more name r xs))

has_more : (name : Text) (r : Row) (rows : List Row) → has_row name (rows ++ r ∷ []) ≡ has_row name rows || bytes_eq r.id name
has_more name r [] = by_test (bytes_eq r.id name) (has_row name (r ∷ []) ≡ bytes_eq r.id name) (λ is. rw is refl) (λ is. rw is refl)
has_more name r (x ∷ xs) =
    by_test (bytes_eq x.id name) (has_row name ((x ∷ xs) ++ r ∷ []) ≡ has_row name (x ∷ xs) || bytes_eq r.id name)
    (λ is. rw is refl) (λ is. rw is (has_more name r xs))

-- Parameters: the parser of kinds, with what it accepts and how that is read.
module _ (kinds : ValueParser) (good : IsKindParser kinds) where
  -- ---- what is held between two words

  abbrev pub held : List Row → Option (Text × List Text) → Held
  held rows pending = record { rows = rows; pending = pending; skip = 0 }

  -- how the text of an option is read
  abbrev reading_for : Takes → Reading
  reading_for (number most) = reading.WithoutMinus
  reading_for takes = reading.AsWritten

  abbrev reading_given : Option Takes → Reading
  reading_given None = reading.AsWritten
  reading_given (Some takes) = reading_for takes

  -- by which parser the text of an option is checked
  abbrev parser_in : Takes → ValueParser
  parser_in (number most) = parser.Signed (pos 1) (pos most)
  parser_in kind = kinds
  parser_in nothing = parser.Bool

  read_for : (takes : Takes) → reading_of (parser_in takes) ≡ reading_for takes
  read_for (number most) = refl
  read_for kind = good.reading
  read_for nothing = refl

  refused : (q : ValueParser) → are_mistakes (refused_kind q ∷ []) ≡ true
  refused parser.String = refl
  refused parser.Falsey = refl
  refused parser.NonEmptyString = refl
  refused parser.Bool = refl
  refused parser.Boolish = refl
  refused (parser.Signed low high) = refl
  refused (parser.Unsigned low high) = refl
  refused parser.Float = refl
  refused parser.Char = refl
  refused (parser.Names names) = refl
  refused (parser.Values values) = refl

  abbrev row : Optioned → Text × Text → Row
  row which g = record {
    id = g.0;
    values = g.1 ∷ [];
    count = None;
    source = Some source.CommandLine;
    reading = reading_given (takes_of which g.0);
  }

  abbrev pub rows_of : Optioned → Given → List Row
  rows_of which given = map (row which) given

  pub has_row_of : (which : Optioned) (name : Text) (given : Given) → has_row name (rows_of which given) ≡ is_given given name
  has_row_of which name [] = refl
  has_row_of which name (g ∷ rest) = ap (λ b. bytes_eq g.0 name || b) (has_row_of which name rest)

  rows_more : (which : Optioned) (given : Given) (g : Text × Text) → rows_of which given ++ row which g ∷ [] ≡ rows_of which (given ++ g ∷ [])
  rows_more which [] g = refl
  rows_more which (x ∷ rest) g = ap (λ l. row which x ∷ l) (rows_more which rest g)

  used_set : (name value : Text) (takes : Takes) (rows : List Row)
      → used (rule kinds name takes) (value ∷ []) rows ≡ with_values name (reading_of (parser_in takes)) source.CommandLine (value ∷ []) (without name rows)
  used_set name value (number most) rows = refl
  used_set name value kind rows = refl
  used_set name value nothing rows = refl

  pub used_is : (which : Optioned) (name value : Text) (takes : Takes) (given : Given) → takes_of which name ≡ Some takes → is_given given name ≡ false
      → used (rule kinds name takes) (value ∷ []) (rows_of which given) ≡ rows_of which (given ++ (name, value) ∷ [])
  used_is which name value takes given is new =
      let none = has_row_of which name given ∙ new in
      let how : reading_of (parser_in takes) ≡ reading_given (takes_of which name) = read_for takes ∙ sym (ap reading_given is) in
      used_set name value takes (rows_of which given)
      ∙ (ap (λ r. with_values name r source.CommandLine (value ∷ []) (without name (rows_of which given))) how
      ∙ (ap (with_values name (reading_given (takes_of which name)) source.CommandLine (value ∷ [])) (added name (λ _. []) [] (rows_of which given) none ∙ append_none (rows_of which given))
      ∙ (added name (more_values source.CommandLine (value ∷ [])) (row which (name, value) ∷ []) (rows_of which given) none ∙ rows_more which given (name, value))))

  pub good_use : (name value : Text) (takes : Takes) (rows : List Row) → has_row name rows ≡ false → is_value_of (Some takes) value ≡ true
      → use_fault false (rule kinds name takes) (value ∷ []) rows ≡ []
  good_use name value (number most) rows new fits = rw (new, fits) refl
  good_use name value kind rows new fits = rw (new, good.accepts value ∙ fits) refl
  good_use name value nothing rows new fits = absurd (true≢false (sym fits))

  pub bad_use : (name value : Text) (takes : Takes) (rows : List Row) → IsValued takes → not (has_row name rows) && is_value_of (Some takes) value ≡ false
      → are_mistakes (use_fault false (rule kinds name takes) (value ∷ []) rows) ≡ true
  bad_use name value (number most) rows valued h =
      by_test (has_row name rows) (are_mistakes (use_fault false (rule kinds name (number most)) (value ∷ []) rows) ≡ true) (λ is. rw is refl)
      (λ new. by_test (is_value_of (Some (number most)) value) (are_mistakes (use_fault false (rule kinds name (number most)) (value ∷ []) rows) ≡ true)
      (λ fits. absurd (true≢false (rw (new, fits) at h))) (λ other. rw (new, other) refl))
  bad_use name value kind rows valued h =
      by_test (has_row name rows) (are_mistakes (use_fault false (rule kinds name kind) (value ∷ []) rows) ≡ true) (λ is. rw is refl)
      (λ new. by_test (is_value_of (Some kind) value) (are_mistakes (use_fault false (rule kinds name kind) (value ∷ []) rows) ≡ true)
      (λ fits. absurd (true≢false (rw (new, fits) at h))) (λ other. rw (new, good.accepts value ∙ other) (refused kinds)))
  bad_use name value nothing rows valued h = absurd valued

  -- a flag, which has the text `true`
  pub flag_used : (name : Text) (rows : List Row) → used (rule kinds name nothing) [] rows ≡ used (rule kinds name nothing) (codes "true" ∷ []) rows
  flag_used name rows = refl

  pub good_flag : (name : Text) (rows : List Row) → has_row name rows ≡ false → use_fault false (rule kinds name nothing) [] rows ≡ []
  good_flag name rows new = rw new refl

  pub bad_flag_use : (name : Text) (rows : List Row) → has_row name rows ≡ true → are_mistakes (use_fault false (rule kinds name nothing) [] rows) ≡ true
  bad_flag_use name rows old = rw old refl

  -- the text is what the option takes, and `true` for a flag
  abbrev is_text_of : Option Takes → Text → Bool
  is_text_of (Some nothing) text = bytes_eq (codes "true") text
  is_text_of takes text = is_value_of takes text

  abbrev pub AreFit : Optioned → Given → Type 0
  AreFit which [] = Unit {0}
  AreFit which (g ∷ rest) = (is_text_of (takes_of which g.0) g.1 ≡ true) × AreFit which rest

  fit_more : (which : Optioned) (given : Given) (g : Text × Text) → AreFit which given → is_text_of (takes_of which g.0) g.1 ≡ true → AreFit which (given ++ g ∷ [])
  fit_more which [] g fit is = (is, tt)
  fit_more which (x ∷ rest) g fit is = (fit.0, fit_more which rest g fit.1 is)

  text_fits : (takes : Takes) (value : Text) → is_value_of (Some takes) value ≡ true → is_text_of (Some takes) value ≡ true
  text_fits (number most) value fits = fits
  text_fits kind value fits = fits
  text_fits nothing value fits = absurd (true≢false (sym fits))

  pub fit_option : (which : Optioned) (given : Given) (name value : Text) (takes : Takes) → AreFit which given → takes_of which name ≡ Some takes → is_value_of (Some takes) value ≡ true → AreFit which (given ++ (name, value) ∷ [])
  fit_option which given name value takes fit is fits =
      fit_more which given (name, value) fit (ap (λ m. is_text_of m value) is ∙ text_fits takes value fits)

  pub fit_flag : (which : Optioned) (given : Given) (name : Text) → AreFit which given → takes_of which name ≡ Some nothing → AreFit which (given ++ (name, codes "true") ∷ [])
  fit_flag which given name fit is = fit_more which given (name, codes "true") fit (ap (λ m. is_text_of m (codes "true")) is)

  -- ---- the final rows

  -- the text of an option that is not given
  abbrev default_for : Takes → Text
  default_for (number most) = codes "1"
  default_for kind = codes "set"
  default_for nothing = codes "false"

  abbrev first_row : Text → Takes → Row
  first_row name takes = record {
    id = name;
    values = default_for takes ∷ [];
    count = None;
    source = Some source.DefaultValue;
    reading = reading_of (parser_in takes);
  }

  -- an option that was not used gets its first row
  left_out : (name : Text) (takes : Takes) (rows : List Row) → has_row name rows ≡ false → with_default rows (rule kinds name takes) ≡ rows ++ first_row name takes ∷ []
  left_out name (number most) rows none = rw none (added name (more_values source.DefaultValue (codes "1" ∷ [])) (first_row name (number most) ∷ []) rows none)
  left_out name kind rows none = rw none (added name (more_values source.DefaultValue (codes "set" ∷ [])) (first_row name kind ∷ []) rows none)
  left_out name nothing rows none = rw none (added name (more_values source.DefaultValue (codes "false" ∷ [])) (first_row name nothing ∷ []) rows none)

  was_used : (name : Text) (takes : Takes) (rows : List Row) → has_row name rows ≡ true → with_default rows (rule kinds name takes) ≡ rows
  was_used name takes rows some = rw some refl

  record IsThere (takes : Takes) (name text : Text) (rows : List Row) : Type 0 where
    has : has_row name rows ≡ true
    looked : one_of name rows ≡ Some (read_as (reading_for takes) text)

  record IsLacking (takes : Takes) (name text : Text) (rows : List Row) : Type 0 where
    has : has_row name rows ≡ false
    one : text ≡ default_for takes

  abbrev IsEither : Takes → (name text : Text) → List Row → Type 0
  IsEither takes name text rows = IsThere takes name text rows ⊎ IsLacking takes name text rows

  there_still : (takes other : Takes) (name text d : Text) (rows : List Row) → IsThere takes name text rows → IsThere takes name text (with_default rows (rule kinds d other))
  there_still takes other name text d rows there =
      by_test (has_row d rows) (IsThere takes name text (with_default rows (rule kinds d other)))
      (λ some. subst (IsThere takes name text) (sym (was_used d other rows some)) there)
      (λ none. subst (IsThere takes name text) (sym (left_out d other rows none)) (record {
        has = has_more name (first_row d other) rows ∙ ap (λ b. b || bytes_eq d name) there.has;
        looked = one_more name (first_row d other) rows ∙ (ap (λ b. if b then one_of name rows else one_of name (first_row d other ∷ [])) there.has ∙ there.looked);
      }))

  lacking_still : (takes other : Takes) (name text d : Text) (rows : List Row) → bytes_eq d name ≡ false → IsLacking takes name text rows → IsLacking takes name text (with_default rows (rule kinds d other))
  lacking_still takes other name text d rows apart lacks =
      by_test (has_row d rows) (IsLacking takes name text (with_default rows (rule kinds d other)))
      (λ some. subst (IsLacking takes name text) (sym (was_used d other rows some)) lacks)
      (λ none. subst (IsLacking takes name text) (sym (left_out d other rows none)) (record {
        has = has_more name (first_row d other) rows ∙ (ap (λ b. b || bytes_eq d name) lacks.has ∙ apart);
        one = lacks.one;
      }))

  there_now : (takes : Takes) (name text : Text) (rows : List Row) → IsEither takes name text rows → IsThere takes name text (with_default rows (rule kinds name takes))
  there_now takes name text rows (inl there) = there_still takes takes name text name rows there
  there_now takes name text rows (inr lacks) =
      subst (IsThere takes name text) (sym (left_out name takes rows lacks.has)) (record {
        has = has_more name (first_row name takes) rows ∙ (ap (λ b. b || bytes_eq name name) lacks.has ∙ text_itself name);
        looked = one_more name (first_row name takes) rows
            ∙ (ap (λ b. if b then one_of name rows else one_of name (first_row name takes ∷ [])) lacks.has
            ∙ (looked ∙ ap (λ t. Some (read_as (reading_for takes) t)) (sym lacks.one)));
      })
    where
      looked : one_of name (first_row name takes ∷ []) ≡ Some (read_as (reading_for takes) (default_for takes))
      looked = rw (text_itself name) (ap (λ how. Some (read_as how (default_for takes))) (read_for takes))

  either_still : (takes other : Takes) (name text d : Text) (rows : List Row) → bytes_eq d name ≡ false → IsEither takes name text rows → IsEither takes name text (with_default rows (rule kinds d other))
  either_still takes other name text d rows apart (inl there) = inl (there_still takes other name text d rows there)
  either_still takes other name text d rows apart (inr lacks) = inr (lacking_still takes other name text d rows apart lacks)

  -- the rows with those of options that were not given
  abbrev with_left_out : Options → List Row → List Row
  with_left_out options rows = fold with_default rows (option_rules kinds options)

  abbrev pub with_defaults : Optioned → List Row → List Row
  with_defaults which rows = with_left_out (options_of which) rows

  there_on : (options : Options) (takes : Takes) (name text : Text) (rows : List Row) → IsThere takes name text rows → IsThere takes name text (with_left_out options rows)
  there_on [] takes name text rows there = there
  there_on (o ∷ rest) takes name text rows there =
      there_on rest takes name text (with_default rows (rule kinds o.0 o.1)) (there_still takes o.1 name text o.0 rows there)

  there_in_the_end : (options : Options) (takes : Takes) (name text : Text) (rows : List Row) → takes_in options name ≡ Some takes → IsEither takes name text rows → IsThere takes name text (with_left_out options rows)
  there_in_the_end [] takes name text rows is either = absurd (none_taken takes is)
  there_in_the_end (o ∷ rest) takes name text rows is either =
      by_test (bytes_eq o.0 name) (IsThere takes name text (with_left_out (o ∷ rest) rows))
      (λ e. there_on rest takes name text (with_default rows (rule kinds o.0 o.1)) (now e (same o.1 (rw e at is))))
      (λ e. there_in_the_end rest takes name text (with_default rows (rule kinds o.0 o.1)) (rw e at is) (either_still takes o.1 name text o.0 rows e either))
    where
      same : (m : Takes) → Some m ≡ Some takes → takes ≡ m
      same m e = cc

      now : bytes_eq o.0 name ≡ true → takes ≡ o.1 → IsThere takes name text (with_default rows (rule kinds o.0 o.1))
      now e m =
          subst (λ n. IsThere takes name text (with_default rows (rule kinds n o.1))) (sym (same_text o.0 name e))
          (subst (λ k. IsThere takes name text (with_default rows (rule kinds name k))) m (there_now takes name text rows either))

  abbrev text_of : Takes → Text → Given → Text
  text_of takes name given = text_given name (default_for takes) given

  given_or_not : (which : Optioned) (takes : Takes) (name : Text) (given : Given) → takes_of which name ≡ Some takes → IsEither takes name (text_of takes name given) (rows_of which given)
  given_or_not which takes name [] taken = inr (record { has = refl; one = refl })
  given_or_not which takes name (g ∷ rest) taken =
      by_test (bytes_eq g.0 name) (IsEither takes name (text_of takes name (g ∷ rest)) (rows_of which (g ∷ rest)))
      (λ is. inl (record { has = rw is refl; looked = rw is (read is) })) (λ is. behind is (given_or_not which takes name rest taken))
    where
      read : bytes_eq g.0 name ≡ true → Some (read_as (reading_given (takes_of which g.0)) g.1) ≡ Some (read_as (reading_for takes) g.1)
      read is = ap (λ o. Some (read_as (reading_given o) g.1)) (ap (takes_of which) (same_text g.0 name is) ∙ taken)

      behind : bytes_eq g.0 name ≡ false → IsEither takes name (text_of takes name rest) (rows_of which rest) → IsEither takes name (text_of takes name (g ∷ rest)) (rows_of which (g ∷ rest))
      behind is (inl there) = inl (record { has = rw is there.has; looked = rw is there.looked })
      behind is (inr lacks) = inr (record { has = rw is lacks.has; one = rw is lacks.one })

  there : (which : Optioned) (takes : Takes) (name : Text) (given : Given) → takes_of which name ≡ Some takes → IsThere takes name (text_of takes name given) (with_defaults which (rows_of which given))
  there which takes name given is =
      there_in_the_end (options_of which) takes name (text_of takes name given) (rows_of which given) is (given_or_not which takes name given is)

  -- the text that was given is one that the option takes, if the default text is one
  fits_is : (which : Optioned) (name other : Text) (given : Given) → AreFit which given → is_text_of (takes_of which name) other ≡ true → is_text_of (takes_of which name) (text_given name other given) ≡ true
  fits_is which name other [] fit one = one
  fits_is which name other (g ∷ rest) fit one =
      by_test (bytes_eq g.0 name) (is_text_of (takes_of which name) (text_given name other (g ∷ rest)) ≡ true)
      (λ is. subst (λ t. is_text_of (takes_of which name) t ≡ true) (sym (chosen is)) (subst (λ n. is_text_of (takes_of which n) g.1 ≡ true) (same_text g.0 name is) fit.0))
      (λ is. subst (λ t. is_text_of (takes_of which name) t ≡ true) (sym (passed is)) (fits_is which name other rest fit.1 one))
    where
      chosen : bytes_eq g.0 name ≡ true → text_given name other (g ∷ rest) ≡ g.1
      chosen is = rw is refl

      passed : bytes_eq g.0 name ≡ false → text_given name other (g ∷ rest) ≡ text_given name other rest
      passed is = rw is refl

  number_of : (which : Optioned) (name : Text) (most : ℕ) (given : Given) → AreFit which given → takes_of which name ≡ Some (number most) → is_value_of (Some (number most)) (codes "1") ≡ true
      → IsReadOf name most (number_given name given) (with_defaults which (rows_of which given))
  number_of which name most given fit is one = record {
    text = text_given name (codes "1") given;
    looked = (there which (number most) name given is).looked;
    passes = subst (λ m. is_text_of m (text_given name (codes "1") given) ≡ true) is (fits_is which name (codes "1") given fit (ap (λ m. is_text_of m (codes "1")) is ∙ one));
    number = refl;
  }

  kind_of : (given : Given) → AreFit to_scan given → IsKindOf (options_by given).kind (with_defaults to_scan (rows_of to_scan given))
  kind_of given fit = record {
    text = text_given (codes "kind") (codes "set") given;
    looked = (there to_scan kind (codes "kind") given refl).looked;
    passes = fits_is to_scan (codes "kind") (codes "set") given fit refl;
    named = refl;
  }

  -- the text of a flag says whether it is given
  flag_text : (which : Optioned) (name : Text) (given : Given) → AreFit which given → takes_of which name ≡ Some nothing → text_given name (codes "false") given ≡ bool_text (is_given given name)
  flag_text which name [] fit is = refl
  flag_text which name (g ∷ rest) fit is =
      by_test (bytes_eq g.0 name) (text_given name (codes "false") (g ∷ rest) ≡ bool_text (is_given (g ∷ rest) name))
      (λ e. rw e (sym (same_text (codes "true") g.1 (sym (ap (λ m. is_text_of m g.1) (ap (takes_of which) (same_text g.0 name e) ∙ is)) ∙ fit.0))))
      (λ e. rw e (flag_text which name rest fit.1 is))

  flag_of : (which : Optioned) (name : Text) (given : Given) → AreFit which given → takes_of which name ≡ Some nothing → IsFlagOf name (is_given given name) (with_defaults which (rows_of which given))
  flag_of which name given fit is = record { looked = (there which nothing name given is).looked ∙ ap Some (flag_text which name given fit is) }

  explained_is : (b : Bool) → b ≡ is_explained (if b then detail.Explained else detail.Line)
  explained_is true = refl
  explained_is false = refl

  form_is : (b : Bool) → b ≡ shows_strings (if b then form.Readable else form.Canonical)
  form_is true = refl
  form_is false = refl

  form_in_the_end : (which : Optioned) (given : Given) → AreFit which given → takes_of which (codes "strings") ≡ Some nothing → IsFlagOf (codes "strings") (shows_strings (form_by given)) (with_defaults which (rows_of which given))
  form_in_the_end which given fit is =
      subst (λ b. IsFlagOf (codes "strings") b (with_defaults which (rows_of which given))) (form_is (is_given given (codes "strings"))) (flag_of which (codes "strings") given fit is)

  request_in_the_end : (which : Optioned) (given : Given) → AreFit which given → IsRequestOf which (request_of which given) (with_defaults which (rows_of which given))
  request_in_the_end to_run given fit = (form_by given, refl, form_in_the_end to_run given fit refl)
  request_in_the_end to_test given fit = (form_by given, refl, form_in_the_end to_test given fit refl)
  request_in_the_end to_compile given fit = refl
  request_in_the_end to_verify given fit = refl
  request_in_the_end to_script given fit = refl
  request_in_the_end to_shell given fit = (is_given given (codes "prompt"), refl, flag_of to_shell (codes "prompt") given fit refl)
  request_in_the_end to_explain given fit = (number_given (codes "keypos") given, refl, number_of to_explain (codes "keypos") 65535 given fit refl refl)
  request_in_the_end to_scan given fit = (
    options_by given,
    refl,
    record {
      kind = kind_of given fit;
      keypos = number_of to_scan (codes "keypos") 65535 given fit refl refl;
      parts = number_of to_scan (codes "parts") 64 given fit refl refl;
      workers = number_of to_scan (codes "workers") 16 given fit refl refl;
    },
  )

  pub read_in_the_end : (which : Optioned) (given : Given) → AreFit which given → IsReadAs which (invocation_of which given) (with_defaults which (rows_of which given))
  read_in_the_end which given fit = record {
    request = request_in_the_end which given fit;
    detail = subst (λ b. IsFlagOf (codes "why") b (with_defaults which (rows_of which given))) (explained_is (is_given given (codes "why"))) (flag_of which (codes "why") given fit (sound which).why);
  }

  -- the flag for help has no row
  help_left_out : (rows : List Row) → with_default rows help_filled ≡ rows
  help_left_out rows = by_test (has_row (codes "help") rows) (with_default rows help_filled ≡ rows) (λ is. rw is refl) (λ is. rw is refl)

  all_left_out : (options : Options) (rows : List Row) → fold with_default rows (rules_in kinds options) ≡ with_left_out options rows
  all_left_out [] rows = help_left_out rows
  all_left_out (o ∷ rest) rows = all_left_out rest (with_default rows (rule kinds o.0 o.1))

  pub finished_is : (which : Optioned) (rows : List Row) (pending : Option (Text × List Text))
      → finished (rules kinds which) (held rows pending) ≡ with_defaults which (settled (rules kinds which) (held rows pending)).rows
  finished_is which rows pending = all_left_out (options_of which) (settled (rules kinds which) (held rows pending)).rows

  both_none : (a b : Kinds) → a ≡ [] → b ≡ [] → or_else a b ≡ []
  both_none a b first next = rw first next

  of_option : (rows : List Row) (name : Text) (takes : Takes) → is_default (name, takes) ≡ true → default_fault rows (rule kinds name takes) ≡ []
  of_option rows name (number most) fits =
      by_test (has_row name rows) (default_fault rows (rule kinds name (number most)) ≡ []) (λ is. rw is refl) (λ is. rw (is, fits) refl)
  of_option rows name kind fits =
      by_test (has_row name rows) (default_fault rows (rule kinds name kind) ≡ []) (λ is. rw is refl) (λ is. rw (is, good.accepts (codes "set")) refl)
  of_option rows name nothing fits =
      by_test (has_row name rows) (default_fault rows (rule kinds name nothing) ≡ []) (λ is. rw is refl) (λ is. rw is refl)

  of_help : (rows : List Row) → default_fault rows help_filled ≡ []
  of_help rows = by_test (has_row (codes "help") rows) (default_fault rows help_filled ≡ []) (λ is. rw is refl) (λ is. rw is refl)

  of_options : (options : Options) (rows : List Row) → list_all is_default options ≡ true → defaults_fault rows (rules_in kinds options) ≡ []
  unfolding defaults_fault
  of_options [] rows fit = both_none _ _ (of_help rows) refl
  of_options (o ∷ rest) rows fit =
      let both = and_parts (is_default o) (list_all is_default rest) fit in
      both_none _ _ (of_option rows o.0 o.1 both.0) (of_options rest (with_default rows (rule kinds o.0 o.1)) both.1)

  pub no_default_fault : (which : Optioned) (rows : List Row) → defaults_fault rows (rules kinds which) ≡ []
  no_default_fault which rows = of_options (options_of which) rows (sound which).defaults
