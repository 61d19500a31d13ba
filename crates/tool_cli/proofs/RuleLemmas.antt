-- The rules of a command's options, as `clap` builds them: by name, by letter and by position.
use Rattle.std.proofs.Common.{◌≡◌, ℕ, Bool, true, false, ◌&&◌, List, [], ◌∷◌, ◌++◌, Some, None, refl, ap, ap₂, codes, not}
use Rattle.std.specs.Prelude.{get_or, map}
use Rattle.std.specs.List.{list_all, list_any}
use Rattle.std.specs.Str.{bytes_eq}
use Rattle.clap.specs.Takes.{is_given}
use Rattle.clap.specs.Walk.{Row, Rule, Text, arg_by_id, arg_by_index, arg_by_long, arg_by_short}
use Rattle.clap.specs.Simple.{Shape, built, filled, help_rule, help_shape}
use Rattle.clap.specs.declared.builder.value_parser.ValueParser.{ValueParser}
use Rattle.tool_cli.specs.Words.{Optioned, to_run, to_test, to_compile, to_verify, to_script, to_shell, to_scan, to_explain, name_of, tool_app}
use Rattle.tool_cli.specs.Words.{Options, options_of, Takes, number, kind, nothing, takes_in, is_value_of, rule_for}
use Rattle.tool_cli.proofs.KindLemmas.{by_test, same_text}

-- an option, and the flag for help, as `clap` builds them
abbrev pub rule : ValueParser → Text → Takes → Rule
rule p name takes = filled (rule_for p name takes)

abbrev pub help_filled : Rule
help_filled = filled help_rule

abbrev pub option_rules : ValueParser → Options → List Rule
option_rules p options = map (λ o. rule p o.0 o.1) options

abbrev pub rules_in : ValueParser → Options → List Rule
rules_in p options = option_rules p options ++ help_filled ∷ []

-- the rules of a command, as `clap` builds them
abbrev pub rules : ValueParser → Optioned → List Rule
rules p which = rules_in p (options_of which)

abbrev pub level : ValueParser → Optioned → Shape
level p which =
    record (get_or (built (tool_app p)).subs 0 help_shape) { name = name_of which; rules = rules p which }

-- ---- facts about the options of each command

-- the default text of an option is one that it takes
abbrev pub is_default : Text × Takes → Bool
is_default (name, number most) = is_value_of (Some (number most)) (codes "1")
is_default (name, kind) = is_value_of (Some kind) (codes "set")
is_default (name, nothing) = true

pub record IsSound (options : Options) : Type 0 where
  pub no_help : takes_in options (codes "help") ≡ None
  pub why : takes_in options (codes "why") ≡ Some nothing
  pub defaults : list_all is_default options ≡ true

pub sound : (which : Optioned) → IsSound (options_of which)
sound to_run = record { no_help = refl; why = refl; defaults = refl }
sound to_test = record { no_help = refl; why = refl; defaults = refl }
sound to_compile = record { no_help = refl; why = refl; defaults = refl }
sound to_verify = record { no_help = refl; why = refl; defaults = refl }
sound to_script = record { no_help = refl; why = refl; defaults = refl }
sound to_shell = record { no_help = refl; why = refl; defaults = refl }
sound to_scan = record { no_help = refl; why = refl; defaults = refl }
sound to_explain = record { no_help = refl; why = refl; defaults = refl }

-- ---- the rule of an option

some_same : (a b : Takes) → Some a ≡ Some b → a ≡ b
some_same a b e = cc

pub none_taken : (m : Takes) → None ≡ Some m → ⊥
none_taken m e = cc

taken_none : (m : Takes) → Some m ≡ None → ⊥
taken_none m e = cc

same_rule : (p : ValueParser) (o : Text × Takes) (name : Text) (takes : Takes) → bytes_eq o.0 name ≡ true → Some o.1 ≡ Some takes → rule p o.0 o.1 ≡ rule p name takes
same_rule p o name takes named is = ap₂ (rule p) (same_text o.0 name named) (some_same o.1 takes is)

pub by_long : (p : ValueParser) (options : Options) (name : Text) (takes : Takes) → takes_in options name ≡ Some takes → arg_by_long (rules_in p options) name ≡ Some (rule p name takes)
by_long p [] name takes is = absurd (none_taken takes is)
by_long p (o ∷ rest) name takes is =
    by_test (bytes_eq o.0 name) (arg_by_long (rules_in p (o ∷ rest)) name ≡ Some (rule p name takes))
    (λ e. rw e (ap Some (same_rule p o name takes e (rw e at is)))) (λ e. rw e (by_long p rest name takes (rw e at is)))

pub by_id : (p : ValueParser) (options : Options) (name : Text) (takes : Takes) → takes_in options name ≡ Some takes → arg_by_id (rules_in p options) name ≡ Some (rule p name takes)
by_id p [] name takes is = absurd (none_taken takes is)
by_id p (o ∷ rest) name takes is =
    by_test (bytes_eq o.0 name) (arg_by_id (rules_in p (o ∷ rest)) name ≡ Some (rule p name takes))
    (λ e. rw e (ap Some (same_rule p o name takes e (rw e at is)))) (λ e. rw e (by_id p rest name takes (rw e at is)))

-- a name that is neither an option nor `help` has no rule
pub no_rule : (p : ValueParser) (options : Options) (name : Text) → takes_in options name ≡ None → bytes_eq (codes "help") name ≡ false → arg_by_long (rules_in p options) name ≡ None
no_rule p [] name none other = rw other refl
no_rule p (o ∷ rest) name none other =
    by_test (bytes_eq o.0 name) (arg_by_long (rules_in p (o ∷ rest)) name ≡ None) (λ e. absurd (taken_none o.1 (rw e at none)))
    (λ e. rw e (no_rule p rest name (rw e at none) other))

pub help_by_long : (p : ValueParser) (options : Options) → takes_in options (codes "help") ≡ None → arg_by_long (rules_in p options) (codes "help") ≡ Some help_filled
help_by_long p [] none = refl
help_by_long p (o ∷ rest) none =
    by_test (bytes_eq o.0 (codes "help")) (arg_by_long (rules_in p (o ∷ rest)) (codes "help") ≡ Some help_filled)
    (λ e. absurd (taken_none o.1 (rw e at none))) (λ e. rw e (help_by_long p rest (rw e at none)))

-- no letter names an option
pub by_letter : (p : ValueParser) (options : Options) (c : ℕ) → arg_by_short (rules_in p options) c ≡ arg_by_short (help_filled ∷ []) c
by_letter p [] c = refl
by_letter p (o ∷ rest) c = by_letter p rest c

-- no position has an argument of its own
pub no_index : (p : ValueParser) (options : Options) → arg_by_index (rules_in p options) 1 ≡ None
no_index p [] = refl
no_index p (o ∷ rest) = no_index p rest

-- no option is required
pub none_required : (p : ValueParser) (options : Options) (rows : List Row) → list_any (λ a. a.required && not (is_given a.id rows)) (rules_in p options) ≡ false
none_required p [] rows = refl
none_required p (o ∷ rest) rows = none_required p rest rows
