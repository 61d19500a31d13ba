-- Facts about texts and tests, and about kinds of errors.
use Rattle.std.proofs.Common.{◌≡◌, ◌∙◌, ℕ, Bool, true, false, true≢false, ◌==◌, List, [], ◌∷◌, refl, sym, ap, take, ◌+◌, one-add}
use Rattle.std.proofs.lemmas.Slice.Eq.{bytes_eq-Decides}
use Rattle.std.specs.List.{list_all, before_first}
use Rattle.std.specs.Str.{bytes_eq}
use Rattle.clap.specs.Lexer.{has_byte}
use Rattle.clap.specs.Kinds.{Kinds, or_else}
use Rattle.clap.specs.Walk.{Text}
use Rattle.clap.specs.declared.error.kind.ErrorKind.{ErrorKind}
use Rattle.clap.specs.declared.error.kind.ErrorKind.TheVariants as error
use Rattle.tool_cli.specs.Words.{Asked, command, help, version, topic, mistake}

-- ---- texts and tests

pub by_test : (b : Bool) (P : Type 0) → (b ≡ true → P) → (b ≡ false → P) → P
by_test true P holds fails = holds refl
by_test false P holds fails = fails refl

pub same_text : (a b : Text) → bytes_eq a b ≡ true → a ≡ b
same_text a b = (bytes_eq-Decides a b).0

pub text_itself : (a : Text) → bytes_eq a a ≡ true
text_itself a = (bytes_eq-Decides a a).1 refl

pub other_text : (a b : Text) → bytes_eq a b ≡ false → bytes_eq b a ≡ false
other_text a b e =
    by_test (bytes_eq b a) (bytes_eq b a ≡ false)
    (λ is. absurd (true≢false (sym ((bytes_eq-Decides a b).1 (sym (same_text b a is))) ∙ e)))
    (λ is. is)

take_one_more : (n x : ℕ) (xs : List ℕ) → take (1 + n) (x ∷ xs) ≡ x ∷ take n xs
take_one_more n x xs = rw (one-add n) refl

pub no_equals_sign : (text : Text) → has_byte 61 text ≡ false → before_first (λ x. x == 61) text ≡ text
no_equals_sign [] e = refl
no_equals_sign (x ∷ xs) e =
    by_test (x == 61) (before_first (λ y. y == 61) (x ∷ xs) ≡ x ∷ xs) (λ is. absurd (true≢false (rw is at e)))
    (λ is. rw is (take_one_more _ x xs ∙ ap (λ l. x ∷ l) (no_equals_sign xs (rw is at e))))

-- ---- kinds

abbrev pub is_mistake : ErrorKind → Bool
is_mistake error.UnknownArgument = true
is_mistake error.InvalidSubcommand = true
is_mistake error.MissingSubcommand = true
is_mistake error.TooManyValues = true
is_mistake error.InvalidValue = true
is_mistake error.ValueValidation = true
is_mistake error.ArgumentConflict = true
is_mistake _ = false

-- there are errors, and all are of kinds for words that are not understood
abbrev pub are_mistakes : Kinds → Bool
are_mistakes [] = false
are_mistakes (k ∷ ks) = list_all is_mistake (k ∷ ks)

-- the errors for a single flag, where no command is entered
abbrev pub Refuses : Asked → Kinds → Type 0
Refuses help ks = ks ≡ error.DisplayHelp ∷ []
Refuses version ks = ks ≡ error.DisplayVersion ∷ []
Refuses mistake ks = are_mistakes ks ≡ true
Refuses a ks = ⊥

-- a word that is rejected is rejected whatever follows
pub still_refused : (a : Asked) (ks more : Kinds) → Refuses a ks → Refuses a (or_else ks more)
still_refused help ks more h = rw h refl
still_refused version ks more h = rw h refl
still_refused mistake [] more h = absurd (cc)
still_refused mistake (k ∷ ks) more h = h
still_refused (command r) ks more h = absurd h
still_refused topic ks more h = absurd h

pub no_more : (ks : Kinds) → or_else ks [] ≡ ks
no_more [] = refl
no_more (k ∷ ks) = refl

pub else_else : (a b c : Kinds) → or_else (or_else a b) c ≡ or_else a (or_else b c)
else_else [] b c = refl
else_else (k ∷ ks) b c = refl
