-- A text that is appended to another one.
use Rattle.std.proofs.Common.{◌≡◌, ℕ, ◌≤◌, List, ◌++◌, [], length, take, drop, sym, ap, ◌∙◌, arith}
use Rattle.std.proofs.lemmas.List.{drop_all, take-append-drop, take-append-le, drop-append-le}

pub nothing_behind : (bytes : List ℕ) (n : ℕ) → n ≡ length bytes → drop n bytes ≡ []
nothing_behind bytes n e = drop_all n bytes (omega arith)

pub both_texts : (bytes : List ℕ) (n : ℕ) → bytes ≡ take n bytes ++ drop n bytes
both_texts bytes n = sym (take-append-drop n bytes)

pub more_behind : (n : ℕ) (old new more : List ℕ) → n ≤ length old → new ≡ old ++ more → drop n new ≡ drop n old ++ more
more_behind n old new more h e = ap (drop n) e ∙ drop-append-le n old more h

pub same_front : (n : ℕ) (old new more : List ℕ) → n ≤ length old → new ≡ old ++ more → take n new ≡ take n old
same_front n old new more h e = ap (take n) e ∙ take-append-le n old more h
