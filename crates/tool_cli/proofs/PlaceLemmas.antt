-- The first and the last line feed of a text, as they are found.
use Rattle.std.proofs.Common.{◌≡◌, ◌∙◌, ◌≤◌, ◌<◌, ◌+◌, ◌-◌, ℕ, true, false, not, List, [], take, drop, length, sym, ap, arith}
use Rattle.std.proofs.lemmas.List.{get_or_default, take_all, take_rest}
use Rattle.std.proofs.lemmas.List.Sums.{position_or_len_is, suffix_len_is}
use Rattle.std.specs.Prelude.{get_or}
use Rattle.std.specs.List.{after_last, before_first, before_last, suffix_len}
use Rattle.tool_cli.specs.Place.{begins_character, is_feed}

pub first_is : (text : List ℕ) (n d : ℕ) → n < length text → ((k : ℕ) → k < n → is_feed (get_or text k 0) ≡ false) → get_or text n d ≡ 10 → take n text ≡ before_first is_feed text
first_is text n d there before found =
    let feed : is_feed (get_or text n 0) ≡ true = ap is_feed (get_or_default text n 0 d there ∙ found) in
    ap (λ k. take k text) (sym (position_or_len_is is_feed text n 0 (omega arith) before (λ h. feed)))

pub none_is : (text : List ℕ) (n : ℕ) → n ≤ length text → length text ≤ n → ((k : ℕ) → k < n → is_feed (get_or text k 0) ≡ false) → text ≡ before_first is_feed text
none_is text n within past before =
    sym (ap (λ k. take k text) (position_or_len_is is_feed text n 0 within before (λ h. absurd (omega arith))) ∙ take_all n text past)

pub last_is : (text : List ℕ) (n d : ℕ) → 0 < n → n ≤ length text → ((k : ℕ) → n ≤ k → k < length text → is_feed (get_or text k 0) ≡ false) → get_or text (n - 1) d ≡ 10
    → take (length text - (n - 1 + 1)) (drop (n - 1 + 1) text) ≡ after_last is_feed text
last_is text n d some within after found =
    let feed : is_feed (get_or text (n - 1) 0) ≡ true = ap is_feed (get_or_default text (n - 1) 0 d (omega arith) ∙ found) in
    let behind : suffix_len (λ x. not (is_feed x)) text ≡ length text - n = suffix_len_is (λ x. not (is_feed x)) text n 0 within (λ k from below. ap not (after k from below)) (λ h. ap not feed) in
    let same : n - 1 + 1 ≡ length text - suffix_len (λ x. not (is_feed x)) text = omega arith in
    take_rest text (n - 1 + 1) ∙ ap (λ k. drop k text) same

pub none_behind : (text : List ℕ) (n : ℕ) → n ≤ 0 → ((k : ℕ) → n ≤ k → k < length text → is_feed (get_or text k 0) ≡ false) → text ≡ after_last is_feed text
none_behind text n first after =
    let behind : suffix_len (λ x. not (is_feed x)) text ≡ length text - n = suffix_len_is (λ x. not (is_feed x)) text n 0 (omega arith) (λ k from below. ap not (after k from below)) (λ h. absurd (omega arith)) in
    let same : 0 ≡ length text - suffix_len (λ x. not (is_feed x)) text = omega arith in
    ap (λ k. drop k text) same

-- ---- the last byte that begins a character

pub last_begins : (bytes : List ℕ) (n d : ℕ) → 0 < n → n ≤ length bytes → ((k : ℕ) → n ≤ k → k < length bytes → begins_character (get_or bytes k 0) ≡ false) → begins_character (get_or bytes (n - 1) d) ≡ true
    → take (n - 1) bytes ≡ before_last begins_character bytes
last_begins bytes n d some within after found =
    let here : begins_character (get_or bytes (n - 1) 0) ≡ true = ap begins_character (get_or_default bytes (n - 1) 0 d (omega arith)) ∙ found in
    let past : suffix_len (λ x. not (begins_character x)) bytes ≡ length bytes - n = suffix_len_is (λ x. not (begins_character x)) bytes n 0 within (λ k from below. ap not (after k from below)) (λ h. ap not here) in
    let same : n - 1 ≡ length bytes - suffix_len (λ x. not (begins_character x)) bytes - 1 = omega arith in
    ap (λ k. take k bytes) same

pub none_begins : (bytes : List ℕ) (n : ℕ) → n ≤ 0 → ((k : ℕ) → n ≤ k → k < length bytes → begins_character (get_or bytes k 0) ≡ false) → [] ≡ before_last begins_character bytes
none_begins bytes n first after =
    let past : suffix_len (λ x. not (begins_character x)) bytes ≡ length bytes - n = suffix_len_is (λ x. not (begins_character x)) bytes n 0 (omega arith) (λ k from below. ap not (after k from below)) (λ h. absurd (omega arith)) in
    let same : 0 ≡ length bytes - suffix_len (λ x. not (begins_character x)) bytes - 1 = omega arith in
    ap (λ k. take k bytes) same
