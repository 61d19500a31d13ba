-- What is within the limits, and what a fault says of them.
use Rattle.std.proofs.Common.{◌≡◌, ◌≢◌, true, false, ◌||◌, cond, Some, None, List, suc, length, refl, sym, ap, ◌∙◌, subst}
use Rattle.std.specs.Prelude.{nat_lt}
use Rattle.std.specs.List.Sorted.{IsPermutation}
use Rattle.std.proofs.lemmas.Bool.{le-ltb, lt-ltb}
use Rattle.std.proofs.lemmas.List.Sorted.{length_permutation}
use Rattle.term_core.specs.Datum.{Datum, entries_of, item_count, entry_count, cell_count}
use Rattle.term_core.specs.Datum.Datum.{integer, atom, tuple, map, nil, cons, binary}
use Rattle.term_core.specs.Fault.{IsFault, IsTooLong}
use Rattle.term_core.specs.Limits.{depth, IsSound, IsTerm, is_too_long, is_past_limits, within_limits}
use Rattle.term_core.specs.MapPairs.{HasTwice, IsMapFault, by_key}
use Rattle.term_core.specs.declared.TheConstants.{MAX_DEPTH, MAX_CHARACTERS, MAX_TUPLE, MAX_MAP, MAX_LIST, MAX_BINARY}
use Rattle.term_core.specs.declared.fault.Fault.{Fault}
use Rattle.term_core.specs.declared.fault.Fault.TheVariants.{Memory, TooDeep, TooLong, DuplicateKey}
use Rattle.term_build.proofs.ByKeyLemmas.{by_key-IsPermutation}
use Rattle.term_core.proofs.LimitLemmas.{entry_count-entries_of}
use Rattle.term_core.proofs.MapLemmas.{Pair, entries_depth-permutation}

sound-short : (d : Datum) → IsSound d → is_too_long d ≡ false
sound-short (integer z) h = refl
sound-short (atom cs) h = le-ltb MAX_CHARACTERS (length cs) h.0
sound-short (tuple ds) h = le-ltb MAX_TUPLE (item_count ds) h.0
sound-short (map es) h = le-ltb MAX_MAP (entry_count es) h.0
sound-short nil h = refl
sound-short (cons head tail) h = le-ltb MAX_LIST (cell_count (cons head tail)) h.0
sound-short (binary bs) h = le-ltb MAX_BINARY (length bs) h.0

long-is_too_long : (d : Datum) → IsTooLong d → is_too_long d ≡ true
long-is_too_long (integer z) h = absurd h
long-is_too_long (atom cs) h = lt-ltb MAX_CHARACTERS (length cs) h
long-is_too_long (tuple ds) h = lt-ltb MAX_TUPLE (item_count ds) h
long-is_too_long (map es) h = lt-ltb MAX_MAP (entry_count es) h
long-is_too_long nil h = absurd h
long-is_too_long (cons head tail) h = lt-ltb MAX_LIST (cell_count (cons head tail)) h
long-is_too_long (binary bs) h = lt-ltb MAX_BINARY (length bs) h

-- a term is not past the limits
pub term-is_past_limits : (d : Datum) → IsTerm d → is_past_limits d ≡ false
term-is_past_limits d term =
    ap (λ b. b || is_too_long d) (le-ltb MAX_DEPTH (depth d) term.shallow) ∙ sound-short d term.sound

-- what fails for another cause than out of memory is past the limits
pub refused-is_past_limits : (fault : Fault) (d : Datum) → IsFault fault d → fault ≢ Memory → is_past_limits d ≡ true
refused-is_past_limits Memory d f other = absurd (other refl)
refused-is_past_limits TooDeep d f other = ap (λ b. b || is_too_long d) (lt-ltb MAX_DEPTH (depth d) f)
refused-is_past_limits TooLong d f other =
    ap (λ b. b || is_too_long d) (le-ltb MAX_DEPTH (depth d) f.0) ∙ long-is_too_long d f.1
refused-is_past_limits DuplicateKey d f other = absurd f

-- a term that was made is within the limits
pub made-within_limits : (d t : Datum) → d ≡ t → IsTerm t → Some t ≡ within_limits d
made-within_limits d t is term =
    ap Some (sym is) ∙ sym (ap (λ b. cond b None (Some d)) (term-is_past_limits d (subst IsTerm (sym is) term)))

map-long : (es fs : List Pair) → IsPermutation es fs → entry_count (entries_of fs) ≡ entry_count (entries_of es)
map-long es fs moved = entry_count-entries_of fs ∙ length_permutation es fs moved ∙ sym (entry_count-entries_of es)

-- the limits of a map do not depend on the order of its pairs
pub is_past_limits-permutation : (es fs : List Pair) → IsPermutation es fs → is_past_limits (map (entries_of fs)) ≡ is_past_limits (map (entries_of es))
is_past_limits-permutation es fs moved =
    ap (λ n. nat_lt MAX_DEPTH (suc n) || nat_lt MAX_MAP (entry_count (entries_of fs))) (entries_depth-permutation es fs moved)
    ∙ ap (λ n. nat_lt MAX_DEPTH (depth (map (entries_of es))) || nat_lt MAX_MAP n) (map-long es fs moved)

map-is_past_limits : (fault : Fault) (es : List Pair) → IsMapFault fault es → ¬ HasTwice es → fault ≢ Memory → is_past_limits (map (entries_of es)) ≡ true
map-is_past_limits Memory es f apart other = absurd (other refl)
map-is_past_limits TooDeep es f apart other = refused-is_past_limits TooDeep (map (entries_of es)) f other
map-is_past_limits TooLong es f apart other = refused-is_past_limits TooLong (map (entries_of es)) f other
map-is_past_limits DuplicateKey es f apart other = absurd (apart f.2)

-- a map that fails for another cause than out of memory is past the limits
pub map-refused : (fault : Fault) (es : List Pair) → IsMapFault fault es → ¬ HasTwice es → fault ≢ Memory → None ≡ within_limits (map (entries_of (by_key es)))
map-refused fault es f apart other =
    let fs = by_key es in
    let past = is_past_limits-permutation es fs (by_key-IsPermutation es) ∙ map-is_past_limits fault es f apart other in
    sym (ap (λ b. cond b None (Some (map (entries_of fs)))) past)
