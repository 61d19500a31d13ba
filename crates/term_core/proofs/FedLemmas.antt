-- What a hasher was fed in several steps.
use Rattle.std.proofs.Common.{◌≡◌, ℕ, ◌+◌, ◌<◌, ◌≤◌, Option, None, Some, List, [], ◌∷◌, ◌++◌, length, get_or, drop, fold, refl, ap, sym, ◌∙◌, arith, add-one}
use Rattle.std.proofs.lemmas.List.{at_drop_all}
use Rattle.std.proofs.Math.Utf8.{encode}
use Rattle.std.proofs.lemmas.Str.{chars_past_char}
use Rattle.std.specs.Str.{IsUtf8, chars}
use Rattle.std.specs.Hash as fed
use Rattle.std.specs.Hash.{HashWrites}
use Rattle.term_core.specs.Datum.{Datum, items_of, entries_of, cells}
use Rattle.term_core.specs.Datum.Datum.{integer, atom, tuple, map, nil, cons, binary}
use Rattle.term_core.specs.Fed.{Feeds, kind_word, characters_fed, term_fed, items_fed, entries_fed, cells_fed}
use Rattle.term_core.specs.Term.{tail_of, IsTail}
use Rattle.term_core.proofs.LimitLemmas.{entry_count-entries_of, item_count-items_of, list-length}
use Rattle.term_core.proofs.RowLemmas.{drop_at}
use Rattle.term_core.proofs.TextLemmas.{chars_none}

-- a single write feeds one thing
pub fed_one : {S : Type 0} (write : S → List ℕ → S) (old new : S) (bytes : List ℕ) → new ≡ write old bytes → Feeds write old new (λ rest. bytes ∷ rest)
fed_one write old new bytes is = record { follows = λ rest. ap (λ s. fold write s rest) is }

-- two things fed in turn are fed as one
pub fed_both : {S : Type 0} (write : S → List ℕ → S) (a b c : S) (f g : HashWrites → HashWrites) → Feeds write a b f → Feeds write b c g → Feeds write a c (λ rest. f (g rest))
fed_both write a b c f g first next =
    record { follows = λ rest. next.follows rest ∙ first.follows (g rest) }

-- what was fed is also fed under another description that is equal to it
pub fed_as : {S : Type 0} (write : S → List ℕ → S) (a b : S) (f g : HashWrites → HashWrites) → ((rest : HashWrites) → f rest ≡ g rest) → Feeds write a b f → Feeds write a b g
fed_as write a b f g same first =
    record { follows = λ rest. first.follows rest ∙ ap (fold write a) (same rest) }

-- a word of a count, followed by what it counts
pub fed_behind : {S : Type 0} (write : S → List ℕ → S) (a b c : S) (kind count : ℕ) (f whole : HashWrites → HashWrites) → Feeds write a b (λ rest. fed.u64 (kind_word kind count) ++ rest) → Feeds write b c f → ((rest : HashWrites) → fed.u64 (kind_word kind count) ++ f rest ≡ whole rest) → Feeds write a c whole
fed_behind write a b c kind count f whole first next same =
    fed_as write a c (λ rest. fed.u64 (kind_word kind count) ++ f rest) whole same (fed_both write a b c (λ rest. fed.u64 (kind_word kind count) ++ rest) f first next)

-- feeding what remains completes the whole
pub record Leads {S : Type 0} (write : S → List ℕ → S) (old now : S) (left whole : HashWrites → HashWrites) : Type 0 where
  pub follows : (rest : HashWrites) → fold write now (left rest) ≡ fold write old (whole rest)

pub leads_begin : {S : Type 0} (write : S → List ℕ → S) (old : S) (whole : HashWrites → HashWrites) → Leads write old old whole whole
leads_begin write old whole = record { follows = λ rest. refl }

pub leads_on : {S : Type 0} (write : S → List ℕ → S) (old now next : S) (f left more whole : HashWrites → HashWrites) → Feeds write now next f → ((rest : HashWrites) → left rest ≡ f (more rest)) → Leads write old now left whole → Leads write old next more whole
leads_on write old now next f left more whole step is before =
    record { follows = λ rest. step.follows (more rest) ∙ ap (fold write now) (sym (is rest)) ∙ before.follows rest }

pub leads_end : {S : Type 0} (write : S → List ℕ → S) (old now : S) (left whole : HashWrites → HashWrites) → ((rest : HashWrites) → left rest ≡ rest) → Leads write old now left whole → Feeds write old now whole
leads_end write old now left whole none before =
    record { follows = λ rest. ap (fold write now) (sym (none rest)) ∙ before.follows rest }

-- the first character of a text, and then the rest
pub characters-past : (bs rest : List ℕ) (c : ℕ) → IsUtf8 bs → bs ≡ encode c ++ rest → (more : HashWrites) → characters_fed (chars bs) more ≡ fed.char c ++ characters_fed (chars rest) more
characters-past bs rest c utf8 is more =
    ap (λ cs. characters_fed cs more) (chars_past_char bs rest c utf8 is)

pub characters-over : (bs : List ℕ) → length bs ≡ 0 → (more : HashWrites) → characters_fed (chars bs) more ≡ more
characters-over bs none more = ap (λ cs. characters_fed cs more) (chars_none bs none)

pub items-at : (xs : List Datum) (i : ℕ) (x : Datum) → i < length xs → x ≡ get_or xs i x → (rest : HashWrites) → items_fed (items_of (drop i xs)) rest ≡ term_fed x (items_fed (items_of (drop (i + 1) xs)) rest)
unfolding term_fed
items-at xs i x there is rest = rw (add-one, drop_at xs i x there is)

pub items-end : (xs : List Datum) (i : ℕ) → length xs ≤ i → (rest : HashWrites) → items_fed (items_of (drop i xs)) rest ≡ rest
unfolding term_fed
items-end xs i h rest = at_drop_all (λ ds. items_fed (items_of ds) rest) xs i h

pub entries-at : (xs : List (Datum × Datum)) (i : ℕ) (x : Datum × Datum) → i < length xs → x ≡ get_or xs i x → (rest : HashWrites) → entries_fed (entries_of (drop i xs)) rest ≡ term_fed x.0 (term_fed x.1 (entries_fed (entries_of (drop (i + 1) xs)) rest))
unfolding term_fed
entries-at xs i x there is rest = rw (add-one, drop_at xs i x there is)

pub entries-end : (xs : List (Datum × Datum)) (i : ℕ) → length xs ≤ i → (rest : HashWrites) → entries_fed (entries_of (drop i xs)) rest ≡ rest
unfolding term_fed
entries-end xs i h rest = at_drop_all (λ es. entries_fed (entries_of es) rest) xs i h

-- what is fed for a tuple is the number of its elements, and then these
pub tuple-fed : (ds : List Datum) (rest : HashWrites) → fed.u64 (kind_word 2 (length ds)) ++ items_fed (items_of ds) rest ≡ term_fed (tuple (items_of ds)) rest
unfolding term_fed
tuple-fed ds rest =
    ap (λ n. fed.u64 (kind_word 2 n) ++ items_fed (items_of ds) rest) (sym (item_count-items_of ds))

pub map-fed : (es : List (Datum × Datum)) (rest : HashWrites) → fed.u64 (kind_word 3 (length es)) ++ entries_fed (entries_of es) rest ≡ term_fed (map (entries_of es)) rest
unfolding term_fed
map-fed es rest =
    ap (λ n. fed.u64 (kind_word 3 n) ++ entries_fed (entries_of es) rest) (sym (entry_count-entries_of es))

tail-fed : (t : Option Datum) (rest : HashWrites) → IsTail t → cells_fed (tail_of t) rest ≡ term_fed (tail_of t) rest
unfolding term_fed
tail-fed None rest h = refl
tail-fed (Some (integer z)) rest h = refl
tail-fed (Some (atom cs)) rest h = refl
tail-fed (Some (tuple ds)) rest h = refl
tail-fed (Some (map es)) rest h = refl
tail-fed (Some nil) rest h = refl
tail-fed (Some (cons head tail)) rest h = absurd h
tail-fed (Some (binary bs)) rest h = refl

cells-fed : (ds : List Datum) (t : Option Datum) (rest : HashWrites) → IsTail t → cells_fed (cells ds (tail_of t)) rest ≡ items_fed (items_of ds) (term_fed (tail_of t) rest)
unfolding term_fed
cells-fed [] t rest h = tail-fed t rest h
cells-fed (d ∷ ds) t rest h = ap (term_fed d) (cells-fed ds t rest h)

-- what is fed for a list is the number of its elements, these, and its tail
pub list-fed : (ds : List Datum) (t : Option Datum) → 0 < length ds → IsTail t → (rest : HashWrites) → fed.u64 (kind_word 5 (length ds)) ++ items_fed (items_of ds) (term_fed (tail_of t) rest) ≡ term_fed (cells ds (tail_of t)) rest
unfolding term_fed
list-fed [] t some h rest = absurd (omega arith)
list-fed (d ∷ ds) t some h rest =
    ap (λ ws. fed.u64 (kind_word 5 (length (d ∷ ds))) ++ term_fed d ws) (sym (cells-fed ds t rest h))
    ∙ ap (λ n. fed.u64 (kind_word 5 n) ++ term_fed d (cells_fed (cells ds (tail_of t)) rest)) (list-length (d ∷ ds) t h)
