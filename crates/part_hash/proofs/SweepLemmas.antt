-- Dead rows that are removed.
use Rattle.std.proofs.Common.{◌≡◌, ◌≢◌, ℕ, ◌<◌, ◌≤◌, ◌+◌, zero, suc, List, [], ◌∷◌, refl, ap, sym, ◌∙◌, length, drop, get_or, arith, eq-eqb}
use Rattle.std.specs.Prelude.{Bool, true, false, not, ◌==◌, Option, Some, None, All, filter, nat_lt}
use Rattle.std.specs.List.{list_any}
use Rattle.std.specs.Option.{option_map_or}
use Rattle.std.specs.Map.{values_of}
use Rattle.std.proofs.lemmas.Bool.{true≢false, eqb-true, ltb-true, ltb-false}
use Rattle.std.proofs.lemmas.List.Elements.{All-head, All-tail}
use Rattle.slab.specs.Slab.{Slab, Updates, get}
use Rattle.term_operand.specs.Order.{is_same}
use Rattle.part_core.specs.declared.settings.Settings.{Settings}
use Rattle.part_core.specs.Rows.{Row, is_live}
use Rattle.part_core.proofs.KeyLemmas.{by_test}
use Rattle.part_hash.specs.declared.store.Store.{Store}
use Rattle.part_hash.specs.Places.{Kept, Standing}
use Rattle.part_hash.specs.Standing.{AreAt, Stands, is_noted}
use Rattle.part_hash.specs.Swept.{AreFewerDead, is_dead_at}
use Rattle.part_hash.proofs.StandLemmas.{IsOwn, all_own, some_is}
use Rattle.part_hash.proofs.WriteLemmas.{past_slots}

-- a dead row at a key of the slab
pub dead_is : (slab : Slab Kept) (at : ℕ) (s : Kept) → get slab at ≡ Some s → is_live s.0 ≡ false → is_dead_at slab at ≡ true
dead_is slab at s there dead =
    ap (λ (f : Option Kept). option_map_or (λ (r : Kept). not (is_live r.0)) f false) there ∙ ap not dead

-- none is dead where none is
pub none_dead : (slab : Slab Kept) (at : ℕ) → get slab at ≡ None → is_dead_at slab at ≡ false
none_dead slab at none = ap (λ (f : Option Kept). option_map_or (λ (r : Kept). not (is_live r.0)) f false) none

-- fewer are dead where one is taken out
pub fewer_dead : (slab new : Slab Kept) (at : ℕ) → Updates slab new at None → AreFewerDead slab new
fewer_dead slab new at updates = λ i dead.
    by_test (i == at) _
    (λ same. absurd (true≢false (sym dead ∙ ap (is_dead_at new) (eqb-true i at same) ∙ none_dead new at updates.changed)))
    (λ other. ap (λ (f : Option Kept). option_map_or (λ (r : Kept). not (is_live r.0)) f false) (sym (updates.others i (λ e. true≢false (sym (eq-eqb _ _ e) ∙ other)))) ∙ dead)

-- ---- what is left to look at

-- each dead row is at a key of the slab from one on, below the number of keys
pub dead_within : (slab : Slab Kept) (bound : ℕ) → length slab.slots ≤ bound → (i : ℕ) → is_dead_at slab i ≡ true → i < bound
dead_within slab bound over i dead =
    by_test (nat_lt i (length slab.slots)) _
    (λ inside. omega (arith, ltb-true _ _ inside, over))
    (λ outside. absurd (true≢false (sym dead ∙ none_dead slab i (past_slots slab i (ltb-false i (length slab.slots) outside)))))

pub dead_next : (slab new : Slab Kept) (at : ℕ) → AreFewerDead slab new → is_dead_at new at ≡ false → ((i : ℕ) → is_dead_at slab i ≡ true → at ≤ i) → (i : ℕ) → is_dead_at new i ≡ true → at + 1 ≤ i
dead_next slab new at fewer live left i dead =
    by_test (i == at) _
    (λ same. absurd (true≢false (sym dead ∙ ap (is_dead_at new) (eqb-true i at same) ∙ live)))
    (λ other. omega (arith, left i (fewer i dead), (λ (e : i ≡ at). true≢false (sym (eq-eqb _ _ e) ∙ other))))

pub dead_none : (slab : Slab Kept) (at bound : ℕ) → bound ≤ at → ((i : ℕ) → is_dead_at slab i ≡ true → at ≤ i) → ((i : ℕ) → is_dead_at slab i ≡ true → i < bound) → (i : ℕ) → is_dead_at slab i ≡ false
dead_none slab at bound over from below i =
    by_test (is_dead_at slab i) _ (λ dead. absurd (omega (arith, over, from i dead, below i dead))) (λ live. live)

-- of the keys that were noted, those after the first
pub noted_behind : (ns : List ℕ) (number at : ℕ) → number < length ns → list_any (λ n. n == at) (drop number ns) ≡ true → (get_or ns number 0 == at) ≡ false → list_any (λ n. n == at) (drop (suc number) ns) ≡ true
noted_behind [] number at within noted other = absurd (omega (arith, within))
noted_behind (n ∷ ns) zero at within noted other = rw other at noted
noted_behind (n ∷ ns) (suc number) at within noted other = noted_behind ns number at (omega (arith, within)) noted other

pub noted_next : (slab new : Slab Kept) (ns : List ℕ) (number at : ℕ) → at ≡ get_or ns number 0 → number < length ns → AreFewerDead slab new → is_dead_at new at ≡ false → ((i : ℕ) → is_dead_at slab i ≡ true → list_any (λ n. n == i) (drop number ns) ≡ true) → (i : ℕ) → is_dead_at new i ≡ true → list_any (λ n. n == i) (drop (number + 1) ns) ≡ true
noted_next slab new ns number at is within fewer live left i dead =
    by_test (get_or ns number 0 == i) _
    (λ same. absurd (true≢false (sym dead ∙ ap (is_dead_at new) (sym (eqb-true _ _ same) ∙ sym is) ∙ live)))
    (λ other. let one : suc number ≡ number + 1 = omega arith in
    ap (λ m. list_any (λ n. n == i) (drop m ns)) (sym one) ∙ noted_behind ns number i within (left i (fewer i dead)) other)

pub noted_none : (slab : Slab Kept) (ns : List ℕ) (number : ℕ) → length ns ≤ number → ((i : ℕ) → is_dead_at slab i ≡ true → list_any (λ n. n == i) (drop number ns) ≡ true) → (i : ℕ) → is_dead_at slab i ≡ false
noted_none slab ns number over left i =
    by_test (is_dead_at slab i) _ (λ dead. absurd (true≢false (sym (left i dead) ∙ ap (list_any (λ n. n == i)) (none_left ns number over)))) (λ live. live)
  where
    none_left : (ns : List ℕ) (number : ℕ) → length ns ≤ number → drop number ns ≡ []
    none_left [] zero over = refl
    none_left [] (suc number) over = refl
    none_left (n ∷ ns) zero over = absurd (omega (arith, over))
    none_left (n ∷ ns) (suc number) over = none_left ns number (omega (arith, over))

pub noted_first : (slab : Slab Kept) (ns : List ℕ) (lost : Bool) → lost ≡ false → ((i : ℕ) → is_dead_at slab i ≡ true → is_noted lost ns i ≡ true) → (i : ℕ) → is_dead_at slab i ≡ true → list_any (λ n. n == i) (drop 0 ns) ≡ true
noted_first slab ns lost all noted i dead = sym (ap (λ b. is_noted b ns i) all) ∙ noted i dead

-- ---- the rows

-- where no row is dead, all stay
all_live : (slab : Slab Kept) (list : List Standing) → ((i : ℕ) → is_dead_at slab i ≡ false) → AreAt slab list → filter is_live (values_of list) ≡ values_of list
all_live slab [] none at = refl
all_live slab (e ∷ list) none at =
    let rest : filter is_live (values_of list) ≡ values_of list = all_live slab list none (All-tail (λ (f : Standing). get slab f.0.at ≡ Some (f.1, f.0.made)) e list at) in
    by_test (is_live e.1) _
    (λ live. rw live (ap (λ rs. e.1 ∷ rs) rest))
    (λ dead. absurd (true≢false (sym (dead_is slab e.0.at (e.1, e.0.made) (All-head (λ (f : Standing). get slab f.0.at ≡ Some (f.1, f.0.made)) e list at) dead) ∙ none e.0.at)))

pub all_stay : {A : Type 0} (o : Settings) (s : Store A) (rows : List Row) → ((i : ℕ) → is_dead_at s.rows i ≡ false) → Stands o s rows → filter is_live rows ≡ rows
all_stay {A} o s rows none stands =
    ap (filter is_live) stands.are ∙ all_live s.rows stands.list none stands.placed.stands ∙ sym stands.are

-- without a dead row the live ones are the same
live_same : (slab : Slab Kept) (at : ℕ) (row : Kept) (list : List Standing) → get slab at ≡ Some row → is_live row.0 ≡ false → All (IsOwn at row.0.0) list → AreAt slab list → filter is_live (filter (λ (r : Row). not (is_same row.0.0 r.0)) (values_of list)) ≡ filter is_live (values_of list)
live_same slab at row [] there dead owns stands = refl
live_same slab at row (e ∷ list) there dead owns stands =
    let rest : filter is_live (filter (λ (r : Row). not (is_same row.0.0 r.0)) (values_of list)) ≡ filter is_live (values_of list) = live_same slab at row list there dead (All-tail (IsOwn at row.0.0) e list owns) (All-tail (λ (f : Standing). get slab f.0.at ≡ Some (f.1, f.0.made)) e list stands) in
    by_test (is_same row.0.0 e.1.0) _
    (λ same. let place : e.0.at ≡ at = eqb-true e.0.at at (All-head (IsOwn at row.0.0) e list owns ∙ same) in
    let it : Some (e.1, e.0.made) ≡ Some row = sym (All-head (λ (f : Standing). get slab f.0.at ≡ Some (f.1, f.0.made)) e list stands) ∙ ap (get slab) place ∙ there in
    let gone : is_live e.1 ≡ false = ap (λ (r : Kept). is_live r.0) (some_is it) ∙ dead in
    rw (same, gone) rest)
    (λ other. by_test (is_live e.1) _ (λ live. rw (other, live) (ap (λ rs. e.1 ∷ rs) rest)) (λ gone. rw (other, gone) rest))

pub live_left : {A : Type 0} (o : Settings) (s : Store A) (rows : List Row) (at : ℕ) (row : Kept) → get s.rows at ≡ Some row → is_live row.0 ≡ false → Stands o s rows → filter is_live (filter (λ (r : Row). not (is_same row.0.0 r.0)) rows) ≡ filter is_live rows
live_left {A} o s rows at row there dead stands =
    ap (λ rs. filter is_live (filter (λ (r : Row). not (is_same row.0.0 r.0)) rs)) stands.are
    ∙ live_same s.rows at row stands.list there dead (all_own s.rows s.index s.seed rows stands.list at row stands.placed.stands stands.found there) stands.placed.stands
    ∙ ap (filter is_live) (sym stands.are)
