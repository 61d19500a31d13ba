-- The kinds of places, of which those other than Any are listed.
use Rattle.std.specs.Prelude.{ℕ, zero, suc, ◌≡◌, ◌≢◌, ◌+◌, ◌-◌, ◌<◌, ◌≤◌, cond, Bool, true, false, nat_eq, IsTrue, Option, Some, None, List, [], ◌∷◌, ◌++◌, length, drop, slice_get, All}
use Rattle.std.specs.Option.{option_map_or, option_to_list}
use Rattle.std.proofs.Common.{arith, get_or, refl, sym, ap, ◌∙◌, inl, inr}
use Rattle.std.proofs.lemmas.Bool.{eq-eqb, ne_eqb, cases_lt}
use Rattle.mcode.specs.Kind.{is_below}
use Rattle.mcode.specs.Program.{Frame, Rise, place_number, with_number}
use Rattle.mcode.specs.declared.kind.Kind.{Kind}
use Rattle.mcode.specs.declared.kind.Kind.TheVariants as kind
use Rattle.mcode.proofs.RiseLemmas.{number_missing, number_found, number_stands, rise_more, rise_front}
use Rattle.std.proofs.lemmas.List.{length-append}
use Rattle.std.proofs.lemmas.List.Elements.{All-append}
use Rattle.std.proofs.Math.Seq.{get_or-append_seam}
use native.Mathlib.Numerals.{unary_clauses}
use Rattle.verifier_types.specs.Shape.{Shape, place_kind, frame_kinds, is_bound, cut_shape, AreBelow, IsAtOrBelow}
use Rattle.verifier_types.specs.Kept.{AreKept, AreListedAbove, IsReaching, kept_shape}

abbrev pub Place : Type 0
Place = ℕ × Kind

-- the kind of the place that was found, else Any
abbrev pub found_kind : Option Place → Kind
found_kind o = option_map_or (λ place. place.1) o kind.Any

-- there are as many kinds as places
pub length-frame_kinds : (places : List Place) (n : ℕ) → length (frame_kinds places n) ≡ n
length-frame_kinds places zero = refl
length-frame_kinds places (suc n) = ap suc (length-frame_kinds places n)

-- the kinds without those of the top places
pub drop-frame_kinds : (places : List Place) (n d e : ℕ) → e ≡ n + d → drop n (frame_kinds places e) ≡ frame_kinds places d
drop-frame_kinds places zero d e sum = ap (frame_kinds places) (omega (arith, sum))
drop-frame_kinds places (suc n) d zero sum = absurd (omega (arith, sum))
drop-frame_kinds places (suc n) d (suc e) sum = drop-frame_kinds places n d e (omega (arith, sum))

-- a place that is not listed has kind Any
pub place_missing : (places : List Place) (n : ℕ) → All (λ place. place_number place < n) places → place_kind places n ≡ kind.Any
place_missing places n within =
    ap found_kind (sym (number_missing place_number places n (λ j d inside same. absurd (omega (arith, within j d inside, same)))))

-- one more place does not change the kinds of the others
pub place_before : (places : List Place) (q n : ℕ) (k : Kind) → n ≢ q → place_kind (places ++ (q, k) ∷ []) n ≡ place_kind places n
place_before [] q n k other =
    ap (λ b. found_kind (cond b (Some (q, k)) None)) (ne_eqb q n (λ e. absurd (other (sym e))))
place_before ((m, j) ∷ places) q n k other = by (nat_eq m n) (place_before places q n k other)
  where
    by : (b : Bool) → found_kind (with_number place_number (places ++ (q, k) ∷ []) n) ≡ found_kind (with_number place_number places n) → found_kind (cond b (Some (m, j)) (with_number place_number (places ++ (q, k) ∷ []) n)) ≡ found_kind (cond b (Some (m, j)) (with_number place_number places n))
    by true rest = refl
    by false rest = rest

pub kinds_before : (places : List Place) (q n : ℕ) (k : Kind) → n ≤ q → frame_kinds (places ++ (q, k) ∷ []) n ≡ frame_kinds places n
kinds_before places q zero k below = refl
kinds_before places q (suc n) k below =
    ap (λ j. j ∷ frame_kinds (places ++ (q, k) ∷ []) n) (place_before places q n k (λ e. absurd (omega (arith, below, e))))
    ∙ ap (λ js. place_kind places n ∷ js) (kinds_before places q n k (omega (arith, below)))

-- the last place has the kind with which it is listed
pub place_last : (places : List Place) (n : ℕ) (k : Kind) → All (λ place. place_number place < n) places → place_kind (places ++ (n, k) ∷ []) n ≡ k
place_last [] n k within = ap (λ b. found_kind (cond b (Some (n, k)) None)) (eq-eqb n n refl)
place_last ((m, j) ∷ places) n k within =
    let below : m < n = within zero (m, j) (omega arith) in
    ap (λ b. found_kind (cond b (Some (m, j)) (with_number place_number (places ++ (n, k) ∷ []) n))) (ne_eqb m n (λ e. absurd (omega (arith, below, e))))
    ∙ place_last places n k (λ i d inside. within (suc i) d (omega arith))

-- the kinds after a place was pushed, with its kind or with Any
pub kinds_pushed : (places : List Place) (n : ℕ) (k : Kind) → All (λ place. place_number place < n) places → frame_kinds (places ++ (n, k) ∷ []) (suc n) ≡ k ∷ frame_kinds places n
kinds_pushed places n k within =
    ap (λ j. j ∷ frame_kinds (places ++ (n, k) ∷ []) n) (place_last places n k within)
    ∙ ap (λ js. k ∷ js) (kinds_before places n n k (omega arith))

pub any_pushed : (places : List Place) (n : ℕ) → All (λ place. place_number place < n) places → frame_kinds places (suc n) ≡ kind.Any ∷ frame_kinds places n
any_pushed places n within = ap (λ k. k ∷ frame_kinds places n) (place_missing places n within)

-- the kind of the place that has n places above it
pub kind_from_top : (places : List Place) (n d : ℕ) → n < d → slice_get (frame_kinds places d) n ≡ Some (place_kind places (d - 1 - n))
kind_from_top places n zero within = absurd (omega arith)
kind_from_top places zero (suc d) within =
    let same : d ≡ suc d - 1 - 0 = omega arith in
    ap (λ m. Some (place_kind places m)) same
kind_from_top places (suc n) (suc d) within =
    let same : d - 1 - n ≡ suc d - 1 - suc n = omega arith in
    kind_from_top places n d (omega (arith, within)) ∙ ap (λ m. Some (place_kind places m)) same

-- the kind of a place is below the one that is listed for it, if one is listed
place_below : (places listed : List Place) (d : ℕ) (o : Option Place) → with_number place_number listed d ≡ o → AreListedAbove places listed → IsTrue (is_below (place_kind places d) (found_kind o))
place_below places listed d None is above = refl
place_below places listed d (Some place) is above =
    let found = number_stands place_number listed d place is in
    let low = above found.1.0 place found.1.1 in
    let low = rw found.1.2 at low in
    let low = rw found.0 at low in
    low

-- kinds are below those of a frame if those of its listed places are
pub below_from_listed : (places listed : List Place) (d : ℕ) → AreListedAbove places listed → AreBelow (frame_kinds places d) (frame_kinds listed d)
below_from_listed places listed zero above = tt
below_from_listed places listed (suc d) above =
    (place_below places listed d (with_number place_number listed d) refl above, below_from_listed places listed d above)

-- the kind at a place is below the frame's
below_at : (places listed : List Place) (d n : ℕ) → n < d → AreBelow (frame_kinds places d) (frame_kinds listed d) → IsTrue (is_below (place_kind places n) (place_kind listed n))
below_at places listed zero n within below = absurd (omega arith)
below_at places listed (suc d) n within below = elim (cases_lt n d) [
  | inl h ↦ below_at places listed d n h below.1
  | inr h ↦ let same : n ≡ d = omega (arith, within, h) in rw same below.0
]

pub listed_from_below : (places listed : List Place) (d : ℕ) → Rise place_number listed → All (λ place. place_number place < d) listed → AreBelow (frame_kinds places d) (frame_kinds listed d) → AreListedAbove places listed
listed_from_below places listed d up within below i e inside =
    let n = place_number (get_or listed i e) in
    let found = ap found_kind (number_found place_number listed n i e up inside refl) in
    let low = below_at places listed d n (within i e inside) below in
    rw found low

-- the depth that is stored is that of the state
pub depth_is : (s : Shape) (depth : ℕ) (places : List Place) (bound : List Bool) → kept_shape depth places bound ≡ s → depth ≡ length s.kinds
depth_is s depth places bound is = sym (length-frame_kinds places depth) ∙ ap (λ t. length t.kinds) is

-- the kinds after one more place of kind Any, or of a listed kind
pub any_more : (places : List Place) (n : ℕ) → All (λ place. place_number place < n) places → frame_kinds places (n + 1) ≡ kind.Any ∷ frame_kinds places n
any_more places n within = simp unary_clauses (any_pushed places n within)

pub kinds_more : (places : List Place) (n : ℕ) (k : Kind) → All (λ place. place_number place < n) places → frame_kinds (places ++ (n, k) ∷ []) (n + 1) ≡ k ∷ frame_kinds places n
kinds_more places n k within = simp unary_clauses (kinds_pushed places n k within)

pub kept_more : (places : List Place) (n : ℕ) → AreKept n places → AreKept (n + 1) places
kept_more places n kept = record { rise = kept.rise; within = λ i d inside. omega (arith, kept.within i d inside) }

pub kept_pushed : (places : List Place) (n : ℕ) (k : Kind) → AreKept n places → AreKept (n + 1) (places ++ (n, k) ∷ [])
kept_pushed places n k kept = record {
  rise = rise_more place_number places (n, k) kept.rise (λ m d long. kept.within m d (omega (arith, long)));
  within = All-append (λ place. place_number place < n + 1) places ((n, k) ∷ []) (kept_more places n kept).within (one n k);
}
  where
    one : (n : ℕ) (k : Kind) → All (λ place. place_number place < n + 1) ((n, k) ∷ [])
    one n k zero d inside = omega arith
    one n k (suc i) d inside = absurd (omega (arith, inside))

-- what remains after the last place was removed, which is at the depth or above it
pub record IsCutOnce (depth : ℕ) (xs ys : List Place) : Type 0 where
  pub rise : Rise place_number ys
  pub kinds : frame_kinds ys depth ≡ frame_kinds xs depth
  pub fewer : length ys < length xs

pub cut_once : (depth : ℕ) (xs ys : List Place) (o : Option Place) (x : Place) → Rise place_number xs → xs ≡ ys ++ option_to_list o → o ≡ Some x → IsReaching depth xs → IsCutOnce depth xs ys
cut_once depth xs ys o x up split is reaching =
    let split = rw is at split in
    record {
      rise = rise_front place_number ys x (rw split at up);
      kinds =
          let last = (reaching x).1 in
          let last = rw split at last in
          rw split (sym (kinds_before ys x.0 depth x.1 (last_number ys x depth last)));
      fewer = rw split (omega (arith, length-append ys (x ∷ [])));
    }
  where
    last_number : (ys : List Place) (x : Place) (depth : ℕ) → depth ≤ place_number (get_or (ys ++ x ∷ []) (length (ys ++ x ∷ []) - 1) x) → depth ≤ x.0
    last_number ys x depth low =
        let here : length (ys ++ x ∷ []) - 1 ≡ length ys = omega (arith, length-append ys (x ∷ [])) in
        let low = rw here at low in
        let low = rw (get_or-append_seam ys x [] x) at low in
        low

-- what remains after `pop` returned the last place
pub cut_popped : (depth n : ℕ) (xs ys : List Place) (o : Option Place) → Rise place_number xs → length xs ≡ n → xs ≡ ys ++ option_to_list o → ((x : Place) → 0 < n → o ≡ Some (get_or xs (n - 1) x)) → IsReaching depth xs → IsCutOnce depth xs ys
cut_popped depth n xs ys o up long split value reaching =
    let some = (reaching (0, kind.Any)).0 in
    cut_once depth xs ys o (get_or xs (n - 1) (0, kind.Any)) up split (value (0, kind.Any) (omega (arith, some, long))) reaching

-- the kinds of the places below the cut
pub cut_kinds : (places : List Place) (depth lower : ℕ) → lower ≤ depth → drop (length (frame_kinds places depth) - lower) (frame_kinds places depth) ≡ frame_kinds places lower
cut_kinds places depth lower low =
    drop-frame_kinds places (length (frame_kinds places depth) - lower) lower depth (omega (arith, low, length-frame_kinds places depth))

pub below_cut : (depth : ℕ) (places : List Place) (bound : List Bool) (s : Shape) (f : Frame) → kept_shape depth places bound ≡ s → f.depth ≤ depth → AreListedAbove places f.places → All (λ slot. IsTrue (is_bound bound slot)) f.slots → IsAtOrBelow (cut_shape s f.depth) f
below_cut depth places bound s f is low above slots =
    rw (← is) (record {
      kinds = rw (cut_kinds places depth f.depth low) (below_from_listed places f.places f.depth above);
      bound = slots;
    })

pub cut_below : (depth : ℕ) (places : List Place) (bound : List Bool) (s : Shape) (f : Frame) → kept_shape depth places bound ≡ s → f.depth ≤ depth → AreKept f.depth f.places → IsAtOrBelow (cut_shape s f.depth) f → AreListedAbove places f.places × All (λ slot. IsTrue (is_bound bound slot)) f.slots
cut_below depth places bound s f is low kept below =
    let below = rw (← is) at below in
    let kinds = below.kinds in
    let kinds = rw (cut_kinds places depth f.depth low) at kinds in
    (listed_from_below places f.places f.depth kept.rise kept.within kinds, below.bound)

-- if kinds are below others, there are equally many
pub below-length : (ks ls : List Kind) → AreBelow ks ls → length ks ≡ length ls
below-length [] [] below = refl
below-length [] (l ∷ ls) below = absurd below
below-length (k ∷ ks) [] below = absurd below
below-length (k ∷ ks) (l ∷ ls) below = ap suc (below-length ks ls below.1)
