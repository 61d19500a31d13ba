-- What fits a pattern, and combined claims on substitutions.
use Rattle.std.proofs.Common.{◌≡◌, ℕ, suc, ◌+◌, ◌<◌, ◌≤◌, Bool, true, false, MatchBool, Option, Some, None, List, [], ◌∷◌, length, get_or, drop, refl, sym, ◌∙◌, ap, subst, arith, drop-cons, add-one}
use Rattle.std.proofs.lemmas.List.{drop_all}
use Rattle.std.specs.Ordering.{eq_by_cmp, is_eq}
use Rattle.term_core.specs.Order.{datum_cmp}
use Rattle.term_core.specs.OrderLaws.{datum_cmp-same, datum_eq-same}
use Rattle.term_core.specs.Datum.{Datum, Items, Entries, items_of, entries_of}
use Rattle.term_core.specs.Datum.Datum.{integer, atom, tuple, nil, cons, binary, map as table}
use Rattle.term_core.specs.Datum.Items.{no_items, item}
use Rattle.mspec_syntax.specs.Pattern.{Pattern, Patterns, Fields, patterns_of, fields_of, cells_of}
use Rattle.mspec_syntax.specs.Pattern.Pattern.{variable, anything, literal, tuple_of, cell_of, map_of}
use Rattle.mspec_syntax.specs.Pattern.Patterns.{no_patterns, pattern}
use Rattle.mspec_syntax.specs.Pattern.Fields.{no_fields, field}
use Rattle.prims.specs.Maps.{value_at}
use Rattle.mspec_match.specs.Match.{Fits, AllFit, FieldsFit}
use Rattle.term_operand.specs.Operand.{IsNoCell}
use Rattle.mspec_match.specs.Slots.{assigned, Extends, IsOver, Binds, NeverHolds, Answers, LeadsOn, BindsFront, NeverFitsFront}

-- what a test of equality says
pub eq-says : (r : Bool) (a b : Datum) → r ≡ eq_by_cmp datum_cmp a b → MatchBool r (a ≡ b) (a ≡ b → ⊥)
eq-says true a b e = datum_eq-same a b (sym e)
eq-says false a b e = λ same. absurd (let equal = ap is_eq (datum_cmp-same same) in let r = e ∙ equal in cc)

mutual
  -- what fits under some values fits under more
  pub Fits-more : (p : Pattern) (s r : ℕ → Option Datum) (t : Datum) → Extends s r → Fits p s t → Fits p r t
  Fits-more (variable n) s r t e h = e n t h
  Fits-more anything s r t e h = tt
  Fits-more (literal d) s r t e h = h
  Fits-more (tuple_of ps) s r (tuple ds) e h = AllFit-more ps s r ds e h
  Fits-more (tuple_of ps) s r t e h = absurd h
  Fits-more (cell_of p q) s r (cons head tail) e h = (Fits-more p s r head e h.0, Fits-more q s r tail e h.1)
  Fits-more (cell_of p q) s r t e h = absurd h
  Fits-more (map_of fs) s r (table es) e h = FieldsFit-more fs s r es e h
  Fits-more (map_of fs) s r t e h = absurd h

  pub AllFit-more : (ps : Patterns) (s r : ℕ → Option Datum) (ds : Items) → Extends s r → AllFit ps s ds → AllFit ps r ds
  AllFit-more no_patterns s r no_items e h = tt
  AllFit-more no_patterns s r (item d ds) e h = absurd h
  AllFit-more (pattern p ps) s r no_items e h = absurd h
  AllFit-more (pattern p ps) s r (item d ds) e h = (Fits-more p s r d e h.0, AllFit-more ps s r ds e h.1)

  pub FieldsFit-more : (fs : Fields) (s r : ℕ → Option Datum) (es : Entries) → Extends s r → FieldsFit fs s es → FieldsFit fs r es
  FieldsFit-more no_fields s r es e h = tt
  FieldsFit-more (field k p fs) s r es e h =
      ((h.0.0, h.0.1, Fits-more p s r h.0.0 e h.0.2), FieldsFit-more fs s r es e h.1)

-- binding for one claim and then for another binds for both
pub Binds-then : (vs : List ℕ) (a b c : List (Option Datum)) (F G : (ℕ → Option Datum) → Type 0) → ((s r : ℕ → Option Datum) → Extends s r → F s → F r) → Binds vs a b F → Binds vs b c G → Binds vs a c (λ s. F s × G s)
Binds-then vs a b c F G more h k = record {
  grown = λ n d e. k.grown n d (h.grown n d e);
  holds = (more _ _ k.grown h.holds, k.holds);
  least = λ s over extends claim. k.least s over (h.least s over extends claim.0) claim.1;
}

pub Never-then : (vs : List ℕ) (a b : List (Option Datum)) (F G : (ℕ → Option Datum) → Type 0) → Binds vs a b F → NeverHolds vs b G → NeverHolds vs a (λ s. F s × G s)
Never-then vs a b F G h never = λ s over extends claim. never s over (h.least s over extends claim.0) claim.1

pub Never-first : (vs : List ℕ) (a : List (Option Datum)) (F G : (ℕ → Option Datum) → Type 0) → NeverHolds vs a F → NeverHolds vs a (λ s. F s × G s)
Never-first vs a F G never = λ s over extends claim. never s over extends claim.0

pub Answers-then : (r : Bool) (vs : List ℕ) (a b c : List (Option Datum)) (F G : (ℕ → Option Datum) → Type 0) → ((s r : ℕ → Option Datum) → Extends s r → F s → F r) → Binds vs a b F → Answers r vs b c G → Answers r vs a c (λ s. F s × G s)
Answers-then true vs a b c F G more h k = Binds-then vs a b c F G more h k
Answers-then false vs a b c F G more h k = Never-then vs a b F G h k

-- a claim that always holds binds nothing
pub Binds-nothing : (vs : List ℕ) (a : List (Option Datum)) (F : (ℕ → Option Datum) → Type 0) → ((s : ℕ → Option Datum) → F s) → Binds vs a a F
Binds-nothing vs a F all = record { grown = λ n d e. e; holds = all _; least = λ s over extends claim. extends }

-- an answer for a claim that does not depend on values
pub Answers-fact : (r : Bool) (vs : List ℕ) (a : List (Option Datum)) (P : Type 0) → MatchBool r P (P → ⊥) → Answers r vs a a (λ s. P)
Answers-fact true vs a P h = record { grown = λ n d e. e; holds = h; least = λ s over extends claim. extends }
Answers-fact false vs a P h = λ s over extends claim. h claim

-- the claim for the remaining elements leads to the claim for all
pub record AllFront (vs : List ℕ) (first now : List (Option Datum)) (ps : List Pattern) (ds : List Datum) (i : ℕ) : Type 0 where
  pub done : (last : List (Option Datum)) → Binds vs now last (λ s. AllFit (patterns_of (drop i ps)) s (items_of (drop i ds))) → Binds vs first last (λ s. AllFit (patterns_of ps) s (items_of ds))
  pub failed : NeverHolds vs now (λ s. AllFit (patterns_of (drop i ps)) s (items_of (drop i ds))) → NeverHolds vs first (λ s. AllFit (patterns_of ps) s (items_of ds))

split_at : {X : Type 0} (xs : List X) (i : ℕ) (x : X) → i < length xs → x ≡ get_or xs i x → drop i xs ≡ x ∷ drop (i + 1) xs
split_at xs i x h e = drop-cons xs i x h ∙ ap (λ y. y ∷ drop (suc i) xs) (sym e) ∙ ap (λ j. x ∷ drop j xs) (sym (add-one i))

pub AllFront-more : (vs : List ℕ) (first now next : List (Option Datum)) (ps : List Pattern) (ds : List Datum) (i : ℕ) (p : Pattern) (d : Datum) → i < length ps → i < length ds → p ≡ get_or ps i p → d ≡ get_or ds i d → Binds vs now next (λ s. Fits p s d) → AllFront vs first now ps ds i → AllFront vs first next ps ds (i + 1)
AllFront-more vs first now next ps ds i p d h k e f bound front =
    let left : drop i ps ≡ p ∷ drop (i + 1) ps = split_at ps i p h e in
    let right : drop i ds ≡ d ∷ drop (i + 1) ds = split_at ds i d k f in
    let Rest : (ℕ → Option Datum) → Type 0 = λ s. AllFit (patterns_of (drop (i + 1) ps)) s (items_of (drop (i + 1) ds)) in
    record {
      done = λ last g.
          let both = Binds-then vs now next last (λ s. Fits p s d) Rest (λ s r x y. Fits-more p s r d x y) bound g in
          let P : List Pattern → Type 0 = λ xs. Binds vs now last (λ s. AllFit (patterns_of xs) s (items_of (d ∷ drop (i + 1) ds))) in
          let Q : List Datum → Type 0 = λ xs. Binds vs now last (λ s. AllFit (patterns_of (drop i ps)) s (items_of xs)) in
          front.done last (subst Q (sym right) (subst P (sym left) both));
      failed = λ never.
          let both = Never-then vs now next (λ s. Fits p s d) Rest bound never in
          let P : List Pattern → Type 0 = λ xs. NeverHolds vs now (λ s. AllFit (patterns_of xs) s (items_of (d ∷ drop (i + 1) ds))) in
          let Q : List Datum → Type 0 = λ xs. NeverHolds vs now (λ s. AllFit (patterns_of (drop i ps)) s (items_of xs)) in
          front.failed (subst Q (sym right) (subst P (sym left) both));
    }

pub AllFront-never : (vs : List ℕ) (first now : List (Option Datum)) (ps : List Pattern) (ds : List Datum) (i : ℕ) (p : Pattern) (d : Datum) → i < length ps → i < length ds → p ≡ get_or ps i p → d ≡ get_or ds i d → NeverHolds vs now (λ s. Fits p s d) → AllFront vs first now ps ds i → NeverHolds vs first (λ s. AllFit (patterns_of ps) s (items_of ds))
AllFront-never vs first now ps ds i p d h k e f never front =
    let left : drop i ps ≡ p ∷ drop (i + 1) ps = split_at ps i p h e in
    let right : drop i ds ≡ d ∷ drop (i + 1) ds = split_at ds i d k f in
    let Rest : (ℕ → Option Datum) → Type 0 = λ s. AllFit (patterns_of (drop (i + 1) ps)) s (items_of (drop (i + 1) ds)) in
    let both = Never-first vs now (λ s. Fits p s d) Rest never in
    let P : List Pattern → Type 0 = λ xs. NeverHolds vs now (λ s. AllFit (patterns_of xs) s (items_of (d ∷ drop (i + 1) ds))) in
    let Q : List Datum → Type 0 = λ xs. NeverHolds vs now (λ s. AllFit (patterns_of (drop i ps)) s (items_of xs)) in
    front.failed (subst Q (sym right) (subst P (sym left) both))

pub AllFront-all : (vs : List ℕ) (first now : List (Option Datum)) (ps : List Pattern) (ds : List Datum) (i : ℕ) → length ps ≤ i → length ps ≡ length ds → AllFront vs first now ps ds i → Binds vs first now (λ s. AllFit (patterns_of ps) s (items_of ds))
AllFront-all vs first now ps ds i end same front =
    let left : drop i ps ≡ [] = drop_all i ps end in
    let right : drop i ds ≡ [] = drop_all i ds (omega arith) in
    let P : List Pattern → Type 0 = λ xs. Binds vs now now (λ s. AllFit (patterns_of xs) s (items_of (drop i ds))) in
    let Q : List Datum → Type 0 = λ xs. Binds vs now now (λ s. AllFit (patterns_of []) s (items_of xs)) in
    front.done now (subst P (sym left) (subst Q (sym right) (Binds-nothing vs now (λ s. Unit {0}) (λ s. tt))))

-- patterns and elements of different numbers never fit
pub lengths-never : (ps : List Pattern) (ds : List Datum) (s : ℕ → Option Datum) → (length ps ≡ length ds → ⊥) → AllFit (patterns_of ps) s (items_of ds) → ⊥
lengths-never [] [] s differ h = differ refl
lengths-never [] (d ∷ ds) s differ h = h
lengths-never (p ∷ ps) [] s differ h = h
lengths-never (p ∷ ps) (d ∷ ds) s differ h = lengths-never ps ds s (λ e. differ (omega arith)) h.1

-- the claim for the remaining keys leads to the claim for all
pub record FieldsFront (vs : List ℕ) (first now : List (Option Datum)) (fs : List (Datum × Pattern)) (es : List (Datum × Datum)) (i : ℕ) : Type 0 where
  pub done : (last : List (Option Datum)) → Binds vs now last (λ s. FieldsFit (fields_of (drop i fs)) s (entries_of es)) → Binds vs first last (λ s. FieldsFit (fields_of fs) s (entries_of es))
  pub failed : NeverHolds vs now (λ s. FieldsFit (fields_of (drop i fs)) s (entries_of es)) → NeverHolds vs first (λ s. FieldsFit (fields_of fs) s (entries_of es))

abbrev pub FieldFits : Datum × Pattern → List (Datum × Datum) → (ℕ → Option Datum) → Type 0
FieldFits f es s = (v : Datum) × (value_at f.0 (entries_of es) ≡ Some v) × Fits f.1 s v

FieldFits-more : (f : Datum × Pattern) (es : List (Datum × Datum)) (s r : ℕ → Option Datum) → Extends s r → FieldFits f es s → FieldFits f es r
FieldFits-more f es s r e h = (h.0, h.1, Fits-more f.1 s r h.0 e h.2)

-- the value that was found is the only one
FieldFits-to : (f : Datum × Pattern) (es : List (Datum × Datum)) (v : Datum) (s : ℕ → Option Datum) → Some v ≡ value_at f.0 (entries_of es) → Fits f.1 s v → FieldFits f es s
FieldFits-to f es v s e h = (v, sym e, h)

FieldFits-from : (f : Datum × Pattern) (es : List (Datum × Datum)) (v : Datum) (s : ℕ → Option Datum) → Some v ≡ value_at f.0 (entries_of es) → FieldFits f es s → Fits f.1 s v
FieldFits-from f es v s e h =
    let found = e ∙ h.1 in
    let same : h.0 ≡ v = cc in
    let P : Datum → Type 0 = λ d. Fits f.1 s d in subst P same h.2

pub FieldsFront-more : (vs : List ℕ) (first now next : List (Option Datum)) (fs : List (Datum × Pattern)) (es : List (Datum × Datum)) (i : ℕ) (f : Datum × Pattern) (v : Datum) → i < length fs → f ≡ get_or fs i f → Some v ≡ value_at f.0 (entries_of es) → Binds vs now next (λ s. Fits f.1 s v) → FieldsFront vs first now fs es i → FieldsFront vs first next fs es (i + 1)
FieldsFront-more vs first now next fs es i f v h e found bound front =
    let left : drop i fs ≡ f ∷ drop (i + 1) fs = split_at fs i f h e in
    let Rest : (ℕ → Option Datum) → Type 0 = λ s. FieldsFit (fields_of (drop (i + 1) fs)) s (entries_of es) in
    let first_one : Binds vs now next (FieldFits f es) =
    record {
      grown = bound.grown;
      holds = FieldFits-to f es v _ found bound.holds;
      least = λ s over extends claim. bound.least s over extends (FieldFits-from f es v s found claim);
    } in
    record {
      done = λ last g.
          let both = Binds-then vs now next last (FieldFits f es) Rest (λ s r x y. FieldFits-more f es s r x y) first_one g in
          let P : List (Datum × Pattern) → Type 0 = λ xs. Binds vs now last (λ s. FieldsFit (fields_of xs) s (entries_of es)) in
          front.done last (subst P (sym left) both);
      failed = λ never.
          let both = Never-then vs now next (FieldFits f es) Rest first_one never in
          let P : List (Datum × Pattern) → Type 0 = λ xs. NeverHolds vs now (λ s. FieldsFit (fields_of xs) s (entries_of es)) in
          front.failed (subst P (sym left) both);
    }

pub FieldsFront-never : (vs : List ℕ) (first now : List (Option Datum)) (fs : List (Datum × Pattern)) (es : List (Datum × Datum)) (i : ℕ) (f : Datum × Pattern) (v : Datum) → i < length fs → f ≡ get_or fs i f → Some v ≡ value_at f.0 (entries_of es) → NeverHolds vs now (λ s. Fits f.1 s v) → FieldsFront vs first now fs es i → NeverHolds vs first (λ s. FieldsFit (fields_of fs) s (entries_of es))
FieldsFront-never vs first now fs es i f v h e found never front =
    let left : drop i fs ≡ f ∷ drop (i + 1) fs = split_at fs i f h e in
    let both = λ (s : ℕ → Option Datum) (over : IsOver vs s) (extends : Extends (assigned vs now) s) (claim : FieldsFit (fields_of (f ∷ drop (i + 1) fs)) s (entries_of es)). never s over extends (FieldFits-from f es v s found claim.0) in
    let P : List (Datum × Pattern) → Type 0 = λ xs. NeverHolds vs now (λ s. FieldsFit (fields_of xs) s (entries_of es)) in
    front.failed (subst P (sym left) both)

-- a key without a value never fits
pub FieldsFront-missing : (vs : List ℕ) (first now : List (Option Datum)) (fs : List (Datum × Pattern)) (es : List (Datum × Datum)) (i : ℕ) (f : Datum × Pattern) → i < length fs → f ≡ get_or fs i f → None ≡ value_at f.0 (entries_of es) → FieldsFront vs first now fs es i → NeverHolds vs first (λ s. FieldsFit (fields_of fs) s (entries_of es))
FieldsFront-missing vs first now fs es i f h e found front =
    let left : drop i fs ≡ f ∷ drop (i + 1) fs = split_at fs i f h e in
    let both = λ (s : ℕ → Option Datum) (over : IsOver vs s) (extends : Extends (assigned vs now) s) (claim : FieldsFit (fields_of (f ∷ drop (i + 1) fs)) s (entries_of es)). absurd {A = ⊥} (let q = found ∙ claim.0.1 in cc) in
    let P : List (Datum × Pattern) → Type 0 = λ xs. NeverHolds vs now (λ s. FieldsFit (fields_of xs) s (entries_of es)) in
    front.failed (subst P (sym left) both)

pub FieldsFront-all : (vs : List ℕ) (first now : List (Option Datum)) (fs : List (Datum × Pattern)) (es : List (Datum × Datum)) (i : ℕ) → length fs ≤ i → FieldsFront vs first now fs es i → Binds vs first now (λ s. FieldsFit (fields_of fs) s (entries_of es))
FieldsFront-all vs first now fs es i end front =
    let left : drop i fs ≡ [] = drop_all i fs end in
    let P : List (Datum × Pattern) → Type 0 = λ xs. Binds vs now now (λ s. FieldsFit (fields_of xs) s (entries_of es)) in
    front.done now (subst P (sym left) (Binds-nothing vs now (λ s. Unit {0}) (λ s. tt)))

-- one more of a list's first elements leads on from those before it
pub cells-more : (vs : List ℕ) (first now next : List (Option Datum)) (ps : List Pattern) (whole : Datum) (i : ℕ) (p : Pattern) (head tail rest : Datum) → i < length ps → p ≡ get_or ps i p → cons head tail ≡ rest → Binds vs now next (λ s. Fits p s head) → LeadsOn vs first now ps whole (drop i ps) rest → LeadsOn vs first next ps whole (drop (i + 1) ps) tail
cells-more vs first now next ps whole i p head tail rest h e is bound leads = λ q answer last claim.
    let left : drop i ps ≡ p ∷ drop (i + 1) ps = split_at ps i p h e in
    let both = Answers-then answer vs now next last (λ s. Fits p s head) (λ s. Fits (cells_of (drop (i + 1) ps) q) s tail) (λ s r x y. Fits-more p s r head x y) bound claim in
    let P : Datum → Type 0 = λ d. Answers answer vs now last (λ s. Fits (cells_of (p ∷ drop (i + 1) ps) q) s d) in
    let Q : List Pattern → Type 0 = λ xs. Answers answer vs now last (λ s. Fits (cells_of xs q) s rest) in
    leads q answer last (subst Q (sym left) (subst P is both))

-- a list with a first element that never fits never fits
pub cells-never : (vs : List ℕ) (first now : List (Option Datum)) (ps : List Pattern) (whole : Datum) (i : ℕ) (p : Pattern) (head tail rest : Datum) → i < length ps → p ≡ get_or ps i p → cons head tail ≡ rest → NeverHolds vs now (λ s. Fits p s head) → LeadsOn vs first now ps whole (drop i ps) rest → NeverFitsFront vs first ps whole
cells-never vs first now ps whole i p head tail rest h e is never leads = λ q.
    let left : drop i ps ≡ p ∷ drop (i + 1) ps = split_at ps i p h e in
    let both = Never-first vs now (λ s. Fits p s head) (λ s. Fits (cells_of (drop (i + 1) ps) q) s tail) never in
    let P : Datum → Type 0 = λ d. NeverHolds vs now (λ s. Fits (cells_of (p ∷ drop (i + 1) ps) q) s d) in
    let Q : List Pattern → Type 0 = λ xs. NeverHolds vs now (λ s. Fits (cells_of xs q) s rest) in
    leads q false [] (subst Q (sym left) (subst P is both))

no_cell-never : (p q : Pattern) (s : ℕ → Option Datum) (d : Datum) → IsNoCell d → Fits (cell_of p q) s d → ⊥
no_cell-never p q s (cons head tail) none fits = none
no_cell-never p q s (integer z) none fits = fits
no_cell-never p q s (atom cs) none fits = fits
no_cell-never p q s (tuple ds) none fits = fits
no_cell-never p q s (table es) none fits = fits
no_cell-never p q s nil none fits = fits
no_cell-never p q s (binary bs) none fits = fits

-- a list that lacks one of the first elements never fits
pub cells-short : (vs : List ℕ) (first now : List (Option Datum)) (ps : List Pattern) (whole : Datum) (i : ℕ) (p : Pattern) (rest : Datum) → i < length ps → p ≡ get_or ps i p → IsNoCell rest → LeadsOn vs first now ps whole (drop i ps) rest → NeverFitsFront vs first ps whole
cells-short vs first now ps whole i p rest h e none leads = λ q.
    let left : drop i ps ≡ p ∷ drop (i + 1) ps = split_at ps i p h e in
    let Q : List Pattern → Type 0 = λ xs. NeverHolds vs now (λ s. Fits (cells_of xs q) s rest) in
    leads q false [] (subst Q (sym left) (λ s over extends claim. no_cell-never p (cells_of (drop (i + 1) ps) q) s rest none claim))

pub cells-all : (vs : List ℕ) (first now : List (Option Datum)) (ps : List Pattern) (whole : Datum) (i : ℕ) (rest : Datum) → length ps ≤ i → LeadsOn vs first now ps whole (drop i ps) rest → BindsFront vs first now ps whole rest
cells-all vs first now ps whole i rest end leads =
    let P : List Pattern → Type 0 = λ xs. LeadsOn vs first now ps whole xs rest in
    subst P (drop_all i ps end) leads

-- a list fits if its first elements and its rest do
pub list-Answers : (answer : Bool) (vs : List ℕ) (a b c : List (Option Datum)) (xs ps : List Pattern) (q p : Pattern) (t rest : Datum) → xs ≡ ps → cells_of ps q ≡ p → BindsFront vs a b xs t rest → Answers answer vs b c (λ s. Fits q s rest) → Answers answer vs a c (λ s. Fits p s t)
list-Answers answer vs a b c xs ps q p t rest same is bound h =
    let P : Pattern → Type 0 = λ x. Answers answer vs a c (λ s. Fits x s t) in
    subst P (ap (λ l. cells_of l q) same ∙ is) (bound q answer c h)

pub list-never : (vs : List ℕ) (a : List (Option Datum)) (xs ps : List Pattern) (q p : Pattern) (t : Datum) → xs ≡ ps → cells_of ps q ≡ p → NeverFitsFront vs a xs t → NeverHolds vs a (λ s. Fits p s t)
list-never vs a xs ps q p t same is never =
    let P : Pattern → Type 0 = λ x. NeverHolds vs a (λ s. Fits x s t) in
    subst P (ap (λ l. cells_of l q) same ∙ is) (never q)

pub variable-Answers : (r : Bool) (vs : List ℕ) (a b : List (Option Datum)) (n : ℕ) (p : Pattern) (t : Datum) → variable n ≡ p → Answers r vs a b (λ s. s n ≡ Some t) → Answers r vs a b (λ s. Fits p s t)
variable-Answers r vs a b n p t is h = let P : Pattern → Type 0 = λ x. Answers r vs a b (λ s. Fits x s t) in subst P is h

pub tuple-Answers : (r : Bool) (vs : List ℕ) (a b : List (Option Datum)) (xs ps : List Pattern) (ds : List Datum) (p : Pattern) (t : Datum) → xs ≡ ps → tuple_of (patterns_of ps) ≡ p → tuple (items_of ds) ≡ t → Answers r vs a b (λ s. AllFit (patterns_of xs) s (items_of ds)) → Answers r vs a b (λ s. Fits p s t)
tuple-Answers r vs a b xs ps ds p t same is it h =
    let P : List Pattern → Type 0 = λ l. Answers r vs a b (λ s. AllFit (patterns_of l) s (items_of ds)) in
    let Q : Pattern → Type 0 = λ x. Answers r vs a b (λ s. Fits x s (tuple (items_of ds))) in
    let R : Datum → Type 0 = λ d. Answers r vs a b (λ s. Fits p s d) in
    subst R it (subst Q is (subst P same h))

pub map-Answers : (r : Bool) (vs : List ℕ) (a b : List (Option Datum)) (xs fs : List (Datum × Pattern)) (es : List (Datum × Datum)) (p : Pattern) (t : Datum) → xs ≡ fs → map_of (fields_of fs) ≡ p → table (entries_of es) ≡ t → Answers r vs a b (λ s. FieldsFit (fields_of xs) s (entries_of es)) → Answers r vs a b (λ s. Fits p s t)
map-Answers r vs a b xs fs es p t same is it h =
    let P : List (Datum × Pattern) → Type 0 = λ l. Answers r vs a b (λ s. FieldsFit (fields_of l) s (entries_of es)) in
    let Q : Pattern → Type 0 = λ x. Answers r vs a b (λ s. Fits x s (table (entries_of es))) in
    let R : Datum → Type 0 = λ d. Answers r vs a b (λ s. Fits p s d) in
    subst R it (subst Q is (subst P same h))
