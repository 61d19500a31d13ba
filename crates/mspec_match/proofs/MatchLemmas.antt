-- What the slots of a head say about substitutions.
use Rattle.std.proofs.Common.{◌≡◌, ℕ, zero, suc, ◌==◌, cond, Bool, true, false, ◌||◌, inl, inr, Option, Some, None, List, [], ◌∷◌, ◌++◌, map, length, take, refl, sym, ◌∙◌, ap, subst, arith}
use Rattle.std.proofs.lemmas.Bool.{cases_eq, eq-eqb, ne_eqb, or_cases}
use Rattle.term_core.specs.Datum.{Datum, Items, Entries}
use Rattle.term_core.specs.Datum.Datum.{tuple, cons, map as table}
use Rattle.term_core.specs.Datum.Items.{no_items, item}
use Rattle.mspec_syntax.specs.Pattern.{Pattern, Patterns, Fields, pattern_variables, patterns_variables, fields_variables}
use Rattle.mspec_syntax.specs.Pattern.Pattern.{variable, anything, literal, tuple_of, cell_of, map_of}
use Rattle.mspec_syntax.specs.Pattern.Patterns.{no_patterns, pattern}
use Rattle.mspec_syntax.specs.Pattern.Fields.{no_fields, field}
use Rattle.mspec_syntax.specs.Rising.{rising}
use Rattle.mspec_syntax.specs.Grammar.{is_among}
use Rattle.mspec_syntax.proofs.RisingLemmas.{Rises, Rises-tail, Rises-rising, behind, among-rising}
use Rattle.mspec_match.specs.Match.{Substitution, domain, values_of, lookup, Fits, AllFit, FieldsFit, Matches}
use Rattle.mspec_match.specs.Slots.{assigned, Extends, Binds, NeverHolds, AreFree, known, substitution_of, NeverMatches}
use Rattle.mspec_match.proofs.FitLemmas.{Fits-more}

lookup-out : (s : Substitution) (n : ℕ) → is_among (domain s) n ≡ false → lookup s n ≡ None
lookup-out [] n h = refl
lookup-out (e ∷ s) n h =
    elim (cases_eq e.0 n) [
      | inl z ↦ absurd (let q = sym (ap (λ b. b || is_among (domain s) n) (eq-eqb e.0 n z)) ∙ h in cc)
      | inr z ↦ rw (ne_eqb e.0 n z) (lookup-out s n (sym (ap (λ b. b || is_among (domain s) n) (ne_eqb e.0 n z)) ∙ h))
    ]

assigned-free : (vs : List ℕ) (slots : List (Option Datum)) (n : ℕ) → AreFree slots → assigned vs slots n ≡ None
assigned-free [] slots n h = refl
assigned-free (v ∷ vs) [] n h = refl
assigned-free (v ∷ vs) (x ∷ slots) n h =
    elim (cases_eq v n) [
      | inl z ↦ rw (eq-eqb v n z) h.0
      | inr z ↦ rw (ne_eqb v n z) (assigned-free vs slots n h.1)
    ]

-- a pattern that never fits from free slots matches under no substitution
pub never-matches : (vs : List ℕ) (slots : List (Option Datum)) (p : Pattern) (t : Datum) → vs ≡ rising (pattern_variables p) → AreFree slots → NeverHolds vs slots (λ s. Fits p s t) → NeverMatches p t
never-matches vs slots p t names free never = λ s m.
    never (lookup s)
    (λ n out. lookup-out s n (ap (λ l. is_among l n) (m.domain ∙ sym names) ∙ out))
    (λ n d known. absurd (let q = sym (assigned-free vs slots n free) ∙ known in cc))
    m.fits

or_assoc : (a b c : Bool) → (a || (b || c)) ≡ ((a || b) || c)
or_assoc true b c = refl
or_assoc false b c = refl

one_bound : (m : ℕ) (s : ℕ → Option Datum) (t : Datum) (n : ℕ) → s m ≡ Some t → is_among (m ∷ []) n ≡ true → (d : Datum) × (s n ≡ Some d)
one_bound m s t n h e =
    elim (cases_eq m n) [
      | inl z ↦ (t, sym (ap s z) ∙ h)
      | inr z ↦ absurd (let q = sym (ap (λ b. b || false) (ne_eqb m n z)) ∙ e in cc)
    ]

pub among-append : (xs ys : List ℕ) (n : ℕ) → is_among (xs ++ ys) n ≡ (is_among xs n || is_among ys n)
among-append [] ys n = refl
among-append (x ∷ xs) ys n = ap (λ b. (x == n) || b) (among-append xs ys n) ∙ or_assoc (x == n) (is_among xs n) (is_among ys n)

mutual
  -- a variable of a pattern that fits has a value
  Fits-bound : (p : Pattern) (s : ℕ → Option Datum) (t : Datum) (n : ℕ) → Fits p s t → is_among (pattern_variables p) n ≡ true → (d : Datum) × (s n ≡ Some d)
  Fits-bound (variable m) s t n h e = one_bound m s t n h e
  Fits-bound anything s t n h e = absurd (cc)
  Fits-bound (literal d) s t n h e = absurd (cc)
  Fits-bound (tuple_of ps) s (tuple ds) n h e = AllFit-bound ps s ds n h e
  Fits-bound (tuple_of ps) s t n h e = absurd h
  Fits-bound (cell_of p q) s (cons head tail) n h e =
      elim (or_cases (is_among (pattern_variables p) n) (is_among (pattern_variables q) n) (sym (among-append (pattern_variables p) (pattern_variables q) n) ∙ e)) [
        | inl z ↦ Fits-bound p s head n h.0 z
        | inr z ↦ Fits-bound q s tail n h.1 z
      ]
  Fits-bound (cell_of p q) s t n h e = absurd h
  Fits-bound (map_of fs) s (table es) n h e = FieldsFit-bound fs s es n h e
  Fits-bound (map_of fs) s t n h e = absurd h

  AllFit-bound : (ps : Patterns) (s : ℕ → Option Datum) (ds : Items) (n : ℕ) → AllFit ps s ds → is_among (patterns_variables ps) n ≡ true → (d : Datum) × (s n ≡ Some d)
  AllFit-bound no_patterns s ds n h e = absurd (cc)
  AllFit-bound (pattern p ps) s no_items n h e = absurd h
  AllFit-bound (pattern p ps) s (item d ds) n h e =
      elim (or_cases (is_among (pattern_variables p) n) (is_among (patterns_variables ps) n) (sym (among-append (pattern_variables p) (patterns_variables ps) n) ∙ e)) [
        | inl z ↦ Fits-bound p s d n h.0 z
        | inr z ↦ AllFit-bound ps s ds n h.1 z
      ]

  FieldsFit-bound : (fs : Fields) (s : ℕ → Option Datum) (es : Entries) (n : ℕ) → FieldsFit fs s es → is_among (fields_variables fs) n ≡ true → (d : Datum) × (s n ≡ Some d)
  FieldsFit-bound no_fields s es n h e = absurd (cc)
  FieldsFit-bound (field k p fs) s es n h e =
      elim (or_cases (is_among (pattern_variables p) n) (is_among (fields_variables fs) n) (sym (among-append (pattern_variables p) (fields_variables fs) n) ∙ e)) [
        | inl z ↦ Fits-bound p s h.0.0 n h.0.2 z
        | inr z ↦ FieldsFit-bound fs s es n h.1 z
      ]

substitution-extends : (vs : List ℕ) (slots : List (Option Datum)) → Extends (assigned vs slots) (lookup (substitution_of vs slots))
substitution-extends [] slots = λ n d h. absurd (cc)
substitution-extends (v ∷ vs) [] = λ n d h. absurd (cc)
substitution-extends (v ∷ vs) (None ∷ slots) = λ n d h.
    elim (cases_eq v n) [
      | inl z ↦ absurd (let q = sym (ap (λ b. cond b None (assigned vs slots n)) (eq-eqb v n z)) ∙ h in cc)
      | inr z ↦ substitution-extends vs slots n d (sym (ap (λ b. cond b None (assigned vs slots n)) (ne_eqb v n z)) ∙ h)
    ]
substitution-extends (v ∷ vs) (Some x ∷ slots) = λ n d h.
    elim (cases_eq v n) [
      | inl z ↦ rw (eq-eqb v n z) (sym (ap (λ b. cond b (Some x) (assigned vs slots n)) (eq-eqb v n z)) ∙ h)
      | inr z ↦ rw (ne_eqb v n z) (substitution-extends vs slots n d (sym (ap (λ b. cond b (Some x) (assigned vs slots n)) (ne_eqb v n z)) ∙ h))
    ]

-- where each variable has a value, the variables of the substitution are these
substitution-domain : (vs : List ℕ) (slots : List (Option Datum)) → Rises vs → length slots ≡ length vs → ((n : ℕ) → is_among vs n ≡ true → (d : Datum) × (assigned vs slots n ≡ Some d)) → domain (substitution_of vs slots) ≡ vs
substitution-domain [] slots h same all = refl
substitution-domain (v ∷ vs) [] h same all = absurd (omega arith)
substitution-domain (v ∷ vs) (None ∷ slots) h same all =
    absurd (let found = all v (ap (λ b. b || is_among vs v) (eq-eqb v v refl)) in let q = sym (ap (λ b. cond b None (assigned vs slots v)) (eq-eqb v v refl)) ∙ found.1 in cc)
substitution-domain (v ∷ vs) (Some x ∷ slots) h same all =
    ap (λ l. v ∷ l)
    (substitution-domain vs slots (Rises-tail v vs h) (omega arith)
    (λ n e.
    let differ : v ≡ n → ⊥ = λ z. absurd (let q = sym (behind n v vs (sym z) h) ∙ e in cc) in
    let found = all n (ap (λ b. b || is_among vs n) (ne_eqb v n differ) ∙ e) in
    (found.0, sym (ap (λ b. cond b (Some x) (assigned vs slots n)) (ne_eqb v n differ)) ∙ found.1)))

-- the values in the slots make the pattern match
pub slots-match : (vs : List ℕ) (old new : List (Option Datum)) (p : Pattern) (t : Datum) → vs ≡ rising (pattern_variables p) → length new ≡ length vs → Binds vs old new (λ s. Fits p s t) → Matches p (substitution_of vs new) t
slots-match vs old new p t names same bound = record {
  domain =
      substitution-domain vs new (subst Rises (sym names) (Rises-rising (pattern_variables p))) same
      (λ n e. Fits-bound p (assigned vs new) t n bound.holds (sym (among-rising (pattern_variables p) n) ∙ ap (λ l. is_among l n) (sym names) ∙ e))
      ∙ names;
  fits = Fits-more p (assigned vs new) (lookup (substitution_of vs new)) t (substitution-extends vs new) bound.holds;
}

-- the slice that is returned is the whole
pub whole : {X : Type 0} (n : ℕ) (xs ys : List X) → n ≡ length xs → take n (xs ++ ys) ≡ xs
whole zero [] ys e = refl
whole (suc n) [] ys e = absurd (omega arith)
whole zero (x ∷ xs) ys e = absurd (omega arith)
whole (suc n) (x ∷ xs) ys e = ap (λ l. x ∷ l) (whole n xs ys (omega arith))

-- the values in the slots make a clause's head match
pub clause-match : (vs : List ℕ) (old new : List (Option Datum)) (q p : Pattern) (t : Datum) → vs ≡ rising (pattern_variables p) → q ≡ p → length new ≡ length vs → Binds vs old new (λ s. Fits q s t) → Matches p (substitution_of (rising (pattern_variables p)) new) t
clause-match vs old new q p t names same count bound =
    let P : Pattern → Type 0 = λ x. Binds vs old new (λ s. Fits x s t) in
    let Q : List ℕ → Type 0 = λ l. Matches p (substitution_of l new) t in
    subst Q names (slots-match vs old new p t names count (subst P same bound))

pub clause-never : (vs : List ℕ) (old : List (Option Datum)) (q p : Pattern) (t : Datum) → vs ≡ rising (pattern_variables p) → q ≡ p → AreFree old → NeverHolds vs old (λ s. Fits q s t) → NeverMatches p t
clause-never vs old q p t names same free never =
    let P : Pattern → Type 0 = λ x. NeverHolds vs old (λ s. Fits x s t) in
    never-matches vs old p t names free (subst P same never)

-- looking up a variable gives the value in its slot
pub lookup-known : (vs : List ℕ) (slots : List (Option Datum)) (n : ℕ) (d : Datum) → assigned vs slots n ≡ Some d → lookup (substitution_of vs slots) n ≡ Some d
lookup-known vs slots n d h = substitution-extends vs slots n d h

pub lookup-unknown : (vs : List ℕ) (slots : List (Option Datum)) (n : ℕ) → is_among vs n ≡ false → lookup (substitution_of vs slots) n ≡ None
lookup-unknown [] slots n h = refl
lookup-unknown (v ∷ vs) [] n h = refl
lookup-unknown (v ∷ vs) (None ∷ slots) n h =
    elim (cases_eq v n) [
      | inl z ↦ absurd (let q = sym (ap (λ b. b || is_among vs n) (eq-eqb v n z)) ∙ h in cc)
      | inr z ↦ lookup-unknown vs slots n (sym (ap (λ b. b || is_among vs n) (ne_eqb v n z)) ∙ h)
    ]
lookup-unknown (v ∷ vs) (Some x ∷ slots) n h =
    elim (cases_eq v n) [
      | inl z ↦ absurd (let q = sym (ap (λ b. b || is_among vs n) (eq-eqb v n z)) ∙ h in cc)
      | inr z ↦ rw (ne_eqb v n z) (lookup-unknown vs slots n (sym (ap (λ b. b || is_among vs n) (ne_eqb v n z)) ∙ h))
    ]

pub lookup-free : (vs : List ℕ) (slots : List (Option Datum)) (n : ℕ) → Rises vs → assigned vs slots n ≡ None → lookup (substitution_of vs slots) n ≡ None
lookup-free [] slots n h e = refl
lookup-free (v ∷ vs) [] n h e = refl
lookup-free (v ∷ vs) (None ∷ slots) n h e =
    elim (cases_eq v n) [
      | inl z ↦ lookup-unknown vs slots n (behind n v vs (sym z) h)
      | inr z ↦ lookup-free vs slots n (Rises-tail v vs h) (sym (ap (λ b. cond b None (assigned vs slots n)) (ne_eqb v n z)) ∙ e)
    ]
lookup-free (v ∷ vs) (Some x ∷ slots) n h e =
    elim (cases_eq v n) [
      | inl z ↦ absurd (let q = sym (ap (λ b. cond b (Some x) (assigned vs slots n)) (eq-eqb v n z)) ∙ e in cc)
      | inr z ↦ rw (ne_eqb v n z) (lookup-free vs slots n (Rises-tail v vs h) (sym (ap (λ b. cond b (Some x) (assigned vs slots n)) (ne_eqb v n z)) ∙ e))
    ]

-- the values of the bound slots are those of the substitution, in the order of the variables
pub known-values : (vs : List ℕ) (slots : List (Option Datum)) → length slots ≡ length vs → known slots ≡ values_of (substitution_of vs slots)
known-values [] [] e = refl
known-values [] (x ∷ slots) e = absurd (omega arith)
known-values (v ∷ vs) [] e = absurd (omega arith)
known-values (v ∷ vs) (None ∷ slots) e = known-values vs slots (omega arith)
known-values (v ∷ vs) (Some x ∷ slots) e = ap (λ l. x ∷ l) (known-values vs slots (omega arith))

pub length-seen : {X : Type 0} (f : X → Option Datum) (slots : List X) → length (map f slots) ≡ length slots
length-seen f [] = refl
length-seen f (x ∷ slots) = ap suc (length-seen f slots)

one_agrees : (m : ℕ) (s r : ℕ → Option Datum) (t : Datum) (n : ℕ) → s m ≡ Some t → r m ≡ Some t → is_among (m ∷ []) n ≡ true → s n ≡ r n
one_agrees m s r t n h k e =
    elim (cases_eq m n) [
      | inl z ↦ sym (ap s z) ∙ h ∙ sym k ∙ ap r z
      | inr z ↦ absurd (let q = sym (ap (λ b. b || false) (ne_eqb m n z)) ∙ e in cc)
    ]

mutual
  -- two assignments under which a term fits agree on the pattern's variables
  Fits-agree : (p : Pattern) (s r : ℕ → Option Datum) (t : Datum) (n : ℕ) → Fits p s t → Fits p r t → is_among (pattern_variables p) n ≡ true → s n ≡ r n
  Fits-agree (variable m) s r t n h k e = one_agrees m s r t n h k e
  Fits-agree anything s r t n h k e = absurd (cc)
  Fits-agree (literal d) s r t n h k e = absurd (cc)
  Fits-agree (tuple_of ps) s r (tuple ds) n h k e = AllFit-agree ps s r ds n h k e
  Fits-agree (tuple_of ps) s r t n h k e = absurd h
  Fits-agree (cell_of p q) s r (cons head tail) n h k e =
      elim (or_cases (is_among (pattern_variables p) n) (is_among (pattern_variables q) n) (sym (among-append (pattern_variables p) (pattern_variables q) n) ∙ e)) [
        | inl z ↦ Fits-agree p s r head n h.0 k.0 z
        | inr z ↦ Fits-agree q s r tail n h.1 k.1 z
      ]
  Fits-agree (cell_of p q) s r t n h k e = absurd h
  Fits-agree (map_of fs) s r (table es) n h k e = FieldsFit-agree fs s r es n h k e
  Fits-agree (map_of fs) s r t n h k e = absurd h

  AllFit-agree : (ps : Patterns) (s r : ℕ → Option Datum) (ds : Items) (n : ℕ) → AllFit ps s ds → AllFit ps r ds → is_among (patterns_variables ps) n ≡ true → s n ≡ r n
  AllFit-agree no_patterns s r ds n h k e = absurd (cc)
  AllFit-agree (pattern p ps) s r no_items n h k e = absurd h
  AllFit-agree (pattern p ps) s r (item d ds) n h k e =
      elim (or_cases (is_among (pattern_variables p) n) (is_among (patterns_variables ps) n) (sym (among-append (pattern_variables p) (patterns_variables ps) n) ∙ e)) [
        | inl z ↦ Fits-agree p s r d n h.0 k.0 z
        | inr z ↦ AllFit-agree ps s r ds n h.1 k.1 z
      ]

  FieldsFit-agree : (fs : Fields) (s r : ℕ → Option Datum) (es : Entries) (n : ℕ) → FieldsFit fs s es → FieldsFit fs r es → is_among (fields_variables fs) n ≡ true → s n ≡ r n
  FieldsFit-agree no_fields s r es n h k e = absurd (cc)
  FieldsFit-agree (field l p fs) s r es n h k e =
      elim (or_cases (is_among (pattern_variables p) n) (is_among (fields_variables fs) n) (sym (among-append (pattern_variables p) (fields_variables fs) n) ∙ e)) [
        | inl z ↦
            let both = sym k.0.1 ∙ h.0.1 in
            let same : k.0.0 ≡ h.0.0 = cc in
            let P : Datum → Type 0 = λ d. Fits p r d in
            Fits-agree p s r h.0.0 n h.0.2 (subst P same k.0.2) z
        | inr z ↦ FieldsFit-agree fs s r es n h.1 k.1 z
      ]

same_pair : (e f : ℕ × Datum) → e.0 ≡ f.0 → e.1 ≡ f.1 → e ≡ f
same_pair e f p q i = (p i, q i)

same-lookups : (s r : Substitution) → domain s ≡ domain r → Rises (domain s) → ((n : ℕ) → is_among (domain s) n ≡ true → lookup s n ≡ lookup r n) → s ≡ r
same-lookups [] [] e h all = refl
same-lookups [] (f ∷ r) e h all = absurd (cc)
same-lookups (x ∷ s) [] e h all = absurd (cc)
same-lookups (x ∷ s) (f ∷ r) e h all =
    let key : x.0 ≡ f.0 = cc in
    let keys : domain s ≡ domain r = cc in
    let at = all x.0 (ap (λ b. b || is_among (domain s) x.0) (eq-eqb x.0 x.0 refl)) in
    let left = ap (λ b. cond b (Some x.1) (lookup s x.0)) (eq-eqb x.0 x.0 refl) in
    let right = ap (λ b. cond b (Some f.1) (lookup r x.0)) (eq-eqb f.0 x.0 (sym key)) in
    let both = sym left ∙ at ∙ right in
    let value : x.1 ≡ f.1 = cc in
    let first : x ≡ f = same_pair x f key value in
    let rest : s ≡ r =
    same-lookups s r keys (Rises-tail x.0 (domain s) h)
    (λ n among.
    let differ : x.0 ≡ n → ⊥ = λ z. absurd (let q = sym (behind n x.0 (domain s) (sym z) h) ∙ among in cc) in
    let other : f.0 ≡ n → ⊥ = λ z. differ (key ∙ z) in
    sym (ap (λ b. cond b (Some x.1) (lookup s n)) (ne_eqb x.0 n differ))
    ∙ all n (ap (λ b. b || is_among (domain s) n) (ne_eqb x.0 n differ) ∙ among)
    ∙ ap (λ b. cond b (Some f.1) (lookup r n)) (ne_eqb f.0 n other)) in
    ap (λ y. y ∷ s) first ∙ ap (λ l. f ∷ l) rest

-- at most one substitution makes a pattern match a term
pub one-match : (p : Pattern) (t : Datum) (s r : Substitution) → Matches p s t → Matches p r t → s ≡ r
one-match p t s r h k =
    same-lookups s r (h.domain ∙ sym k.domain) (subst Rises (sym h.domain) (Rises-rising (pattern_variables p)))
    (λ n e. Fits-agree p (lookup s) (lookup r) t n h.fits k.fits (sym (among-rising (pattern_variables p) n) ∙ ap (λ l. is_among l n) (sym h.domain) ∙ e))
