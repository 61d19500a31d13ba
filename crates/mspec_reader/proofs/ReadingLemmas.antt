-- Expressions, clauses and specifications read from terms: what is read has no fault, and lists are read by reading
-- their elements.
use Rattle.std.proofs.Common.{◌≡◌, ℕ, suc, ◌+◌, ◌<◌, ◌≤◌, true, inl, inr, Option, Some, None, MatchResult, Result, Ok, Err, IfOk, IfErr, List, [], ◌∷◌, ◌++◌, length, get_or, drop, refl, sym, ◌∙◌, ap, subst, arith, add-one}
use Rattle.std.specs.Prelude.{◌≢◌}
use Rattle.std.proofs.lemmas.List.{append_assoc, append-nil, drop_all}
use Rattle.term_core.specs.Datum.{Datum, Items, items_of, cells, proper_elements}
use Rattle.term_core.specs.Datum.Datum.{integer, atom, tuple, map, nil, cons, binary}
use Rattle.term_core.specs.Datum.Items.{no_items, item}
use Rattle.mspec_syntax.specs.Pattern.{Pattern, pattern_variables}
use Rattle.mspec_syntax.specs.Pattern.Pattern.{tuple_of, cell_of, map_of}
use Rattle.mspec_syntax.specs.Expression.{Expression}
use Rattle.mspec_syntax.specs.Rising.{rising}
use Rattle.mspec_syntax.specs.Word.{word_of}
use Rattle.mspec_syntax.specs.Specification.{Clause, Specification, clause_variables, IsWithinLimits}
use Rattle.mspec_syntax.specs.Grammar.{is_hole, IsPattern, IsAtomPattern, IsHeadForm, IsExpression, AreExpressions, AreConditions, AreBodyExpressions, triple, IsNoTriple, IsClause, AreClauses, AreElementsClauses, IsSpecification}
use Rattle.mspec_syntax.specs.Faults.{named_variables, head_faults, expression_faults, expressions_faults, conditions_faults, body_faults, clause_faults, clauses_faults, elements_faults, Refuses, IsRefusal, IsSizeRefusal}
use Rattle.mspec_syntax.specs.declared.word.Word.{Word}
use Rattle.mspec_syntax.specs.declared.word.Word.TheVariants as word
use Rattle.mspec_syntax.specs.declared.fault.SpecFault.{SpecFault}
use Rattle.mspec_syntax.specs.declared.fault.SpecFault.TheVariants.{Memory}
use Rattle.mspec_syntax.proofs.PatternLemmas.{both_empty, split_at, IsPattern-variables, IsPattern-one, ArePatterns-faults, Refuses-before, Refuses-behind, Refuses-same}
use Rattle.mspec_syntax.proofs.ExpressionLemmas.{IsExpression-faults, IsExpression-one}

AreExpressions-faults : (i : ℕ) (vs : List ℕ) (ds : List Datum) (es : List Expression) → AreExpressions vs ds es → expressions_faults i vs ds ≡ []
AreExpressions-faults i vs [] es h = refl
AreExpressions-faults i vs (d ∷ ds) [] h = absurd h
AreExpressions-faults i vs (d ∷ ds) (e ∷ es) h = both_empty (IsExpression-faults i vs d e h.0) (AreExpressions-faults i vs ds es h.1)

AreExpressions-one : (vs : List ℕ) (ds : List Datum) (es fs : List Expression) → AreExpressions vs ds es → AreExpressions vs ds fs → es ≡ fs
AreExpressions-one vs [] [] [] h k = refl
AreExpressions-one vs [] [] (f ∷ fs) h k = absurd k
AreExpressions-one vs [] (e ∷ es) fs h k = absurd h
AreExpressions-one vs (d ∷ ds) [] fs h k = absurd h
AreExpressions-one vs (d ∷ ds) (e ∷ es) [] h k = absurd k
AreExpressions-one vs (d ∷ ds) (e ∷ es) (f ∷ fs) h k =
    let first = IsExpression-one vs d e f h.0 k.0 in let rest = AreExpressions-one vs ds es fs h.1 k.1 in cc

AreBodyExpressions-one : (vs : List ℕ) (o : Option (List Datum)) (es fs : List Expression) → AreBodyExpressions vs o es → AreBodyExpressions vs o fs → es ≡ fs
AreBodyExpressions-one vs None es fs h k = absurd h
AreBodyExpressions-one vs (Some []) es fs h k = absurd h
AreBodyExpressions-one vs (Some (d ∷ ds)) es fs h k = AreExpressions-one vs (d ∷ ds) es fs h k

AreConditions-one : (vs : List ℕ) (o : Option (List Datum)) (es fs : List Expression) → AreConditions vs o es → AreConditions vs o fs → es ≡ fs
AreConditions-one vs None es fs h k = absurd h
AreConditions-one vs (Some ds) es fs h k = AreExpressions-one vs ds es fs h k

AreConditions-faults : (i : ℕ) (vs : List ℕ) (o : Option (List Datum)) (es : List Expression) → AreConditions vs o es → conditions_faults i vs o ≡ []
AreConditions-faults i vs None es h = absurd h
AreConditions-faults i vs (Some ds) es h = AreExpressions-faults i vs ds es h

AreBodyExpressions-faults : (i : ℕ) (vs : List ℕ) (o : Option (List Datum)) (es : List Expression) → AreBodyExpressions vs o es → body_faults i vs o ≡ []
AreBodyExpressions-faults i vs None es h = absurd h
AreBodyExpressions-faults i vs (Some []) es h = absurd h
AreBodyExpressions-faults i vs (Some (d ∷ ds)) es h = AreExpressions-faults i vs (d ∷ ds) es h

IsAtomPattern-hole : (cs : List ℕ) (w : Word) (p : Pattern) → IsAtomPattern cs w p → IsHeadForm p → is_hole w ≡ true
IsAtomPattern-hole cs (word.Variable n) p h form = refl
IsAtomPattern-hole cs word.Misnumbered p h form = absurd h
IsAtomPattern-hole cs word.Underscore p h form = refl
IsAtomPattern-hole cs word.Object p h form = absurd (subst IsHeadForm h form)
IsAtomPattern-hole cs word.Bindings p h form = absurd (subst IsHeadForm h form)
IsAtomPattern-hole cs word.Plain p h form = absurd (subst IsHeadForm h form)

-- a term that is read as a head has no fault
pub IsHead-faults : (i : ℕ) (d : Datum) (p : Pattern) → IsPattern d p → IsHeadForm p → head_faults i d ≡ []
IsHead-faults i (integer z) p h form = absurd (subst IsHeadForm h form)
IsHead-faults i (atom cs) p h form = rw (IsAtomPattern-hole cs (word_of cs) p h form) refl
IsHead-faults i (tuple ds) (tuple_of ps) h form = ArePatterns-faults i ds ps h
IsHead-faults i (tuple ds) p h form = absurd h
IsHead-faults i (map es) (map_of fs) h form = absurd form
IsHead-faults i (map es) p h form = absurd h
IsHead-faults i nil p h form = absurd (subst IsHeadForm h form)
IsHead-faults i (cons head tail) (cell_of p q) h form = absurd form
IsHead-faults i (cons head tail) p h form = absurd h
IsHead-faults i (binary bs) p h form = absurd (subst IsHeadForm h form)

-- the variables of a head that was read are those that its term names
pub head-variables : (d : Datum) (p : Pattern) → IsPattern d p → rising (pattern_variables p) ≡ rising (named_variables d)
head-variables d p h = ap rising (sym (IsPattern-variables d p h))

-- the first i terms are read as these expressions
pub record ExpressionsFront (clause : ℕ) (variables : List ℕ) (ds : List Datum) (i : ℕ) (es : List Expression) : Type 0 where
  pub whole : (rest : List Expression) → AreExpressions variables (drop i ds) rest → AreExpressions variables ds (es ++ rest)
  pub clean : expressions_faults clause variables (drop i ds) ≡ expressions_faults clause variables ds

pub ExpressionsFront-more : (clause : ℕ) (vs : List ℕ) (ds : List Datum) (i : ℕ) (x : Datum) (es fs : List Expression) (e : Expression) → i < length ds → x ≡ get_or ds i x → IsExpression vs x e → fs ≡ es ++ e ∷ [] → ExpressionsFront clause vs ds i es → ExpressionsFront clause vs ds (i + 1) fs
ExpressionsFront-more clause vs ds i x es fs e within is one pushed front =
    let split : drop i ds ≡ x ∷ drop (i + 1) ds = split_at ds i x within is in
    record {
      whole = λ rest h.
          let given : AreExpressions vs (x ∷ drop (i + 1) ds) (e ∷ rest) = (one, h) in
          let joined : fs ++ rest ≡ es ++ (e ∷ rest) = ap (λ l. l ++ rest) pushed ∙ append_assoc es (e ∷ []) rest in
          rw joined (front.whole (e ∷ rest) (rw split given));
      clean =
          let known = rw split at front.clean in
          sym (ap (λ l. l ++ expressions_faults clause vs (drop (i + 1) ds)) (IsExpression-faults clause vs x e one)) ∙ known;
    }

pub ExpressionsFront-all : (clause : ℕ) (vs : List ℕ) (ds : List Datum) (i : ℕ) (es : List Expression) → length ds ≤ i → ExpressionsFront clause vs ds i es → AreExpressions vs ds es
ExpressionsFront-all clause vs ds i es end front =
    let none : drop i ds ≡ [] = drop_all i ds end in
    let given : AreExpressions vs (drop i ds) [] = rw none tt in
    let P : List Expression → Type 0 = λ l. AreExpressions vs ds l in
    subst P (append-nil es) (front.whole [] given)

pub ExpressionsFront-refuses : (clause : ℕ) (vs : List ℕ) (ds : List Datum) (i : ℕ) (x : Datum) (es : List Expression) (f : SpecFault) → i < length ds → x ≡ get_or ds i x → ExpressionsFront clause vs ds i es → Refuses f (expression_faults clause vs x) → Refuses f (expressions_faults clause vs ds)
ExpressionsFront-refuses clause vs ds i x es f within is front h =
    let split : drop i ds ≡ x ∷ drop (i + 1) ds = split_at ds i x within is in
    let known = rw split at front.clean in
    Refuses-same f _ _ known (Refuses-before f (expression_faults clause vs x) (expressions_faults clause vs (drop (i + 1) ds)) h)

pub other-triple : (ds : List Datum) (d : Datum) → tuple (items_of ds) ≡ d → (length ds ≡ 3 → ⊥) → IsNoTriple d
other-triple [] d is other = subst IsNoTriple is tt
other-triple (x ∷ []) d is other = subst IsNoTriple is tt
other-triple (x ∷ y ∷ []) d is other = subst IsNoTriple is tt
other-triple (x ∷ y ∷ z ∷ []) d is other = absurd (other (omega arith))
other-triple (x ∷ y ∷ z ∷ w ∷ ds) d is other = subst IsNoTriple is tt

pub list-triple : (ds : List Datum) (t d : Datum) → cells ds t ≡ d → 0 < length ds → IsNoTriple d
list-triple [] t d is some = absurd (omega arith)
list-triple (x ∷ ds) t d is some = subst IsNoTriple is tt

pub conditions-refused : (i : ℕ) (h cs b d : Datum) (p : Pattern) (vs : List ℕ) (f : SpecFault) → triple h cs b ≡ d → IsPattern h p × IsHeadForm p → vs ≡ rising (pattern_variables p) → Refuses f (conditions_faults i vs (proper_elements cs)) → Refuses f (clause_faults i d)
conditions-refused i h cs b d p vs f is head same refused =
    let names = same ∙ head-variables h p head.0 in
    let rest = body_faults i (rising (named_variables h)) (proper_elements b) in
    Refuses-same f _ _ (ap (clause_faults i) is)
    (Refuses-behind f (head_faults i h) (conditions_faults i (rising (named_variables h)) (proper_elements cs) ++ rest) (IsHead-faults i h p head.0 head.1)
    (Refuses-before f (conditions_faults i (rising (named_variables h)) (proper_elements cs)) rest (Refuses-same f _ _ (ap (λ l. conditions_faults i l (proper_elements cs)) names) refused)))

pub bodies-refused : (i : ℕ) (h cs b d : Datum) (p : Pattern) (vs : List ℕ) (es : List Expression) (f : SpecFault) → triple h cs b ≡ d → IsPattern h p × IsHeadForm p → vs ≡ rising (pattern_variables p) → AreConditions vs (proper_elements cs) es → Refuses f (body_faults i vs (proper_elements b)) → Refuses f (clause_faults i d)
bodies-refused i h cs b d p vs es f is head same conditions refused =
    let names = same ∙ head-variables h p head.0 in
    let rest = body_faults i (rising (named_variables h)) (proper_elements b) in
    let clean = sym (ap (λ l. conditions_faults i l (proper_elements cs)) names) ∙ AreConditions-faults i vs (proper_elements cs) es conditions in
    Refuses-same f _ _ (ap (clause_faults i) is)
    (Refuses-behind f (head_faults i h) (conditions_faults i (rising (named_variables h)) (proper_elements cs) ++ rest) (IsHead-faults i h p head.0 head.1)
    (Refuses-behind f (conditions_faults i (rising (named_variables h)) (proper_elements cs)) rest clean (Refuses-same f _ _ (ap (λ l. body_faults i l (proper_elements b)) names) refused)))

IsTriple-faults : (i : ℕ) (h cs b : Datum) (c : Clause) → IsClause (triple h cs b) c → clause_faults i (triple h cs b) ≡ []
IsTriple-faults i h cs b c k =
    let names = head-variables h c.head k.0 in
    both_empty (IsHead-faults i h c.head k.0 k.1)
    (both_empty (sym (ap (λ l. conditions_faults i l (proper_elements cs)) names) ∙ AreConditions-faults i (clause_variables c) (proper_elements cs) c.conditions k.2)
    (sym (ap (λ l. body_faults i l (proper_elements b)) names) ∙ AreBodyExpressions-faults i (clause_variables c) (proper_elements b) c.body k.3))

IsTuple-faults : (i : ℕ) (ds : Items) (c : Clause) → IsClause (tuple ds) c → clause_faults i (tuple ds) ≡ []
IsTuple-faults i no_items c h = absurd h
IsTuple-faults i (item x no_items) c h = absurd h
IsTuple-faults i (item x (item y no_items)) c h = absurd h
IsTuple-faults i (item x (item y (item z no_items))) c h = IsTriple-faults i x y z c h
IsTuple-faults i (item x (item y (item z (item w ds)))) c h = absurd h

-- a term that is read as a clause has no fault
pub IsClause-faults : (i : ℕ) (d : Datum) (c : Clause) → IsClause d c → clause_faults i d ≡ []
IsClause-faults i (integer z) c h = absurd h
IsClause-faults i (atom cs) c h = absurd h
IsClause-faults i (tuple ds) c h = IsTuple-faults i ds c h
IsClause-faults i (map es) c h = absurd h
IsClause-faults i nil c h = absurd h
IsClause-faults i (cons head tail) c h = absurd h
IsClause-faults i (binary bs) c h = absurd h

same_clause : (b c : Clause) → b.head ≡ c.head → b.conditions ≡ c.conditions → b.body ≡ c.body → b ≡ c
same_clause b c e f h i = record { head = e i; conditions = f i; body = h i }

IsTriple-one : (h cs b : Datum) (c d : Clause) → IsClause (triple h cs b) c → IsClause (triple h cs b) d → c ≡ d
IsTriple-one h cs b c d k l =
    let head = IsPattern-one h c.head d.head k.0 l.0 in
    let names : clause_variables d ≡ clause_variables c = ap (λ p. rising (pattern_variables p)) (sym head) in
    let P : List ℕ → Type 0 = λ vs. AreConditions vs (proper_elements cs) d.conditions in
    let Q : List ℕ → Type 0 = λ vs. AreBodyExpressions vs (proper_elements b) d.body in
    same_clause c d head
    (AreConditions-one (clause_variables c) (proper_elements cs) c.conditions d.conditions k.2 (subst P names l.2))
    (AreBodyExpressions-one (clause_variables c) (proper_elements b) c.body d.body k.3 (subst Q names l.3))

IsTuple-one : (ds : Items) (c d : Clause) → IsClause (tuple ds) c → IsClause (tuple ds) d → c ≡ d
IsTuple-one no_items c d h k = absurd h
IsTuple-one (item x no_items) c d h k = absurd h
IsTuple-one (item x (item y no_items)) c d h k = absurd h
IsTuple-one (item x (item y (item z no_items))) c d h k = IsTriple-one x y z c d h k
IsTuple-one (item x (item y (item z (item w ds)))) c d h k = absurd h

IsClause-one : (t : Datum) (c d : Clause) → IsClause t c → IsClause t d → c ≡ d
IsClause-one (integer z) c d h k = absurd h
IsClause-one (atom cs) c d h k = absurd h
IsClause-one (tuple ds) c d h k = IsTuple-one ds c d h k
IsClause-one (map es) c d h k = absurd h
IsClause-one nil c d h k = absurd h
IsClause-one (cons head tail) c d h k = absurd h
IsClause-one (binary bs) c d h k = absurd h

AreClauses-one : (ds : List Datum) (cs bs : Specification) → AreClauses ds cs → AreClauses ds bs → cs ≡ bs
AreClauses-one [] [] [] h k = refl
AreClauses-one [] [] (b ∷ bs) h k = absurd k
AreClauses-one [] (c ∷ cs) bs h k = absurd h
AreClauses-one (d ∷ ds) [] bs h k = absurd h
AreClauses-one (d ∷ ds) (c ∷ cs) [] h k = absurd k
AreClauses-one (d ∷ ds) (c ∷ cs) (b ∷ bs) h k =
    let first = IsClause-one d c b h.0 k.0 in let rest = AreClauses-one ds cs bs h.1 k.1 in cc

AreClauses-faults : (i : ℕ) (ds : List Datum) (cs : Specification) → AreClauses ds cs → clauses_faults i ds ≡ []
AreClauses-faults i [] cs h = refl
AreClauses-faults i (d ∷ ds) [] h = absurd h
AreClauses-faults i (d ∷ ds) (c ∷ cs) h = both_empty (IsClause-faults i d c h.0) (AreClauses-faults (suc i) ds cs h.1)

-- the first i terms are read as these clauses
pub record ClausesFront (ds : List Datum) (i : ℕ) (cs : Specification) : Type 0 where
  pub whole : (rest : Specification) → AreClauses (drop i ds) rest → AreClauses ds (cs ++ rest)
  pub clean : clauses_faults i (drop i ds) ≡ clauses_faults 0 ds

pub ClausesFront-none : (ds : List Datum) (cs : Specification) → cs ≡ [] → ClausesFront ds 0 cs
ClausesFront-none ds cs e =
    let P : Specification → Type 0 = λ l. ClausesFront ds 0 l in
    subst P (sym e) (record { whole = λ rest h. h; clean = refl })

pub ClausesFront-more : (ds : List Datum) (i : ℕ) (x : Datum) (cs bs : Specification) (c : Clause) → i < length ds → x ≡ get_or ds i x → IsClause x c → bs ≡ cs ++ c ∷ [] → ClausesFront ds i cs → ClausesFront ds (i + 1) bs
ClausesFront-more ds i x cs bs c within is one pushed front =
    let split : drop i ds ≡ x ∷ drop (i + 1) ds = split_at ds i x within is in
    record {
      whole = λ rest h.
          let given : AreClauses (x ∷ drop (i + 1) ds) (c ∷ rest) = (one, h) in
          let joined : bs ++ rest ≡ cs ++ (c ∷ rest) = ap (λ l. l ++ rest) pushed ∙ append_assoc cs (c ∷ []) rest in
          rw joined (front.whole (c ∷ rest) (rw split given));
      clean =
          let known = rw split at front.clean in
          ap (λ j. clauses_faults j (drop (i + 1) ds)) (add-one i)
          ∙ sym (ap (λ l. l ++ clauses_faults (suc i) (drop (i + 1) ds)) (IsClause-faults i x c one)) ∙ known;
    }

pub ClausesFront-all : (ds : List Datum) (i : ℕ) (cs : Specification) → length ds ≤ i → ClausesFront ds i cs → AreClauses ds cs
ClausesFront-all ds i cs end front =
    let none : drop i ds ≡ [] = drop_all i ds end in
    let given : AreClauses (drop i ds) [] = rw none tt in
    let P : Specification → Type 0 = λ l. AreClauses ds l in
    subst P (append-nil cs) (front.whole [] given)

pub ClausesFront-refuses : (ds : List Datum) (i : ℕ) (x : Datum) (cs : Specification) (f : SpecFault) → i < length ds → x ≡ get_or ds i x → ClausesFront ds i cs → Refuses f (clause_faults i x) → Refuses f (clauses_faults 0 ds)
ClausesFront-refuses ds i x cs f within is front h =
    let split : drop i ds ≡ x ∷ drop (i + 1) ds = split_at ds i x within is in
    let known = rw split at front.clean in
    Refuses-same f _ _ known (Refuses-before f (clause_faults i x) (clauses_faults (suc i) (drop (i + 1) ds)) h)

-- why a specification is rejected for its size is why its term is rejected
pub size-refused : (d : Datum) (s : Specification) (f : SpecFault) → IsSpecification d s → IsSizeRefusal f s → IsRefusal f d
size-refused d s f is (inl e) = inl (inl e)
size-refused d s f is (inr h) = inr (h.0, record { specification = s; is = is; large = h.1 })

IsElements-faults : (o : Option (List Datum)) (s : Specification) → AreElementsClauses o s → elements_faults o ≡ []
IsElements-faults None s h = absurd h
IsElements-faults (Some ds) s h = AreClauses-faults 0 ds s h

IsElements-one : (o : Option (List Datum)) (r s : Specification) → AreElementsClauses o r → AreElementsClauses o s → r ≡ s
IsElements-one None r s h k = absurd h
IsElements-one (Some ds) r s h k = AreClauses-one ds r s h k

-- a term is read as at most one specification
pub IsSpecification-one : (d : Datum) (r s : Specification) → IsSpecification d r → IsSpecification d s → r ≡ s
IsSpecification-one d r s h k = IsElements-one (proper_elements d) r s h k

-- reading a specification within the limits fails only if memory runs out
pub refused-memory : (d : Datum) (s : Specification) (f : SpecFault) → IsSpecification d s → IsWithinLimits s → IsRefusal f d → f ≡ Memory
refused-memory d s f h small (inl (inl e)) = e
refused-memory d s f h small (inl (inr fault)) =
    absurd (let e = sym (IsElements-faults (proper_elements d) s h) ∙ fault.first in cc)
refused-memory d s f h small (inr large) =
    let P : Specification → Type 0 = λ x. IsWithinLimits x in
    absurd (large.1.large (subst P (IsSpecification-one d s large.1.specification h large.1.is) small))

-- apart from out of memory, a term has at most one fault for which it is rejected
pub refusal-one : (d : Datum) (f g : SpecFault) → IsRefusal f d → IsRefusal g d → f ≢ Memory → g ≢ Memory → f ≡ g
refusal-one d f g (inl (inl e)) second some other = absurd (some e)
refusal-one d f g first (inl (inl e)) some other = absurd (other e)
refusal-one d f g (inl (inr fault)) (inl (inr also)) some other =
    let e = sym fault.first ∙ also.first in cc
refusal-one d f g (inl (inr fault)) (inr large) some other =
    absurd (let e = sym (IsElements-faults (proper_elements d) large.1.specification large.1.is) ∙ fault.first in cc)
refusal-one d f g (inr large) (inl (inr fault)) some other =
    absurd (let e = sym (IsElements-faults (proper_elements d) large.1.specification large.1.is) ∙ fault.first in cc)
refusal-one d f g (inr large) (inr also) some other = large.0 ∙ sym also.0

-- the only specification of a term is that of the clauses read, if it is within the limits
pub only-read : (d : Datum) (s cs : Specification) (r : Result Specification SpecFault) → IsSpecification d cs → IsSpecification d s → IsWithinLimits s → IfOk r (λ x. (x ≡ cs) × IsWithinLimits x) → IfErr r (λ f. IsSizeRefusal f cs) → MatchResult r (λ x. x ≡ s) (λ f. f ≡ Memory)
only-read d s cs (Ok x) is h small ok err = ok.0 ∙ IsSpecification-one d cs s is h
only-read d s cs (Err f) is h small ok err = refused-memory d s f h small (size-refused d cs f is err)
