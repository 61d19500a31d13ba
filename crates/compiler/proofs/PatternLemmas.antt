-- The code of a pattern matches what is on the top of the stack.
use Rattle.std.proofs.Common.{◌≡◌, ℕ, suc, ◌+◌, ◌<◌, cond, Bool, true, false, ◌||◌, List, [], ◌∷◌, ◌++◌, length, set, ◌⊎◌, inl, inr, refl, sym, ◌∙◌, ap, subst, arith, append_assoc, append-nil, Option, Some, None, option_map}
use Rattle.std.proofs.lemmas.Bool.{cases_eq, eq-eqb, ne_eqb, or_cases, lt-ltb}
use Rattle.std.proofs.lemmas.List.{length-append}
use Rattle.std.specs.Ordering.{is_eq}
use Rattle.term_core.specs.Datum.{Datum, Items, Entries, item_count}
use Rattle.term_core.specs.Datum.Datum.{integer, atom, tuple, map as table, nil, cons, binary}
use Rattle.term_core.specs.Datum.Items.{no_items, item}
use Rattle.term_core.specs.OrderLaws.{datum_cmp-same, datum_eq-same}
use Rattle.term_operand.specs.Order.{is_same}
use Rattle.prims.specs.Maps.{value_at}
use Rattle.prims.specs.Tuples.{item_at}
use Rattle.mcode.specs.Kind.{holds}
use Rattle.mcode.specs.Machine.{Bindings, State, binding}
use Rattle.mcode.specs.Program.{Program}
use Rattle.mcode.specs.declared.kind.Kind.TheVariants as kind
use Rattle.mspec_syntax.proofs.RankLemmas.{rank-below}
use Rattle.mspec_syntax.specs.Grammar.{is_among}
use Rattle.mspec_syntax.specs.Pattern.{Pattern, Patterns, Fields, pattern_variables, patterns_variables, fields_variables, own_term, own_terms}
use Rattle.mspec_syntax.specs.Pattern.Pattern.{variable, anything, literal, tuple_of, cell_of, map_of}
use Rattle.mspec_syntax.specs.Pattern.Patterns.{no_patterns, pattern}
use Rattle.mspec_syntax.specs.Pattern.Fields.{no_fields, field}
use Rattle.mspec_syntax.specs.Rising.{rank_of}
use Rattle.mspec_match.specs.Match.{Fits, AllFit, FieldsFit}
use Rattle.mspec_match.specs.Slots.{Extends, assigned, Binds, NeverHolds}
use Rattle.mspec_match.proofs.FitLemmas.{Fits-more, Binds-then, Never-then, Never-first, Binds-nothing}
use Rattle.mspec_match.proofs.MatchLemmas.{among-append}
use Rattle.mspec_match.proofs.OwnLemmas.{own-variables, own-fits, fits-own}
use Rattle.compiler_assembly.specs.Line.{SourceLine, plain}
use Rattle.compiler_assembly.specs.Stands.{IsAt, Stands}
use Rattle.compiler_assembly.specs.declared.op.Op.TheVariants as op
use Rattle.compiler_assembly.specs.declared.op.Target.TheVariants.{Failing}
use Rattle.compiler_assembly.proofs.StandLemmas.{stands_front, stands_back}
use Rattle.compiler_patterns.specs.Leaves.{same_lines, variable_lines}
use Rattle.compiler_patterns.specs.Patterns.{pattern_count, same_or, unless_anything, pattern_lines, element_lines, field_lines}
use Rattle.compiler_clauses.proofs.VariableLemmas.{among_left, among_right}
use Rattle.compiler.specs.Known.{Names, seen_at, own_slots, AreKept, Decides}
use Rattle.compiler.specs.Reach.{at, Comes}
use Rattle.compiler.proofs.FailLemmas.{IsSite, end_lands}
use Rattle.compiler.proofs.KnownLemmas.{assigned_own, assigned_some, bind_new, kept_new}
use Rattle.compiler.proofs.PushLemmas.{const_runs, get_runs}
use Rattle.compiler.proofs.ReachLemmas.{comes_here, comes_by, comes_then, comes_same}

same_or_not : (d e : Datum) → ((is_same d e ≡ true) × (d ≡ e)) ⊎ ((is_same d e ≡ false) × (d ≡ e → ⊥))
same_or_not d e = by (is_same d e) refl
  where
    by : (b : Bool) → is_same d e ≡ b → ((is_same d e ≡ true) × (d ≡ e)) ⊎ ((is_same d e ≡ false) × (d ≡ e → ⊥))
    by true h = inl (h, datum_eq-same d e h)
    by false h = inr (h, λ same. absurd (let equal = ap is_eq (datum_cmp-same same) in let q = sym h ∙ equal in cc))

-- ---- what a term is

cons_case : (d : Datum) → ((head : Datum) × (tail : Datum) × (d ≡ cons head tail)) ⊎ ((holds kind.Cons d ≡ false) × ((q r : Pattern) (s : ℕ → Option Datum) → Fits (cell_of q r) s d → ⊥))
cons_case (cons head tail) = inl (head, tail, refl)
cons_case (integer z) = inr (refl, λ q r s h. h)
cons_case (atom cs) = inr (refl, λ q r s h. h)
cons_case (tuple ds) = inr (refl, λ q r s h. h)
cons_case (table es) = inr (refl, λ q r s h. h)
cons_case nil = inr (refl, λ q r s h. h)
cons_case (binary bs) = inr (refl, λ q r s h. h)

map_case : (d : Datum) → ((es : Entries) × (d ≡ table es)) ⊎ ((holds kind.Map d ≡ false) × ((fs : Fields) (s : ℕ → Option Datum) → Fits (map_of fs) s d → ⊥))
map_case (table es) = inl (es, refl)
map_case (integer z) = inr (refl, λ fs s h. h)
map_case (atom cs) = inr (refl, λ fs s h. h)
map_case (tuple ds) = inr (refl, λ fs s h. h)
map_case nil = inr (refl, λ fs s h. h)
map_case (cons head tail) = inr (refl, λ fs s h. h)
map_case (binary bs) = inr (refl, λ fs s h. h)

fitting_count : (ps : Patterns) (s : ℕ → Option Datum) (ds : Items) → AllFit ps s ds → item_count ds ≡ pattern_count ps
fitting_count no_patterns s no_items h = refl
fitting_count no_patterns s (item d ds) h = absurd h
fitting_count (pattern p ps) s no_items h = absurd h
fitting_count (pattern p ps) s (item d ds) h = ap suc (fitting_count ps s ds h.1)

tuple_case : (ps : Patterns) (d : Datum) → ((ds : Items) × (d ≡ tuple ds) × (item_count ds ≡ pattern_count ps) × (holds (kind.Tuple (pattern_count ps)) d ≡ true)) ⊎ ((holds (kind.Tuple (pattern_count ps)) d ≡ false) × ((s : ℕ → Option Datum) → Fits (tuple_of ps) s d → ⊥))
tuple_case ps (tuple ds) =
    elim (cases_eq (item_count ds) (pattern_count ps)) [
      | inl z ↦ inl (ds, refl, z, eq-eqb (item_count ds) (pattern_count ps) z)
      | inr z ↦ inr (ne_eqb (item_count ds) (pattern_count ps) z, λ s h. z (fitting_count ps s ds h))
    ]
tuple_case ps (integer z) = inr (refl, λ s h. h)
tuple_case ps (atom cs) = inr (refl, λ s h. h)
tuple_case ps (table es) = inr (refl, λ s h. h)
tuple_case ps nil = inr (refl, λ s h. h)
tuple_case ps (cons head tail) = inr (refl, λ s h. h)
tuple_case ps (binary bs) = inr (refl, λ s h. h)

some_or_none : (v : Option Datum) → ((d : Datum) × (v ≡ Some d)) ⊎ (v ≡ None)
some_or_none None = inr refl
some_or_none (Some d) = inl (d, refl)

anything_or : (q : Pattern) → (q ≡ anything) ⊎ ((ls : List SourceLine) → unless_anything q ls ≡ ls)
anything_or (variable n) = inr (λ ls. refl)
anything_or anything = inl refl
anything_or (literal d) = inr (λ ls. refl)
anything_or (tuple_of ps) = inr (λ ls. refl)
anything_or (cell_of q r) = inr (λ ls. refl)
anything_or (map_of fs) = inr (λ ls. refl)

-- ---- parts of runs

module _ (p : Program) (o : Datum) (frame_slots : List ℕ) (behind : ℕ) (site : IsSite p behind) (names : Names) where
  -- a run begins earlier, or ends later
  pub after_first : (from from' : State) (r : ℕ) (base : List Datum) (slots : Bindings) (known now : List ℕ) (F : (ℕ → Option Datum) → Type 0) → Comes p o from from' → Decides p o names behind from' r base slots known now F → Decides p o names behind from r base slots known now F
  after_first from from' r base slots known now F c (inl h) = inl (record { slots_then = h.slots_then; comes = comes_then p o from from' _ c h.comes; binds = h.binds; kept = h.kept })
  after_first from from' r base slots known now F c (inr h) = inr (record { slots_then = h.slots_then; comes = comes_then p o from from' _ c h.comes; never = h.never; count = h.count })

  before_last : (from : State) (r r' : ℕ) (base base' : List Datum) (slots : Bindings) (known now : List ℕ) (F : (ℕ → Option Datum) → Type 0) → ((then : Bindings) → Comes p o (at r base then) (at r' base' then)) → Decides p o names behind from r base slots known now F → Decides p o names behind from r' base' slots known now F
  before_last from r r' base base' slots known now F c (inl h) = inl (record { slots_then = h.slots_then; comes = comes_then p o from (at r base h.slots_then) _ h.comes (c h.slots_then); binds = h.binds; kept = h.kept })
  before_last from r r' base base' slots known now F c (inr h) = inr h

  -- one claim after another
  one_then : (from : State) (q r : ℕ) (middle base : List Datum) (slots : Bindings) (known now last : List ℕ) (F G : (ℕ → Option Datum) → Type 0) → ((s t : ℕ → Option Datum) → Extends s t → F s → F t) → Decides p o names behind from q middle slots known now F → ((then : Bindings) → AreKept names then now → Decides p o names behind (at q middle then) r base then now last G) → Decides p o names behind from r base slots known last (λ s. F s × G s)
  one_then from q r middle base slots known now last F G more (inr h) rest = inr (record { slots_then = h.slots_then; comes = h.comes; never = Never-first names.own (own_slots names slots known) F G h.never; count = h.count })
  one_then from q r middle base slots known now last F G more (inl h) rest =
      elim (rest h.slots_then h.kept) [
        | inl k ↦ inl (record {
          slots_then = k.slots_then;
          comes = comes_then p o from (at q middle h.slots_then) _ h.comes k.comes;
          binds = Binds-then names.own (own_slots names slots known) (own_slots names h.slots_then now) (own_slots names k.slots_then last) F G more h.binds k.binds;
          kept = k.kept;
        })
        | inr k ↦ inr (record {
          slots_then = k.slots_then;
          comes = comes_then p o from (at q middle h.slots_then) _ h.comes k.comes;
          never = Never-then names.own (own_slots names slots known) (own_slots names h.slots_then now) F G h.binds k.never;
          count = k.count;
        })
      ]

  -- a claim that means the same as another
  same_claim : (from : State) (r : ℕ) (base : List Datum) (slots : Bindings) (known now : List ℕ) (F G : (ℕ → Option Datum) → Type 0) → ((s : ℕ → Option Datum) → F s → G s) → ((s : ℕ → Option Datum) → G s → F s) → Decides p o names behind from r base slots known now F → Decides p o names behind from r base slots known now G
  same_claim from r base slots known now F G to back (inl h) = inl (record {
    slots_then = h.slots_then;
    comes = h.comes;
    binds = record { grown = h.binds.grown; holds = to _ h.binds.holds; least = λ s over extends claim. h.binds.least s over extends (back s claim) };
    kept = h.kept;
  })
  same_claim from r base slots known now F G to back (inr h) = inr (record { slots_then = h.slots_then; comes = h.comes; never = λ s over extends claim. h.never s over extends (back s claim); count = h.count })

  -- nothing is bound, and the claim holds of any values
  sure_run : (from : State) (r : ℕ) (base : List Datum) (slots : Bindings) (known : List ℕ) (F : (ℕ → Option Datum) → Type 0) → AreKept names slots known → Comes p o from (at r base slots) → ((s : ℕ → Option Datum) → F s) → Decides p o names behind from r base slots known known F
  sure_run from r base slots known F kept c all = inl (record { slots_then = slots; comes = c; binds = Binds-nothing names.own (own_slots names slots known) F all; kept = kept })

  -- the claim holds of no values
  never_run : (from : State) (r : ℕ) (base : List Datum) (slots : Bindings) (known now : List ℕ) (F : (ℕ → Option Datum) → Type 0) → AreKept names slots known → Comes p o from (at behind [] slots) → ((s : ℕ → Option Datum) → F s → ⊥) → Decides p o names behind from r base slots known now F
  never_run from r base slots known now F kept c none = inr (record { slots_then = slots; comes = c; never = λ s over extends claim. none s claim; count = kept.count })

  -- two terms are compared, one of which is that of a claim
  equal_run : (pc : ℕ) (d e : Datum) (base : List Datum) (slots : Bindings) (known : List ℕ) (F : (ℕ → Option Datum) → Type 0) → IsAt p frame_slots behind pc (plain (op.Equal Failing)) → AreKept names slots known → (d ≡ e → Binds names.own (own_slots names slots known) (own_slots names slots known) F) → ((d ≡ e → ⊥) → NeverHolds names.own (own_slots names slots known) F) → Decides p o names behind (at pc (e ∷ d ∷ base) slots) (suc pc) base slots known known F
  equal_run pc d e base slots known F h kept binds never =
      elim (same_or_not d e) [
        | inl z ↦ inl (record {
          slots_then = slots;
          comes = comes_by p o (at pc (e ∷ d ∷ base) slots) (at (suc pc) base slots) _ h.instruction (rw z.0 refl);
          binds = binds z.1;
          kept = kept;
        })
        | inr z ↦ inr (record {
          slots_then = slots;
          comes = comes_by p o (at pc (e ∷ d ∷ base) slots) (at behind [] slots) _ h.instruction (rw z.0 (end_lands p o frame_slots behind site slots base));
          never = never z.1;
          count = kept.count;
        })
      ]

  -- the run of a pattern that spells a term
  same_run : (q : Pattern) (e : Datum) (pc r : ℕ) (d : Datum) (base : List Datum) (slots : Bindings) (known : List ℕ) → own_term q ≡ Some e → AreKept names slots known → Stands p frame_slots behind pc (same_lines e) → pc + 2 ≡ r → Decides p o names behind (at pc (d ∷ base) slots) r base slots known (known ++ pattern_variables q) (λ s. Fits q s d)
  same_run q e pc r d base slots known is kept stands end =
      let there : suc (suc pc) ≡ r = omega (arith, end) in
      let none : known ++ pattern_variables q ≡ known = ap (λ l. known ++ l) (own-variables q e is) ∙ append-nil known in
      let pushed = const_runs p o frame_slots behind slots pc (d ∷ base) e stands.0 in
      let run = equal_run (suc pc) d e base slots known (λ s. Fits q s d) stands.1.0 kept
      (λ same. Binds-nothing names.own (own_slots names slots known) (λ s. Fits q s d) (λ s. subst (λ x. Fits q s x) (sym same) (own-fits q e s is)))
      (λ differ s over extends claim. differ (fits-own q e s d is claim)) in
      let run' = after_first (at pc (d ∷ base) slots) (at (suc pc) (e ∷ d ∷ base) slots) (suc (suc pc)) base slots known known (λ s. Fits q s d) pushed run in
      subst (λ l. Decides p o names behind (at pc (d ∷ base) slots) r base slots known l (λ s. Fits q s d)) (sym none)
      (subst (λ n. Decides p o names behind (at pc (d ∷ base) slots) n base slots known known (λ s. Fits q s d)) there run')

  module _ (inside : (n : ℕ) → is_among names.own n ≡ true → is_among names.all n ≡ true) where
    -- mentioning a variable that is known once more changes nothing
    still_known : (known : List ℕ) (n m : ℕ) → is_among known n ≡ true → is_among (known ++ n ∷ []) m ≡ is_among known m
    still_known known n m is =
        elim (cases_eq n m) [
          | inl z ↦ among-append known (n ∷ []) m ∙ whole (is_among known m) (is_among (n ∷ []) m) (ap (is_among known) (sym z) ∙ is)
          | inr z ↦ among-append known (n ∷ []) m ∙ ap (λ b. is_among known m || (b || false)) (ne_eqb n m z) ∙ none (is_among known m)
        ]
      where
        whole : (a b : Bool) → a ≡ true → (a || b) ≡ a
        whole true b e = refl
        whole false b e = absurd (cc)

        none : (a : Bool) → (a || (false || false)) ≡ a
        none true = refl
        none false = refl

    known_again : (from : State) (r n : ℕ) (known : List ℕ) (d : Datum) (base : List Datum) (slots : Bindings) → is_among known n ≡ true → Decides p o names behind from r base slots known known (λ s. s n ≡ Some d) → Decides p o names behind from r base slots known (known ++ n ∷ []) (λ s. s n ≡ Some d)
    known_again from r n known d base slots is (inr h) = inr h
    known_again from r n known d base slots is (inl h) =
        let seen : (m : ℕ) → seen_at names h.slots_then known m ≡ seen_at names h.slots_then (known ++ n ∷ []) m = λ m. ap (λ b. cond b (binding h.slots_then (rank_of names.all m)) None) (sym (still_known known n m is)) in
        inl (record {
          slots_then = h.slots_then;
          comes = h.comes;
          binds = record {
            grown = λ m x e.
                let k = assigned_some (seen_at names h.slots_then known) names.own m x (h.binds.grown m x e) in
                assigned_own (seen_at names h.slots_then (known ++ n ∷ [])) names.own m k.0 ∙ sym (seen m) ∙ k.1;
            holds =
                let k = assigned_some (seen_at names h.slots_then known) names.own n d h.binds.holds in
                assigned_own (seen_at names h.slots_then (known ++ n ∷ [])) names.own n k.0 ∙ sym (seen n) ∙ k.1;
            least = λ s over extends claim m x e.
                let k = assigned_some (seen_at names h.slots_then (known ++ n ∷ [])) names.own m x e in
                h.binds.least s over extends claim m x (assigned_own (seen_at names h.slots_then known) names.own m k.0 ∙ seen m ∙ k.1);
          };
          kept = record { count = h.kept.count; held = λ m e. h.kept.held m (sym (still_known known n m is) ∙ e) };
        })

    known_run : (n pc r : ℕ) (known : List ℕ) (d : Datum) (base : List Datum) (slots : Bindings) → is_among names.own n ≡ true → is_among known n ≡ true → AreKept names slots known → Stands p frame_slots behind pc (plain (op.Get (rank_of names.all n)) ∷ plain (op.Equal Failing) ∷ []) → pc + 2 ≡ r → Decides p o names behind (at pc (d ∷ base) slots) r base slots known known (λ s. s n ≡ Some d)
    known_run n pc r known d base slots own is kept stands end =
        let was = kept.held n is in
        let value : assigned names.own (own_slots names slots known) n ≡ Some was.0 =
        assigned_own (seen_at names slots known) names.own n own ∙ ap (λ b. cond b (binding slots (rank_of names.all n)) None) is ∙ was.1 in
        let there : suc (suc pc) ≡ r = omega (arith, end) in
        let pushed = get_runs p o frame_slots behind slots pc (rank_of names.all n) (d ∷ base) was.0 stands.0 was.1 in
        let run = equal_run (suc pc) d was.0 base slots known (λ s. s n ≡ Some d) stands.1.0 kept
        (λ same. record { grown = λ m x h. h; holds = value ∙ ap Some (sym same); least = λ s over extends claim. extends })
        (λ differ s over extends claim. differ (let q = sym claim ∙ extends n was.0 value in cc)) in
        let run' = after_first (at pc (d ∷ base) slots) (at (suc pc) (was.0 ∷ d ∷ base) slots) (suc (suc pc)) base slots known known (λ s. s n ≡ Some d) pushed run in
        subst (λ m. Decides p o names behind (at pc (d ∷ base) slots) m base slots known known (λ s. s n ≡ Some d)) there run'

    new_run : (n pc r : ℕ) (known : List ℕ) (d : Datum) (base : List Datum) (slots : Bindings) → is_among names.own n ≡ true → is_among known n ≡ false → ((m : ℕ) → is_among known m ≡ true → is_among names.own m ≡ true) → AreKept names slots known → Stands p frame_slots behind pc (plain (op.Bind (rank_of names.all n)) ∷ []) → pc + 1 ≡ r → Decides p o names behind (at pc (d ∷ base) slots) r base slots known (known ++ n ∷ []) (λ s. s n ≡ Some d)
    new_run n pc r known d base slots own is all kept stands end =
        let i = rank_of names.all n in
        let there : suc pc ≡ r = omega (arith, end) in
        let within : i < length slots = omega (arith, rank-below names.all n (inside n own), kept.count) in
        inl (record {
          slots_then = set slots i (Some d);
          comes = comes_same p o (at pc (d ∷ base) slots) _ _ (ap (λ m. at m base (set slots i (Some d))) there)
              (comes_by p o (at pc (d ∷ base) slots) (at (suc pc) base (set slots i (Some d))) _ stands.0.instruction (rw (lt-ltb i (length slots) within) refl));
          binds = bind_new names inside slots known n d own is kept;
          kept = kept_new names inside slots known n d own is all kept;
        })

    -- the run of a variable, which is known or not
    variable_run : (n pc r : ℕ) (known : List ℕ) (d : Datum) (base : List Datum) (slots : Bindings) → is_among names.own n ≡ true → ((m : ℕ) → is_among known m ≡ true → is_among names.own m ≡ true) → AreKept names slots known → Stands p frame_slots behind pc (variable_lines names.all known n) → pc + length (variable_lines names.all known n) ≡ r → Decides p o names behind (at pc (d ∷ base) slots) r base slots known (known ++ n ∷ []) (λ s. s n ≡ Some d)
    variable_run n pc r known d base slots own all kept stands end = by (is_among known n) refl stands end
      where
        by : (b : Bool) → is_among known n ≡ b → Stands p frame_slots behind pc (cond b (plain (op.Get (rank_of names.all n)) ∷ plain (op.Equal Failing) ∷ []) (plain (op.Bind (rank_of names.all n)) ∷ [])) → pc + length (cond b (plain (op.Get (rank_of names.all n)) ∷ plain (op.Equal Failing) ∷ []) (plain (op.Bind (rank_of names.all n)) ∷ [])) ≡ r → Decides p o names behind (at pc (d ∷ base) slots) r base slots known (known ++ n ∷ []) (λ s. s n ≡ Some d)
        by true is stands end = known_again (at pc (d ∷ base) slots) r n known d base slots is (known_run n pc r known d base slots own is kept stands end)
        by false is stands end = new_run n pc r known d base slots own is all kept stands end

    -- the run of a pattern that spells a term; any other has the given run
    same_or_run : (q : Pattern) (found : Option Datum) (ls : List SourceLine) (pc r : ℕ) (known : List ℕ) (d : Datum) (base : List Datum) (slots : Bindings) → own_term q ≡ found → AreKept names slots known → Stands p frame_slots behind pc (same_or found ls) → pc + length (same_or found ls) ≡ r → (Stands p frame_slots behind pc ls → pc + length ls ≡ r → Decides p o names behind (at pc (d ∷ base) slots) r base slots known (known ++ pattern_variables q) (λ s. Fits q s d)) → Decides p o names behind (at pc (d ∷ base) slots) r base slots known (known ++ pattern_variables q) (λ s. Fits q s d)
    same_or_run q None ls pc r known d base slots is kept stands end others = others stands end
    same_or_run q (Some e) ls pc r known d base slots is kept stands end others = same_run q e pc r d base slots known is kept stands end

    -- these variables are the clause's own
    abbrev AreOwn : List ℕ → Type 0
    AreOwn ns = (m : ℕ) → is_among ns m ≡ true → is_among names.own m ≡ true

    own_append : (xs ys : List ℕ) → AreOwn xs → AreOwn ys → AreOwn (xs ++ ys)
    own_append xs ys h k = λ m e.
        elim (or_cases (is_among xs m) (is_among ys m) (sym (among-append xs ys m) ∙ e)) [
          | inl z ↦ h m z
          | inr z ↦ k m z
        ]

    abbrev FieldFits : Datum → Pattern → Entries → (ℕ → Option Datum) → Type 0
    FieldFits k q es s = (v : Datum) × (value_at k es ≡ Some v) × Fits q s v

    mutual
      pub pattern_run : (q : Pattern) (pc r : ℕ) (known : List ℕ) (d : Datum) (base : List Datum) (slots : Bindings) → AreOwn (pattern_variables q) → AreOwn known → AreKept names slots known → Stands p frame_slots behind pc (pattern_lines names.all known q) → pc + length (pattern_lines names.all known q) ≡ r → Decides p o names behind (at pc (d ∷ base) slots) r base slots known (known ++ pattern_variables q) (λ s. Fits q s d)
      pattern_run (variable n) pc r known d base slots mine all kept stands end =
          variable_run n pc r known d base slots (mine n (ap (λ b. b || false) (eq-eqb n n refl))) all kept stands end
      pattern_run anything pc r known d base slots mine all kept stands end =
          let there : suc pc ≡ r = omega (arith, end) in
          let run = comes_same p o (at pc (d ∷ base) slots) _ _ (ap (λ m. at m base slots) there) (comes_by p o (at pc (d ∷ base) slots) (at (suc pc) base slots) _ stands.0.instruction refl) in
          subst (λ l. Decides p o names behind (at pc (d ∷ base) slots) r base slots known l (λ s. Unit {0})) (sym (append-nil known)) (sure_run (at pc (d ∷ base) slots) r base slots known (λ s. Unit {0}) kept run (λ s. tt))
      pattern_run (literal e) pc r known d base slots mine all kept stands end =
          same_run (literal e) e pc r d base slots known refl kept stands end
      pattern_run (tuple_of ps) pc r known d base slots mine all kept stands end =
          same_or_run (tuple_of ps) (option_map tuple (own_terms ps)) _ pc r known d base slots refl kept stands end
          (λ h there.
          let inner = element_lines names.all known 1 ps in
          let last = plain op.Drop ∷ [] in
          let q = suc pc + length inner in
          let over : suc q ≡ r = omega (arith, there, length-append inner last) in
          elim (tuple_case ps d) [
            | inl is ↦
                let passes = comes_by p o (at pc (d ∷ base) slots) (at (suc pc) (d ∷ base) slots) _ h.0.instruction (rw is.3 refl) in
                let run = element_run ps 0 is.0 is.0 (suc pc) q known base slots is.2 (λ n. let same : 0 + n ≡ n = omega arith in ap (item_at is.0) same) mine all kept (stands_front p frame_slots behind (suc pc) inner last h.1) refl in
                let run' = subst (λ x. Decides p o names behind (at (suc pc) (x ∷ base) slots) q (x ∷ base) slots known (known ++ patterns_variables ps) (λ s. Fits (tuple_of ps) s x)) (sym is.1) run in
                after_first (at pc (d ∷ base) slots) (at (suc pc) (d ∷ base) slots) r base slots known (known ++ patterns_variables ps) (λ s. Fits (tuple_of ps) s d) passes
                (before_last (at (suc pc) (d ∷ base) slots) q r (d ∷ base) base slots known (known ++ patterns_variables ps) (λ s. Fits (tuple_of ps) s d)
                (λ then. comes_same p o (at q (d ∷ base) then) _ _ (ap (λ m. at m base then) over) (comes_by p o (at q (d ∷ base) then) (at (suc q) base then) _ (stands_back p frame_slots behind (suc pc) inner last h.1).0.instruction refl)) run')
            | inr is ↦
                never_run (at pc (d ∷ base) slots) r base slots known (known ++ patterns_variables ps) (λ s. Fits (tuple_of ps) s d) kept
                (comes_by p o (at pc (d ∷ base) slots) (at behind [] slots) _ h.0.instruction (rw is.0 (end_lands p o frame_slots behind site slots (d ∷ base)))) is.1
          ])
      pattern_run (cell_of x y) pc r known d base slots mine all kept stands end =
          same_or_run (cell_of x y) (own_term (cell_of x y)) _ pc r known d base slots refl kept stands end
          (λ h there.
          let first = pattern_lines names.all known x in
          let now = known ++ pattern_variables x in
          let second = pattern_lines names.all now y in
          let q = suc (suc (suc pc)) + length first in
          let back = stands_back p frame_slots behind (suc (suc (suc pc))) first (plain op.Tail ∷ second) h.1.1.1 in
          let over : suc q + length second ≡ r = omega (arith, there, length-append first (plain op.Tail ∷ second)) in
          let mine_x : AreOwn (pattern_variables x) = λ m e. mine m (among_left (pattern_variables x) (pattern_variables y) m e) in
          let mine_y : AreOwn (pattern_variables y) = λ m e. mine m (among_right (pattern_variables x) (pattern_variables y) m e) in
          elim (cons_case d) [
            | inl is ↦
                let passes : Comes p o (at pc (cons is.0 is.1 ∷ base) slots) (at (suc (suc (suc pc))) (is.0 ∷ cons is.0 is.1 ∷ base) slots) =
                comes_then p o (at pc (cons is.0 is.1 ∷ base) slots) (at (suc pc) (cons is.0 is.1 ∷ base) slots) _ (comes_by p o (at pc (cons is.0 is.1 ∷ base) slots) (at (suc pc) (cons is.0 is.1 ∷ base) slots) _ h.0.instruction refl)
                (comes_then p o (at (suc pc) (cons is.0 is.1 ∷ base) slots) (at (suc (suc pc)) (cons is.0 is.1 ∷ cons is.0 is.1 ∷ base) slots) _ (comes_by p o (at (suc pc) (cons is.0 is.1 ∷ base) slots) (at (suc (suc pc)) (cons is.0 is.1 ∷ cons is.0 is.1 ∷ base) slots) _ h.1.0.instruction refl)
                (comes_by p o (at (suc (suc pc)) (cons is.0 is.1 ∷ cons is.0 is.1 ∷ base) slots) (at (suc (suc (suc pc))) (is.0 ∷ cons is.0 is.1 ∷ base) slots) _ h.1.1.0.instruction refl)) in
                let run1 = pattern_run x (suc (suc (suc pc))) q known is.0 (cons is.0 is.1 ∷ base) slots mine_x all kept (stands_front p frame_slots behind (suc (suc (suc pc))) first (plain op.Tail ∷ second) h.1.1.1) refl in
                let run1' = after_first (at pc (cons is.0 is.1 ∷ base) slots) (at (suc (suc (suc pc))) (is.0 ∷ cons is.0 is.1 ∷ base) slots) (suc q) (is.1 ∷ base) slots known now (λ s. Fits x s is.0) passes
                (before_last (at (suc (suc (suc pc))) (is.0 ∷ cons is.0 is.1 ∷ base) slots) q (suc q) (cons is.0 is.1 ∷ base) (is.1 ∷ base) slots known now (λ s. Fits x s is.0)
                (λ then. comes_by p o (at q (cons is.0 is.1 ∷ base) then) (at (suc q) (is.1 ∷ base) then) _ back.0.instruction refl) run1) in
                let both = one_then (at pc (cons is.0 is.1 ∷ base) slots) (suc q) r (is.1 ∷ base) base slots known now (now ++ pattern_variables y) (λ s. Fits x s is.0) (λ s. Fits y s is.1) (λ s t e k. Fits-more x s t is.0 e k) run1'
                (λ then kept'. pattern_run y (suc q) r now is.1 base then mine_y (own_append known (pattern_variables x) all mine_x) kept' back.1 over) in
                let both' = subst (λ l. Decides p o names behind (at pc (cons is.0 is.1 ∷ base) slots) r base slots known l (λ s. Fits x s is.0 × Fits y s is.1)) (append_assoc known (pattern_variables x) (pattern_variables y)) both in
                subst (λ t. Decides p o names behind (at pc (t ∷ base) slots) r base slots known (known ++ (pattern_variables x ++ pattern_variables y)) (λ s. Fits (cell_of x y) s t)) (sym is.2) both'
            | inr is ↦
                never_run (at pc (d ∷ base) slots) r base slots known (known ++ (pattern_variables x ++ pattern_variables y)) (λ s. Fits (cell_of x y) s d) kept
                (comes_by p o (at pc (d ∷ base) slots) (at behind [] slots) _ h.0.instruction (rw is.0 (end_lands p o frame_slots behind site slots (d ∷ base)))) (λ s. is.1 x y s)
          ])
      pattern_run (map_of fs) pc r known d base slots mine all kept stands end =
          let inner = field_lines names.all known fs in
          let last = plain op.Drop ∷ [] in
          let q = suc pc + length inner in
          let over : suc q ≡ r = omega (arith, end, length-append inner last) in
          elim (map_case d) [
            | inl is ↦
                let passes : Comes p o (at pc (table is.0 ∷ base) slots) (at (suc pc) (table is.0 ∷ base) slots) = comes_by p o (at pc (table is.0 ∷ base) slots) (at (suc pc) (table is.0 ∷ base) slots) _ stands.0.instruction refl in
                let run = field_run fs is.0 (suc pc) q known base slots mine all kept (stands_front p frame_slots behind (suc pc) inner last stands.1) refl in
                let run' = after_first (at pc (table is.0 ∷ base) slots) (at (suc pc) (table is.0 ∷ base) slots) r base slots known (known ++ fields_variables fs) (λ s. FieldsFit fs s is.0) passes
                (before_last (at (suc pc) (table is.0 ∷ base) slots) q r (table is.0 ∷ base) base slots known (known ++ fields_variables fs) (λ s. FieldsFit fs s is.0)
                (λ then. comes_same p o (at q (table is.0 ∷ base) then) _ _ (ap (λ m. at m base then) over) (comes_by p o (at q (table is.0 ∷ base) then) (at (suc q) base then) _ (stands_back p frame_slots behind (suc pc) inner last stands.1).0.instruction refl)) run) in
                subst (λ t. Decides p o names behind (at pc (t ∷ base) slots) r base slots known (known ++ fields_variables fs) (λ s. Fits (map_of fs) s t)) (sym is.1) run'
            | inr is ↦
                never_run (at pc (d ∷ base) slots) r base slots known (known ++ fields_variables fs) (λ s. Fits (map_of fs) s d) kept
                (comes_by p o (at pc (d ∷ base) slots) (at behind [] slots) _ stands.0.instruction (rw is.0 (end_lands p o frame_slots behind site slots (d ∷ base)))) (λ s. is.1 fs s)
          ]

      element_run : (ps : Patterns) (j : ℕ) (whole ds : Items) (pc r : ℕ) (known : List ℕ) (base : List Datum) (slots : Bindings) → item_count ds ≡ pattern_count ps → ((n : ℕ) → item_at whole (j + n) ≡ item_at ds n) → AreOwn (patterns_variables ps) → AreOwn known → AreKept names slots known → Stands p frame_slots behind pc (element_lines names.all known (suc j) ps) → pc + length (element_lines names.all known (suc j) ps) ≡ r → Decides p o names behind (at pc (tuple whole ∷ base) slots) r (tuple whole ∷ base) slots known (known ++ patterns_variables ps) (λ s. AllFit ps s ds)
      element_run no_patterns j whole (item d ds) pc r known base slots many rest mine all kept stands end = absurd (omega (arith, many))
      element_run no_patterns j whole no_items pc r known base slots many rest mine all kept stands end =
          let there : pc ≡ r = omega (arith, end) in
          let run = comes_same p o (at pc (tuple whole ∷ base) slots) _ _ (ap (λ m. at m (tuple whole ∷ base) slots) there) (comes_here p o (at pc (tuple whole ∷ base) slots)) in
          subst (λ l. Decides p o names behind (at pc (tuple whole ∷ base) slots) r (tuple whole ∷ base) slots known l (λ s. Unit {0})) (sym (append-nil known)) (sure_run (at pc (tuple whole ∷ base) slots) r (tuple whole ∷ base) slots known (λ s. Unit {0}) kept run (λ s. tt))
      element_run (pattern x ps) j whole no_items pc r known base slots many rest mine all kept stands end = absurd (omega (arith, many))
      element_run (pattern x ps) j whole (item d ds) pc r known base slots many rest mine all kept stands end =
          let now = known ++ pattern_variables x in
          let own = plain op.Dup ∷ plain (op.Field (suc j)) ∷ pattern_lines names.all known x in
          let others = element_lines names.all now (suc (suc j)) ps in
          let first = unless_anything x own in
          let q = pc + length first in
          let front = stands_front p frame_slots behind pc first others stands in
          let over : q + length others ≡ r = omega (arith, end, length-append first others) in
          let mine_x : AreOwn (pattern_variables x) = λ m e. mine m (among_left (pattern_variables x) (patterns_variables ps) m e) in
          let mine_ps : AreOwn (patterns_variables ps) = λ m e. mine m (among_right (pattern_variables x) (patterns_variables ps) m e) in
          let here : item_at whole j ≡ Some d = let same : j + 0 ≡ j = omega arith in sym (ap (item_at whole) same) ∙ rest 0 in
          let run1 : Decides p o names behind (at pc (tuple whole ∷ base) slots) q (tuple whole ∷ base) slots known now (λ s. Fits x s d) =
          elim (anything_or x) [
            | inl is ↦
                let none : first ≡ [] = ap (λ y. unless_anything y own) is in
                let there : pc ≡ q = omega (arith, ap length none) in
                let run = comes_same p o (at pc (tuple whole ∷ base) slots) _ _ (ap (λ m. at m (tuple whole ∷ base) slots) there) (comes_here p o (at pc (tuple whole ∷ base) slots)) in
                let same : known ≡ now = sym (append-nil known) ∙ ap (λ y. known ++ pattern_variables y) (sym is) in
                subst (λ l. Decides p o names behind (at pc (tuple whole ∷ base) slots) q (tuple whole ∷ base) slots known l (λ s. Fits x s d)) same
                (sure_run (at pc (tuple whole ∷ base) slots) q (tuple whole ∷ base) slots known (λ s. Fits x s d) kept run (λ s. subst (λ y. Fits y s d) (sym is) tt))
            | inr is ↦
                let h = subst (Stands p frame_slots behind pc) (is own) front in
                let there : suc (suc pc) + length (pattern_lines names.all known x) ≡ q = omega (arith, ap length (is own)) in
                let passes = comes_then p o (at pc (tuple whole ∷ base) slots) (at (suc pc) (tuple whole ∷ tuple whole ∷ base) slots) _
                (comes_by p o (at pc (tuple whole ∷ base) slots) (at (suc pc) (tuple whole ∷ tuple whole ∷ base) slots) _ h.0.instruction refl)
                (comes_by p o (at (suc pc) (tuple whole ∷ tuple whole ∷ base) slots) (at (suc (suc pc)) (d ∷ tuple whole ∷ base) slots) _ h.1.0.instruction (rw here refl)) in
                after_first (at pc (tuple whole ∷ base) slots) (at (suc (suc pc)) (d ∷ tuple whole ∷ base) slots) q (tuple whole ∷ base) slots known now (λ s. Fits x s d) passes
                (pattern_run x (suc (suc pc)) q known d (tuple whole ∷ base) slots mine_x all kept h.1.1 there)
          ] in
          let next : (n : ℕ) → item_at whole (suc j + n) ≡ item_at ds n = λ n. let same : j + suc n ≡ suc j + n = omega arith in sym (ap (item_at whole) same) ∙ rest (suc n) in
          let fewer : item_count ds ≡ pattern_count ps = omega (arith, many) in
          let both = one_then (at pc (tuple whole ∷ base) slots) q r (tuple whole ∷ base) (tuple whole ∷ base) slots known now (now ++ patterns_variables ps) (λ s. Fits x s d) (λ s. AllFit ps s ds) (λ s t e k. Fits-more x s t d e k) run1
          (λ then kept'. element_run ps (suc j) whole ds q r now base then fewer next mine_ps (own_append known (pattern_variables x) all mine_x) kept' (stands_back p frame_slots behind pc first others stands) over) in
          subst (λ l. Decides p o names behind (at pc (tuple whole ∷ base) slots) r (tuple whole ∷ base) slots known l (λ s. AllFit (pattern x ps) s (item d ds))) (append_assoc known (pattern_variables x) (patterns_variables ps)) both

      field_run : (fs : Fields) (es : Entries) (pc r : ℕ) (known : List ℕ) (base : List Datum) (slots : Bindings) → AreOwn (fields_variables fs) → AreOwn known → AreKept names slots known → Stands p frame_slots behind pc (field_lines names.all known fs) → pc + length (field_lines names.all known fs) ≡ r → Decides p o names behind (at pc (table es ∷ base) slots) r (table es ∷ base) slots known (known ++ fields_variables fs) (λ s. FieldsFit fs s es)
      field_run no_fields es pc r known base slots mine all kept stands end =
          let there : pc ≡ r = omega (arith, end) in
          let run = comes_same p o (at pc (table es ∷ base) slots) _ _ (ap (λ m. at m (table es ∷ base) slots) there) (comes_here p o (at pc (table es ∷ base) slots)) in
          subst (λ l. Decides p o names behind (at pc (table es ∷ base) slots) r (table es ∷ base) slots known l (λ s. Unit {0})) (sym (append-nil known)) (sure_run (at pc (table es ∷ base) slots) r (table es ∷ base) slots known (λ s. Unit {0}) kept run (λ s. tt))
      field_run (field k x fs) es pc r known base slots mine all kept stands end =
          let now = known ++ pattern_variables x in
          let first = pattern_lines names.all known x in
          let others = field_lines names.all now fs in
          let q = suc (suc pc) + length first in
          let front = stands_front p frame_slots behind (suc (suc pc)) first others stands.1.1 in
          let over : q + length others ≡ r = omega (arith, end, length-append first others) in
          let mine_x : AreOwn (pattern_variables x) = λ m e. mine m (among_left (pattern_variables x) (fields_variables fs) m e) in
          let mine_fs : AreOwn (fields_variables fs) = λ m e. mine m (among_right (pattern_variables x) (fields_variables fs) m e) in
          let dup = comes_by p o (at pc (table es ∷ base) slots) (at (suc pc) (table es ∷ table es ∷ base) slots) _ stands.0.instruction refl in
          elim (some_or_none (value_at k es)) [
            | inl is ↦
                let v = is.0 in
                let found = comes_by p o (at (suc pc) (table es ∷ table es ∷ base) slots) (at (suc (suc pc)) (v ∷ table es ∷ base) slots) _ stands.1.0.instruction (rw stands.1.0.constant (rw is.1 refl)) in
                let passes = comes_then p o (at pc (table es ∷ base) slots) (at (suc pc) (table es ∷ table es ∷ base) slots) _ dup found in
                let run1 = after_first (at pc (table es ∷ base) slots) (at (suc (suc pc)) (v ∷ table es ∷ base) slots) q (table es ∷ base) slots known now (λ s. Fits x s v) passes
                (pattern_run x (suc (suc pc)) q known v (table es ∷ base) slots mine_x all kept front refl) in
                let run1' = same_claim (at pc (table es ∷ base) slots) q (table es ∷ base) slots known now (λ s. Fits x s v) (FieldFits k x es) (λ s h. (v, is.1, h))
                (λ s h. let both = sym h.1 ∙ is.1 in let same : h.0 ≡ v = cc in subst (λ y. Fits x s y) same h.2) run1 in
                let both = one_then (at pc (table es ∷ base) slots) q r (table es ∷ base) (table es ∷ base) slots known now (now ++ fields_variables fs) (FieldFits k x es) (λ s. FieldsFit fs s es) (λ s t e h. (h.0, h.1, Fits-more x s t h.0 e h.2)) run1'
                (λ then kept'. field_run fs es q r now base then mine_fs (own_append known (pattern_variables x) all mine_x) kept' (stands_back p frame_slots behind (suc (suc pc)) first others stands.1.1) over) in
                subst (λ l. Decides p o names behind (at pc (table es ∷ base) slots) r (table es ∷ base) slots known l (λ s. FieldsFit (field k x fs) s es)) (append_assoc known (pattern_variables x) (fields_variables fs)) both
            | inr is ↦
                let missing = comes_by p o (at (suc pc) (table es ∷ table es ∷ base) slots) (at behind [] slots) _ stands.1.0.instruction (rw stands.1.0.constant (rw is (end_lands p o frame_slots behind site slots (table es ∷ base)))) in
                never_run (at pc (table es ∷ base) slots) r (table es ∷ base) slots known (known ++ (pattern_variables x ++ fields_variables fs)) (λ s. FieldsFit (field k x fs) s es) kept
                (comes_then p o (at pc (table es ∷ base) slots) (at (suc pc) (table es ∷ table es ∷ base) slots) _ dup missing)
                (λ s h. absurd (let q = sym is ∙ h.0.1 in cc))
          ]
