-- The code of a pattern is typed.
use Rattle.std.proofs.Common.{◌≡◌, ℕ, suc, ◌+◌, ◌<◌, ◌≤◌, cond, Bool, true, false, ◌||◌, ◌&&◌, List, [], ◌∷◌, ◌++◌, length, set, slice_get, ◌⊎◌, inl, inr, refl, sym, ◌∙◌, ap, subst, arith, append_assoc, append-nil, Option, Some, None, option_map}
use Rattle.std.specs.Prelude.{IsTrue, nat_lt, nat_le}
use Rattle.std.proofs.lemmas.Bool.{eq-eqb, or_cases, lt-ltb, le-leb}
use Rattle.std.proofs.lemmas.Option.{slice_get_within}
use Rattle.std.proofs.lemmas.List.{length-append, length-set}
use Rattle.term_core.specs.Datum.{Datum}
use Rattle.term_core.specs.Datum.Datum.{tuple}
use Rattle.mcode.specs.Program.{Program, frame_at}
use Rattle.mcode.specs.declared.instr.Instr.{Instr}
use Rattle.mcode.specs.declared.instr.Instr.TheVariants as instr
use Rattle.mcode.specs.declared.kind.Kind.{Kind}
use Rattle.mcode.specs.declared.kind.Kind.TheVariants as kind
use Rattle.mspec_syntax.proofs.RankLemmas.{rank-below}
use Rattle.mspec_syntax.specs.Grammar.{is_among}
use Rattle.mspec_syntax.specs.Pattern.{Pattern, Patterns, Fields, pattern_variables, patterns_variables, fields_variables, pattern_nodes, patterns_nodes, fields_nodes, tail_nodes, own_term, own_terms}
use Rattle.mspec_syntax.specs.Pattern.Pattern.{variable, anything, literal, tuple_of, cell_of, map_of}
use Rattle.mspec_syntax.specs.Pattern.Patterns.{no_patterns, pattern}
use Rattle.mspec_syntax.specs.Pattern.Fields.{no_fields, field}
use Rattle.mspec_syntax.specs.Rising.{rank_of}
use Rattle.verifier_types.specs.Effect.{falling_shape, left_shape}
use Rattle.verifier_types.specs.Shape.{Shape, is_bound}
use Rattle.compiler_assembly.specs.Line.{SourceLine, plain}
use Rattle.compiler_assembly.specs.Stands.{IsAt, Stands}
use Rattle.compiler_assembly.specs.declared.op.Op.TheVariants as op
use Rattle.compiler_assembly.specs.declared.op.Target.TheVariants.{Failing}
use Rattle.compiler_assembly.proofs.StandLemmas.{stands_front, stands_back}
use Rattle.mspec_match.proofs.OwnLemmas.{own-variables}
use Rattle.compiler_patterns.specs.Leaves.{same_lines, variable_lines}
use Rattle.compiler_patterns.specs.Patterns.{pattern_count, same_or, unless_anything, pattern_lines, element_lines, field_lines}
use Rattle.compiler_clauses.specs.Writable.{AreAmong}
use Rattle.compiler_clauses.proofs.VariableLemmas.{among_joined, among_left, among_right, one_among}
use Rattle.compiler.specs.Flow.{IsFit, Flows}
use Rattle.compiler.specs.Marked.{AreMarked, BindsTo}
use Rattle.compiler.specs.Ready.{IsBlock, Steps}
use Rattle.compiler.proofs.FlowLemmas.{flows_then, bound_set, bound_here}
use Rattle.compiler.proofs.ReadyLemmas.{plain_step, end_fits}

some_pattern : (q : Pattern) → 0 < pattern_nodes q
some_pattern (variable n) = omega arith
some_pattern anything = omega arith
some_pattern (literal d) = omega arith
some_pattern (tuple_of ps) = omega arith
some_pattern (cell_of q r) = omega arith
some_pattern (map_of fs) = omega arith

-- a tail has at most one more node by itself
tail_room : (q : Pattern) → pattern_nodes q ≤ suc (tail_nodes q)
tail_room (variable n) = omega arith
tail_room anything = omega arith
tail_room (literal d) = omega arith
tail_room (tuple_of ps) = omega arith
tail_room (cell_of q r) = omega arith
tail_room (map_of fs) = omega arith

unless_or : (q : Pattern) → (q ≡ anything) ⊎ ((ls : List SourceLine) → unless_anything q ls ≡ ls)
unless_or (variable n) = inr (λ ls. refl)
unless_or anything = inl refl
unless_or (literal d) = inr (λ ls. refl)
unless_or (tuple_of ps) = inr (λ ls. refl)
unless_or (cell_of q r) = inr (λ ls. refl)
unless_or (map_of fs) = inr (λ ls. refl)

module _ (p : Program) (most : ℕ) (frame_slots : List ℕ) (behind : ℕ) (block : IsBlock p frame_slots behind) (vs : List ℕ) (slots_are : p.slots ≡ length vs) where
  bline_then : (pc : ℕ) (l : SourceLine) (ls : List SourceLine) (s t : Shape) (ks : List Kind) (known : List ℕ) → Steps p most pc s t → BindsTo p most vs (suc pc) ls t ks known → BindsTo p most vs pc (l ∷ ls) s ks known
  bline_then pc l ls s t ks known step rest = record { bound = rest.bound; flows = (step.0, step.1, step.2, (t, step.3, rest.flows)); marked = rest.marked }

  no_blines : (pc : ℕ) (ks : List Kind) (bs : List Bool) (known : List ℕ) → AreMarked p vs bs known → BindsTo p most vs pc [] (record { kinds = ks; bound = bs }) ks known
  no_blines pc ks bs known marked = record { bound = bs; flows = refl; marked = marked }

  blines_then : (pc : ℕ) (a b : List SourceLine) (s : Shape) (ks ls : List Kind) (known now : List ℕ) → BindsTo p most vs pc a s ks known → ((bs : List Bool) → AreMarked p vs bs known → BindsTo p most vs (pc + length a) b (record { kinds = ks; bound = bs }) ls now) → BindsTo p most vs pc (a ++ b) s ls now
  blines_then pc a b s ks ls known now first rest =
      let others = rest first.bound first.marked in
      let count : length a + length b ≡ length (a ++ b) = sym (length-append a b) in
      record {
        bound = others.bound;
        flows = subst (λ n. Flows p most pc s n (record { kinds = ls; bound = others.bound })) count
            (flows_then p most (length a) (length b) pc s (record { kinds = ks; bound = first.bound }) (record { kinds = ls; bound = others.bound }) first.flows others.flows);
        marked = others.marked;
      }

  -- a line whose instruction may jump past the block, or doesn't jump
  fit_then : (pc : ℕ) (l : SourceLine) (ls : List SourceLine) (i : Instr) (s : Shape) (ks : List Kind) (known : List ℕ) → slice_get p.instructions pc ≡ Some i → frame_at p.frames (suc pc) ≡ None → falling_shape p i s ≡ Some (left_shape p i s) → IsFit p most pc i s → BindsTo p most vs (suc pc) ls (left_shape p i s) ks known → BindsTo p most vs pc (l ∷ ls) s ks known
  fit_then pc l ls i s ks known h none on fit rest =
      bline_then pc l ls s (left_shape p i s) ks known (plain_step p most frame_slots behind block pc i s h none on fit) rest

  equal_flow : (pc : ℕ) (k l : Kind) (ks : List Kind) (bs : List Bool) (known : List ℕ) → IsAt p frame_slots behind pc (plain (op.Equal Failing)) → pc < behind → suc (suc (length ks)) ≤ most → AreMarked p vs bs known → BindsTo p most vs pc (plain (op.Equal Failing) ∷ []) (record { kinds = k ∷ l ∷ ks; bound = bs }) ks known
  equal_flow pc k l ks bs known h within room marked =
      let ways = end_fits p most frame_slots behind block pc ks bs within in
      fit_then pc (plain (op.Equal Failing)) [] (instr.Equal behind) (record { kinds = k ∷ l ∷ ks; bound = bs }) ks known h.instruction h.frame refl
      (record { target = ways.0; constant = tt; operands = omega arith; kinds = refl; slot = refl; depth = omega (arith, room); jump = ways.1 })
      (no_blines (suc pc) ks bs known marked)

  same_flow : (d : Datum) (pc : ℕ) (k : Kind) (ks : List Kind) (bs : List Bool) (known : List ℕ) → Stands p frame_slots behind pc (same_lines d) → suc pc < behind → suc (suc (length ks)) ≤ most → AreMarked p vs bs known → BindsTo p most vs pc (same_lines d) (record { kinds = k ∷ ks; bound = bs }) ks known
  same_flow d pc k ks bs known stands within room marked =
      fit_then pc (plain (op.Const d)) (plain (op.Equal Failing) ∷ []) _ (record { kinds = k ∷ ks; bound = bs }) ks known stands.0.instruction stands.0.frame refl
      (record { target = tt; constant = slice_get_within p.constants _ d stands.0.constant; operands = omega arith; kinds = refl; slot = refl; depth = omega (arith, room); jump = tt })
      (equal_flow (suc pc) _ k ks bs known stands.1.0 within room marked)

  more_marked : (bs : List Bool) (known : List ℕ) (n : ℕ) → is_among vs n ≡ true → AreMarked p vs bs known → AreMarked p vs (set bs (rank_of vs n) true) (known ++ n ∷ [])
  more_marked bs known n inside marked =
      let here : rank_of vs n < length bs = omega (arith, rank-below vs n inside, marked.count, slots_are) in
      record {
        count = length-set bs (rank_of vs n) true ∙ marked.count;
        held = λ m h.
            elim (or_cases (is_among known m) (is_among (n ∷ []) m) (sym (among_joined known (n ∷ []) m) ∙ h)) [
              | inl z ↦ bound_set bs (rank_of vs n) (rank_of vs m) (marked.held m z)
              | inr z ↦ subst (λ k. IsTrue (is_bound (set bs (rank_of vs n) true) (rank_of vs k))) (one_among n m z) (bound_here bs (rank_of vs n) here)
            ];
      }

  again_marked : (bs : List Bool) (known : List ℕ) (n : ℕ) → is_among known n ≡ true → AreMarked p vs bs known → AreMarked p vs bs (known ++ n ∷ [])
  again_marked bs known n is marked = record {
    count = marked.count;
    held = λ m h.
        elim (or_cases (is_among known m) (is_among (n ∷ []) m) (sym (among_joined known (n ∷ []) m) ∙ h)) [
          | inl z ↦ marked.held m z
          | inr z ↦ marked.held m (sym (ap (is_among known) (one_among n m z)) ∙ is)
        ];
  }

  variable_flow : (n pc : ℕ) (known : List ℕ) (k : Kind) (ks : List Kind) (bs : List Bool) → is_among vs n ≡ true → AreMarked p vs bs known → suc (suc (length ks)) ≤ most → Stands p frame_slots behind pc (variable_lines vs known n) → pc + length (variable_lines vs known n) ≤ behind → BindsTo p most vs pc (variable_lines vs known n) (record { kinds = k ∷ ks; bound = bs }) ks (known ++ n ∷ [])
  variable_flow n pc known k ks bs inside marked room stands within = by (is_among known n) refl stands within
    where
      by : (b : Bool) → is_among known n ≡ b → Stands p frame_slots behind pc (cond b (plain (op.Get (rank_of vs n)) ∷ plain (op.Equal Failing) ∷ []) (plain (op.Bind (rank_of vs n)) ∷ [])) → pc + length (cond b (plain (op.Get (rank_of vs n)) ∷ plain (op.Equal Failing) ∷ []) (plain (op.Bind (rank_of vs n)) ∷ [])) ≤ behind → BindsTo p most vs pc (cond b (plain (op.Get (rank_of vs n)) ∷ plain (op.Equal Failing) ∷ []) (plain (op.Bind (rank_of vs n)) ∷ [])) (record { kinds = k ∷ ks; bound = bs }) ks (known ++ n ∷ [])
      by true is stands within =
          fit_then pc (plain (op.Get (rank_of vs n))) (plain (op.Equal Failing) ∷ []) (instr.Get (rank_of vs n)) (record { kinds = k ∷ ks; bound = bs }) ks (known ++ n ∷ []) stands.0.instruction stands.0.frame refl
          (record { target = tt; constant = tt; operands = omega arith; kinds = refl; slot = marked.held n is; depth = omega (arith, room); jump = tt })
          (equal_flow (suc pc) kind.Any k ks bs (known ++ n ∷ []) stands.1.0 (omega (arith, within)) room (again_marked bs known n is marked))
      by false is stands within =
          let here : rank_of vs n < p.slots = omega (arith, rank-below vs n inside, slots_are) in
          fit_then pc (plain (op.Bind (rank_of vs n))) [] (instr.Bind (rank_of vs n)) (record { kinds = k ∷ ks; bound = bs }) ks (known ++ n ∷ []) stands.0.instruction stands.0.frame refl
          (record { target = tt; constant = tt; operands = omega arith; kinds = refl; slot = lt-ltb (rank_of vs n) p.slots here; depth = omega (arith, room); jump = tt })
          (no_blines (suc pc) ks (set bs (rank_of vs n) true) (known ++ n ∷ []) (more_marked bs known n inside marked))

  abbrev AreNamed : List ℕ → Type 0
  AreNamed ns = AreAmong ns vs

  left_named : (xs ys : List ℕ) → AreNamed (xs ++ ys) → AreNamed xs
  left_named xs ys h = λ m e. h m (among_left xs ys m e)

  right_named : (xs ys : List ℕ) → AreNamed (xs ++ ys) → AreNamed ys
  right_named xs ys h = λ m e. h m (among_right xs ys m e)

  -- a pattern that spells a term binds nothing; any other has the given flow
  same_or_flow : (q : Pattern) (found : Option Datum) (ls : List SourceLine) (pc : ℕ) (known : List ℕ) (k : Kind) (ks : List Kind) (bs : List Bool) → own_term q ≡ found → AreMarked p vs bs known → suc (suc (length ks)) ≤ most → Stands p frame_slots behind pc (same_or found ls) → pc + length (same_or found ls) ≤ behind → (Stands p frame_slots behind pc ls → pc + length ls ≤ behind → BindsTo p most vs pc ls (record { kinds = k ∷ ks; bound = bs }) ks (known ++ pattern_variables q)) → BindsTo p most vs pc (same_or found ls) (record { kinds = k ∷ ks; bound = bs }) ks (known ++ pattern_variables q)
  same_or_flow q None ls pc known k ks bs is marked room stands within others = others stands within
  same_or_flow q (Some d) ls pc known k ks bs is marked room stands within others =
      subst (λ l. BindsTo p most vs pc (same_lines d) (record { kinds = k ∷ ks; bound = bs }) ks l) (sym (ap (λ l. known ++ l) (own_nothing q d is) ∙ append-nil known))
      (same_flow d pc k ks bs known stands (omega (arith, within)) room marked)
    where
      own_nothing : (q : Pattern) (d : Datum) → own_term q ≡ Some d → pattern_variables q ≡ []
      own_nothing q d is = own-variables q d is

  dropped : (pc : ℕ) (k : Kind) (ks : List Kind) (bs : List Bool) (known : List ℕ) → IsAt p frame_slots behind pc (plain op.Drop) → suc (length ks) ≤ most → AreMarked p vs bs known → BindsTo p most vs pc (plain op.Drop ∷ []) (record { kinds = k ∷ ks; bound = bs }) ks known
  dropped pc k ks bs known h room marked =
      fit_then pc (plain op.Drop) [] instr.Drop (record { kinds = k ∷ ks; bound = bs }) ks known h.instruction h.frame refl
      (record { target = tt; constant = tt; operands = omega arith; kinds = refl; slot = refl; depth = omega (arith, room); jump = tt })
      (no_blines (suc pc) ks bs known marked)

  dup_then : (pc : ℕ) (ls : List SourceLine) (k : Kind) (ks ls' : List Kind) (bs : List Bool) (known : List ℕ) → IsAt p frame_slots behind pc (plain op.Dup) → suc (suc (length ks)) ≤ most → BindsTo p most vs (suc pc) ls (record { kinds = k ∷ k ∷ ks; bound = bs }) ls' known → BindsTo p most vs pc (plain op.Dup ∷ ls) (record { kinds = k ∷ ks; bound = bs }) ls' known
  dup_then pc ls k ks ls' bs known h room rest =
      fit_then pc (plain op.Dup) ls instr.Dup (record { kinds = k ∷ ks; bound = bs }) ls' known h.instruction h.frame refl
      (record { target = tt; constant = tt; operands = omega arith; kinds = refl; slot = refl; depth = omega (arith, room); jump = tt }) rest

  mutual
    pub pattern_flow : (q : Pattern) (pc r : ℕ) (known : List ℕ) (k : Kind) (ks : List Kind) (bs : List Bool) → AreNamed (pattern_variables q) → AreMarked p vs bs known → suc (length ks) + pattern_nodes q ≤ most → Stands p frame_slots behind pc (pattern_lines vs known q) → pc + length (pattern_lines vs known q) ≡ r → r ≤ behind → BindsTo p most vs pc (pattern_lines vs known q) (record { kinds = k ∷ ks; bound = bs }) ks (known ++ pattern_variables q)
    pattern_flow (variable n) pc r known k ks bs named marked room stands end within =
        variable_flow n pc known k ks bs (named n (ap (λ b. b || false) (eq-eqb n n refl))) marked (omega (arith, room)) stands (omega (arith, end, within))
    pattern_flow anything pc r known k ks bs named marked room stands end within =
        subst (λ l. BindsTo p most vs pc (plain op.Drop ∷ []) (record { kinds = k ∷ ks; bound = bs }) ks l) (sym (append-nil known)) (dropped pc k ks bs known stands.0 (omega (arith, room)) marked)
    pattern_flow (literal d) pc r known k ks bs named marked room stands end within =
        subst (λ l. BindsTo p most vs pc (same_lines d) (record { kinds = k ∷ ks; bound = bs }) ks l) (sym (append-nil known)) (same_flow d pc k ks bs known stands (omega (arith, end, within)) (omega (arith, room)) marked)
    pattern_flow (tuple_of ps) pc r known k ks bs named marked room stands end within =
        same_or_flow (tuple_of ps) (option_map tuple (own_terms ps)) _ pc known k ks bs refl marked (omega (arith, room)) stands (omega (arith, end, within))
        (λ h before.
        let inner = element_lines vs known 1 ps in
        let last = plain op.Drop ∷ [] in
        let q = suc pc + length inner in
        let size = pattern_count ps in
        let over : suc q ≤ behind = omega (arith, before, length-append inner last) in
        let ways = end_fits p most frame_slots behind block pc (k ∷ ks) bs (omega (arith, over)) in
        fit_then pc (plain (op.Tuple size Failing)) (inner ++ last) (instr.Tuple size behind) (record { kinds = k ∷ ks; bound = bs }) ks (known ++ patterns_variables ps) h.0.instruction h.0.frame refl
        (record { target = ways.0; constant = tt; operands = omega arith; kinds = refl; slot = refl; depth = omega (arith, room); jump = ways.1 })
        (blines_then (suc pc) inner last (record { kinds = kind.Tuple size ∷ ks; bound = bs }) (kind.Tuple size ∷ ks) ks (known ++ patterns_variables ps) (known ++ patterns_variables ps)
        (element_flow ps 0 size (suc pc) q known ks bs (omega arith) named marked (omega (arith, room)) (stands_front p frame_slots behind (suc pc) inner last h.1) refl (omega (arith, over)))
        (λ bs' marked'. dropped q (kind.Tuple size) ks bs' (known ++ patterns_variables ps) (stands_back p frame_slots behind (suc pc) inner last h.1).0 (omega (arith, room)) marked')))
    pattern_flow (cell_of x y) pc r known k ks bs named marked room stands end within =
        same_or_flow (cell_of x y) (own_term (cell_of x y)) _ pc known k ks bs refl marked (omega (arith, room)) stands (omega (arith, end, within))
        (λ h before.
        let now = known ++ pattern_variables x in
        let first = pattern_lines vs known x in
        let second = pattern_lines vs now y in
        let rest = plain op.Tail ∷ second in
        let q = suc (suc (suc pc)) + length first in
        let back = stands_back p frame_slots behind (suc (suc (suc pc))) first rest h.1.1.1 in
        let over : suc q + length second ≤ behind = omega (arith, before, length-append first rest) in
        let some = some_pattern x in
        let more = tail_room y in
        let ways = end_fits p most frame_slots behind block pc (k ∷ ks) bs (omega (arith, over)) in
        fit_then pc (plain (op.Cons Failing)) (plain op.Dup ∷ plain op.Head ∷ (first ++ rest)) (instr.Cons behind) (record { kinds = k ∷ ks; bound = bs }) ks (known ++ (pattern_variables x ++ pattern_variables y)) h.0.instruction h.0.frame refl
        (record { target = ways.0; constant = tt; operands = omega arith; kinds = refl; slot = refl; depth = omega (arith, room); jump = ways.1 })
        (dup_then (suc pc) (plain op.Head ∷ (first ++ rest)) kind.Cons ks ks bs (known ++ (pattern_variables x ++ pattern_variables y)) h.1.0 (omega (arith, room, some))
        (fit_then (suc (suc pc)) (plain op.Head) (first ++ rest) instr.Head (record { kinds = kind.Cons ∷ kind.Cons ∷ ks; bound = bs }) ks (known ++ (pattern_variables x ++ pattern_variables y)) h.1.1.0.instruction h.1.1.0.frame refl
        (record { target = tt; constant = tt; operands = omega arith; kinds = refl; slot = refl; depth = omega (arith, room, some); jump = tt })
        (blines_then (suc (suc (suc pc))) first rest (record { kinds = kind.Any ∷ kind.Cons ∷ ks; bound = bs }) (kind.Cons ∷ ks) ks now (known ++ (pattern_variables x ++ pattern_variables y))
        (pattern_flow x (suc (suc (suc pc))) q known kind.Any (kind.Cons ∷ ks) bs (left_named (pattern_variables x) (pattern_variables y) named) marked (omega (arith, room)) (stands_front p frame_slots behind (suc (suc (suc pc))) first rest h.1.1.1) refl (omega (arith, over)))
        (λ bs' marked'.
        fit_then q (plain op.Tail) second instr.Tail (record { kinds = kind.Cons ∷ ks; bound = bs' }) ks (known ++ (pattern_variables x ++ pattern_variables y)) back.0.instruction back.0.frame refl
        (record { target = tt; constant = tt; operands = omega arith; kinds = refl; slot = refl; depth = omega (arith, room); jump = tt })
        (subst (λ l. BindsTo p most vs (suc q) second (record { kinds = kind.Any ∷ ks; bound = bs' }) ks l) (append_assoc known (pattern_variables x) (pattern_variables y))
        (pattern_flow y (suc q) (suc q + length second) now kind.Any ks bs' (right_named (pattern_variables x) (pattern_variables y) named) marked' (omega (arith, room, some, more)) back.1 refl over)))))))
    pattern_flow (map_of fs) pc r known k ks bs named marked room stands end within =
        let inner = field_lines vs known fs in
        let last = plain op.Drop ∷ [] in
        let q = suc pc + length inner in
        let over : suc q ≤ behind = omega (arith, end, within, length-append inner last) in
        let ways = end_fits p most frame_slots behind block pc (k ∷ ks) bs (omega (arith, over)) in
        fit_then pc (plain (op.Map Failing)) (inner ++ last) (instr.Map behind) (record { kinds = k ∷ ks; bound = bs }) ks (known ++ fields_variables fs) stands.0.instruction stands.0.frame refl
        (record { target = ways.0; constant = tt; operands = omega arith; kinds = refl; slot = refl; depth = omega (arith, room); jump = ways.1 })
        (blines_then (suc pc) inner last (record { kinds = kind.Map ∷ ks; bound = bs }) (kind.Map ∷ ks) ks (known ++ fields_variables fs) (known ++ fields_variables fs)
        (field_flow fs (suc pc) q known ks bs named marked (omega (arith, room)) (stands_front p frame_slots behind (suc pc) inner last stands.1) refl (omega (arith, over)))
        (λ bs' marked'. dropped q kind.Map ks bs' (known ++ fields_variables fs) (stands_back p frame_slots behind (suc pc) inner last stands.1).0 (omega (arith, room)) marked'))

    element_flow : (ps : Patterns) (j size pc r : ℕ) (known : List ℕ) (ks : List Kind) (bs : List Bool) → j + pattern_count ps ≡ size → AreNamed (patterns_variables ps) → AreMarked p vs bs known → suc (suc (length ks)) + patterns_nodes ps ≤ most → Stands p frame_slots behind pc (element_lines vs known (suc j) ps) → pc + length (element_lines vs known (suc j) ps) ≡ r → r ≤ behind → BindsTo p most vs pc (element_lines vs known (suc j) ps) (record { kinds = kind.Tuple size ∷ ks; bound = bs }) (kind.Tuple size ∷ ks) (known ++ patterns_variables ps)
    element_flow no_patterns j size pc r known ks bs many named marked room stands end within =
        no_blines pc (kind.Tuple size ∷ ks) bs (known ++ []) (subst (AreMarked p vs bs) (sym (append-nil known)) marked)
    element_flow (pattern x ps) j size pc r known ks bs many named marked room stands end within =
        let now = known ++ pattern_variables x in
        let own = plain op.Dup ∷ plain (op.Field (suc j)) ∷ pattern_lines vs known x in
        let first = unless_anything x own in
        let others = element_lines vs now (suc (suc j)) ps in
        let q = pc + length first in
        let over : q + length others ≤ behind = omega (arith, end, within, length-append first others) in
        let front = stands_front p frame_slots behind pc first others stands in
        let some = some_pattern x in
        let lower : IsTrue (nat_lt 0 (suc j)) = lt-ltb 0 (suc j) (omega arith) in
        let upper : IsTrue (nat_le (suc j) size) = le-leb (suc j) size (omega (arith, many)) in
        let run : BindsTo p most vs pc first (record { kinds = kind.Tuple size ∷ ks; bound = bs }) (kind.Tuple size ∷ ks) now =
        elim (unless_or x) [
          | inl is ↦
              let none : first ≡ [] = ap (λ y. unless_anything y own) is in
              let same : known ≡ now = sym (append-nil known) ∙ ap (λ y. known ++ pattern_variables y) (sym is) in
              subst (λ l. BindsTo p most vs pc l (record { kinds = kind.Tuple size ∷ ks; bound = bs }) (kind.Tuple size ∷ ks) now) (sym none)
              (no_blines pc (kind.Tuple size ∷ ks) bs now (subst (AreMarked p vs bs) same marked))
          | inr is ↦
              let h = subst (Stands p frame_slots behind pc) (is own) front in
              let there : suc (suc pc) + length (pattern_lines vs known x) ≡ q = omega (arith, ap length (is own)) in
              subst (λ l. BindsTo p most vs pc l (record { kinds = kind.Tuple size ∷ ks; bound = bs }) (kind.Tuple size ∷ ks) now) (sym (is own))
              (dup_then pc (plain (op.Field (suc j)) ∷ pattern_lines vs known x) (kind.Tuple size) ks (kind.Tuple size ∷ ks) bs now h.0 (omega (arith, room, some))
              (fit_then (suc pc) (plain (op.Field (suc j))) (pattern_lines vs known x) (instr.Field (suc j)) (record { kinds = kind.Tuple size ∷ kind.Tuple size ∷ ks; bound = bs }) (kind.Tuple size ∷ ks) now h.1.0.instruction h.1.0.frame refl
              (record { target = tt; constant = tt; operands = omega arith; kinds = ap (λ b. b && nat_le (suc j) size) lower ∙ upper; slot = refl; depth = omega (arith, room, some); jump = tt })
              (pattern_flow x (suc (suc pc)) q known kind.Any (kind.Tuple size ∷ ks) bs (left_named (pattern_variables x) (patterns_variables ps) named) marked (omega (arith, room)) h.1.1 there (omega (arith, over)))))
        ] in
        blines_then pc first others (record { kinds = kind.Tuple size ∷ ks; bound = bs }) (kind.Tuple size ∷ ks) (kind.Tuple size ∷ ks) now (known ++ (pattern_variables x ++ patterns_variables ps)) run
        (λ bs' marked'.
        subst (λ l. BindsTo p most vs q others (record { kinds = kind.Tuple size ∷ ks; bound = bs' }) (kind.Tuple size ∷ ks) l) (append_assoc known (pattern_variables x) (patterns_variables ps))
        (element_flow ps (suc j) size q (q + length others) now ks bs' (omega (arith, many)) (right_named (pattern_variables x) (patterns_variables ps) named) marked' (omega (arith, room)) (stands_back p frame_slots behind pc first others stands) refl over))

    field_flow : (fs : Fields) (pc r : ℕ) (known : List ℕ) (ks : List Kind) (bs : List Bool) → AreNamed (fields_variables fs) → AreMarked p vs bs known → suc (suc (length ks)) + fields_nodes fs ≤ most → Stands p frame_slots behind pc (field_lines vs known fs) → pc + length (field_lines vs known fs) ≡ r → r ≤ behind → BindsTo p most vs pc (field_lines vs known fs) (record { kinds = kind.Map ∷ ks; bound = bs }) (kind.Map ∷ ks) (known ++ fields_variables fs)
    field_flow no_fields pc r known ks bs named marked room stands end within =
        no_blines pc (kind.Map ∷ ks) bs (known ++ []) (subst (AreMarked p vs bs) (sym (append-nil known)) marked)
    field_flow (field key x fs) pc r known ks bs named marked room stands end within =
        let now = known ++ pattern_variables x in
        let first = pattern_lines vs known x in
        let others = field_lines vs now fs in
        let q = suc (suc pc) + length first in
        let over : q + length others ≤ behind = omega (arith, end, within, length-append first others) in
        let some = some_pattern x in
        let ways = end_fits p most frame_slots behind block (suc pc) (kind.Map ∷ ks) bs (omega (arith, over)) in
        dup_then pc (plain (op.Value key Failing) ∷ (first ++ others)) kind.Map ks (kind.Map ∷ ks) bs (known ++ (pattern_variables x ++ fields_variables fs)) stands.0 (omega (arith, room))
        (fit_then (suc pc) (plain (op.Value key Failing)) (first ++ others) _ (record { kinds = kind.Map ∷ kind.Map ∷ ks; bound = bs }) (kind.Map ∷ ks) (known ++ (pattern_variables x ++ fields_variables fs)) stands.1.0.instruction stands.1.0.frame refl
        (record { target = ways.0; constant = slice_get_within p.constants _ key stands.1.0.constant; operands = omega arith; kinds = refl; slot = refl; depth = omega (arith, room); jump = ways.1 })
        (blines_then (suc (suc pc)) first others (record { kinds = kind.Any ∷ kind.Map ∷ ks; bound = bs }) (kind.Map ∷ ks) (kind.Map ∷ ks) now (known ++ (pattern_variables x ++ fields_variables fs))
        (pattern_flow x (suc (suc pc)) q known kind.Any (kind.Map ∷ ks) bs (left_named (pattern_variables x) (fields_variables fs) named) marked (omega (arith, room)) (stands_front p frame_slots behind (suc (suc pc)) first others stands.1.1) refl (omega (arith, over)))
        (λ bs' marked'.
        subst (λ l. BindsTo p most vs q others (record { kinds = kind.Map ∷ ks; bound = bs' }) (kind.Map ∷ ks) l) (append_assoc known (pattern_variables x) (fields_variables fs))
        (field_flow fs q (q + length others) now ks bs' (right_named (pattern_variables x) (fields_variables fs) named) marked' (omega (arith, room)) (stands_back p frame_slots behind (suc (suc pc)) first others stands.1.1) refl over))))
