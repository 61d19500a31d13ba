-- The code of a clause answers if the clause applies, and else leads to what comes after it.
use Rattle.std.proofs.Common.{◌≡◌, ℕ, suc, ◌+◌, ◌<◌, cond, Bool, true, false, List, [], ◌∷◌, ◌++◌, length, map, replicate, ◌⊎◌, inl, inr, refl, sym, ◌∙◌, ap, subst, arith, Option, Some, None}
use Rattle.std.specs.Prelude.{codes, nat_eq, All}
use Rattle.std.specs.Option.{IsSome}
use Rattle.std.specs.Cmp.Lexicographic.{pointwise, bytes_decides}
use Rattle.std.proofs.lemmas.List.{length-append, length-map, length-replicate}
use Rattle.std.proofs.lemmas.List.Elements.{All-head, All-tail}
use Rattle.term_core.specs.Datum.{Datum}
use Rattle.term_core.specs.Datum.Datum.{integer, atom, tuple, map as table, nil, cons, binary}
use Rattle.term_operand.specs.Operand.{boolean_of}
use Rattle.mcode.specs.Machine.{Bindings, State, binding, RunsFrom}
use Rattle.mcode.specs.Machine.Outcome.{Goes}
use Rattle.mcode.specs.Program.{Program, Frame, frame_at}
use Rattle.mspec_syntax.specs.Expression.{Expression}
use Rattle.mspec_syntax.specs.Grammar.{is_among}
use Rattle.mspec_syntax.specs.Mode.Position.{by_itself}
use Rattle.mspec_syntax.specs.Pattern.{Pattern, pattern_variables}
use Rattle.mspec_syntax.specs.Pattern.Pattern.{variable, anything, literal, tuple_of, cell_of, map_of}
use Rattle.mspec_syntax.specs.Rising.{rising, rank_of}
use Rattle.mspec_syntax.specs.Sound.{IsSoundExpression, IsSoundClause}
use Rattle.mspec_syntax.specs.Specification.{Clause, Specification, clause_variables, specification_variables}
use Rattle.mspec_syntax.specs.declared.mode.Mode.TheVariants.{Condition, Body}
use Rattle.mspec_syntax.proofs.RisingLemmas.{among-rising}
use Rattle.mspec_match.specs.Match.{Substitution, domain, Fits, Matches}
use Rattle.mspec_meaning.specs.Meaning.{value_of, true_term, AllHold, body_value, Applies, IsApplicable, Means}
use Rattle.mspec_match.specs.Slots.{AreFree, substitution_of}
use Rattle.mspec_match.proofs.FitLemmas.{Binds-nothing}
use Rattle.mspec_meaning.proofs.HoldLemmas.{clause-fails, clause-unmatched}
use Rattle.mspec_match.proofs.MatchLemmas.{slots-match, never-matches}
use Rattle.mspec_meaning.proofs.MeaningLemmas.{value-some, lookup-some}
use Rattle.compiler_assembly.specs.Line.{SourceLine, plain}
use Rattle.compiler_assembly.specs.Stands.{IsAt, Stands, AreStanding}
use Rattle.compiler_assembly.specs.declared.op.Op.TheVariants as op
use Rattle.compiler_assembly.specs.declared.op.Target.TheVariants.{Failing}
use Rattle.compiler_assembly.proofs.StandLemmas.{stands_front, stands_back, assembled_stands}
use Rattle.compiler_expressions.specs.Expressions.{Site, lines_at}
use Rattle.compiler_patterns.specs.Patterns.{pattern_lines, head_lines}
use Rattle.compiler_clauses.specs.Clauses.{condition_lines, body_lines, site_of, clause_block, blocks_of, code_of}
use Rattle.compiler_clauses.specs.Writable.{AreAmong}
use Rattle.compiler_clauses.proofs.BodyLemmas.{clean_frame, body_framed}
use Rattle.compiler_clauses.proofs.VariableLemmas.{variables_inside}
use Rattle.compiler_assembly.specs.Assembled.{assembled}
use Rattle.compiler.specs.Meaning.{CodeRunsAsMeant}
use Rattle.mcode.proofs.RunLemmas.{run_alone}
use Rattle.compiler.specs.Known.{Names, seen_at, own_slots, AreKept, Decides}
use Rattle.compiler.specs.Reach.{at, Comes}
use Rattle.compiler.specs.Shown.{AreShown}
use Rattle.compiler_expressions.proofs.EndLemmas.{count_at, itself}
use Rattle.compiler.proofs.ExpressionLemmas.{expression_run}
use Rattle.compiler.proofs.FailLemmas.{IsSite, end_lands}
use Rattle.compiler.proofs.MadeLemmas.{after_spread}
use Rattle.compiler.proofs.PatternLemmas.{after_first, pattern_run}
use Rattle.compiler.proofs.PushLemmas.{load_runs}
use Rattle.compiler.proofs.ReachLemmas.{comes_here, comes_by, comes_then, comes_same, runs_from, runs_to}

-- a term whose truth value is true is the atom true
true_alone : (d : Datum) → boolean_of d ≡ Some true → d ≡ true_term
true_alone (atom cs) h = by (pointwise nat_eq cs (codes "true")) (pointwise nat_eq cs (codes "false")) refl h
  where
    by : (b c : Bool) → pointwise nat_eq cs (codes "true") ≡ b → cond b (Some true) (cond c (Some false) None) ≡ Some true → atom cs ≡ true_term
    by true c e h = ap atom ((bytes_decides cs (codes "true")).0 e)
    by false true e h = absurd (cc)
    by false false e h = absurd (cc)
true_alone (integer z) h = absurd (cc)
true_alone (tuple ds) h = absurd (cc)
true_alone (table es) h = absurd (cc)
true_alone nil h = absurd (cc)
true_alone (cons head tail) h = absurd (cc)
true_alone (binary bs) h = absurd (cc)

boolean_of_true : (d : Datum) → d ≡ true_term → boolean_of d ≡ Some true
boolean_of_true d e = ap boolean_of e

module _ (p : Program) (o : Datum) (frame_slots : List ℕ) (behind : ℕ) (site : IsSite p behind) (slots : Bindings) where
  -- ---- conditions

  module _ (w : Site) (is_condition : w.mode ≡ Condition) (s : Substitution) (dom : domain s ≡ w.bound) (shown : AreShown w.slots slots s) where
    abbrev HoldsOr : ℕ → List Expression → ℕ → Type 0
    HoldsOr pc es r =
        (AllHold es s o × Comes p o (at pc [] slots) (at r [] slots))
        ⊎ ((AllHold es s o → ⊥) × Comes p o (at pc [] slots) (at behind [] slots))

    -- the run after the value of a condition
    condition_value : (e : Expression) (es : List Expression) (v : Option Datum) (pc q r : ℕ) → value_of Condition e s o ≡ v → Comes p o (at pc [] slots) (after_spread behind q 0 [] slots v) → IsAt p frame_slots behind q (plain (op.Bool Failing)) → IsAt p frame_slots behind (suc q) (plain (op.Branch Failing)) → HoldsOr (suc (suc q)) es r → HoldsOr pc (e ∷ es) r
    condition_value e es None pc q r is run h1 h2 rest = inr (λ all. absurd (let q = sym is ∙ all.0 in cc), run)
    condition_value e es (Some d) pc q r is run h1 h2 rest = by (boolean_of d) refl
      where
        by : (b : Option Bool) → boolean_of d ≡ b → HoldsOr pc (e ∷ es) r
        by None kind =
            inr (
              λ all. absurd (let same = sym is ∙ all.0 in let true_d : d ≡ true_term = cc in let both = sym kind ∙ boolean_of_true d true_d in cc),
              comes_then p o (at pc [] slots) (at q (d ∷ []) slots) _ run
                  (comes_by p o (at q (d ∷ []) slots) (at behind [] slots) _ h1.instruction (rw kind (end_lands p o frame_slots behind site slots (d ∷ [])))),
            )
        by (Some false) kind =
            inr (
              λ all. absurd (let same = sym is ∙ all.0 in let true_d : d ≡ true_term = cc in let both = sym kind ∙ boolean_of_true d true_d in cc),
              comes_then p o (at pc [] slots) (at q (d ∷ []) slots) _ run
                  (comes_then p o (at q (d ∷ []) slots) (at (suc q) (d ∷ []) slots) _ (comes_by p o (at q (d ∷ []) slots) (at (suc q) (d ∷ []) slots) _ h1.instruction (rw kind refl))
                  (comes_by p o (at (suc q) (d ∷ []) slots) (at behind [] slots) _ h2.instruction (rw kind (end_lands p o frame_slots behind site slots [])))),
            )
        by (Some true) kind =
            let holds : value_of Condition e s o ≡ Some true_term = is ∙ ap Some (true_alone d kind) in
            let on = comes_then p o (at pc [] slots) (at q (d ∷ []) slots) _ run
            (comes_then p o (at q (d ∷ []) slots) (at (suc q) (d ∷ []) slots) _ (comes_by p o (at q (d ∷ []) slots) (at (suc q) (d ∷ []) slots) _ h1.instruction (rw kind refl))
            (comes_by p o (at (suc q) (d ∷ []) slots) (at (suc (suc q)) [] slots) _ h2.instruction (rw kind refl))) in
            elim rest [
              | inl k ↦ inl ((holds, k.0), comes_then p o (at pc [] slots) (at (suc (suc q)) [] slots) _ on k.1)
              | inr k ↦ inr (λ all. k.0 all.1, comes_then p o (at pc [] slots) (at (suc (suc q)) [] slots) _ on k.1)
            ]

    condition_run : (es : List Expression) (pc r : ℕ) → All (IsSoundExpression w.bound) es → Stands p frame_slots behind pc (condition_lines w es) → pc + length (condition_lines w es) ≡ r → HoldsOr pc es r
    condition_run [] pc r sound stands end =
        let there : pc ≡ r = omega (arith, end) in
        inl (tt, comes_same p o (at pc [] slots) _ _ (ap (λ m. at m [] slots) there) (comes_here p o (at pc [] slots)))
    condition_run (e ∷ es) pc r sound stands end =
        let front = lines_at w 0 [] e by_itself in
        let rest = plain (op.Bool Failing) ∷ plain (op.Branch Failing) ∷ condition_lines w es in
        let q = pc + length front in
        let back = stands_back p frame_slots behind pc front rest stands in
        let over : suc (suc q) + length (condition_lines w es) ≡ r = omega (arith, end, length-append front rest) in
        let run = expression_run p o frame_slots behind site slots w s dom shown e by_itself pc q 0 [] [] (All-head (IsSoundExpression w.bound) e es sound) refl (stands_front p frame_slots behind pc front rest stands) refl in
        let others = condition_run es (suc (suc q)) r (All-tail (IsSoundExpression w.bound) e es sound) back.1.1 over in
        let run' = condition_spread e pc q run in
        condition_value e es (value_of Condition e s o) pc q r refl run' back.0 back.1.0 others
      where
        condition_spread : (e : Expression) (pc q : ℕ) → Comes p o (at pc [] slots) (after_spread behind q (count_at e by_itself) [] slots (value_of w.mode e s o)) → Comes p o (at pc [] slots) (after_spread behind q 0 [] slots (value_of Condition e s o))
        condition_spread e pc q run = rw (itself e) at (rw is_condition at run)

  -- ---- bodies

  module _ (w : Site) (is_body : w.mode ≡ Body) (s : Substitution) (dom : domain s ≡ w.bound) (shown : AreShown w.slots slots s) where
    -- the run ends with the body's value
    record Answers (pc : ℕ) (es : List Expression) : Type 0 where
      answer : Datum
      value : body_value es s o ≡ Some answer
      steps : ℕ
      runs : RunsFrom p o steps (Goes (at pc [] slots)) (Some answer)

    body_ends : (e : Expression) (v : Option Datum) (pc q : ℕ) → value_of Body e s o ≡ v → IsSome v → Comes p o (at pc [] slots) (after_spread behind q 0 [] slots v) → (l : SourceLine) → l.op ≡ op.Answer → IsAt p frame_slots behind q l → Answers pc (e ∷ [])
    body_ends e None pc q is some run l is_answer h = absurd (cc)
    body_ends e (Some d) pc q is some run l is_answer h =
        let stands = rw is_answer at h.instruction in
        let ended = runs_to p o (at pc [] slots) (at q (d ∷ []) slots) (Some d) run (rw stands refl) in
        record { answer = d; value = is; steps = ended.0; runs = ended.1 }

    body_run : (es : List Expression) (pc : ℕ) → 0 < length es → All (IsSoundExpression w.bound) es → Stands p frame_slots behind pc (body_lines w es) → Answers pc es
    body_run [] pc some sound stands = absurd (omega arith)
    body_run (e ∷ f ∷ es) pc some sound stands =
        let rest = body_run (f ∷ es) pc (omega arith) (All-tail (IsSoundExpression w.bound) e (f ∷ es) sound) stands in
        record { answer = rest.answer; value = rest.value; steps = rest.steps; runs = rest.runs }
    body_run (e ∷ []) pc some sound stands =
        let front = lines_at w 0 [] e by_itself in
        let q = pc + length front in
        let back = stands_back p frame_slots behind pc front _ stands in
        let sound_e = All-head (IsSoundExpression w.bound) e [] sound in
        let run = expression_run p o frame_slots behind site slots w s dom shown e by_itself pc q 0 [] [] sound_e refl (stands_front p frame_slots behind pc front _ stands) refl in
        let run' = subst (λ m. Comes p o (at pc [] slots) (after_spread behind q 0 [] slots (value_of m e s o))) is_body (rw (itself e) at run) in
        let known = λ (n : ℕ) (h : is_among w.bound n ≡ true). lookup-some s n (ap (λ l. is_among l n) dom ∙ h) in
        body_ends e (value_of Body e s o) pc q refl (value-some w.bound s o known e by_itself sound_e) run' _ refl back.0

-- ---- clauses

-- the slots of a clause of which nothing is known are free
free_first : (names : Names) (slots : Bindings) (ns : List ℕ) → AreFree (map (seen_at names slots []) ns)
free_first names slots [] = tt
free_first names slots (n ∷ ns) = (refl, free_first names slots ns)

seen_shown : (names : Names) (slots : Bindings) (known ns : List ℕ) → AreShown names.all slots (substitution_of ns (map (seen_at names slots known) ns))
seen_shown names slots known [] = tt
seen_shown names slots known (n ∷ ns) = by (seen_at names slots known n) refl (seen_shown names slots known ns)
  where
    held : (b : Bool) (x : Option Datum) (d : Datum) → cond b x None ≡ Some d → x ≡ Some d
    held true x d h = h
    held false x d h = absurd (cc)

    by : (v : Option Datum) → seen_at names slots known n ≡ v → AreShown names.all slots (substitution_of ns (map (seen_at names slots known) ns)) → AreShown names.all slots (substitution_of (n ∷ ns) (v ∷ map (seen_at names slots known) ns))
    by None is rest = rest
    by (Some d) is rest = (held (is_among known n) (binding slots (rank_of names.all n)) d is, rest)

no_names : (n : ℕ) (P : Type 0) → is_among [] n ≡ true → P
no_names n P h = absurd (cc)

-- the head is matched
module _ (p : Program) (o : Datum) (frame_slots : List ℕ) (behind : ℕ) (site : IsSite p behind) (vs : List ℕ) where
  abbrev names_of : Pattern → Names
  names_of q = record { all = vs; own = rising (pattern_variables q) }

  kept_first : (q : Pattern) (slots : Bindings) → length slots ≡ length vs → AreKept (names_of q) slots []
  kept_first q slots count = record { count = count; held = λ n h. absurd (no_names n ⊥ h) }

  loaded : (q : Pattern) (pc r : ℕ) (slots : Bindings) → ((n : ℕ) → is_among (rising (pattern_variables q)) n ≡ true → is_among vs n ≡ true) → length slots ≡ length vs → Stands p frame_slots behind pc (plain op.Load ∷ pattern_lines vs [] q) → pc + length (plain op.Load ∷ pattern_lines vs [] q) ≡ r → Decides p o (names_of q) behind (at pc [] slots) r [] slots [] (pattern_variables q) (λ s. Fits q s o)
  loaded q pc r slots inside count stands end =
      let there : suc pc + length (pattern_lines vs [] q) ≡ r = omega (arith, end) in
      after_first p o frame_slots behind site (names_of q) (at pc [] slots) (at (suc pc) (o ∷ []) slots) r [] slots [] (pattern_variables q) (λ s. Fits q s o)
      (load_runs p o frame_slots behind slots pc [] (plain op.Load) stands.0 refl)
      (pattern_run p o frame_slots behind site (names_of q) inside q (suc pc) r [] o [] slots (λ m h. among-rising (pattern_variables q) m ∙ h) (λ m h. absurd (no_names m ⊥ h)) (kept_first q slots count) stands.1 there)

  head_run : (q : Pattern) (pc r : ℕ) (slots : Bindings) → ((n : ℕ) → is_among (rising (pattern_variables q)) n ≡ true → is_among vs n ≡ true) → length slots ≡ length vs → Stands p frame_slots behind pc (head_lines vs q) → pc + length (head_lines vs q) ≡ r → Decides p o (names_of q) behind (at pc [] slots) r [] slots [] (pattern_variables q) (λ s. Fits q s o)
  head_run anything pc r slots inside count stands end =
      let there : pc ≡ r = omega (arith, end) in
      inl (record {
        slots_then = slots;
        comes = comes_same p o (at pc [] slots) _ _ (ap (λ m. at m [] slots) there) (comes_here p o (at pc [] slots));
        binds = Binds-nothing [] (own_slots (names_of anything) slots []) (λ s. Unit {0}) (λ s. tt);
        kept = kept_first anything slots count;
      })
  head_run (variable n) pc r slots inside count stands end = loaded (variable n) pc r slots inside count stands end
  head_run (literal d) pc r slots inside count stands end = loaded (literal d) pc r slots inside count stands end
  head_run (tuple_of ps) pc r slots inside count stands end = loaded (tuple_of ps) pc r slots inside count stands end
  head_run (cell_of x y) pc r slots inside count stands end = loaded (cell_of x y) pc r slots inside count stands end
  head_run (map_of fs) pc r slots inside count stands end = loaded (map_of fs) pc r slots inside count stands end

-- what the run comes to at a clause that applies
record Answered (p : Program) (o : Datum) (from : State) (c : Clause) : Type 0 where
  substitution : Substitution
  applies : Applies c substitution o
  answer : Datum
  value : body_value c.body substitution o ≡ Some answer
  steps : ℕ
  runs : RunsFrom p o steps (Goes from) (Some answer)

record Passed (p : Program) (o : Datum) (from : State) (behind : ℕ) (vs : List ℕ) (c : Clause) : Type 0 where
  never : ¬ IsApplicable c o
  slots : Bindings
  comes : Comes p o from (at behind [] slots)
  count : length slots ≡ length vs

module _ (p : Program) (o : Datum) (vs : List ℕ) (frames_inside : (n : ℕ) (g : Frame) → frame_at p.frames n ≡ Some g → n < length p.instructions) where
  clause_run : (c : Clause) (pc behind : ℕ) (slots : Bindings) → IsSoundClause c → ((n : ℕ) → is_among (clause_variables c) n ≡ true → is_among vs n ≡ true) → length slots ≡ length vs → Stands p (clause_block vs c).slots behind pc (clause_block vs c).lines → pc + length (clause_block vs c).lines ≡ behind → Answered p o (at pc [] slots) c ⊎ Passed p o (at pc [] slots) behind vs c
  clause_run c pc behind slots sound inside count stands end =
      let own = (clause_block vs c).slots in
      let head = head_lines vs c.head in
      let conditions = condition_lines (site_of vs c Condition) c.conditions in
      let body = body_lines (site_of vs c Body) c.body in
      let q1 = pc + length head in
      let q2 = q1 + length conditions in
      let back = stands_back p own behind pc head (conditions ++ body) stands in
      let body_stands = stands_back p own behind q1 conditions body back in
      let there : q2 + length body ≡ behind = omega (arith, end, length-append head (conditions ++ body), length-append conditions body) in
      let framed = subst (λ n. frame_at p.frames n ≡ Some (clean_frame n)) there (body_framed p own behind (site_of vs c Body) c.body q2 sound.answers body_stands) in
      let site : IsSite p behind = record { inside = frames_inside; exit = clean_frame behind; framed = framed; clean = refl } in
      let names : Names = record { all = vs; own = clause_variables c } in
      let first = own_slots names slots [] in
      elim (head_run p o own behind site vs c.head pc q1 slots inside count (stands_front p own behind pc head (conditions ++ body) stands) refl) [
        | inr h ↦ inr (record {
          never = clause-unmatched c o (never-matches (clause_variables c) first c.head o refl (free_first names slots (clause_variables c)) h.never);
          slots = h.slots_then;
          comes = h.comes;
          count = h.count;
        })
        | inl h ↦
            let bindings = own_slots names h.slots_then (pattern_variables c.head) in
            let s = substitution_of (clause_variables c) bindings in
            let match : Matches c.head s o = slots-match (clause_variables c) first bindings c.head o refl (length-map (clause_variables c) (seen_at names h.slots_then (pattern_variables c.head))) h.binds in
            let shown = seen_shown names h.slots_then (pattern_variables c.head) (clause_variables c) in
            elim (condition_run p o own behind site h.slots_then (site_of vs c Condition) refl s match.domain shown c.conditions q1 q2 sound.conditions (stands_front p own behind q1 conditions body back) refl) [
              | inl k ↦
                  let ends = body_run p o own behind site h.slots_then (site_of vs c Body) refl s match.domain shown c.body q2 sound.answers sound.body body_stands in
                  let comes = comes_then p o (at pc [] slots) (at q1 [] h.slots_then) _ h.comes k.1 in
                  let run = runs_from p o (at pc [] slots) (at q2 [] h.slots_then) ends.steps (Some ends.answer) comes ends.runs in
                  inl (record { substitution = s; applies = record { head = match; conditions = k.0 }; answer = ends.answer; value = ends.value; steps = run.0; runs = run.1 })
              | inr k ↦ inr (record {
                never = clause-fails c s s o o c.conditions refl refl refl match k.0;
                slots = h.slots_then;
                comes = comes_then p o (at pc [] slots) (at q1 [] h.slots_then) _ h.comes k.1;
                count = h.kept.count;
              })
            ]
      ]

  -- all clauses' variables have slots
  abbrev pub IsInside : Clause → Type 0
  IsInside c = AreAmong (clause_variables c) vs

  abbrev pub AreInside : Specification → Type 0
  AreInside spec = All IsInside spec

  pub clauses_run : (cs : Specification) (pc : ℕ) (slots : Bindings) → All IsSoundClause cs → AreInside cs → length slots ≡ length vs → AreStanding p pc (blocks_of vs cs) → (answer : Option Datum) × (n : ℕ) × Means cs o answer × RunsFrom p o n (Goes (at pc [] slots)) answer
  clauses_run [] pc slots sound inside count stands =
      let ended = runs_to p o (at pc [] slots) (at pc [] slots) None (comes_here p o (at pc [] slots)) (rw stands.0.0.instruction refl) in
      (None, ended.0, refl, ended.1)
  clauses_run (c ∷ cs) pc slots sound inside count stands =
      elim (clause_run c pc (pc + length (clause_block vs c).lines) slots (All-head IsSoundClause c cs sound) (All-head IsInside c cs inside) count stands.0 refl) [
        | inl h ↦ (Some h.answer, h.steps, inl (h.substitution, h.applies, sym h.value), h.runs)
        | inr h ↦
            let rest = clauses_run cs (pc + length (clause_block vs c).lines) h.slots (All-tail IsSoundClause c cs sound) (All-tail IsInside c cs inside) h.count stands.1 in
            let run = runs_from p o (at pc [] slots) (at (pc + length (clause_block vs c).lines) [] h.slots) rest.1 rest.0 h.comes rest.3 in
            (rest.0, run.0, inr (h.never, rest.2), run.1)
      ]

-- for every object, the run of the code ends with what the specification means for it
pub code_runs : CodeRunsAsMeant
unfolding code_of assembled
code_runs spec sound inside o =
    let vs = specification_variables spec in
    let standing = assembled_stands (length vs) (blocks_of vs spec) in
    let run = clauses_run (code_of spec) o vs inside spec 0 (replicate (length vs) None) sound (variables_inside spec) (length-replicate (length vs) None) standing.0 in
    (run.0, run.1, run.2, run_alone (code_of spec) o run.1 run.0 run.3)
