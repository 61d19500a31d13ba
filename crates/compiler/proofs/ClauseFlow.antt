-- The code of clauses is typed.
use Rattle.std.proofs.Common.{◌≡◌, ℕ, suc, ◌+◌, ◌<◌, ◌≤◌, Bool, true, false, ◌||◌, List, [], ◌∷◌, ◌++◌, length, map, drop, replicate, refl, sym, ◌∙◌, ap, subst, arith, inl, inr, Some}
use Rattle.std.specs.Prelude.{IsTrue, All, sum_by}
use Rattle.std.proofs.lemmas.Bool.{cases_eq, ne_eqb}
use Rattle.std.proofs.lemmas.List.{length-append, length-replicate}
use Rattle.std.proofs.lemmas.List.Sums.{sum_by-cons}
use Rattle.std.proofs.lemmas.List.Elements.{All-nil, All-cons, All-head, All-tail}
use Rattle.mcode.specs.Program.{Program, Frame, frame_at}
use Rattle.mcode.specs.declared.instr.Instr.TheVariants as instr
use Rattle.mcode.specs.declared.kind.Kind.{Kind}
use Rattle.mcode.specs.declared.kind.Kind.TheVariants as kind
use Rattle.mspec_syntax.proofs.RankLemmas.{rank-below, among-first, among-rest}
use Rattle.mspec_syntax.specs.Expression.{Expression, expression_nodes}
use Rattle.mspec_syntax.specs.Grammar.{is_among}
use Rattle.mspec_syntax.specs.Mode.Position.{by_itself}
use Rattle.mspec_syntax.specs.Pattern.{Pattern, pattern_variables, pattern_nodes}
use Rattle.mspec_syntax.specs.Pattern.Pattern.{variable, anything, literal, tuple_of, cell_of, map_of}
use Rattle.mspec_syntax.specs.Rising.{rank_of}
use Rattle.mspec_syntax.specs.Sound.{IsSoundExpression, IsSoundClause}
use Rattle.mspec_syntax.specs.Specification.{Clause, clause_variables, clause_nodes}
use Rattle.mspec_syntax.specs.declared.mode.Mode.TheVariants.{Condition, Body}
use Rattle.mspec_syntax.proofs.RisingLemmas.{among-rising}
use Rattle.verifier_types.specs.Shape.{Shape, start_shape, is_bound, frame_kinds, AreBelow}
use Rattle.compiler_assembly.specs.Line.{plain}
use Rattle.compiler_assembly.specs.Stands.{IsAt, Stands}
use Rattle.compiler_assembly.specs.declared.op.Op.TheVariants as op
use Rattle.compiler_assembly.specs.declared.op.Target.TheVariants.{Failing}
use Rattle.compiler_assembly.proofs.StandLemmas.{stands_front, stands_back}
use Rattle.compiler_expressions.specs.Expressions.{Site, lines_at}
use Rattle.compiler_expressions.proofs.EndLemmas.{itself}
use Rattle.compiler_patterns.specs.Patterns.{pattern_lines, head_lines}
use Rattle.compiler_clauses.specs.Clauses.{condition_lines, body_lines, site_of, clause_block}
use Rattle.compiler_clauses.specs.Writable.{AreAmong}
use Rattle.compiler_clauses.proofs.BodyLemmas.{answer_line, clean_frame, body_framed}
use Rattle.compiler_clauses.proofs.VariableLemmas.{head_inside}
use Rattle.compiler.specs.Flow.{IsFit, Flows}
use Rattle.compiler.specs.Marked.{AreMarked, BindsTo}
use Rattle.compiler.specs.Ready.{IsBlock, IsReady, Steps, FlowsTo}
use Rattle.compiler.proofs.ExpressionFlow.{up, expression_flow}
use Rattle.compiler.proofs.FlowLemmas.{AreIntegers, flows_then}
use Rattle.compiler.proofs.PatternFlow.{pattern_flow}
use Rattle.compiler.proofs.ReadyLemmas.{no_lines, lines_then, plain_step, end_fits}
use Rattle.compiler.proofs.StepLemmas.{IsHeld, top_then, test_then, branch_then}

no_integers : AreIntegers [] 0
no_integers = All-nil (λ place. (place.0 < 0) × (place.1 ≡ kind.Int))

module _ (p : Program) (most : ℕ) (frame_slots : List ℕ) (behind : ℕ) (block : IsBlock p frame_slots behind) (w : Site) (marks : (n : ℕ) → is_among w.bound n ≡ true → (bs : List Bool) → IsHeld p most frame_slots behind block bs → IsTrue (is_bound bs (rank_of w.slots n))) where
  abbrev nodes : Expression → ℕ
  nodes e = expression_nodes (length w.bound) e

  sum_more : (e : Expression) (es : List Expression) → sum_by nodes (e ∷ es) ≡ nodes e + sum_by nodes es
  sum_more e es = sum_by-cons nodes e es

  -- the flow of an expression with nothing below its value
  whole_flow : (e : Expression) (pc r : ℕ) (bs : List Bool) → IsSoundExpression w.bound e → IsHeld p most frame_slots behind block bs → nodes e ≤ most → Stands p frame_slots behind pc (lines_at w 0 [] e by_itself) → pc + length (lines_at w 0 [] e by_itself) ≡ r → r ≤ behind → FlowsTo p most frame_slots pc (lines_at w 0 [] e by_itself) (record { kinds = []; bound = bs }) 1 []
  whole_flow e pc r bs sound held room stands end within =
      subst (λ n. FlowsTo p most frame_slots pc (lines_at w 0 [] e by_itself) (record { kinds = []; bound = bs }) (suc (up n 0)) []) (itself e)
      (expression_flow p most frame_slots behind block w marks e by_itself pc r 0 [] [] bs sound no_integers tt held (omega (arith, room)) stands end within)

  condition_flow : w.mode ≡ Condition → (es : List Expression) (pc r : ℕ) (bs : List Bool) → All (IsSoundExpression w.bound) es → IsHeld p most frame_slots behind block bs → sum_by nodes es ≤ most → 0 < most → Stands p frame_slots behind pc (condition_lines w es) → pc + length (condition_lines w es) ≡ r → r ≤ behind → FlowsTo p most frame_slots pc (condition_lines w es) (record { kinds = []; bound = bs }) 0 []
  condition_flow mode [] pc r bs sound held room some stands end within =
      no_lines p most frame_slots behind block pc (record { kinds = []; bound = bs }) 0 [] (record { kinds = tt; count = held.0; bound = held.1 })
  condition_flow mode (e ∷ es) pc r bs sound held room some stands end within =
      let front = lines_at w 0 [] e by_itself in
      let others = condition_lines w es in
      let rest = plain (op.Bool Failing) ∷ plain (op.Branch Failing) ∷ others in
      let q = pc + length front in
      let back = stands_back p frame_slots behind pc front rest stands in
      let over : suc (suc q) + length others ≤ behind = omega (arith, end, within, length-append front rest) in
      lines_then p most frame_slots behind block pc front rest (record { kinds = []; bound = bs }) 1 0 [] []
      (whole_flow e pc q bs (All-head (IsSoundExpression w.bound) e es sound) held (omega (arith, room, sum_more e es)) (stands_front p frame_slots behind pc front rest stands) refl (omega (arith, over)))
      (top_then p most frame_slots behind block 0 [] q rest 0 []
      (λ k base bs' below held'.
      test_then p most frame_slots behind block Condition q q 0 0 [] (instr.Bool behind) (plain (op.Bool Failing)) (plain (op.Branch Failing) ∷ others) kind.Bool k [] base bs' 0 [] back.0.instruction back.0.frame refl refl refl refl tt refl refl refl (λ s. refl) (omega (arith, over)) tt (omega arith) below held' (omega (arith, some))
      (branch_then p most frame_slots behind block (suc q) behind (plain (op.Branch Failing)) others base bs' 0 [] 0 [] back.1.0.instruction back.1.0.frame (end_fits p most frame_slots behind block (suc q) base bs' (omega (arith, over))) below (omega (arith, some))
      (nothing_below base bs' below (condition_flow mode es (suc (suc q)) (suc (suc q) + length others) bs' (All-tail (IsSoundExpression w.bound) e es sound) held' (omega (arith, room, sum_more e es)) some back.1.1 refl over)))))
    where
      nothing_below : (base : List Kind) (bs' : List Bool) → AreBelow base [] → FlowsTo p most frame_slots (suc (suc (pc + length (lines_at w 0 [] e by_itself)))) (condition_lines w es) (record { kinds = []; bound = bs' }) 0 [] → FlowsTo p most frame_slots (suc (suc (pc + length (lines_at w 0 [] e by_itself)))) (condition_lines w es) (record { kinds = base; bound = bs' }) 0 []
      nothing_below [] bs' below flow = flow
      nothing_below (k ∷ ks) bs' below flow = absurd below

  -- the answer instruction, after which nothing is known
  answer_step : (q : ℕ) (s : Shape) → IsAt p frame_slots behind q answer_line → IsReady p frame_slots s 1 [] → 1 ≤ most → Steps p most q s (start_shape p)
  answer_step q s h ready some = (
    instr.Answer,
    h.instruction,
    record { target = tt; constant = tt; operands = one_there s.kinds ready.kinds; kinds = refl; slot = refl; depth = fewer s.kinds ready.kinds; jump = tt },
    rw h.frame (refl, tt),
  )
    where
      one_there : (ks : List Kind) → AreBelow ks (frame_kinds [] 1) → 1 ≤ length ks
      one_there [] h = absurd h
      one_there (k ∷ ks) h = omega arith

      fewer : (ks : List Kind) → AreBelow ks (frame_kinds [] 1) → length (drop 1 ks) ≤ most
      fewer [] h = absurd h
      fewer (k ∷ []) h = omega arith
      fewer (k ∷ l ∷ ks) h = absurd h.1

  body_flow : (es : List Expression) (pc r : ℕ) (bs : List Bool) → 0 < length es → All (IsSoundExpression w.bound) es → IsHeld p most frame_slots behind block bs → sum_by nodes es ≤ most → 0 < most → Stands p frame_slots behind pc (body_lines w es) → pc + length (body_lines w es) ≡ r → r ≤ behind → Flows p most pc (record { kinds = []; bound = bs }) (length (body_lines w es)) (start_shape p)
  body_flow [] pc r bs some sound held room more stands end within = absurd (omega (arith, some))
  body_flow (e ∷ f ∷ es) pc r bs some sound held room more stands end within =
      body_flow (f ∷ es) pc r bs (omega arith) (All-tail (IsSoundExpression w.bound) e (f ∷ es) sound) held (omega (arith, room, sum_more e (f ∷ es))) more stands end within
  body_flow (e ∷ []) pc r bs some sound held room more stands end within =
      let front = lines_at w 0 [] e by_itself in
      let q = pc + length front in
      let back = stands_back p frame_slots behind pc front (answer_line ∷ []) stands in
      let count : length front + 1 ≡ length (front ++ answer_line ∷ []) = sym (length-append front (answer_line ∷ [])) in
      let flow = whole_flow e pc q bs (All-head (IsSoundExpression w.bound) e [] sound) held (omega (arith, room, sum_more e [])) (stands_front p frame_slots behind pc front (answer_line ∷ []) stands) refl (omega (arith, end, within, count)) in
      let step = answer_step q flow.state back.0 flow.ready (omega (arith, more)) in
      subst (λ n. Flows p most pc (record { kinds = []; bound = bs }) n (start_shape p)) count
      (flows_then p most (length front) 1 pc (record { kinds = []; bound = bs }) flow.state (start_shape p) flow.flows (step.0, step.1, step.2, (start_shape p, step.3, refl)))

-- ---- heads and clauses

module _ (p : Program) (most : ℕ) (vs : List ℕ) (slots_are : p.slots ≡ length vs) (frames_inside : (n : ℕ) (f : Frame) → frame_at p.frames n ≡ Some f → n < length p.instructions) where
  unmarked : AreMarked p vs (replicate p.slots false) []
  unmarked = record { count = length-replicate p.slots false; held = λ n h. absurd (no_one n h) }
    where
      no_one : (n : ℕ) → is_among [] n ≡ true → ⊥
      no_one n h = absurd (cc)

  module _ (frame_slots : List ℕ) (behind : ℕ) (block : IsBlock p frame_slots behind) where
    loaded_flow : (q : Pattern) (pc r : ℕ) → ((m : ℕ) → is_among (pattern_variables q) m ≡ true → is_among vs m ≡ true) → 1 + pattern_nodes q ≤ most → Stands p frame_slots behind pc (plain op.Load ∷ pattern_lines vs [] q) → pc + length (plain op.Load ∷ pattern_lines vs [] q) ≡ r → r ≤ behind → BindsTo p most vs pc (plain op.Load ∷ pattern_lines vs [] q) (start_shape p) [] (pattern_variables q)
    loaded_flow q pc r named room stands end within =
        let flow = pattern_flow p most frame_slots behind block vs slots_are q (suc pc) (suc pc + length (pattern_lines vs [] q)) [] kind.Any [] (replicate p.slots false) named unmarked (omega (arith, room)) stands.1 refl (omega (arith, end, within)) in
        let fit : IsFit p most pc instr.Load (start_shape p) = record { target = tt; constant = tt; operands = omega arith; kinds = refl; slot = refl; depth = omega (arith, room); jump = tt } in
        let step = plain_step p most frame_slots behind block pc instr.Load (start_shape p) stands.0.instruction stands.0.frame refl fit in
        record { bound = flow.bound; flows = (step.0, step.1, step.2, (record { kinds = kind.Any ∷ []; bound = replicate p.slots false }, step.3, flow.flows)); marked = flow.marked }

    head_flow : (q : Pattern) (pc r : ℕ) → ((m : ℕ) → is_among (pattern_variables q) m ≡ true → is_among vs m ≡ true) → 1 + pattern_nodes q ≤ most → Stands p frame_slots behind pc (head_lines vs q) → pc + length (head_lines vs q) ≡ r → r ≤ behind → BindsTo p most vs pc (head_lines vs q) (start_shape p) [] (pattern_variables q)
    head_flow anything pc r named room stands end within = record { bound = replicate p.slots false; flows = refl; marked = unmarked }
    head_flow (variable n) pc r named room stands end within = loaded_flow (variable n) pc r named room stands end within
    head_flow (literal d) pc r named room stands end within = loaded_flow (literal d) pc r named room stands end within
    head_flow (tuple_of ps) pc r named room stands end within = loaded_flow (tuple_of ps) pc r named room stands end within
    head_flow (cell_of x y) pc r named room stands end within = loaded_flow (cell_of x y) pc r named room stands end within
    head_flow (map_of fs) pc r named room stands end within = loaded_flow (map_of fs) pc r named room stands end within

  -- the slots of a clause's variables are bound if they are marked
  marked_held : (bs : List Bool) (ns : List ℕ) → ((n : ℕ) → is_among ns n ≡ true → IsTrue (is_bound bs (rank_of vs n))) → All (λ slot. IsTrue (is_bound bs slot)) (map (rank_of vs) ns)
  marked_held bs [] h = All-nil (λ slot. IsTrue (is_bound bs slot))
  marked_held bs (n ∷ ns) h = All-cons (λ slot. IsTrue (is_bound bs slot)) (rank_of vs n) (map (rank_of vs) ns) (h n (among-first n ns)) (marked_held bs ns (λ m e. h m (among-rest n ns m e)))

  held_marked : (bs : List Bool) (ns : List ℕ) → All (λ slot. IsTrue (is_bound bs slot)) (map (rank_of vs) ns) → (n : ℕ) → is_among ns n ≡ true → IsTrue (is_bound bs (rank_of vs n))
  held_marked bs [] h n e = absurd (cc)
  held_marked bs (m ∷ ns) h n e =
      elim (cases_eq m n) [
        | inl z ↦ subst (λ k. IsTrue (is_bound bs (rank_of vs k))) z (All-head (λ slot. IsTrue (is_bound bs slot)) (rank_of vs m) (map (rank_of vs) ns) h)
        | inr z ↦ held_marked bs ns (All-tail (λ slot. IsTrue (is_bound bs slot)) (rank_of vs m) (map (rank_of vs) ns) h) n (sym (ap (λ b. b || is_among ns n) (ne_eqb m n z)) ∙ e)
      ]

  slots_inside : (ns : List ℕ) → ((n : ℕ) → is_among ns n ≡ true → is_among vs n ≡ true) → All (λ slot. slot < p.slots) (map (rank_of vs) ns)
  slots_inside [] h = All-nil (λ slot. slot < p.slots)
  slots_inside (n ∷ ns) h = All-cons (λ slot. slot < p.slots) (rank_of vs n) (map (rank_of vs) ns) (omega (arith, rank-below vs n (h n (among-first n ns)), slots_are)) (slots_inside ns (λ m e. h m (among-rest n ns m e)))

  abbrev pub IsNamed : Clause → Type 0
  IsNamed c = AreAmong (clause_variables c) vs

  pub clause_flow : (c : Clause) (pc behind : ℕ) → IsSoundClause c → IsNamed c → clause_nodes c ≤ most → Stands p (clause_block vs c).slots behind pc (clause_block vs c).lines → pc + length (clause_block vs c).lines ≡ behind → Flows p most pc (start_shape p) (length (clause_block vs c).lines) (start_shape p)
  clause_flow c pc behind sound named room stands end =
      let own = (clause_block vs c).slots in
      let head = head_lines vs c.head in
      let conditions = condition_lines (site_of vs c Condition) c.conditions in
      let body = body_lines (site_of vs c Body) c.body in
      let q1 = pc + length head in
      let q2 = q1 + length conditions in
      let back = stands_back p own behind pc head (conditions ++ body) stands in
      let body_stands = stands_back p own behind q1 conditions body back in
      let there : q2 + length body ≡ behind = omega (arith, end, length-append head (conditions ++ body), length-append conditions body) in
      let framed = subst (λ n. frame_at p.frames n ≡ Some (clean_frame n)) there (body_framed p own behind (site_of vs c Body) c.body q2 sound.answers body_stands) in
      let block : IsBlock p own behind = record { inside = frames_inside; slots = slots_inside (clause_variables c) named; framed = framed } in
      let among = head_inside vs c named in
      let first = head_flow own behind block c.head pc q1 among (omega (arith, room)) (stands_front p own behind pc head (conditions ++ body) stands) refl (omega (arith, there)) in
      let held : IsHeld p most own behind block first.bound = (first.marked.count, marked_held first.bound (clause_variables c) (λ n e. first.marked.held n (sym (among-rising (pattern_variables c.head) n) ∙ e))) in
      let marks = λ (n : ℕ) (e : is_among (clause_variables c) n ≡ true) (bs : List Bool) (h : IsHeld p most own behind block bs). held_marked bs (clause_variables c) h.1 n e in
      let second = condition_flow p most own behind block (site_of vs c Condition) marks refl c.conditions q1 q2 first.bound sound.conditions held (omega (arith, room)) (omega (arith, room)) (stands_front p own behind q1 conditions body back) refl (omega (arith, there)) in
      let empty = no_kinds second.state.kinds second.ready.kinds in
      let held2 : IsHeld p most own behind block second.state.bound = (second.ready.count, second.ready.bound) in
      let third = body_flow p most own behind block (site_of vs c Body) marks c.body q2 behind second.state.bound sound.answers sound.body held2 (omega (arith, room)) (omega (arith, room)) body_stands there (omega arith) in
      let third' = subst (λ ks. Flows p most q2 (record { kinds = ks; bound = second.state.bound }) (length body) (start_shape p)) (sym empty) third in
      let both = flows_then p most (length conditions) (length body) q1 (record { kinds = []; bound = first.bound }) second.state (start_shape p) second.flows third' in
      let all = flows_then p most (length head) (length conditions + length body) pc (start_shape p) (record { kinds = []; bound = first.bound }) (start_shape p) first.flows both in
      let count : length head + (length conditions + length body) ≡ length (head ++ (conditions ++ body)) = omega (arith, length-append head (conditions ++ body), length-append conditions body) in
      subst (λ n. Flows p most pc (start_shape p) n (start_shape p)) count all
    where
      no_kinds : (ks : List Kind) → AreBelow ks [] → ks ≡ []
      no_kinds [] h = refl
      no_kinds (k ∷ ks) h = absurd h
