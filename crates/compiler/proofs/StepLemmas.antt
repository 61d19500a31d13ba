-- Instructions of expressions are typed.
use Rattle.std.proofs.Common.{◌≡◌, ℕ, zero, suc, ◌+◌, ◌<◌, ◌≤◌, Bool, true, false, List, [], ◌∷◌, ◌++◌, length, drop, slice_get, refl, sym, ◌∙◌, ap, subst, arith, Some, None}
use Rattle.std.specs.Prelude.{IsTrue, IfSome, All}
use Rattle.std.proofs.Math.Seq.{drop-append_seam}
use Rattle.std.proofs.lemmas.Option.{slice_get_within}
use Rattle.std.proofs.lemmas.List.{length-append}
use Rattle.term_core.specs.Datum.{Datum}
use Rattle.mcode.specs.Instr.{target_of}
use Rattle.mcode.specs.Program.{Program, frame_at}
use Rattle.mcode.specs.declared.instr.Instr.{Instr}
use Rattle.mcode.specs.declared.instr.Instr.TheVariants as instr
use Rattle.mcode.specs.declared.kind.Kind.{Kind}
use Rattle.mcode.specs.declared.kind.Kind.TheVariants as kind
use Rattle.mspec_syntax.specs.Mode.{exit_term}
use Rattle.mspec_syntax.specs.declared.mode.Mode.{Mode}
use Rattle.mspec_syntax.specs.declared.mode.Mode.TheVariants.{Condition, Body}
use Rattle.verifier_types.specs.Effect.{needs, IsConstantFit, kinds_fit, slot_fits, pushed_kinds, left_bound, top_stays, falling_shape, left_shape, jump_shape}
use Rattle.verifier_types.specs.Shape.{Shape, place_kind, frame_kinds, is_bound, AreBelow, IsCutBelow}
use Rattle.verifier_types.specs.Fit.{IsTarget}
use Rattle.compiler_assembly.specs.Assembled.{resolved}
use Rattle.compiler_assembly.specs.Line.{SourceLine, plain, before_label}
use Rattle.compiler_assembly.specs.Stands.{IsAt, Stands}
use Rattle.compiler_assembly.specs.declared.op.Op.TheVariants as op
use Rattle.compiler_assembly.specs.declared.op.Target.TheVariants.{Ahead}
use Rattle.compiler_expressions.specs.Expressions.{failure, exit_lines, cell_lines}
use Rattle.compiler.specs.Flow.{IsFit}
use Rattle.compiler.specs.Ready.{IsBlock, IsReady, Steps, FlowsTo}
use Rattle.compiler.proofs.FlowLemmas.{below_any, below_length, frame_length, AreIntegers, kind_outside}
use Rattle.compiler.proofs.ReadyLemmas.{label_frame, line_then, no_lines, label_ready, plain_step, label_step, last_step, label_fits, fail_fits}

-- the kinds are split into n above and the others below
record IsSplit (n deep : ℕ) (integers : List (ℕ × Kind)) (ks : List Kind) : Type 0 where
  above : List Kind
  base : List Kind
  is : ks ≡ above ++ base
  count : length above ≡ n
  below : AreBelow base (frame_kinds integers deep)

split_below : (n m deep : ℕ) (integers : List (ℕ × Kind)) (ks : List Kind) → m ≡ n + deep → AreBelow ks (frame_kinds integers m) → IsSplit n deep integers ks
split_below zero m deep integers ks e h =
    let same : m ≡ deep = omega (arith, e) in
    record { above = []; base = ks; is = refl; count = refl; below = subst (λ k. AreBelow ks (frame_kinds integers k)) same h }
split_below (suc n) zero deep integers ks e h = absurd (omega (arith, e))
split_below (suc n) (suc m) deep integers [] e h = absurd h
split_below (suc n) (suc m) deep integers (k ∷ ks) e h =
    let rest = split_below n m deep integers ks (omega (arith, e)) h.1 in
    record { above = k ∷ rest.above; base = rest.base; is = ap (λ l. k ∷ l) rest.is; count = ap suc rest.count; below = rest.below }

module _ (p : Program) (most : ℕ) (frame_slots : List ℕ) (behind : ℕ) (block : IsBlock p frame_slots behind) where
  abbrev pub IsHeld : List Bool → Type 0
  IsHeld bs = (length bs ≡ p.slots) × All (λ slot. IsTrue (is_bound bs slot)) frame_slots

  -- a state with n places above those that are ready
  pub many_then : (n deep : ℕ) (integers : List (ℕ × Kind)) (pc : ℕ) (ls : List SourceLine) (deep' : ℕ) (integers' : List (ℕ × Kind)) → ((above base : List Kind) (bs : List Bool) → length above ≡ n → AreBelow base (frame_kinds integers deep) → IsHeld bs → FlowsTo p most frame_slots pc ls (record { kinds = above ++ base; bound = bs }) deep' integers') → (t : Shape) (m : ℕ) → m ≡ n + deep → IsReady p frame_slots t m integers → FlowsTo p most frame_slots pc ls t deep' integers'
  many_then n deep integers pc ls deep' integers' rest t m e ready =
      let split = split_below n m deep integers t.kinds e ready.kinds in
      subst (λ ks. FlowsTo p most frame_slots pc ls (record { kinds = ks; bound = t.bound }) deep' integers') (sym split.is)
      (rest split.above split.base t.bound split.count split.below (ready.count, ready.bound))

  -- one more place of any kind is ready
  pub more_ready : (k : Kind) (base : List Kind) (bs : List Bool) (deep : ℕ) (integers : List (ℕ × Kind)) → AreIntegers integers deep → AreBelow base (frame_kinds integers deep) → IsHeld bs → IsReady p frame_slots (record { kinds = k ∷ base; bound = bs }) (suc deep) integers
  more_ready k base bs deep integers ints below held =
      let any : place_kind integers deep ≡ kind.Any = kind_outside integers deep deep ints (omega arith) in
      record { kinds = (rw any (below_any k), below); count = held.0; bound = held.1 }

  base_length : (base : List Kind) (deep : ℕ) (integers : List (ℕ × Kind)) → AreBelow base (frame_kinds integers deep) → length base ≡ deep
  base_length base deep integers below = below_length base (frame_kinds integers deep) below ∙ frame_length integers deep

  -- ---- what is pushed

  pub const_then : (pc : ℕ) (d : Datum) (ls : List SourceLine) (base : List Kind) (bs : List Bool) (deep : ℕ) (integers : List (ℕ × Kind)) (deep' : ℕ) (integers' : List (ℕ × Kind)) → IsAt p frame_slots behind pc (plain (op.Const d)) → AreIntegers integers deep → AreBelow base (frame_kinds integers deep) → IsHeld bs → suc deep ≤ most → ((t : Shape) → IsReady p frame_slots t (suc deep) integers → FlowsTo p most frame_slots (suc pc) ls t deep' integers') → FlowsTo p most frame_slots pc (plain (op.Const d) ∷ ls) (record { kinds = base; bound = bs }) deep' integers'
  const_then pc d ls base bs deep integers deep' integers' h ints below held room rest =
      let count = base_length base deep integers below in
      let s : Shape = record { kinds = base; bound = bs } in
      let fit : IsFit p most pc _ s = record { target = tt; constant = slice_get_within p.constants _ d h.constant; operands = omega arith; kinds = refl; slot = refl; depth = omega (arith, count, room); jump = tt } in
      line_then p most frame_slots behind block pc (plain (op.Const d)) ls s _ deep' integers' (plain_step p most frame_slots behind block pc _ s h.instruction h.frame refl fit)
      (rest _ (more_ready _ base bs deep integers ints below held))

  pub load_then : (pc : ℕ) (ls : List SourceLine) (base : List Kind) (bs : List Bool) (deep : ℕ) (integers : List (ℕ × Kind)) (deep' : ℕ) (integers' : List (ℕ × Kind)) → IsAt p frame_slots behind pc (plain op.Load) → AreIntegers integers deep → AreBelow base (frame_kinds integers deep) → IsHeld bs → suc deep ≤ most → ((t : Shape) → IsReady p frame_slots t (suc deep) integers → FlowsTo p most frame_slots (suc pc) ls t deep' integers') → FlowsTo p most frame_slots pc (plain op.Load ∷ ls) (record { kinds = base; bound = bs }) deep' integers'
  load_then pc ls base bs deep integers deep' integers' h ints below held room rest =
      let count = base_length base deep integers below in
      let s : Shape = record { kinds = base; bound = bs } in
      let fit : IsFit p most pc instr.Load s = record { target = tt; constant = tt; operands = omega arith; kinds = refl; slot = refl; depth = omega (arith, count, room); jump = tt } in
      line_then p most frame_slots behind block pc (plain op.Load) ls s _ deep' integers' (plain_step p most frame_slots behind block pc instr.Load s h.instruction h.frame refl fit)
      (rest _ (more_ready kind.Any base bs deep integers ints below held))

  pub get_then : (pc v : ℕ) (ls : List SourceLine) (base : List Kind) (bs : List Bool) (deep : ℕ) (integers : List (ℕ × Kind)) (deep' : ℕ) (integers' : List (ℕ × Kind)) → IsAt p frame_slots behind pc (plain (op.Get v)) → IsTrue (is_bound bs v) → AreIntegers integers deep → AreBelow base (frame_kinds integers deep) → IsHeld bs → suc deep ≤ most → ((t : Shape) → IsReady p frame_slots t (suc deep) integers → FlowsTo p most frame_slots (suc pc) ls t deep' integers') → FlowsTo p most frame_slots pc (plain (op.Get v) ∷ ls) (record { kinds = base; bound = bs }) deep' integers'
  get_then pc v ls base bs deep integers deep' integers' h marked ints below held room rest =
      let count = base_length base deep integers below in
      let s : Shape = record { kinds = base; bound = bs } in
      let fit : IsFit p most pc (instr.Get v) s = record { target = tt; constant = tt; operands = omega arith; kinds = refl; slot = marked; depth = omega (arith, count, room); jump = tt } in
      line_then p most frame_slots behind block pc (plain (op.Get v)) ls s _ deep' integers' (plain_step p most frame_slots behind block pc (instr.Get v) s h.instruction h.frame refl fit)
      (rest _ (more_ready kind.Any base bs deep integers ints below held))

  -- ---- jumps over lines, and constants before labels

  pub jump_then : (pc n deep deep1 : ℕ) (integers : List (ℕ × Kind)) (ls : List SourceLine) (ks : List Kind) (bs : List Bool) (deep' : ℕ) (integers' : List (ℕ × Kind)) → IsAt p frame_slots behind pc (before_label (op.Jump (Ahead n)) deep integers) → frame_at p.frames (suc pc + n) ≡ Some (label_frame (suc pc + n) deep1 integers frame_slots) → AreBelow ks (frame_kinds integers deep1) → IsHeld bs → deep1 ≤ most → ((t : Shape) → IsReady p frame_slots t deep integers → FlowsTo p most frame_slots (suc pc) ls t deep' integers') → FlowsTo p most frame_slots pc (before_label (op.Jump (Ahead n)) deep integers ∷ ls) (record { kinds = ks; bound = bs }) deep' integers'
  jump_then pc n deep deep1 integers ls ks bs deep' integers' h framed below held room rest =
      let count = base_length ks deep1 integers below in
      let s : Shape = record { kinds = ks; bound = bs } in
      let ahead : pc < suc pc + n = omega arith in
      let fits = label_fits p most frame_slots behind block pc (suc pc + n) deep1 integers [] ks bs framed ahead below held.1 in
      let fit : IsFit p most pc (instr.Jump (suc pc + n)) s = record { target = fits.0; constant = tt; operands = omega arith; kinds = refl; slot = refl; depth = omega (arith, count, room); jump = fits.1 } in
      line_then p most frame_slots behind block pc (before_label (op.Jump (Ahead n)) deep integers) ls s _ deep' integers' (last_step p most frame_slots behind block pc deep integers (instr.Jump (suc pc + n)) s h.instruction h.frame refl fit)
      (rest _ (label_ready p most frame_slots behind block (suc pc) deep integers))

  pub const_label : (pc : ℕ) (d : Datum) (deep : ℕ) (integers : List (ℕ × Kind)) (base : List Kind) (bs : List Bool) → IsAt p frame_slots behind pc (before_label (op.Const d) (suc deep) integers) → AreIntegers integers deep → AreBelow base (frame_kinds integers deep) → IsHeld bs → suc deep ≤ most → FlowsTo p most frame_slots pc (before_label (op.Const d) (suc deep) integers ∷ []) (record { kinds = base; bound = bs }) (suc deep) integers
  const_label pc d deep integers base bs h ints below held room =
      let count = base_length base deep integers below in
      let s : Shape = record { kinds = base; bound = bs } in
      let fit : IsFit p most pc _ s = record { target = tt; constant = slice_get_within p.constants _ d h.constant; operands = omega arith; kinds = refl; slot = refl; depth = omega (arith, count, room); jump = tt } in
      line_then p most frame_slots behind block pc (before_label (op.Const d) (suc deep) integers) [] s _ (suc deep) integers
      (label_step p most frame_slots behind block pc (suc deep) integers _ s h.instruction h.frame refl fit (more_ready _ base bs deep integers ints below held))
      (no_lines p most frame_slots behind block (suc pc) _ (suc deep) integers (label_ready p most frame_slots behind block (suc pc) (suc deep) integers))

  -- the flow of the last lines of an expression of which one may fail
  pub exit_flow : (mode : Mode) (e deep : ℕ) (integers : List (ℕ × Kind)) (k : Kind) (base : List Kind) (bs : List Bool) → Stands p frame_slots behind e (exit_lines mode deep integers) → AreIntegers integers deep → AreBelow base (frame_kinds integers deep) → IsHeld bs → suc deep ≤ most → FlowsTo p most frame_slots e (exit_lines mode deep integers) (record { kinds = k ∷ base; bound = bs }) (suc deep) integers
  exit_flow Condition e deep integers k base bs stands ints below held room =
      no_lines p most frame_slots behind block e (record { kinds = k ∷ base; bound = bs }) (suc deep) integers (more_ready k base bs deep integers ints below held)
  exit_flow Body e deep integers k base bs stands ints below held room =
      let there : suc (suc e) ≡ suc e + 1 = omega arith in
      let framed = subst (λ n. frame_at p.frames n ≡ Some (label_frame n (suc deep) integers frame_slots)) there stands.1.0.frame in
      jump_then e 1 deep (suc deep) integers (before_label (op.Const exit_term) (suc deep) integers ∷ []) (k ∷ base) bs (suc deep) integers stands.0 framed (more_ready k base bs deep integers ints below held).kinds held room
      (λ t ready. const_label (suc e) exit_term deep integers t.kinds t.bound stands.1.0 ints ready.kinds (ready.count, ready.bound) room)

  -- ---- operands that are consumed

  -- an instruction that takes n places, may fail, and pushes one
  made_step : (mode : Mode) (q e n far deep : ℕ) (integers : List (ℕ × Kind)) (i : Instr) (k : Kind) (above base : List Kind) (bs : List Bool) → slice_get p.instructions q ≡ Some i → frame_at p.frames (suc q) ≡ None → needs p i ≡ n → target_of i ≡ Some (resolved behind q (failure mode far)) → pushed_kinds p i (above ++ base) ≡ k ∷ [] → left_bound i bs ≡ bs → IsConstantFit p i → IsTrue (kinds_fit i (above ++ base)) → IsTrue (slot_fits p i bs) → top_stays i ≡ false → ((s : Shape) → falling_shape p i s ≡ Some (left_shape p i s)) → length above ≡ n → q < behind → Stands p frame_slots behind e (exit_lines mode deep integers) → suc q + far ≡ suc e → AreBelow base (frame_kinds integers deep) → IsHeld bs → suc deep ≤ most → Steps p most q (record { kinds = above ++ base; bound = bs }) (record { kinds = k ∷ base; bound = bs })
  made_step mode q e n far deep integers i k above base bs h none takes target pushes keeps constant fits slot stays on count within exit there below held room =
      let s : Shape = record { kinds = above ++ base; bound = bs } in
      let size = base_length base deep integers below in
      let rest : drop (needs p i) (above ++ base) ≡ base = ap (λ m. drop m (above ++ base)) (takes ∙ sym count) ∙ drop-append_seam above base in
      let left : left_shape p i s ≡ record { kinds = k ∷ base; bound = bs } = rw pushes (rw rest (rw keeps refl)) in
      let ways = fail_fits p most frame_slots behind block mode deep integers q e far [] base bs exit there within below held.1 in
      let jumps : jump_shape p i s ≡ record { kinds = base; bound = bs } = rw stays (rw rest refl) in
      let fit : IsFit p most q i s = record {
        target = rw target ways.0;
        constant = constant;
        operands = rw takes (omega (arith, length-append above base, count));
        kinds = fits;
        slot = slot;
        depth = subst (λ x. length x.kinds ≤ most) (sym left) (omega (arith, size, room));
        jump = rw target (subst (λ x. IfSome (frame_at p.frames (resolved behind q (failure mode far))) (λ f. IsCutBelow x f)) (sym jumps) ways.1);
      } in
      subst (λ x. Steps p most q s x) left (plain_step p most frame_slots behind block q i s h none (on s) fit)

  -- an instruction that takes n places, may fail, and pushes one, followed by the last lines of the expression
  pub made_then : (mode : Mode) (q n deep : ℕ) (integers : List (ℕ × Kind)) (i : Instr) (l : SourceLine) (k : Kind) (above base : List Kind) (bs : List Bool) → slice_get p.instructions q ≡ Some i → frame_at p.frames (suc q) ≡ None → needs p i ≡ n → target_of i ≡ Some (resolved behind q (failure mode 1)) → pushed_kinds p i (above ++ base) ≡ k ∷ [] → left_bound i bs ≡ bs → IsConstantFit p i → IsTrue (kinds_fit i (above ++ base)) → IsTrue (slot_fits p i bs) → top_stays i ≡ false → ((s : Shape) → falling_shape p i s ≡ Some (left_shape p i s)) → length above ≡ n → q < behind → Stands p frame_slots behind (suc q) (exit_lines mode deep integers) → AreIntegers integers deep → AreBelow base (frame_kinds integers deep) → IsHeld bs → suc deep ≤ most → FlowsTo p most frame_slots q (l ∷ exit_lines mode deep integers) (record { kinds = above ++ base; bound = bs }) (suc deep) integers
  made_then mode q n deep integers i l k above base bs h none takes target pushes keeps constant fits slot stays on count within exit ints below held room =
      line_then p most frame_slots behind block q l (exit_lines mode deep integers) (record { kinds = above ++ base; bound = bs }) (record { kinds = k ∷ base; bound = bs }) (suc deep) integers
      (made_step mode q (suc q) n 1 deep integers i k above base bs h none takes target pushes keeps constant fits slot stays on count within exit (omega arith) below held room)
      (exit_flow mode (suc q) deep integers k base bs exit ints below held room)

  -- an instruction that takes n places, may fail, and pushes one, with nothing after it
  pub made_alone : (mode : Mode) (q n deep : ℕ) (integers : List (ℕ × Kind)) (i : Instr) (l : SourceLine) (k : Kind) (above base : List Kind) (bs : List Bool) → slice_get p.instructions q ≡ Some i → frame_at p.frames (suc q) ≡ None → needs p i ≡ n → target_of i ≡ Some (resolved behind q (failure mode 1)) → pushed_kinds p i (above ++ base) ≡ k ∷ [] → left_bound i bs ≡ bs → IsConstantFit p i → IsTrue (kinds_fit i (above ++ base)) → IsTrue (slot_fits p i bs) → top_stays i ≡ false → ((s : Shape) → falling_shape p i s ≡ Some (left_shape p i s)) → length above ≡ n → q < behind → Stands p frame_slots behind (suc q) (exit_lines mode deep integers) → AreIntegers integers deep → AreBelow base (frame_kinds integers deep) → IsHeld bs → suc deep ≤ most → FlowsTo p most frame_slots q (l ∷ []) (record { kinds = above ++ base; bound = bs }) (suc deep) integers
  made_alone mode q n deep integers i l k above base bs h none takes target pushes keeps constant fits slot stays on count within exit ints below held room =
      line_then p most frame_slots behind block q l [] (record { kinds = above ++ base; bound = bs }) (record { kinds = k ∷ base; bound = bs }) (suc deep) integers
      (made_step mode q (suc q) n 1 deep integers i k above base bs h none takes target pushes keeps constant fits slot stays on count within exit (omega arith) below held room)
      (no_lines p most frame_slots behind block (suc q) (record { kinds = k ∷ base; bound = bs }) (suc deep) integers (more_ready k base bs deep integers ints below held))

  -- a test that a place is of a kind
  pub test_then : (mode : Mode) (q e n deep : ℕ) (integers : List (ℕ × Kind)) (i : Instr) (l : SourceLine) (ls : List SourceLine) (k : Kind) (top : Kind) (above base : List Kind) (bs : List Bool) (deep' : ℕ) (integers' : List (ℕ × Kind)) → slice_get p.instructions q ≡ Some i → frame_at p.frames (suc q) ≡ None → needs p i ≡ 1 → target_of i ≡ Some (resolved behind q (failure mode n)) → pushed_kinds p i (top ∷ (above ++ base)) ≡ k ∷ [] → left_bound i bs ≡ bs → IsConstantFit p i → IsTrue (kinds_fit i (top ∷ (above ++ base))) → IsTrue (slot_fits p i bs) → top_stays i ≡ true → ((s : Shape) → falling_shape p i s ≡ Some (left_shape p i s)) → q < behind → Stands p frame_slots behind e (exit_lines mode deep integers) → suc q + n ≡ suc e → AreBelow base (frame_kinds integers deep) → IsHeld bs → suc (length above + deep) ≤ most → FlowsTo p most frame_slots (suc q) ls (record { kinds = k ∷ (above ++ base); bound = bs }) deep' integers' → FlowsTo p most frame_slots q (l ∷ ls) (record { kinds = top ∷ (above ++ base); bound = bs }) deep' integers'
  test_then mode q e n deep integers i l ls k top above base bs deep' integers' h none takes target pushes keeps constant fits slot stays on within exit far below held room rest =
      let s : Shape = record { kinds = top ∷ (above ++ base); bound = bs } in
      let size = base_length base deep integers below in
      let left : left_shape p i s ≡ record { kinds = k ∷ (above ++ base); bound = bs } = rw pushes (rw takes (rw keeps refl)) in
      let ways = fail_fits p most frame_slots behind block mode deep integers q e n (top ∷ above) base bs exit far within below held.1 in
      let jumps : jump_shape p i s ≡ record { kinds = top ∷ (above ++ base); bound = bs } = rw stays refl in
      let fit : IsFit p most q i s = record {
        target = rw target ways.0;
        constant = constant;
        operands = rw takes (omega arith);
        kinds = fits;
        slot = slot;
        depth = subst (λ x. length x.kinds ≤ most) (sym left) (omega (arith, length-append above base, size, room));
        jump = rw target (subst (λ x. IfSome (frame_at p.frames (resolved behind q (failure mode n))) (λ f. IsCutBelow x f)) (sym jumps) ways.1);
      } in
      line_then p most frame_slots behind block q l ls s (record { kinds = k ∷ (above ++ base); bound = bs }) deep' integers'
      (subst (λ x. Steps p most q s x) left (plain_step p most frame_slots behind block q i s h none (on s) fit)) rest

  -- ---- one and two places above those that are ready

  pub top_then : (deep : ℕ) (integers : List (ℕ × Kind)) (pc : ℕ) (ls : List SourceLine) (deep' : ℕ) (integers' : List (ℕ × Kind)) → ((k : Kind) (base : List Kind) (bs : List Bool) → AreBelow base (frame_kinds integers deep) → IsHeld bs → FlowsTo p most frame_slots pc ls (record { kinds = k ∷ base; bound = bs }) deep' integers') → (t : Shape) → IsReady p frame_slots t (suc deep) integers → FlowsTo p most frame_slots pc ls t deep' integers'
  top_then deep integers pc ls deep' integers' rest t ready =
      many_then 1 deep integers pc ls deep' integers' (λ above base bs count below held. one above base bs count below held) t (suc deep) (omega arith) ready
    where
      one : (above base : List Kind) (bs : List Bool) → length above ≡ 1 → AreBelow base (frame_kinds integers deep) → IsHeld bs → FlowsTo p most frame_slots pc ls (record { kinds = above ++ base; bound = bs }) deep' integers'
      one [] base bs count below held = absurd (omega (arith, count))
      one (k ∷ []) base bs count below held = rest k base bs below held
      one (k ∷ l ∷ above) base bs count below held = absurd (omega (arith, count))

  -- a branch that a truth value decides
  pub branch_then : (q target : ℕ) (l : SourceLine) (ls : List SourceLine) (base : List Kind) (bs : List Bool) (deep : ℕ) (integers : List (ℕ × Kind)) (deep' : ℕ) (integers' : List (ℕ × Kind)) → slice_get p.instructions q ≡ Some (instr.Branch target) → frame_at p.frames (suc q) ≡ None → IsTarget p q target × IfSome (frame_at p.frames target) (λ f. IsCutBelow (record { kinds = base; bound = bs }) f) → AreBelow base (frame_kinds integers deep) → deep ≤ most → FlowsTo p most frame_slots (suc q) ls (record { kinds = base; bound = bs }) deep' integers' → FlowsTo p most frame_slots q (l ∷ ls) (record { kinds = kind.Bool ∷ base; bound = bs }) deep' integers'
  branch_then q target l ls base bs deep integers deep' integers' h none ways below room rest =
      let s : Shape = record { kinds = kind.Bool ∷ base; bound = bs } in
      let size = base_length base deep integers below in
      let fit : IsFit p most q (instr.Branch target) s = record { target = ways.0; constant = tt; operands = omega arith; kinds = refl; slot = refl; depth = omega (arith, size, room); jump = ways.1 } in
      line_then p most frame_slots behind block q l ls s (record { kinds = base; bound = bs }) deep' integers'
      (plain_step p most frame_slots behind block q (instr.Branch target) s h none refl fit) rest

  -- the flow of n cells, of n elements and a tail
  pub cells_flow : (mode : Mode) (n q e deep : ℕ) (integers : List (ℕ × Kind)) (above base : List Kind) (bs : List Bool) → length above ≡ suc n → Stands p frame_slots behind q (cell_lines mode n) → q + n ≡ e → e ≤ behind → Stands p frame_slots behind e (exit_lines mode deep integers) → AreIntegers integers deep → AreBelow base (frame_kinds integers deep) → IsHeld bs → suc n + deep ≤ most → FlowsTo p most frame_slots q (cell_lines mode n ++ exit_lines mode deep integers) (record { kinds = above ++ base; bound = bs }) (suc deep) integers
  cells_flow mode n q e deep integers [] base bs count stands there within exit ints below held room = absurd (omega (arith, count))
  cells_flow mode zero q e deep integers (k ∷ l ∷ above) base bs count stands there within exit ints below held room = absurd (omega (arith, count))
  cells_flow mode zero q e deep integers (k ∷ []) base bs count stands there within exit ints below held room =
      let here : e ≡ q = omega (arith, there) in
      let more : suc deep ≤ most = omega (arith, room) in
      subst (λ m. FlowsTo p most frame_slots m (exit_lines mode deep integers) (record { kinds = k ∷ base; bound = bs }) (suc deep) integers) here
      (exit_flow mode e deep integers k base bs exit ints below held more)
  cells_flow mode (suc n) q e deep integers (k ∷ []) base bs count stands there within exit ints below held room = absurd (omega (arith, count))
  cells_flow mode (suc n) q e deep integers (k ∷ l ∷ above) base bs count stands there within exit ints below held room =
      let s : Shape = record { kinds = k ∷ l ∷ (above ++ base); bound = bs } in
      let size = base_length base deep integers below in
      let far : suc q + suc n ≡ suc e = omega (arith, there) in
      let before : q < behind = omega (arith, there, within) in
      let ways = fail_fits p most frame_slots behind block mode deep integers q e (suc n) above base bs exit far before below held.1 in
      let many : length above ≡ n = omega (arith, count) in
      let fit : IsFit p most q _ s = record { target = ways.0; constant = tt; operands = omega arith; kinds = refl; slot = refl; depth = omega (arith, length-append above base, size, many, room); jump = ways.1 } in
      line_then p most frame_slots behind block q _ (cell_lines mode n ++ exit_lines mode deep integers) s (record { kinds = kind.Cons ∷ (above ++ base); bound = bs }) (suc deep) integers
      (plain_step p most frame_slots behind block q _ s stands.0.instruction stands.0.frame refl fit)
      (cells_flow mode n (suc q) e deep integers (kind.Cons ∷ above) base bs (omega (arith, many)) stands.1 (omega (arith, there)) within exit ints below held (omega (arith, room)))
