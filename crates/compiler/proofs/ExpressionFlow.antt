-- The code of an expression is typed.
use Rattle.std.proofs.Common.{◌≡◌, ℕ, zero, suc, ◌+◌, ◌<◌, ◌≤◌, Bool, true, List, [], ◌∷◌, ◌++◌, length, map, slice_get, refl, ap, subst, arith, Some}
use Rattle.std.specs.Prelude.{IsTrue, unwrap_or}
use Rattle.std.specs.Option.{option_map, option_and_then}
use Rattle.std.proofs.lemmas.Bool.{eqb-true}
use Rattle.std.proofs.lemmas.List.{length-append, length-map}
use Rattle.term_core.specs.Datum.{cells}
use Rattle.term_core.specs.Datum.Datum.{nil}
use Rattle.term_operand.specs.Operand.{boolean}
use Rattle.prims_table.specs.declared.prim.Primitive.TheVariants as prim
use Rattle.mcode.specs.Machine.{map_keys}
use Rattle.mcode.specs.Program.{Program, frame_at}
use Rattle.mcode.specs.declared.kind.Kind.{Kind}
use Rattle.mcode.specs.declared.kind.Kind.TheVariants as kind
use Rattle.mspec_syntax.specs.Expression.{Expression, Expressions, Assignments, expression_count, assignment_keys, expression_nodes, expressions_nodes, assignments_nodes, rest_nodes}
use Rattle.mspec_syntax.specs.Expression.Expression.{bound, object, bindings, constant, quoted, call, and_also, or_else, new_tuple, new_cell, new_map}
use Rattle.mspec_syntax.specs.Expression.Expressions.{no_expressions, expression}
use Rattle.mspec_syntax.specs.Expression.Assignments.{no_assignments, assignment}
use Rattle.mspec_syntax.specs.Grammar.{is_among}
use Rattle.mspec_syntax.specs.Mode.{Position}
use Rattle.mspec_syntax.specs.Mode.Position.{by_itself, as_tail}
use Rattle.mspec_syntax.specs.Rising.{rank_of}
use Rattle.mspec_syntax.specs.Sound.{IsSoundExpression, AreSoundExpressions, AreSoundAssignments}
use Rattle.mspec_syntax.specs.declared.mode.Mode.{Mode}
use Rattle.mspec_syntax.proofs.RankLemmas.{among-first, among-rest}
use Rattle.verifier_types.specs.Shape.{Shape, frame_kinds, is_bound, AreBelow}
use Rattle.compiler_assembly.specs.Line.{SourceLine, plain, before_label}
use Rattle.compiler_assembly.specs.Stands.{Stands}
use Rattle.compiler_assembly.specs.declared.op.Op.TheVariants as op
use Rattle.compiler_assembly.specs.declared.op.Target.TheVariants.{Ahead}
use Rattle.compiler_assembly.proofs.StandLemmas.{stands_front, stands_back}
use Rattle.compiler_expressions.specs.Expressions.{Site, failure, exit_lines, cell_lines, cell_count, bindings_lines, all_true_lines, lines_at, argument_lines, value_lines, test_lines, choice_lines}
use Rattle.compiler_expressions.proofs.EndLemmas.{count_at, itself, tail_count, choice_exit, choice_framed}
use Rattle.compiler_expressions.proofs.ListedLemmas.{keys_listed}
use Rattle.compiler_clauses.proofs.NodeLemmas.{nodes_at, some_nodes, parts_room}
use Rattle.compiler.specs.Ready.{IsBlock, IsReady, FlowsTo}
use Rattle.compiler.proofs.ArithmeticFlow.{first_flow, second_flow}
use Rattle.compiler.proofs.ChoiceFlow.{all_true_flow, none_true_flow, and_flow, or_flow}
use Rattle.compiler.proofs.FlowLemmas.{AreIntegers, integers_higher, integers_more}
use Rattle.compiler.proofs.ReadyLemmas.{label_frame, no_lines, lines_then}
use Rattle.compiler.proofs.StepLemmas.{IsHeld, many_then, top_then, const_then, load_then, get_then, exit_flow, made_then, cells_flow}

-- the depth plus n
abbrev pub up : ℕ → ℕ → ℕ
up zero deep = deep
up (suc n) deep = up n (suc deep)

pub up_is : (n deep : ℕ) → up n deep ≡ n + deep
up_is zero deep = omega arith
up_is (suc n) deep = omega (arith, up_is n (suc deep))

-- a list has no more elements in its tail than nodes
tail_nodes : (v : ℕ) (f : Expression) → cell_count f ≤ rest_nodes v f
tail_nodes v (new_cell e f) = omega (arith, some_nodes v e, tail_nodes v f)
tail_nodes v (bound n) = omega arith
tail_nodes v object = omega arith
tail_nodes v bindings = omega arith
tail_nodes v (constant d) = omega arith
tail_nodes v (quoted d) = omega arith
tail_nodes v (call f es) = omega arith
tail_nodes v (and_also es) = omega arith
tail_nodes v (or_else es) = omega arith
tail_nodes v (new_tuple es) = omega arith
tail_nodes v (new_map ms) = omega arith

one_node : (v deep most : ℕ) (e : Expression) (position : Position) → 0 < expression_nodes v e → deep + nodes_at v e position ≤ most → suc deep ≤ most
one_node v deep most e by_itself some room = omega (arith, some, room)
one_node v deep most e as_tail some room = omega (arith, some, room)

abbrev get_lines : List ℕ → List ℕ → List SourceLine
get_lines vs ns = map (λ n. plain (op.Get (rank_of vs n))) ns

cell_length : (mode : Mode) (n : ℕ) → length (cell_lines mode n) ≡ n
cell_length mode zero = refl
cell_length mode (suc n) = ap suc (cell_length mode n)

module _ (p : Program) (most : ℕ) (frame_slots : List ℕ) (behind : ℕ) (block : IsBlock p frame_slots behind) (w : Site) (marks : (n : ℕ) → is_among w.bound n ≡ true → (bs : List Bool) → IsHeld p most frame_slots behind block bs → IsTrue (is_bound bs (rank_of w.slots n))) where
  abbrev v : ℕ
  v = length w.bound

  gets_flow : (ns : List ℕ) (pc deep : ℕ) (integers : List (ℕ × Kind)) (base : List Kind) (bs : List Bool) → ((n : ℕ) → is_among ns n ≡ true → is_among w.bound n ≡ true) → AreIntegers integers deep → AreBelow base (frame_kinds integers deep) → IsHeld p most frame_slots behind block bs → deep + length ns ≤ most → Stands p frame_slots behind pc (get_lines w.slots ns) → FlowsTo p most frame_slots pc (get_lines w.slots ns) (record { kinds = base; bound = bs }) (up (length ns) deep) integers
  gets_flow [] pc deep integers base bs inside ints below held room stands = no_lines p most frame_slots behind block pc (record { kinds = base; bound = bs }) deep integers (record { kinds = below; count = held.0; bound = held.1 })
  gets_flow (n ∷ ns) pc deep integers base bs inside ints below held room stands =
      let mine = marks n (inside n (among-first n ns)) bs held in
      get_then p most frame_slots behind block pc (rank_of w.slots n) (get_lines w.slots ns) base bs deep integers (up (length ns) (suc deep)) integers stands.0 mine ints below held (omega (arith, room))
      (λ t ready. gets_flow ns (suc pc) (suc deep) integers t.kinds t.bound (λ m h. inside m (among-rest n ns m h)) (integers_higher integers deep (suc deep) (omega arith) ints) ready.kinds (ready.count, ready.bound) (omega (arith, room)) stands.1)

  bindings_flow : (pc r deep : ℕ) (integers : List (ℕ × Kind)) (base : List Kind) (bs : List Bool) (ns : List ℕ) → ((n : ℕ) → is_among ns n ≡ true → is_among w.bound n ≡ true) → AreIntegers integers deep → AreBelow base (frame_kinds integers deep) → IsHeld p most frame_slots behind block bs → deep + suc (length ns) ≤ most → Stands p frame_slots behind pc (bindings_lines w deep integers ns) → pc + length (bindings_lines w deep integers ns) ≡ r → r ≤ behind → FlowsTo p most frame_slots pc (bindings_lines w deep integers ns) (record { kinds = base; bound = bs }) (suc deep) integers
  bindings_flow pc r deep integers base bs [] inside ints below held room stands end within =
      const_then p most frame_slots behind block pc nil [] base bs deep integers (suc deep) integers stands.0 ints below held (omega (arith, room))
      (λ t ready. no_lines p most frame_slots behind block (suc pc) t (suc deep) integers ready)
  bindings_flow pc r deep integers base bs (n ∷ ns) inside ints below held room stands end within =
      let all = n ∷ ns in
      let gets = get_lines w.slots all in
      let cell = cell_lines w.mode (length all) in
      let exit = exit_lines w.mode deep integers in
      let rest = plain (op.Const nil) ∷ (cell ++ exit) in
      let many : length gets ≡ length all = length-map all (λ n. plain (op.Get (rank_of w.slots n))) in
      let cells_many : length cell ≡ length all = cell_length w.mode (length all) in
      let back = stands_back p frame_slots behind pc gets rest stands in
      let q = pc + length gets in
      let exits = subst (λ m. Stands p frame_slots behind (suc q + m) exit) cells_many (stands_back p frame_slots behind (suc q) cell exit back.1) in
      let before : suc q + length all ≤ behind = omega (arith, end, within, length-append gets rest, length-append cell exit, cells_many) in
      let count : up (length all) deep ≡ length all + deep = up_is (length all) deep in
      lines_then p most frame_slots behind block pc gets rest (record { kinds = base; bound = bs }) (up (length all) deep) (suc deep) integers integers
      (gets_flow all pc deep integers base bs inside ints below held (omega (arith, room)) (stands_front p frame_slots behind pc gets rest stands))
      (λ t ready.
      const_then p most frame_slots behind block q nil (cell ++ exit) t.kinds t.bound (up (length all) deep) integers (suc deep) integers back.0 (integers_higher integers deep (up (length all) deep) (omega (arith, count)) ints) ready.kinds (ready.count, ready.bound) (omega (arith, count, room))
      (λ u ready'. many_then p most frame_slots behind block (suc (length all)) deep integers (suc q) (cell ++ exit) (suc deep) integers
      (λ above base' bs' size below' held'. cells_flow p most frame_slots behind block w.mode (length all) (suc q) (suc q + length all) deep integers above base' bs' size (stands_front p frame_slots behind (suc q) cell exit back.1) refl before exits ints below' held' (omega (arith, room)))
      u (suc (up (length all) deep)) (omega (arith, count)) ready'))

  -- the flow of the cells of a list that isn't itself a tail
  list_flow : (ls : List SourceLine) (n pc r deep : ℕ) (integers : List (ℕ × Kind)) (s : Shape) → AreIntegers integers deep → suc n + suc deep ≤ suc most → Stands p frame_slots behind pc (ls ++ (cell_lines w.mode n ++ exit_lines w.mode deep integers)) → pc + length (ls ++ (cell_lines w.mode n ++ exit_lines w.mode deep integers)) ≡ r → r ≤ behind → FlowsTo p most frame_slots pc ls s (suc (up n deep)) integers → FlowsTo p most frame_slots pc (ls ++ (cell_lines w.mode n ++ exit_lines w.mode deep integers)) s (suc deep) integers
  list_flow ls n pc r deep integers s ints room stands end within flow =
      let cell = cell_lines w.mode n in
      let exit = exit_lines w.mode deep integers in
      let q = pc + length ls in
      let back = stands_back p frame_slots behind pc ls (cell ++ exit) stands in
      let cells_many : length cell ≡ n = cell_length w.mode n in
      let exits = subst (λ m. Stands p frame_slots behind (q + m) exit) cells_many (stands_back p frame_slots behind q cell exit back) in
      let before : q + n ≤ behind = omega (arith, end, within, length-append ls (cell ++ exit), length-append cell exit, cells_many) in
      let count : up n deep ≡ n + deep = up_is n deep in
      lines_then p most frame_slots behind block pc ls (cell ++ exit) s (suc (up n deep)) (suc deep) integers integers flow
      (λ u ready. many_then p most frame_slots behind block (suc n) deep integers q (cell ++ exit) (suc deep) integers
      (λ above base bs size below held. cells_flow p most frame_slots behind block w.mode n q (q + n) deep integers above base bs size (stands_front p frame_slots behind q cell exit back) refl before exits ints below held (omega (arith, room)))
      u (suc (up n deep)) (omega (arith, count)) ready)

  -- the flow of an expression by itself leaves one more place
  by_itself_flow : (e : Expression) (deep pc : ℕ) (ls : List SourceLine) (integers : List (ℕ × Kind)) (base : List Kind) (bs : List Bool) → FlowsTo p most frame_slots pc ls (record { kinds = base; bound = bs }) (suc (up (count_at e by_itself) deep)) integers → FlowsTo p most frame_slots pc ls (record { kinds = base; bound = bs }) (suc deep) integers
  by_itself_flow e deep pc ls integers base bs flow = subst (λ n. FlowsTo p most frame_slots pc ls (record { kinds = base; bound = bs }) (suc (up n deep)) integers) (itself e) flow

  -- the flow of an element and what follows it
  cell_flow : (e f : Expression) (deep pc : ℕ) (integers : List (ℕ × Kind)) (base : List Kind) (bs : List Bool) → FlowsTo p most frame_slots pc (lines_at w deep integers e by_itself) (record { kinds = base; bound = bs }) (suc (up (count_at e by_itself) deep)) integers → ((t : Shape) → IsReady p frame_slots t (suc deep) integers → FlowsTo p most frame_slots (pc + length (lines_at w deep integers e by_itself)) (lines_at w (suc deep) integers f as_tail) t (suc (up (count_at f as_tail) (suc deep))) integers) → FlowsTo p most frame_slots pc (lines_at w deep integers e by_itself ++ lines_at w (suc deep) integers f as_tail) (record { kinds = base; bound = bs }) (suc (up (suc (cell_count f)) deep)) integers
  cell_flow e f deep pc integers base bs head tail =
      let front = lines_at w deep integers e by_itself in
      let rest = lines_at w (suc deep) integers f as_tail in
      lines_then p most frame_slots behind block pc front rest (record { kinds = base; bound = bs }) (suc deep) (suc (up (cell_count f) (suc deep))) integers integers (by_itself_flow e deep pc front integers base bs head)
      (λ t ready. subst (λ n. FlowsTo p most frame_slots (pc + length front) rest t (suc (up n (suc deep))) integers) (tail_count f) (tail t ready))

  mutual
    pub expression_flow : (e : Expression) (position : Position) (pc r deep : ℕ) (integers : List (ℕ × Kind)) (base : List Kind) (bs : List Bool) → IsSoundExpression w.bound e → AreIntegers integers deep → AreBelow base (frame_kinds integers deep) → IsHeld p most frame_slots behind block bs → deep + nodes_at v e position ≤ most → Stands p frame_slots behind pc (lines_at w deep integers e position) → pc + length (lines_at w deep integers e position) ≡ r → r ≤ behind → FlowsTo p most frame_slots pc (lines_at w deep integers e position) (record { kinds = base; bound = bs }) (suc (up (count_at e position) deep)) integers
    expression_flow (bound n) position pc r deep integers base bs sound ints below held room stands end within =
        get_then p most frame_slots behind block pc (rank_of w.slots n) [] base bs deep integers (suc deep) integers stands.0 (marks n sound bs held) ints below held (one_node v deep most (bound n) position (some_nodes v (bound n)) room)
        (λ t ready. no_lines p most frame_slots behind block (suc pc) t (suc deep) integers ready)
    expression_flow object position pc r deep integers base bs sound ints below held room stands end within =
        load_then p most frame_slots behind block pc [] base bs deep integers (suc deep) integers stands.0 ints below held (one_node v deep most object position (some_nodes v object) room)
        (λ t ready. no_lines p most frame_slots behind block (suc pc) t (suc deep) integers ready)
    expression_flow bindings by_itself pc r deep integers base bs sound ints below held room stands end within =
        bindings_flow pc r deep integers base bs w.bound (λ n h. h) ints below held room stands end within
    expression_flow bindings as_tail pc r deep integers base bs sound ints below held room stands end within =
        bindings_flow pc r deep integers base bs w.bound (λ n h. h) ints below held (omega (arith, room)) stands end within
    expression_flow (constant d) position pc r deep integers base bs sound ints below held room stands end within =
        const_then p most frame_slots behind block pc d [] base bs deep integers (suc deep) integers stands.0 ints below held (one_node v deep most (constant d) position (some_nodes v (constant d)) room)
        (λ t ready. no_lines p most frame_slots behind block (suc pc) t (suc deep) integers ready)
    expression_flow (quoted d) position pc r deep integers base bs sound ints below held room stands end within =
        const_then p most frame_slots behind block pc d [] base bs deep integers (suc deep) integers stands.0 ints below held (one_node v deep most (quoted d) position (some_nodes v (quoted d)) room)
        (λ t ready. no_lines p most frame_slots behind block (suc pc) t (suc deep) integers ready)
    expression_flow (call (prim.Function f) es) position pc r deep integers base bs sound ints below held room stands end within =
        let front = argument_lines w deep integers es in
        let exit = exit_lines w.mode deep integers in
        let rest = plain (op.Call f (expression_count es) (failure w.mode 1)) ∷ exit in
        let q = pc + length front in
        let back = stands_back p frame_slots behind pc front rest stands in
        let before : q < behind = omega (arith, end, within, length-append front rest) in
        let more = one_node v deep most (call (prim.Function f) es) position (some_nodes v (call (prim.Function f) es)) room in
        let n = expression_count es in
        let inner : deep + expressions_nodes v es ≤ most = omega (arith, parts_room most v deep (expressions_nodes v es) position (call (prim.Function f) es) refl refl room) in
        lines_then p most frame_slots behind block pc front rest (record { kinds = base; bound = bs }) (up n deep) (suc deep) integers integers
        (argument_flow es pc q deep integers base bs sound.1 ints below held inner (stands_front p frame_slots behind pc front rest stands) refl (omega (arith, before)))
        (λ t ready. many_then p most frame_slots behind block n deep integers q rest (suc deep) integers
        (λ above base' bs' size below' held'. made_then p most frame_slots behind block w.mode q n deep integers _ (plain (op.Call f n (failure w.mode 1))) _ above base' bs' back.0.instruction back.0.frame refl refl refl refl tt sound.0 refl refl (λ s. refl) size before back.1 ints below' held' more)
        t (up n deep) (up_is n deep) ready)
    expression_flow (call (prim.Arithmetic f) no_expressions) position pc r deep integers base bs sound ints below held room stands end within =
        absurd (let no = sound.0 in cc)
    expression_flow (call (prim.Arithmetic f) (expression e no_expressions)) position pc r deep integers base bs sound ints below held room stands end within =
        absurd (let no = sound.0 in cc)
    expression_flow (call (prim.Arithmetic f) (expression e (expression e' (expression e'' es)))) position pc r deep integers base bs sound ints below held room stands end within =
        absurd (let many : suc (suc (suc (expression_count es))) ≡ 2 = eqb-true _ _ sound.0 in omega (arith, many))
    expression_flow (call (prim.Arithmetic f) (expression e (expression e' no_expressions))) position pc r deep integers base bs sound ints below held room stands end within =
        let integers2 = integers ++ (deep, kind.Int) ∷ [] in
        let first = lines_at w deep integers e by_itself in
        let second = lines_at w (suc deep) integers2 e' by_itself in
        let n = length second + 3 in
        let last = plain (op.Int (failure w.mode 2)) ∷ plain (op.Arith f (failure w.mode 1)) ∷ [] in
        let middle = plain (op.Int (failure w.mode n)) ∷ (second ++ last) in
        let exit = exit_lines w.mode deep integers in
        let q1 = pc + length first in
        let q2 = suc q1 + length second in
        let all = stands_front p frame_slots behind pc (first ++ middle) exit stands in
        let exits = stands_back p frame_slots behind pc (first ++ middle) exit stands in
        let behind_first = stands_back p frame_slots behind pc first middle all in
        let behind_second = stands_back p frame_slots behind (suc q1) second last behind_first.1 in
        let there : pc + length (first ++ middle) ≡ suc (suc q2) = omega (arith, length-append first middle, length-append second last) in
        let exits' = subst (λ m. Stands p frame_slots behind m exit) there exits in
        let far : suc q1 + n ≡ suc (suc (suc q2)) = omega arith in
        let before : suc q2 < behind = omega (arith, end, within, there, length-append (first ++ middle) exit) in
        let before1 : q1 < behind = omega (arith, before) in
        let some1 = some_nodes v e in
        let some2 = some_nodes v e' in
        let inner = parts_room most v deep (expressions_nodes v (expression e (expression e' no_expressions))) position (call (prim.Arithmetic f) (expression e (expression e' no_expressions))) refl refl room in
        let more : suc (suc deep) ≤ most = omega (arith, inner, some1, some2) in
        lines_then p most frame_slots behind block pc (first ++ middle) exit (record { kinds = base; bound = bs }) (suc deep) (suc deep) integers integers
        (lines_then p most frame_slots behind block pc first middle (record { kinds = base; bound = bs }) (suc deep) (suc deep) integers integers
        (by_itself_flow e deep pc first integers base bs
        (expression_flow e by_itself pc q1 deep integers base bs sound.1.0 ints below held (omega (arith, inner)) (stands_front p frame_slots behind pc first middle all) refl (omega (arith, before))))
        (first_flow p most frame_slots behind block w.mode deep integers ints f q1 q2 n before exits' more (second ++ last) behind_first.0 far before1
        (λ base1 bs1 below1 held1.
        lines_then p most frame_slots behind block (suc q1) second last (record { kinds = base1; bound = bs1 }) (suc (suc deep)) (suc deep) integers2 integers
        (by_itself_flow e' (suc deep) (suc q1) second integers2 base1 bs1
        (expression_flow e' by_itself (suc q1) q2 (suc deep) integers2 base1 bs1 sound.1.1.0 (integers_more integers deep ints) below1 held1 (omega (arith, inner, some1)) (stands_front p frame_slots behind (suc q1) second last behind_first.1) refl (omega (arith, before))))
        (second_flow p most frame_slots behind block w.mode deep integers ints f q1 q2 n before exits' more behind_second.0 behind_second.1.0))))
        (top_then p most frame_slots behind block deep integers (pc + length (first ++ middle)) exit (suc deep) integers
        (λ k base' bs' below' held'. exit_flow p most frame_slots behind block w.mode (pc + length (first ++ middle)) deep integers k base' bs' exits ints below' held' (omega (arith, more))))
    expression_flow (and_also es) position pc r deep integers base bs sound ints below held room stands end within =
        let tests = test_lines w deep integers es in
        let ending = all_true_lines w.mode deep integers in
        let e = pc + length tests in
        let more = one_node v deep most (and_also es) position (some_nodes v (and_also es)) room in
        let before : e ≤ behind = omega (arith, end, within, length-append tests ending) in
        let inner : deep + expressions_nodes v es ≤ most = omega (arith, parts_room most v deep (expressions_nodes v es) position (and_also es) refl refl room) in
        lines_then p most frame_slots behind block pc tests ending (record { kinds = base; bound = bs }) deep (suc deep) integers integers
        (test_flow es pc e deep integers base bs sound.1 ints below held inner more (stands_front p frame_slots behind pc tests ending stands) refl before (stands_back p frame_slots behind pc tests ending stands))
        (λ t ready. all_true_flow p most frame_slots behind block deep integers ints more w.mode e t.kinds t.bound (stands_back p frame_slots behind pc tests ending stands) ready.kinds (ready.count, ready.bound))
    expression_flow (or_else es) position pc r deep integers base bs sound ints below held room stands end within =
        let more = one_node v deep most (or_else es) position (some_nodes v (or_else es)) room in
        choice_flow es pc r deep integers base bs sound.1 ints below held (omega (arith, parts_room most v deep (expressions_nodes v es) position (or_else es) refl refl room)) more stands end within
    expression_flow (new_tuple es) position pc r deep integers base bs sound ints below held room stands end within =
        let front = argument_lines w deep integers es in
        let exit = exit_lines w.mode deep integers in
        let rest = plain (op.MakeTuple (expression_count es) (failure w.mode 1)) ∷ exit in
        let q = pc + length front in
        let back = stands_back p frame_slots behind pc front rest stands in
        let before : q < behind = omega (arith, end, within, length-append front rest) in
        let more = one_node v deep most (new_tuple es) position (some_nodes v (new_tuple es)) room in
        let n = expression_count es in
        let inner : deep + expressions_nodes v es ≤ most = omega (arith, parts_room most v deep (expressions_nodes v es) position (new_tuple es) refl refl room) in
        lines_then p most frame_slots behind block pc front rest (record { kinds = base; bound = bs }) (up n deep) (suc deep) integers integers
        (argument_flow es pc q deep integers base bs sound ints below held inner (stands_front p frame_slots behind pc front rest stands) refl (omega (arith, before)))
        (λ t ready. many_then p most frame_slots behind block n deep integers q rest (suc deep) integers
        (λ above base' bs' size below' held'. made_then p most frame_slots behind block w.mode q n deep integers _ (plain (op.MakeTuple n (failure w.mode 1))) _ above base' bs' back.0.instruction back.0.frame refl refl refl refl tt refl refl refl (λ s. refl) size before back.1 ints below' held' more)
        t (up n deep) (up_is n deep) ready)
    expression_flow (new_map ms) position pc r deep integers base bs sound ints below held room stands end within =
        let front = value_lines w deep integers ms in
        let keys = assignment_keys ms in
        let exit = exit_lines w.mode deep integers in
        let rest = plain (op.MakeMap (cells keys nil) (failure w.mode 1)) ∷ exit in
        let q = pc + length front in
        let back = stands_back p frame_slots behind pc front rest stands in
        let before : q < behind = omega (arith, end, within, length-append front rest) in
        let more = one_node v deep most (new_map ms) position (some_nodes v (new_map ms)) room in
        let n = length keys in
        let inner : deep + assignments_nodes v ms ≤ most = omega (arith, parts_room most v deep (assignments_nodes v ms) position (new_map ms) refl refl room) in
        let counted : option_map length (option_and_then map_keys (slice_get p.constants _)) ≡ Some n = rw back.0.constant (rw (keys_listed keys sound.0.rising) refl) in
        lines_then p most frame_slots behind block pc front rest (record { kinds = base; bound = bs }) (up n deep) (suc deep) integers integers
        (value_flow ms pc q deep integers base bs sound.1 ints below held inner (stands_front p frame_slots behind pc front rest stands) refl (omega (arith, before)))
        (λ t ready. many_then p most frame_slots behind block n deep integers q rest (suc deep) integers
        (λ above base' bs' size below' held'. made_then p most frame_slots behind block w.mode q n deep integers _ (plain (op.MakeMap (cells keys nil) (failure w.mode 1))) _ above base' bs' back.0.instruction back.0.frame (ap (λ o. unwrap_or o 0) counted) refl refl refl (rw counted refl) refl refl refl (λ s. refl) size before back.1 ints below' held' more)
        t (up n deep) (up_is n deep) ready)
    expression_flow (new_cell e f) by_itself pc r deep integers base bs sound ints below held room stands end within =
        let head = lines_at w deep integers e by_itself in
        let tail = lines_at w (suc deep) integers f as_tail in
        let ls = head ++ tail in
        let n = suc (cell_count f) in
        let some = some_nodes v e in
        let front = stands_front p frame_slots behind pc ls _ stands in
        let q = pc + length head in
        let cell_end = cell_lines w.mode n ++ exit_lines w.mode deep integers in
        let before : q + length tail ≤ behind = omega (arith, end, within, length-append ls cell_end, length-append head tail) in
        list_flow ls n pc r deep integers (record { kinds = base; bound = bs }) ints (omega (arith, room, tail_nodes v f, some)) stands end within
        (cell_flow e f deep pc integers base bs
        (expression_flow e by_itself pc q deep integers base bs sound.0 ints below held (omega (arith, room)) (stands_front p frame_slots behind pc head tail front) refl (omega (arith, before)))
        (λ t ready. expression_flow f as_tail q (q + length tail) (suc deep) integers t.kinds t.bound sound.1 (integers_higher integers deep (suc deep) (omega arith) ints) ready.kinds (ready.count, ready.bound) (omega (arith, room, some)) (stands_back p frame_slots behind pc head tail front) refl before))
    expression_flow (new_cell e f) as_tail pc r deep integers base bs sound ints below held room stands end within =
        let head = lines_at w deep integers e by_itself in
        let tail = lines_at w (suc deep) integers f as_tail in
        let q = pc + length head in
        let some = some_nodes v e in
        let before : q + length tail ≤ behind = omega (arith, end, within, length-append head tail) in
        cell_flow e f deep pc integers base bs
        (expression_flow e by_itself pc q deep integers base bs sound.0 ints below held (omega (arith, room)) (stands_front p frame_slots behind pc head tail stands) refl (omega (arith, before)))
        (λ t ready. expression_flow f as_tail q (q + length tail) (suc deep) integers t.kinds t.bound sound.1 (integers_higher integers deep (suc deep) (omega arith) ints) ready.kinds (ready.count, ready.bound) (omega (arith, room, some)) (stands_back p frame_slots behind pc head tail stands) refl before)

    argument_flow : (es : Expressions) (pc r deep : ℕ) (integers : List (ℕ × Kind)) (base : List Kind) (bs : List Bool) → AreSoundExpressions w.bound es → AreIntegers integers deep → AreBelow base (frame_kinds integers deep) → IsHeld p most frame_slots behind block bs → deep + expressions_nodes v es ≤ most → Stands p frame_slots behind pc (argument_lines w deep integers es) → pc + length (argument_lines w deep integers es) ≡ r → r ≤ behind → FlowsTo p most frame_slots pc (argument_lines w deep integers es) (record { kinds = base; bound = bs }) (up (expression_count es) deep) integers
    argument_flow no_expressions pc r deep integers base bs sound ints below held room stands end within =
        no_lines p most frame_slots behind block pc (record { kinds = base; bound = bs }) deep integers (record { kinds = below; count = held.0; bound = held.1 })
    argument_flow (expression e es) pc r deep integers base bs sound ints below held room stands end within =
        let front = lines_at w deep integers e by_itself in
        let rest = argument_lines w (suc deep) integers es in
        let q = pc + length front in
        let before : q + length rest ≤ behind = omega (arith, end, within, length-append front rest) in
        let some = some_nodes v e in
        lines_then p most frame_slots behind block pc front rest (record { kinds = base; bound = bs }) (suc deep) (up (expression_count es) (suc deep)) integers integers
        (by_itself_flow e deep pc front integers base bs
        (expression_flow e by_itself pc q deep integers base bs sound.0 ints below held (omega (arith, room)) (stands_front p frame_slots behind pc front rest stands) refl (omega (arith, before))))
        (λ t ready. argument_flow es q (q + length rest) (suc deep) integers t.kinds t.bound sound.1 (integers_higher integers deep (suc deep) (omega arith) ints) ready.kinds (ready.count, ready.bound) (omega (arith, room, some)) (stands_back p frame_slots behind pc front rest stands) refl before)

    value_flow : (ms : Assignments) (pc r deep : ℕ) (integers : List (ℕ × Kind)) (base : List Kind) (bs : List Bool) → AreSoundAssignments w.bound ms → AreIntegers integers deep → AreBelow base (frame_kinds integers deep) → IsHeld p most frame_slots behind block bs → deep + assignments_nodes v ms ≤ most → Stands p frame_slots behind pc (value_lines w deep integers ms) → pc + length (value_lines w deep integers ms) ≡ r → r ≤ behind → FlowsTo p most frame_slots pc (value_lines w deep integers ms) (record { kinds = base; bound = bs }) (up (length (assignment_keys ms)) deep) integers
    value_flow no_assignments pc r deep integers base bs sound ints below held room stands end within =
        no_lines p most frame_slots behind block pc (record { kinds = base; bound = bs }) deep integers (record { kinds = below; count = held.0; bound = held.1 })
    value_flow (assignment k e ms) pc r deep integers base bs sound ints below held room stands end within =
        let front = lines_at w deep integers e by_itself in
        let rest = value_lines w (suc deep) integers ms in
        let q = pc + length front in
        let before : q + length rest ≤ behind = omega (arith, end, within, length-append front rest) in
        let some = some_nodes v e in
        lines_then p most frame_slots behind block pc front rest (record { kinds = base; bound = bs }) (suc deep) (up (length (assignment_keys ms)) (suc deep)) integers integers
        (by_itself_flow e deep pc front integers base bs
        (expression_flow e by_itself pc q deep integers base bs sound.1 ints below held (omega (arith, room)) (stands_front p frame_slots behind pc front rest stands) refl (omega (arith, before))))
        (λ t ready. value_flow ms q (q + length rest) (suc deep) integers t.kinds t.bound sound.2 (integers_higher integers deep (suc deep) (omega arith) ints) ready.kinds (ready.count, ready.bound) (omega (arith, room, some)) (stands_back p frame_slots behind pc front rest stands) refl before)

    test_flow : (es : Expressions) (pc e deep : ℕ) (integers : List (ℕ × Kind)) (base : List Kind) (bs : List Bool) → AreSoundExpressions w.bound es → AreIntegers integers deep → AreBelow base (frame_kinds integers deep) → IsHeld p most frame_slots behind block bs → deep + expressions_nodes v es ≤ most → suc deep ≤ most → Stands p frame_slots behind pc (test_lines w deep integers es) → pc + length (test_lines w deep integers es) ≡ e → e ≤ behind → Stands p frame_slots behind e (all_true_lines w.mode deep integers) → FlowsTo p most frame_slots pc (test_lines w deep integers es) (record { kinds = base; bound = bs }) deep integers
    test_flow no_expressions pc e deep integers base bs sound ints below held room more stands there within ending =
        no_lines p most frame_slots behind block pc (record { kinds = base; bound = bs }) deep integers (record { kinds = below; count = held.0; bound = held.1 })
    test_flow (expression x es) pc e deep integers base bs sound ints below held room more stands there within ending =
        let front = lines_at w deep integers x by_itself in
        let others = test_lines w deep integers es in
        let n = length others in
        let rest = plain (op.Bool (failure w.mode (n + 5))) ∷ plain (op.Branch (Ahead (n + 2))) ∷ others in
        let q = pc + length front in
        let back = stands_back p frame_slots behind pc front rest stands in
        let far : suc (suc q) + n ≡ e = omega (arith, there, length-append front rest) in
        let before : q < behind = omega (arith, far, within) in
        lines_then p most frame_slots behind block pc front rest (record { kinds = base; bound = bs }) (suc deep) deep integers integers
        (by_itself_flow x deep pc front integers base bs
        (expression_flow x by_itself pc q deep integers base bs sound.0 ints below held (omega (arith, room)) (stands_front p frame_slots behind pc front rest stands) refl (omega (arith, before))))
        (and_flow p most frame_slots behind block deep integers ints more w.mode q n e others deep back.0 back.1.0 far before ending
        (λ base' bs' below' held'. test_flow es (suc (suc q)) e deep integers base' bs' sound.1 ints below' held' (omega (arith, room)) more back.1.1 far within ending))

    choice_flow : (es : Expressions) (pc r deep : ℕ) (integers : List (ℕ × Kind)) (base : List Kind) (bs : List Bool) → AreSoundExpressions w.bound es → AreIntegers integers deep → AreBelow base (frame_kinds integers deep) → IsHeld p most frame_slots behind block bs → deep + expressions_nodes v es ≤ most → suc deep ≤ most → Stands p frame_slots behind pc (choice_lines w deep integers es) → pc + length (choice_lines w deep integers es) ≡ r → r ≤ behind → FlowsTo p most frame_slots pc (choice_lines w deep integers es) (record { kinds = base; bound = bs }) (suc deep) integers
    choice_flow no_expressions pc r deep integers base bs sound ints below held room more stands end within =
        none_true_flow p most frame_slots behind block deep integers ints more w.mode pc base bs stands below held
    choice_flow (expression x es) pc r deep integers base bs sound ints below held room more stands end within =
        let front = lines_at w deep integers x by_itself in
        let others = choice_lines w deep integers es in
        let n = length others in
        let rest = plain (op.Bool (failure w.mode (n + 2))) ∷ plain (op.Branch (Ahead 2)) ∷ plain (op.Const (boolean true)) ∷ before_label (op.Jump (Ahead n)) deep integers ∷ others in
        let q = pc + length front in
        let c = suc (suc (suc (suc q))) in
        let last = suc (suc (q + n)) in
        let back = stands_back p frame_slots behind pc front rest stands in
        let far : c + n ≡ r = omega (arith, end, length-append front rest) in
        let before : q < behind = omega (arith, far, within) in
        let exit = choice_exit p frame_slots behind w es c last deep integers back.1.1.1.1 (omega arith) in
        let framed = subst (λ m. frame_at p.frames m ≡ Some (label_frame m (suc deep) integers frame_slots)) far (choice_framed p frame_slots behind w es c deep integers back.1.1.1.1) in
        lines_then p most frame_slots behind block pc front rest (record { kinds = base; bound = bs }) (suc deep) (suc deep) integers integers
        (by_itself_flow x deep pc front integers base bs
        (expression_flow x by_itself pc q deep integers base bs sound.0 ints below held (omega (arith, room)) (stands_front p frame_slots behind pc front rest stands) refl (omega (arith, before))))
        (or_flow p most frame_slots behind block deep integers ints more w.mode q n last r others back.0 back.1.0 back.1.1.0 back.1.1.1.0 before exit (omega (arith, far)) far framed
        (λ base' bs' below' held'. choice_flow es c r deep integers base' bs' sound.1 ints below' held' (omega (arith, room)) more back.1.1.1.1 far within))
