-- Code while it is assembled: what a line adds, and what is refused.
use Rattle.std.specs.Prelude.{ℕ, suc, ◌≡◌, ◌+◌, ◌<◌, ◌≤◌, ◌⊎◌, cond, Bool, true, false, Option, Some, None, List, [], ◌∷◌, ◌++◌, length, All}
use Rattle.std.proofs.Common.{arith, get_or, reverse, refl, sym, ap, subst, ◌∙◌, inl, inr}
use Rattle.std.proofs.lemmas.List.{reverse-append, append_assoc, append-nil, length-append, get_or_append_left}
use Rattle.term_operand.specs.Order.{is_same}
use Rattle.term_core.specs.Datum.{Datum}
use Rattle.mcode.specs.Building.{empty_program, finished, with_constant, with_instruction, IsFrameTooMany, IsNextFrame, IsPartRefused}
use Rattle.mcode.specs.Program.{Program, Around, Frame, Rise, IsFrame, AreFrames, frame_number, most_parts, most_slots}
use Rattle.mcode.specs.declared.fault.Fault.{Fault}
use Rattle.mcode.specs.declared.fault.Fault.TheVariants.{Memory, Limit, FrameOrder}
use Rattle.mcode.specs.declared.instr.Instr.{Instr}
use Rattle.compiler_assembly.specs.Assembled.{assembled, with_term, with_named, constant_of, constants_from, block_constants, instr_of, frame_of, with_label, line_instructions, block_instructions, line_frames, block_frames, IsTargetInRange, IsCode}
use Rattle.compiler_assembly.specs.Assembling.{with_lines, with_blocks, with_labelled, IsLabelTooMuch, IsLineAdded, IsLineTooMuch, IsBlockTooMuch}
use Rattle.compiler_assembly.specs.Line.{SourceLabel, SourceLine, Block}
use Rattle.compiler_assembly.specs.Pool.{IsFront}

-- ---- constants only grow at their end

pub front_self : (cs : List Datum) → IsFront cs cs
front_self cs = record { rest = []; all = sym (append-nil cs) }

pub front_trans : (cs ds es : List Datum) → IsFront cs ds → IsFront ds es → IsFront cs es
front_trans cs ds es f g = record {
  rest = f.rest ++ g.rest;
  all = g.all ∙ ap (λ xs. xs ++ g.rest) f.all ∙ append_assoc cs f.rest g.rest;
}

term_front : (cs : List Datum) (d : Datum) → IsFront cs (with_term cs d)
term_front [] d = record { rest = d ∷ []; all = refl }
term_front (c ∷ cs) d = by (is_same c d) (term_front cs d)
  where
    by : (b : Bool) → IsFront cs (with_term cs d) → IsFront (c ∷ cs) (cond b (c ∷ cs) (c ∷ with_term cs d))
    by true f = record { rest = []; all = sym (append-nil (c ∷ cs)) }
    by false f = record { rest = f.rest; all = ap (λ xs. c ∷ xs) f.all }

named_front : (cs : List Datum) (d : Option Datum) → IsFront cs (with_named cs d)
named_front cs None = front_self cs
named_front cs (Some d) = term_front cs d

pub lines_front : (cs : List Datum) (ls : List SourceLine) → IsFront cs (constants_from cs ls)
lines_front cs [] = front_self cs
lines_front cs (l ∷ ls) =
    front_trans cs (with_named cs (constant_of l.op)) (constants_from cs (l ∷ ls)) (named_front cs (constant_of l.op)) (lines_front (with_named cs (constant_of l.op)) ls)

pub blocks_front : (cs : List Datum) (bs : List Block) → IsFront cs (block_constants cs bs)
blocks_front cs [] = front_self cs
blocks_front cs (b ∷ bs) =
    front_trans cs (constants_from cs b.lines) (block_constants cs (b ∷ bs)) (lines_front cs b.lines) (blocks_front (constants_from cs b.lines) bs)

pub later_front : (cs : List Datum) (ls : List SourceLine) (bs : List Block) → IsFront cs (block_constants (constants_from cs ls) bs)
later_front cs ls bs =
    front_trans cs (constants_from cs ls) (block_constants (constants_from cs ls) bs) (lines_front cs ls) (blocks_front (constants_from cs ls) bs)

front_length : (cs ds : List Datum) → IsFront cs ds → length cs ≤ length ds
front_length cs ds f = omega (arith, ap length f.all, length-append cs f.rest)

-- ---- lists with something in their middle

-- programs with equal parts are equal
same_program : (slots : ℕ) (around : Around) {c c' : List Datum} {i i' : List Instr} {f f' : List Frame} → c ≡ c' → i ≡ i' → f ≡ f'
    → Prim.Path Program record { slots = slots; constants = c; instructions = i; frames = f; around = around } record { slots = slots; constants = c'; instructions = i'; frames = f'; around = around }
same_program slots around c i f = λ k. record { slots = slots; constants = c k; instructions = i k; frames = f k; around = around }

at_middle : {X : Type 0} (xs ys : List X) (y d : X) → get_or (xs ++ y ∷ ys) (length xs) d ≡ y
at_middle [] ys y d = refl
at_middle (x ∷ xs) ys y d = at_middle xs ys y d

all_middle : {X : Type 0} (P : X → Type 0) (xs ys : List X) (y : X) → All P (xs ++ y ∷ ys) → P y
all_middle P xs ys y all =
    subst P (at_middle xs ys y y) (all (length xs) y (omega (arith, length-append xs (y ∷ ys))))

rise_before : {X : Type 0} (number : X → ℕ) (xs ys : List X) → Rise number (xs ++ ys) → Rise number xs
rise_before number xs ys up i d inside =
    let below = up i d (omega (arith, inside, length-append xs ys)) in
    let below = rw (get_or_append_left xs ys d i (omega (arith, inside))) at below in
    let below = rw (get_or_append_left xs ys d (i + 1) inside) at below in
    below

-- ---- a line

-- the instruction and label that are added for a line are the line added
pub line_added : (cs : List Datum) (p : Program) (cs' : List Datum) (p' : Program) (slots : List ℕ) (behind pc : ℕ) (l : SourceLine) (i : Instr) → cs' ≡ with_named cs (constant_of l.op)
    → ((all : List Datum) → IsFront cs' all → i ≡ instr_of all behind pc l.op) → p' ≡ with_labelled (with_instruction p i) slots (suc pc) l.label → IsLineAdded cs p cs' p' slots behind pc l
unfolding with_lines
line_added cs p cs' p' slots behind pc l i named here grown ls bs =
    ap (λ q. with_lines cs' q slots behind (suc pc) ls bs) grown ∙ ap (λ ds. with_lines ds (with_labelled (with_instruction p i) slots (suc pc) l.label) slots behind (suc pc) ls bs) named
    ∙ by l.label
  where
    named_cs : List Datum
    named_cs = with_named cs (constant_of l.op)

    all : List Datum
    all = block_constants (constants_from named_cs ls) bs

    same : i ≡ instr_of all behind pc l.op
    same = here all (subst (λ ds. IsFront ds all) (sym named) (later_front named_cs ls bs))

    rest : List Instr
    rest = line_instructions all behind (suc pc) ls ++ block_instructions all behind bs

    instructions : (p.instructions ++ i ∷ []) ++ rest ≡ p.instructions ++ (instr_of all behind pc l.op ∷ rest)
    instructions = append_assoc p.instructions (i ∷ []) rest ∙ ap (λ x. p.instructions ++ (x ∷ rest)) same

    frames : List Frame
    frames = line_frames slots (suc pc) ls ++ block_frames behind bs

    by : (label : Option SourceLabel) → let whole : Program = record { slots = p.slots; constants = p.constants ++ all; instructions = p.instructions ++ (instr_of all behind pc l.op ∷ rest); frames = p.frames ++ (with_label slots (suc pc) label (line_frames slots (suc pc) ls) ++ block_frames behind bs); around = p.around } in
        with_lines named_cs (with_labelled (with_instruction p i) slots (suc pc) label) slots behind (suc pc) ls bs ≡ whole
    by None = same_program p.slots p.around refl instructions refl
    by (Some label) =
        same_program p.slots p.around refl instructions (append_assoc p.frames (frame_of slots (suc pc) label ∷ []) frames)

-- a line that would make too many constants is refused
pub line_constants : (cs : List Datum) (p : Program) (slots : List ℕ) (behind pc : ℕ) (l : SourceLine) → most_parts < length (with_named cs (constant_of l.op)) → IsLineTooMuch cs p slots behind pc l
unfolding with_lines
line_constants cs p slots behind pc l many ls bs code =
    let named = with_named cs (constant_of l.op) in
    let all = block_constants (constants_from named ls) bs in
    omega (arith, many, code.program.constants, length-append p.constants all, front_length named all (later_front named ls bs))

-- a line whose target is out of range is refused
pub line_target : (cs : List Datum) (p : Program) (slots : List ℕ) (behind pc : ℕ) (l : SourceLine) → ((all : List Datum) → ¬ IsTargetInRange (instr_of all behind pc l.op)) → IsLineTooMuch cs p slots behind pc l
unfolding with_lines
line_target cs p slots behind pc l far ls bs code =
    let all = block_constants (constants_from cs (l ∷ ls)) bs in
    let rest = line_instructions all behind (suc pc) ls ++ block_instructions all behind bs in
    far all (all_middle IsTargetInRange p.instructions rest (instr_of all behind pc l.op) code.targets)

-- a line that would make too many instructions is refused
pub line_instruction : (cs : List Datum) (p : Program) (slots : List ℕ) (behind pc : ℕ) (l : SourceLine) → most_parts ≤ length p.instructions → IsLineTooMuch cs p slots behind pc l
unfolding with_lines
line_instruction cs p slots behind pc l many ls bs code =
    let all = block_constants (constants_from cs (l ∷ ls)) bs in
    let rest = line_instructions all behind (suc pc) ls ++ block_instructions all behind bs in
    omega (arith, many, code.program.instructions, length-append p.instructions (instr_of all behind pc l.op ∷ rest))

-- a frame that can't follow those before is either one too many or not the next
frame_out : (fs : List Frame) (f : Frame) (rest : List Frame) → length (fs ++ f ∷ rest) ≤ most_parts → AreFrames (fs ++ f ∷ rest) → IsFrameTooMany fs f ⊎ (¬ IsNextFrame fs f) → ⊥
frame_out fs f rest few are out =
    let here = all_middle IsFrame fs rest f are.each in
    let above = rise_before frame_number (fs ++ f ∷ []) rest (subst (Rise frame_number) (sym (append_assoc fs (f ∷ []) rest)) are.rise) in
    elim out [
      | inl many ↦
          elim many [
            | inl h ↦ absurd (omega (arith, h, few, length-append fs (f ∷ rest)))
            | inr h ↦ absurd (omega (arith, h, here.count))
          ]
      | inr other ↦ other record { above = above; ordered = here.ordered }
    ]

-- a line whose label has a frame that can't follow is refused
pub line_label : (cs : List Datum) (p : Program) (slots : List ℕ) (behind pc : ℕ) (l : SourceLine) (i : Instr) → IsLabelTooMuch (with_instruction p i) slots (suc pc) l.label → IsLineTooMuch cs p slots behind pc l
unfolding with_lines
line_label cs p slots behind pc l i out ls bs code =
    by l.label out code.program.frame_count code.program.frames
  where
    by : (label : Option SourceLabel) → IsLabelTooMuch (with_instruction p i) slots (suc pc) label → length (p.frames ++ (with_label slots (suc pc) label (line_frames slots (suc pc) ls) ++ block_frames behind bs)) ≤ most_parts
        → AreFrames (p.frames ++ (with_label slots (suc pc) label (line_frames slots (suc pc) ls) ++ block_frames behind bs)) → ⊥
    by None out few are = out
    by (Some label) out few are =
        frame_out p.frames (frame_of slots (suc pc) label) (line_frames slots (suc pc) ls ++ block_frames behind bs) few are out

-- why a part is refused: out of memory, or too many of its kind
pub part_refused : (count : ℕ) (fault : Fault) → IsPartRefused count fault → (fault ≡ Memory) ⊎ (most_parts ≤ count)
part_refused count Memory h = inl refl
part_refused count Limit h = inr h
part_refused count FrameOrder h = absurd h

-- ---- a block

-- when no line of a block is left, the following blocks are next
pub lines_end : (cs : List Datum) (p : Program) (slots : List ℕ) (behind : ℕ) (bs : List Block) → with_blocks cs p behind bs ≡ with_lines cs p slots behind behind [] bs
unfolding with_lines with_blocks
lines_end cs p slots behind bs = refl

-- a block begins with its lines
pub lines_begin : (cs : List Datum) (p : Program) (behind pc : ℕ) (b : Block) (bs : List Block) → behind ≡ pc + length b.lines → with_lines cs p b.slots behind pc b.lines bs ≡ with_blocks cs p pc (b ∷ bs)
unfolding with_lines with_blocks
lines_begin cs p behind pc b bs is = ap (λ n. with_lines cs p b.slots n pc b.lines bs) is

-- there are as many instructions as lines
pub line_count : (cs : List Datum) (behind pc : ℕ) (ls : List SourceLine) → length (line_instructions cs behind pc ls) ≡ length ls
line_count cs behind pc [] = refl
line_count cs behind pc (l ∷ ls) = ap suc (line_count cs behind (suc pc) ls)

-- a block that would make too many instructions is refused
pub block_lines : (cs : List Datum) (p : Program) (pc : ℕ) (b : Block) → pc ≡ length p.instructions → most_parts < pc + length b.lines → IsBlockTooMuch cs p pc b
unfolding with_blocks
block_lines cs p pc b here many bs code =
    let all = block_constants cs (b ∷ bs) in
    let behind = pc + length b.lines in
    let lines = line_instructions all behind pc b.lines in
    let rest = block_instructions all behind bs in
    omega (arith, here, many, code.program.instructions, length-append p.instructions (lines ++ rest), length-append lines rest, line_count all behind pc b.lines)

-- when no line is left, the block is at its end
pub lines_done : (cs : List Datum) (p : Program) (slots : List ℕ) (behind pc : ℕ) (ls : List SourceLine) (bs : List Block) → ls ≡ [] → pc + length ls ≡ behind → with_blocks cs p behind bs ≡ with_lines cs p slots behind pc ls bs
lines_done cs p slots behind pc ls bs over fits =
    let here : behind ≡ pc = omega (arith, fits, ap length over) in
    lines_end cs p slots behind bs ∙ ap (λ n. with_lines cs p slots behind n [] bs) here ∙ ap (λ xs. with_lines cs p slots behind pc xs bs) (sym over)

-- ---- the end

-- the last is the first of the list reversed
pub last_first : {X : Type 0} (xs ys : List X) (x : X) → xs ≡ ys ++ x ∷ [] → reverse xs ≡ x ∷ reverse ys
last_first xs ys x is = ap reverse is ∙ reverse-append ys (x ∷ [])

-- if a list has no elements, neither has its reverse
pub none_left : {X : Type 0} (xs : List X) (n : ℕ) → n ≡ length xs → n ≡ 0 → reverse xs ≡ []
none_left [] n is over = refl
none_left (x ∷ xs) n is over = absurd (omega (arith, is, over))

-- a program that is equal to one that isn't code isn't code
pub no_code : {p q : Program} → p ≡ q → ¬ IsCode p → ¬ IsCode q
no_code {p = p} {q = q} same out code = out (subst IsCode (sym same) code)

-- finishing assembled code doesn't change it
pub finished_assembled : (slots : ℕ) (bs : List Block) → finished (assembled slots bs) ≡ assembled slots bs
unfolding assembled
finished_assembled slots bs = refl

-- if nothing is left, the code so far is the code
pub nothing_left : (p : Program) → p ≡ with_blocks [] p 0 []
unfolding with_blocks
nothing_left p =
    same_program p.slots p.around (sym (append-nil p.constants)) (sym (append-nil p.instructions)) (sym (append-nil p.frames))

-- one more constant is appended
pub constant_moved : (d : Datum) (ds : List Datum) (p : Program) → with_blocks ds (with_constant p d) 0 [] ≡ with_blocks (d ∷ ds) p 0 []
unfolding with_blocks
constant_moved d ds p = same_program p.slots p.around (append_assoc p.constants (d ∷ []) ds) refl refl

-- too many constants make no code
pub constant_out : (d : Datum) (ds : List Datum) (p : Program) → most_parts ≤ length p.constants → ¬ IsCode (with_blocks (d ∷ ds) p 0 [])
unfolding with_blocks
constant_out d ds p many code =
    omega (arith, many, code.program.constants, length-append p.constants (d ∷ ds))

-- if no blocks are left, the number of the next instruction doesn't matter
pub last_number : (cs : List Datum) (p : Program) (n : ℕ) → with_blocks cs p 0 [] ≡ with_blocks cs p n []
unfolding with_blocks
last_number cs p n = refl

-- the code that is assembled from nothing is the whole code
pub whole_is : (cs : List Datum) (p : Program) (slots : ℕ) (bs : List Block) → cs ≡ [] → p ≡ empty_program slots → with_blocks cs p 0 bs ≡ assembled slots bs
unfolding with_blocks assembled
whole_is cs p slots bs none empty = ap (λ q. with_blocks cs q 0 bs) empty ∙ ap (λ ds. with_blocks ds (empty_program slots) 0 bs) none

-- too many slots make no code
pub slots_out : (slots : ℕ) (bs : List Block) → most_slots < slots → ¬ IsCode (assembled slots bs)
unfolding assembled
slots_out slots bs many code = omega (arith, many, code.program.slots)
