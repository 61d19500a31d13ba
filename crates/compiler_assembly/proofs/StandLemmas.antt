-- Assembled code: its lines are where they belong, its frames are ascending, and how many parts it has.
use Rattle.std.specs.Prelude.{ℕ, zero, suc, ◌≡◌, ◌+◌, ◌<◌, ◌≤◌, cond, Bool, true, false, Option, Some, None, option_map, IfSome, List, [], ◌∷◌, ◌++◌, length, slice_get, All}
use Rattle.std.proofs.Common.{arith, refl, sym, ap, subst, ◌∙◌}
use Rattle.std.proofs.lemmas.Bool.{eq-eqb, ne_eqb}
use Rattle.std.proofs.lemmas.List.{length-append}
use Rattle.std.proofs.lemmas.List.Elements.{All-append, All-cons}
use native.Mathlib.Numerals.{unary_clauses}
use Rattle.term_operand.specs.Order.{is_same}
use Rattle.term_core.specs.Datum.{Datum}
use Rattle.mcode.specs.Program.{Program, Frame, alone, Rise, frame_number, frame_at}
use Rattle.mcode.specs.declared.instr.Instr.{Instr}
use Rattle.compiler_assembly.specs.Assembled.{assembled, number_of, with_term, with_named, constant_of, constants_from, block_constants, instr_of, frame_of, with_label, line_instructions, block_instructions, line_frames, block_frames, IsPlain}
use Rattle.compiler_assembly.specs.Labels.{AllLabels, AllBlockLabels}
use Rattle.compiler_assembly.specs.Laws.{AssembledStands}
use Rattle.compiler_assembly.specs.Line.{SourceOp, SourceLabel, SourceLine, Block, line_total}
use Rattle.compiler_assembly.specs.Pool.{place_of, IsFront}
use Rattle.compiler_assembly.specs.Stands.{Stands, AreStanding}
use Rattle.compiler_assembly.specs.declared.line.Label.TheVariants.{Inside, Clean}
use Rattle.compiler_assembly.specs.declared.op.Op.TheVariants as op
use Rattle.compiler_assembly.proofs.AssemblerLemmas.{front_trans, front_self, lines_front, blocks_front, line_count}
use Rattle.compiler_assembly.proofs.PoolLemmas.{place_there, place_number, place_later, place_last, with_place, with_none}

-- ---- parts of lines that are in code

-- the lines before others are in the code
pub stands_front : (p : Program) (slots : List ℕ) (behind pc : ℕ) (a b : List SourceLine) → Stands p slots behind pc (a ++ b) → Stands p slots behind pc a
stands_front p slots behind pc [] b stand = tt
stands_front p slots behind pc (l ∷ a) b stand = (stand.0, stands_front p slots behind (suc pc) a b stand.1)

-- the lines after others are in the code
pub stands_back : (p : Program) (slots : List ℕ) (behind pc : ℕ) (a b : List SourceLine) → Stands p slots behind pc (a ++ b) → Stands p slots behind (pc + length a) b
stands_back p slots behind pc [] b stand =
    let here : pc ≡ pc + 0 = omega arith in
    subst (λ n. Stands p slots behind n b) here stand
stands_back p slots behind pc (l ∷ a) b stand =
    let here : suc pc + length a ≡ pc + suc (length a) = omega arith in
    subst (λ n. Stands p slots behind n b) here (stands_back p slots behind (suc pc) a b stand.1)

-- ---- constants

-- the constant that is named has a position
abbrev IsPlaced : List Datum → Option Datum → Type 0
IsPlaced cs o = IfSome o (λ d. (n : ℕ) × (place_of cs d ≡ Some n))

term_placed : (cs : List Datum) (d : Datum) → (n : ℕ) × (place_of (with_term cs d) d ≡ Some n)
term_placed cs d = by (place_of cs d) refl
  where
    by : (o : Option ℕ) → place_of cs d ≡ o → (n : ℕ) × (place_of (with_term cs d) d ≡ Some n)
    by None new = (length cs, ap (λ es. place_of es d) (with_none cs d new) ∙ place_last cs d new)
    by (Some n) old = (n, ap (λ es. place_of es d) (with_place cs d n old) ∙ old)

named_placed : (cs : List Datum) (o : Option Datum) → IsPlaced (with_named cs o) o
named_placed cs None = tt
named_placed cs (Some d) = term_placed cs d

placed_there : (cs ds : List Datum) (o : Option Datum) → IsFront cs ds → IsPlaced cs o → IfSome o (λ d. slice_get ds (number_of ds d) ≡ Some d)
placed_there cs ds None front placed = tt
placed_there cs ds (Some d) front placed =
    let later = place_later cs ds d placed.0 front placed.1 in
    ap (slice_get ds) (place_number ds d placed.0 later) ∙ place_there ds d placed.0 later

-- ---- frames by their numbers

-- no frame has this number or a lower one
abbrev NoneUpTo : ℕ → List Frame → Type 0
NoneUpTo n fs = (m : ℕ) → m ≤ n → frame_at fs m ≡ None

label_number : (slots : List ℕ) (pc : ℕ) (l : SourceLabel) → (frame_of slots pc l).pc ≡ pc
label_number slots pc (Inside depth integers) = refl
label_number slots pc Clean = refl

-- the frame of a label that comes first is found
first_found : (slots : List ℕ) (pc : ℕ) (l : SourceLabel) (fs : List Frame) → frame_at (frame_of slots pc l ∷ fs) pc ≡ Some (frame_of slots pc l)
first_found slots pc l fs =
    ap (λ b. cond b (Some (frame_of slots pc l)) (frame_at fs pc)) (eq-eqb (frame_of slots pc l).pc pc (label_number slots pc l))

first_passed : (slots : List ℕ) (pc : ℕ) (l : SourceLabel) (fs : List Frame) (n : ℕ) → (pc ≡ n → ⊥) → frame_at (frame_of slots pc l ∷ fs) n ≡ frame_at fs n
first_passed slots pc l fs n other =
    ap (λ b. cond b (Some (frame_of slots pc l)) (frame_at fs n)) (ne_eqb (frame_of slots pc l).pc n (λ same. other (sym (label_number slots pc l) ∙ same)))

-- the frame that is found at a label, and elsewhere
label_found : (slots : List ℕ) (pc : ℕ) (l : Option SourceLabel) (fs gs : List Frame) → NoneUpTo pc (fs ++ gs) → frame_at (with_label slots pc l fs ++ gs) pc ≡ option_map (frame_of slots pc) l
label_found slots pc None fs gs none = none pc (omega arith)
label_found slots pc (Some l) fs gs none = first_found slots pc l (fs ++ gs)

label_passed : (slots : List ℕ) (pc : ℕ) (l : Option SourceLabel) (fs gs : List Frame) (n : ℕ) → (pc ≡ n → ⊥) → frame_at (with_label slots pc l fs ++ gs) n ≡ frame_at (fs ++ gs) n
label_passed slots pc None fs gs n other = refl
label_passed slots pc (Some l) fs gs n other = first_passed slots pc l (fs ++ gs) n other

-- frames of lines have higher numbers than the line where they begin
lines_none : (slots : List ℕ) (pc : ℕ) (ls : List SourceLine) (fs : List Frame) → NoneUpTo (pc + length ls) fs → NoneUpTo pc (line_frames slots pc ls ++ fs)
lines_none slots pc [] fs none m low = none m (omega (arith, low))
lines_none slots pc (l ∷ ls) fs none m low =
    let rest = lines_none slots (suc pc) ls fs (λ k under. none k (omega (arith, under))) in
    label_passed slots (suc pc) l.label (line_frames slots (suc pc) ls) fs m (λ same. absurd (omega (arith, same, low))) ∙ rest m (omega (arith, low))

blocks_none : (pc : ℕ) (bs : List Block) → NoneUpTo pc (block_frames pc bs)
blocks_none pc [] = λ m low. refl
blocks_none pc (b ∷ bs) =
    lines_none b.slots pc b.lines (block_frames (pc + length b.lines) bs) (blocks_none (pc + length b.lines) bs)

-- after lines only the frames after them are found
lines_passed : (slots : List ℕ) (pc : ℕ) (ls : List SourceLine) (fs : List Frame) (n : ℕ) → pc + length ls < n → frame_at (line_frames slots pc ls ++ fs) n ≡ frame_at fs n
lines_passed slots pc [] fs n behind = refl
lines_passed slots pc (l ∷ ls) fs n behind =
    label_passed slots (suc pc) l.label (line_frames slots (suc pc) ls) fs n (λ same. absurd (omega (arith, same, behind)))
    ∙ lines_passed slots (suc pc) ls fs n (omega (arith, behind))

-- ---- the lines are in the code

get_behind : (xs ys : List Instr) (n i k : ℕ) → length xs ≡ n → k ≡ n + i → slice_get (xs ++ ys) k ≡ slice_get ys i
get_behind [] ys n i k long is = let same : k ≡ i = omega (arith, long, is) in ap (slice_get ys) same
get_behind (x ∷ xs) ys n i zero long is = absurd (omega (arith, long, is))
get_behind (x ∷ xs) ys n i (suc k) long is =
    get_behind xs ys (length xs) i k refl (omega (arith, long, is))

lines_stand : (p : Program) (slots : List ℕ) (behind pc : ℕ) (ls : List SourceLine) (cs : List Datum) (is : List Instr) (fs : List Frame) → IsFront (constants_from cs ls) p.constants
    → ((k i : ℕ) → k ≡ pc + i → slice_get p.instructions k ≡ slice_get (line_instructions p.constants behind pc ls ++ is) i)
    → ((n : ℕ) → pc < n → frame_at p.frames n ≡ frame_at (line_frames slots pc ls ++ fs) n) → NoneUpTo (pc + length ls) fs → Stands p slots behind pc ls
lines_stand p slots behind pc [] cs is fs front here frames none = tt
lines_stand p slots behind pc (l ∷ ls) cs is fs front here frames none =
    let named = with_named cs (constant_of l.op) in
    let after : NoneUpTo (suc pc + length ls) fs = λ m low. none m (omega (arith, low)) in
    let front_here = front_trans named (constants_from named ls) p.constants (lines_front named ls) front in (
      record {
        instruction = here pc 0 (omega arith);
        constant = placed_there named p.constants (constant_of l.op) front_here (named_placed cs (constant_of l.op));
        frame = frames (suc pc) (omega arith) ∙ label_found slots (suc pc) l.label (line_frames slots (suc pc) ls) fs (lines_none slots (suc pc) ls fs after);
      },
      lines_stand p slots behind (suc pc) ls named is fs front (λ k i at. here k (suc i) (omega (arith, at))) (λ n above. frames n (omega (arith, above)) ∙ label_passed slots (suc pc) l.label (line_frames slots (suc pc) ls) fs n (λ same. absurd (omega (arith, same, above)))) after,
    )

blocks_stand : (p : Program) (pc : ℕ) (bs : List Block) (cs : List Datum) → IsFront (block_constants cs bs) p.constants → ((k i : ℕ) → k ≡ pc + i → slice_get p.instructions k ≡ slice_get (block_instructions p.constants pc bs) i)
    → ((n : ℕ) → pc < n → frame_at p.frames n ≡ frame_at (block_frames pc bs) n) → AreStanding p pc bs
blocks_stand p pc [] cs front here frames = tt
blocks_stand p pc (b ∷ bs) cs front here frames =
    let behind = pc + length b.lines in
    let named = constants_from cs b.lines in
    let count = line_count p.constants behind pc b.lines in
    let lines = line_instructions p.constants behind pc b.lines in
    let rest = block_instructions p.constants behind bs in (
      lines_stand p b.slots behind pc b.lines cs rest (block_frames behind bs) (front_trans named (block_constants named bs) p.constants (blocks_front named bs) front) here frames (blocks_none behind bs),
      blocks_stand p behind bs named front
          (λ k i at. here k (length b.lines + i) (omega (arith, at)) ∙ get_behind lines rest (length b.lines) i (length b.lines + i) count refl)
          (λ n above. frames n (omega (arith, above)) ∙ lines_passed b.slots pc b.lines (block_frames behind bs) n above),
    )

-- assembled code has each line where it belongs
pub assembled_stands : AssembledStands
unfolding assembled
assembled_stands slots bs =
    let all = block_constants [] bs in (
      blocks_stand (assembled slots bs) 0 bs [] (front_self all) (λ k i at. let same : k ≡ i = omega (arith, at) in ap (slice_get (block_instructions all 0 bs)) same) (λ n above. refl),
      blocks_none 0 bs 0 (omega arith),
    )

-- ---- each frame is one of a label

all_labelled : (P : Frame → Type 0) (slots : List ℕ) (pc : ℕ) (l : Option SourceLabel) (fs : List Frame) → IfSome l (λ m. P (frame_of slots pc m)) → All P fs → All P (with_label slots pc l fs)
all_labelled P slots pc None fs here rest = rest
all_labelled P slots pc (Some l) fs here rest = All-cons P (frame_of slots pc l) fs here rest

all_lines : (P : Frame → Type 0) (slots : List ℕ) (pc : ℕ) (ls : List SourceLine) → AllLabels (λ s n l. P (frame_of s n l)) slots pc ls → All P (line_frames slots pc ls)
all_lines P slots pc [] labels = λ i d within. absurd (omega (arith, within))
all_lines P slots pc (l ∷ ls) labels =
    all_labelled P slots (suc pc) l.label (line_frames slots (suc pc) ls) labels.0 (all_lines P slots (suc pc) ls labels.1)

all_blocks : (P : Frame → Type 0) (pc : ℕ) (bs : List Block) → AllBlockLabels (λ s n l. P (frame_of s n l)) pc bs → All P (block_frames pc bs)
all_blocks P pc [] labels = λ i d within. absurd (omega (arith, within))
all_blocks P pc (b ∷ bs) labels =
    All-append P (line_frames b.slots pc b.lines) (block_frames (pc + length b.lines) bs) (all_lines P b.slots pc b.lines labels.0) (all_blocks P (pc + length b.lines) bs labels.1)

-- what holds of the frame of each label holds of each frame
pub frames_all : (P : Frame → Type 0) (slots : ℕ) (bs : List Block) → AllBlockLabels (λ s n l. P (frame_of s n l)) 0 bs → All P (assembled slots bs).frames
unfolding assembled
frames_all P slots bs labels = all_blocks P 0 bs labels

-- ---- the frames are ascending

-- the numbers are ascending, and the first is above n
abbrev AreAbove : ℕ → List Frame → Type 0
AreAbove n [] = Unit {0}
AreAbove n (f ∷ fs) = (n < f.pc) × AreAbove f.pc fs

above_lower : (m n : ℕ) (fs : List Frame) → m ≤ n → AreAbove n fs → AreAbove m fs
above_lower m n [] low above = tt
above_lower m n (f ∷ fs) low above = (omega (arith, low, above.0), above.1)

above_label : (slots : List ℕ) (pc : ℕ) (l : Option SourceLabel) (fs gs : List Frame) → AreAbove (suc pc) (fs ++ gs) → AreAbove pc (with_label slots (suc pc) l fs ++ gs)
above_label slots pc None fs gs above = above_lower pc (suc pc) (fs ++ gs) (omega arith) above
above_label slots pc (Some l) fs gs above =
    let is = label_number slots (suc pc) l in
    (omega (arith, is), subst (λ n. AreAbove n (fs ++ gs)) (sym is) above)

above_lines : (slots : List ℕ) (pc : ℕ) (ls : List SourceLine) (fs : List Frame) → AreAbove (pc + length ls) fs → AreAbove pc (line_frames slots pc ls ++ fs)
above_lines slots pc [] fs above = let here : pc + 0 ≡ pc = omega arith in subst (λ n. AreAbove n fs) here above
above_lines slots pc (l ∷ ls) fs above =
    let here : pc + suc (length ls) ≡ suc pc + length ls = omega arith in
    above_label slots pc l.label (line_frames slots (suc pc) ls) fs (above_lines slots (suc pc) ls fs (subst (λ n. AreAbove n fs) here above))

above_blocks : (pc : ℕ) (bs : List Block) → AreAbove pc (block_frames pc bs)
above_blocks pc [] = tt
above_blocks pc (b ∷ bs) =
    above_lines b.slots pc b.lines (block_frames (pc + length b.lines) bs) (above_blocks (pc + length b.lines) bs)

rise_above : (n : ℕ) (fs : List Frame) → AreAbove n fs → Rise frame_number fs
rise_above n [] above k d within = absurd (omega (arith, within))
rise_above n (f ∷ []) above k d within = absurd (omega (arith, within))
rise_above n (f ∷ f' ∷ fs) above zero d within = above.1.0
rise_above n (f ∷ f' ∷ fs) above (suc k) d within =
    let later = rise_above f.pc (f' ∷ fs) above.1 k d (omega (arith, within)) in
    simp unary_clauses (simp unary_clauses at later)

-- the numbers of the frames are ascending
pub frames_rise : (slots : ℕ) (bs : List Block) → Rise frame_number (assembled slots bs).frames
unfolding assembled
frames_rise slots bs = rise_above 0 (block_frames 0 bs) (above_blocks 0 bs)

-- ---- how many parts

label_count : (slots : List ℕ) (pc : ℕ) (l : Option SourceLabel) (fs : List Frame) → length (with_label slots pc l fs) ≤ suc (length fs)
label_count slots pc None fs = omega arith
label_count slots pc (Some l) fs = omega arith

-- at most one frame per line
pub line_frame_count : (slots : List ℕ) (pc : ℕ) (ls : List SourceLine) → length (line_frames slots pc ls) ≤ length ls
line_frame_count slots pc [] = omega arith
line_frame_count slots pc (l ∷ ls) =
    omega (arith, label_count slots (suc pc) l.label (line_frames slots (suc pc) ls), line_frame_count slots (suc pc) ls)

block_frame_count : (pc : ℕ) (bs : List Block) → length (block_frames pc bs) ≤ line_total bs
block_frame_count pc [] = omega arith
block_frame_count pc (b ∷ bs) =
    let behind = pc + length b.lines in
    omega (arith, length-append (line_frames b.slots pc b.lines) (block_frames behind bs), line_frame_count b.slots pc b.lines, block_frame_count behind bs)

pub frame_count : (slots : ℕ) (bs : List Block) → length (assembled slots bs).frames ≤ line_total bs
unfolding assembled
frame_count slots bs = block_frame_count 0 bs

block_count : (cs : List Datum) (pc : ℕ) (bs : List Block) → length (block_instructions cs pc bs) ≡ line_total bs
block_count cs pc [] = refl
block_count cs pc (b ∷ bs) =
    let behind = pc + length b.lines in
    omega (arith, length-append (line_instructions cs behind pc b.lines) (block_instructions cs behind bs), line_count cs behind pc b.lines, block_count cs behind bs)

-- one instruction per line
pub instruction_count : (slots : ℕ) (bs : List Block) → length (assembled slots bs).instructions ≡ line_total bs
unfolding assembled
instruction_count slots bs = block_count (block_constants [] bs) 0 bs

term_count : (cs : List Datum) (d : Datum) → length (with_term cs d) ≤ suc (length cs)
term_count [] d = omega arith
term_count (c ∷ cs) d = by (is_same c d) (term_count cs d)
  where
    by : (b : Bool) → length (with_term cs d) ≤ suc (length cs) → length (cond b (c ∷ cs) (c ∷ with_term cs d)) ≤ suc (suc (length cs))
    by true rest = omega arith
    by false rest = omega (arith, rest)

named_count : (cs : List Datum) (o : Option Datum) → length (with_named cs o) ≤ suc (length cs)
named_count cs None = omega arith
named_count cs (Some d) = term_count cs d

line_constant_count : (cs : List Datum) (ls : List SourceLine) → length (constants_from cs ls) ≤ length cs + length ls
line_constant_count cs [] = omega arith
line_constant_count cs (l ∷ ls) =
    omega (arith, named_count cs (constant_of l.op), line_constant_count (with_named cs (constant_of l.op)) ls)

block_constant_count : (cs : List Datum) (bs : List Block) → length (block_constants cs bs) ≤ length cs + line_total bs
block_constant_count cs [] = omega arith
block_constant_count cs (b ∷ bs) =
    omega (arith, line_constant_count cs b.lines, block_constant_count (constants_from cs b.lines) bs)

-- at most one constant per line
pub constant_count : (slots : ℕ) (bs : List Block) → length (assembled slots bs).constants ≤ line_total bs
unfolding assembled
constant_count slots bs = omega (arith, block_constant_count [] bs)

-- ---- where instructions jump

-- ---- routines

instr_plain : (cs : List Datum) (behind pc : ℕ) (o : SourceOp) → IsPlain (instr_of cs behind pc o)
instr_plain cs behind pc op.Load = tt
instr_plain cs behind pc o = tt

lines_plain : (cs : List Datum) (behind pc : ℕ) (ls : List SourceLine) → All IsPlain (line_instructions cs behind pc ls)
lines_plain cs behind pc [] = λ i d within. absurd (omega (arith, within))
lines_plain cs behind pc (l ∷ ls) =
    All-cons IsPlain (instr_of cs behind pc l.op) (line_instructions cs behind (suc pc) ls) (instr_plain cs behind pc l.op) (lines_plain cs behind (suc pc) ls)

blocks_plain : (cs : List Datum) (pc : ℕ) (bs : List Block) → All IsPlain (block_instructions cs pc bs)
blocks_plain cs pc [] = λ i d within. absurd (omega (arith, within))
blocks_plain cs pc (b ∷ bs) =
    let behind = pc + length b.lines in
    All-append IsPlain (line_instructions cs behind pc b.lines) (block_instructions cs behind bs) (lines_plain cs behind pc b.lines) (blocks_plain cs behind bs)

-- no instruction invokes or ends a routine
pub all_plain : (slots : ℕ) (bs : List Block) → All IsPlain (assembled slots bs).instructions
unfolding assembled
all_plain slots bs = blocks_plain (block_constants [] bs) 0 bs

-- assembled code has no routines
pub assembled_alone : (slots : ℕ) (bs : List Block) → (assembled slots bs).around ≡ alone
unfolding assembled
assembled_alone slots bs = refl

assembled_slots : (slots : ℕ) (bs : List Block) → (assembled slots bs).slots ≡ slots
unfolding assembled
assembled_slots slots bs = refl
