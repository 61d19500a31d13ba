-- The one state in which each instruction can begin, and the pass that computes it.
use Rattle.std.specs.Prelude.{ℕ, zero, suc, ◌≡◌, ◌+◌, ◌<◌, ◌≤◌, ◌⊎◌, max, Bool, true, false, Option, Some, None, List, [], ◌∷◌, ◌++◌, length, set, replicate, slice_get, All}
use Rattle.std.specs.Option.{option_and_then}
use Rattle.std.proofs.Common.{arith, refl, sym, ap, subst, ◌∙◌, inl, inr, get_or}
use Rattle.std.proofs.lemmas.Bool.{cases_lt}
use Rattle.std.proofs.lemmas.List.{length-set, length-replicate, length-append}
use Rattle.std.proofs.lemmas.Option.{slice_get-get_or, same_Some}
use Rattle.verifier_types.specs.Faults.{IsFaultIn}
use Rattle.verifier.specs.Faults.{HasNoBeginning, IsFirstUntyped}
use Rattle.verifier_types.specs.declared.fault.Fault.{Fault}
use Rattle.verifier_types.specs.declared.fault.Fault.TheVariants as fault
use Rattle.mcode.specs.Program.{Program, Frame, frame_at}
use Rattle.mcode.specs.Instr.{goes_on}
use Rattle.mcode.specs.declared.instr.Instr.{Instr}
use Rattle.mcode.specs.declared.instr.Instr.TheVariants as instr
use Rattle.verifier_types.specs.Shape.{Shape, shape_of, marked}
use Rattle.verifier_types.specs.Effect.{left_shape, falling_shape}
use Rattle.verifier_types.specs.Inner.{inner_depth}
use Rattle.verifier_types.specs.Fit.{most_places, IsFrameFit, IsTypedAt}
use Rattle.verifier.specs.Typing.{entry_shape, AreTypedBelow, Begins, falling_into, IsOwnDepthAt}
use Rattle.verifier.specs.Pass.{begun, shape_at, fallen, IsGreatestBelow, IsInnerAt, AreDepthsBelow, IsWalked}
use Rattle.verifier_types.proofs.ShapeLemmas.{length-frame_kinds}
use native.Mathlib.Numerals.{unary_clauses}

-- the state of an instruction is begun by what falls into it and its frame
pub shape_begun : (p : Program) (pc : ℕ) → shape_at p pc ≡ begun p (falling_into p (shape_at p) pc) (frame_at p.frames pc)
shape_begun p zero = refl
shape_begun p (suc pc) = refl

-- an instruction begins in only one state
pub begins_once : (p : Program) (falling : Option Shape) (frame : Option Frame) (s : Shape) → Begins p falling frame s → s ≡ begun p falling frame
begins_once p falling (Some f) s begins = begins.0
begins_once p None None s begins = absurd (cc)
begins_once p (Some t) None s begins =
    let one : t ≡ s = cc in
    sym one

-- an instruction begins in the state that the pass computes
pub begins_here : (p : Program) (pc : ℕ) (s : Shape) → Begins p (falling_into p (shape_at p) pc) (frame_at p.frames pc) s → s ≡ shape_at p pc
begins_here p pc s begins = begins_once p (falling_into p (shape_at p) pc) (frame_at p.frames pc) s begins ∙ sym (shape_begun p pc)

-- marking slots does not change their number
pub length-marked : (bound : List Bool) (slots : List ℕ) → length (marked bound slots) ≡ length bound
length-marked bound [] = refl
length-marked bound (v ∷ vs) = length-marked (set bound v true) vs ∙ length-set bound v true

pub slots_of_frame : (p : Program) (f : Frame) → length (shape_of p f).bound ≡ p.slots
slots_of_frame p f = length-marked (replicate p.slots false) f.slots ∙ length-replicate p.slots false

-- beginning and leaving do not change the number of slots
pub slots_begun : (p : Program) (s t : Shape) (falls : Bool) (frame : Option Frame) → length s.bound ≡ p.slots → Begins p (fallen falls s) frame t → length t.bound ≡ p.slots
slots_begun p s t falls (Some f) long begins = rw begins.0 (slots_of_frame p f)
slots_begun p s t true None long begins =
    let one : s ≡ t = cc in
    ap (λ u. length u.bound) (sym one) ∙ long
slots_begun p s t false None long begins = absurd (cc)

pub slots_left : (p : Program) (i : Instr) (s : Shape) → length s.bound ≡ p.slots → length (left_shape p i s).bound ≡ p.slots
slots_left p (instr.Bind v) s long = length-set s.bound v true ∙ long
slots_left p i s long = long

-- what falls into the next instruction
pub falls_on : (p : Program) (pc : ℕ) (i : Instr) (s : Shape) → slice_get p.instructions pc ≡ Some i → s ≡ shape_at p pc → falling_into p (shape_at p) (suc pc) ≡ fallen (goes_on i) (left_shape p i s)
falls_on p pc i s here is =
    ap (λ o. option_and_then (λ j. falling_shape p j (shape_at p pc)) o) here
    ∙ ap (λ t. falling_shape p i t) (sym is)

-- one more instruction is typed
pub typed_more : (p : Program) (ds : List ℕ) (pc : ℕ) (i : Instr) (s : Shape) → AreTypedBelow p ds (shape_at p) pc → slice_get p.instructions pc ≡ Some i → s ≡ shape_at p pc → Begins p (falling_into p (shape_at p) pc) (frame_at p.frames pc) s → IsTypedAt p pc i s → inner_depth p ds i s ≤ most_places → AreTypedBelow p ds (shape_at p) (suc pc)
typed_more p ds pc i s before here is begins typed inner q j below there = elim (cases_lt q pc) [
  | inl h ↦ before q j h there
  | inr h ↦
      let same : q ≡ pc = omega (arith, below, h) in
      let there = rw same at there in
      let one : i ≡ j = cc in
      rw same (rw (← one) (record { begins = rw (← is) begins; typed = rw (← is) typed; inner = rw (← is) inner }))
]

-- the depth of the frame with which an instruction begins
pub depth_of_frame : (p : Program) (falling : Option Shape) (f : Frame) (s : Shape) → Begins p falling (Some f) s → length s.kinds ≡ f.depth
depth_of_frame p falling f s begins = ap (λ t. length t.kinds) begins.0 ∙ length-frame_kinds f.places f.depth

-- the earlier elements of a list with one more at its end
pub slice_get-front : {X : Type 0} (xs : List X) (y : X) (q : ℕ) → q < length xs → slice_get (xs ++ y ∷ []) q ≡ slice_get xs q
slice_get-front [] y q inside = absurd (omega arith)
slice_get-front (x ∷ xs) y zero inside = refl
slice_get-front (x ∷ xs) y (suc q) inside = slice_get-front xs y q (omega arith)

pub slice_get-last : {X : Type 0} (xs : List X) (y : X) (n : ℕ) → length xs ≡ n → slice_get (xs ++ y ∷ []) n ≡ Some y
slice_get-last [] y zero long = refl
slice_get-last [] y (suc n) long = absurd (omega (arith, long))
slice_get-last (x ∷ xs) y zero long = absurd (omega (arith, long))
slice_get-last (x ∷ xs) y (suc n) long = slice_get-last xs y n (omega (arith, long))

-- the depths with one more
depths_more : (p : Program) (pc : ℕ) (depths : List ℕ) (before : ℕ) → AreDepthsBelow p pc depths → ((f : Frame) → frame_at p.frames pc ≡ Some f → before ≡ f.depth) → AreDepthsBelow p (suc pc) (depths ++ before ∷ [])
depths_more p pc depths before table here = record {
  count = length-append depths (before ∷ []) ∙ omega (arith, table.count);
  each = λ q f below framed. elim (cases_lt q pc) [
    | inl h ↦ slice_get-front depths before q (omega (arith, h, table.count)) ∙ table.each q f h framed
    | inr h ↦
        let same : q ≡ pc = omega (arith, below, h) in
        let framed = rw same at framed in
        rw same (slice_get-last depths before pc table.count ∙ ap Some (here f framed))
  ];
}

-- one of three numbers is the greatest
greatest_of : (a b c : ℕ) → (max (max a b) c ≡ a) ⊎ ((max (max a b) c ≡ b) ⊎ (max (max a b) c ≡ c))
greatest_of a b c = elim (cases_lt (max a b) c) [
  | inl h ↦ inr (inr (omega (arith, h)))
  | inr h ↦ elim (cases_lt a b) [
    | inl k ↦ inr (inl (omega (arith, h, k)))
    | inr k ↦ inl (omega (arith, h, k))
  ]
]

-- the greatest with one more instruction
pub greatest_more : (p : Program) (At : ℕ → Instr → ℕ → Type 0) (pc n more : ℕ) (i : Instr) → IsGreatestBelow p At pc n → slice_get p.instructions pc ≡ Some i → n ≤ more → (more ≡ n) ⊎ At pc i more → ((m : ℕ) → At pc i m → m ≤ more) → IsGreatestBelow p At (suc pc) more
greatest_more p At pc n more i most here up one low = record {
  reached = λ some. elim one [
    | inl same ↦
        let old = most.reached (omega (arith, some, same)) in
        (old.0, old.1, old.2, subst (At old.0 old.1) (sym same) old.3)
    | inr found ↦ (pc, i, here, found)
  ];
  greatest = λ q j m below there found. elim (cases_lt q pc) [
    | inl less ↦ let old = most.greatest q j m less there found in omega (arith, old, up)
    | inr last ↦
        let same : q ≡ pc = omega (arith, below, last) in
        let there' = subst (λ k. slice_get p.instructions k ≡ Some j) same there in
        let instrs : j ≡ i = same_Some j i (sym there' ∙ here) in
        low m (subst (λ k. At pc k m) instrs (subst (λ k. At k j m) same found))
  ];
}

-- the greatest of the depths before and after instructions, with one more instruction
pub own_more : (p : Program) (shapes : ℕ → Shape) (pc n before after : ℕ) (i : Instr) → IsGreatestBelow p (IsOwnDepthAt p shapes) pc n → slice_get p.instructions pc ≡ Some i → before ≡ length (shapes pc).kinds → after ≡ length (left_shape p i (shapes pc)).kinds → IsGreatestBelow p (IsOwnDepthAt p shapes) (suc pc) (max (max n before) after)
own_more p shapes pc n before after i most here is was =
    greatest_more p (IsOwnDepthAt p shapes) pc n (max (max n before) after) i most here (omega arith)
    (elim (greatest_of n before after) [
      | inl h ↦ inl h
      | inr rest ↦ elim rest [ inl h ↦ inr (inl (h ∙ is)) | inr h ↦ inr (inr (h ∙ was)) ]
    ])
    (λ m found. elim found [ inl h ↦ omega (arith, h, is) | inr h ↦ omega (arith, h, was) ])

-- the greatest of the depths that routines take, with one more instruction
inner_more : (p : Program) (ds : List ℕ) (pc n takes : ℕ) (i : Instr) → IsGreatestBelow p (IsInnerAt p ds) pc n → slice_get p.instructions pc ≡ Some i → takes ≡ inner_depth p ds i (shape_at p pc) → IsGreatestBelow p (IsInnerAt p ds) (suc pc) (max n takes)
inner_more p ds pc n takes i most here is =
    greatest_more p (IsInnerAt p ds) pc n (max n takes) i most here (omega arith)
    (elim (cases_lt n takes) [
      | inl less ↦ let h : max n takes ≡ takes = omega (arith, less) in inr (h ∙ is)
      | inr more ↦ inl (omega (arith, more))
    ])
    (λ m found. omega (arith, found, is))

-- what the pass knows before the first instruction
pub walked_none : (p : Program) (ds : List ℕ) (s : Shape) → s ≡ entry_shape p → IsWalked p ds 0 true s [] 0 0
walked_none p ds s is = record {
  typed = λ q i below here. absurd (omega (arith, below));
  falling = ap Some (sym is);
  slots = ap (λ t. length t.bound) is ∙ length-replicate p.slots false;
  table = record { count = refl; each = λ q f below framed. absurd (omega (arith, below)) };
  most = record { reached = λ some. absurd (omega (arith, some)); greatest = λ q i m below here found. absurd (omega (arith, below)) };
  deepest = record { reached = λ some. absurd (omega (arith, some)); greatest = λ q i m below here found. absurd (omega (arith, below)) };
}

-- what the pass knows after one more instruction
pub walked_more : (p : Program) (ds : List ℕ) (pc : ℕ) (falls : Bool) (s t u : Shape) (depths more : List ℕ) (own inner before after takes most deepest : ℕ) (i : Instr) (on : Bool) → IsWalked p ds pc falls s depths own inner → slice_get p.instructions pc ≡ Some i → Begins p (fallen falls s) (frame_at p.frames pc) t → IsTypedAt p pc i t → inner_depth p ds i t ≤ most_places → takes ≡ inner_depth p ds i t → deepest ≡ max inner takes → before ≡ length t.kinds → more ≡ depths ++ before ∷ [] → u ≡ left_shape p i t → after ≡ length u.kinds → most ≡ max (max own before) after → on ≡ goes_on i → IsWalked p ds (pc + 1) on u more most deepest
walked_more p ds pc falls s t u depths more own inner before after takes most deepest i on walked here begins typed few room deep low pushed left high top goes =
    let begins' = rw (← walked.falling) at begins in
    let is : t ≡ shape_at p pc = begins_here p pc t begins' in
    let walked' : IsWalked p ds (suc pc) (goes_on i) (left_shape p i t) (depths ++ before ∷ []) (max (max own before) after) (max inner takes) = record {
      typed = typed_more p ds pc i t walked.typed here is begins' typed few;
      falling = falls_on p pc i t here is;
      slots = slots_left p i t (slots_begun p s t falls (frame_at p.frames pc) walked.slots begins);
      table = depths_more p pc depths before walked.table (λ f framed.
          let begins'' = rw framed at begins in
          low ∙ depth_of_frame p (fallen falls s) f t begins'');
      most = own_more p (shape_at p) pc own before after i walked.most here (low ∙ ap (λ v. length v.kinds) is) (high ∙ ap (λ v. length v.kinds) left ∙ ap (λ v. length (left_shape p i v).kinds) is);
      deepest = inner_more p ds pc inner takes i walked.deepest here (room ∙ ap (λ v. inner_depth p ds i v) is);
    } in
    rw (goes, left, pushed, top, deep) (simp unary_clauses walked')

-- the fault of an instruction that cannot begin
pub unbegun : (p : Program) (ds : List ℕ) (pc : ℕ) (falls : Bool) (s : Shape) (depths : List ℕ) (own inner : ℕ) (told : Fault) → All (IsFrameFit p) p.frames → pc < length p.instructions → IsWalked p ds pc falls s depths own inner → (told ≡ fault.Memory) ⊎ ((told ≡ fault.Frame pc) × HasNoBeginning p (fallen falls s) (frame_at p.frames pc)) → (told ≡ fault.Memory) ⊎ IsFirstUntyped p ds told
unbegun p ds pc falls s depths own inner told frames inside walked why = elim why [
  | inl h ↦ inl h
  | inr h ↦ inr (record {
    pc = pc;
    instr = get_or p.instructions pc instr.NoAnswer;
    shapes = shape_at p;
    frames = frames;
    here = slice_get-get_or p.instructions pc instr.NoAnswer inside;
    before = walked.typed;
    why = inl (h.0, rw walked.falling h.1);
  })
]

-- the fault of an instruction that is not typed
pub untyped : (p : Program) (ds : List ℕ) (pc : ℕ) (falls : Bool) (s t : Shape) (depths : List ℕ) (own inner : ℕ) (i : Instr) (told : Fault) → All (IsFrameFit p) p.frames → IsWalked p ds pc falls s depths own inner → slice_get p.instructions pc ≡ Some i → Begins p (fallen falls s) (frame_at p.frames pc) t → IsFaultIn p ds pc i t told → IsFirstUntyped p ds told
untyped p ds pc falls s t depths own inner i told frames walked here begins why =
    let begins' = rw (← walked.falling) at begins in
    let is : t ≡ shape_at p pc = begins_here p pc t begins' in
    record {
      pc = pc;
      instr = i;
      shapes = shape_at p;
      frames = frames;
      here = here;
      before = walked.typed;
      why = inr (rw (← is) begins', rw (← is) why);
    }
