-- No instruction begins another.
use Rattle.std.specs.Prelude.{◌≤◌, slice_index_or}
use Rattle.std.proofs.Common.{◌≡◌, ℕ, suc, ◌-◌, List, [], ◌∷◌, ◌++◌, get_or, drop, refl, sym, ap, subst, ◌∙◌}
use Rattle.std.proofs.lemmas.Option.{same_Some}
use Rattle.prims_table.specs.Numbers.{function_number, arithmetic_number}
use Rattle.prims_table.proofs.NumberLemmas.{function_at, arithmetic_at}
use Rattle.prims_table.specs.declared.prim.Function.{Function}
use Rattle.prims_table.specs.declared.prim.Function.TheVariants as function
use Rattle.prims_table.specs.declared.prim.Test.TheVariants as test
use Rattle.prims_table.specs.declared.prim.BooleanFunction.TheVariants as boolean
use Rattle.prims_table.specs.declared.prim.Comparison.TheVariants as comparison
use Rattle.prims_table.specs.declared.prim.Extreme.TheVariants as extreme
use Rattle.prims_table.specs.declared.prim.IntegerFunction.TheVariants as integer
use Rattle.prims_table.specs.declared.prim.TupleFunction.TheVariants as tuple
use Rattle.prims_table.specs.declared.prim.ListFunction.TheVariants as list
use Rattle.prims_table.specs.declared.prim.MapFunction.TheVariants as map
use Rattle.prims_table.specs.declared.prim.SizeFunction.TheVariants as size
use Rattle.prims_table.specs.declared.prim.Arithmetic.{Arithmetic}
use Rattle.prims_table.specs.declared.prim.Arithmetic.TheVariants as arithmetic
use Rattle.mcode.specs.declared.instr.Instr.{Instr}
use Rattle.mcode.specs.declared.instr.Instr.TheVariants as instr
use Rattle.code_writer.specs.declared.opcode.Opcode.{Opcode}
use Rattle.code_writer.specs.declared.opcode.Opcode.TheVariants as opcode
use Rattle.code_writer.specs.declared.opcode.Bare.{Bare}
use Rattle.code_writer.specs.declared.opcode.Bare.TheVariants as bare
use Rattle.code_writer.specs.declared.opcode.Slotted.{Slotted}
use Rattle.code_writer.specs.declared.opcode.Slotted.TheVariants as slotted
use Rattle.code_writer.specs.declared.opcode.Single.{Single}
use Rattle.code_writer.specs.declared.opcode.Single.TheVariants as single
use Rattle.code_writer.specs.declared.opcode.Double.{Double}
use Rattle.code_writer.specs.declared.opcode.Double.TheVariants as double
use Rattle.code_writer.specs.Opcodes.{bare_instr, slotted_instr, single_instr, double_instr, opcode_number}
use Rattle.code_writer.specs.Spelling.{u16_bytes, instruction_bytes}
use Rattle.code_writer.specs.File.{IsU8, IsU16, HoldsArguments, instruction_number}
use Rattle.code_writer.specs.Format.{Begins, both}
use Rattle.code_writer.specs.Formats.{u8_format, u16_format, opcode_format, function_format, arithmetic_format, instruction_format}
use Rattle.code_writer.proofs.FormatLemmas.{IsPrefixFree, both_prefix_free}
use Rattle.code_writer.proofs.NumberLemmas.{u8_free, u16_free}
use Rattle.code_writer.proofs.OpcodeLemmas.{one_opcode}

-- ---- functions

function_some : (f : Function) → function_number f ≡ suc (function_number f - 1)
function_some (function.Test test.IsAtom) = refl
function_some (function.Boolean boolean.Not) = refl
function_some (function.Comparison comparison.Greater) = refl
function_some (function.Extreme extreme.Max) = refl
function_some (function.Integer integer.Abs) = refl
function_some (function.Tuple tuple.IsRecord) = refl
function_some (function.List list.Hd) = refl
function_some (function.Map map.IsMapKey) = refl
function_some (function.Size size.Size) = refl
function_some f = refl

arithmetic_some : (a : Arithmetic) → arithmetic_number a ≡ suc (arithmetic_number a - 1)
arithmetic_some arithmetic.Add = refl
arithmetic_some a = refl

one_function : (f g : Function) → function_number f ≡ function_number g → f ≡ g
one_function f g same =
    let place = function_number f - 1 in
    same_Some f g (sym ((function_at (function_number f) place _ (function_some f) refl f).1 refl) ∙ (function_at (function_number f) place _ (function_some f) refl g).1 (sym same))

one_arithmetic : (a b : Arithmetic) → arithmetic_number a ≡ arithmetic_number b → a ≡ b
one_arithmetic a b same =
    let place = arithmetic_number a - 1 in
    same_Some a b (sym ((arithmetic_at (arithmetic_number a) place _ (arithmetic_some a) refl a).1 refl) ∙ (arithmetic_at (arithmetic_number a) place _ (arithmetic_some a) refl b).1 (sym same))

pub head_is : (a b : ℕ) (xs ys : List ℕ) → a ∷ xs ≡ b ∷ ys → a ≡ b
head_is a b xs ys same = ap (λ bs. get_or bs 0 0) same

pub tail_is : (a b : ℕ) (xs ys : List ℕ) → a ∷ xs ≡ b ∷ ys → xs ≡ ys
tail_is a b xs ys same = ap (drop 1) same

-- values with numbers of one byte each
by_number : {X : Type 0} (number : X → ℕ) (Fits : X → Type 0) → ((x y : X) → number x ≡ number y → x ≡ y) → IsPrefixFree (record { spell = λ x. number x ∷ []; Fits = Fits })
by_number number Fits one = record {
  one = λ bytes x y r s h k.
      let same = sym h.parts ∙ k.parts in
      (one x y (head_is (number x) (number y) r s same), tail_is (number x) (number y) r s same);
}

pub function_free : IsPrefixFree function_format
function_free = by_number function_number (λ _. Unit {0}) one_function

pub arithmetic_free : IsPrefixFree arithmetic_format
arithmetic_free = by_number arithmetic_number (λ _. Unit {0}) one_arithmetic

-- ---- the parts of an instruction

pub data Parts : Type 0 where
  of_bare : Bare → Parts
  of_slot : Slotted → ℕ → Parts
  of_one : Single → ℕ → Parts
  of_two : Double → ℕ → ℕ → Parts
  of_call : Function → ℕ → ℕ → Parts
  of_arith : Arithmetic → ℕ → Parts

abbrev pub parts_of : Instr → Parts
parts_of instr.Load = of_bare bare.Load
parts_of (instr.Const n) = of_one single.Const n
parts_of (instr.Get v) = of_slot slotted.Get v
parts_of (instr.Bind v) = of_slot slotted.Bind v
parts_of instr.Dup = of_bare bare.Dup
parts_of instr.Drop = of_bare bare.Drop
parts_of (instr.Tuple n l) = of_two double.Tuple n l
parts_of (instr.Field n) = of_one single.Field n
parts_of (instr.Cons l) = of_one single.Cons l
parts_of instr.Head = of_bare bare.Head
parts_of instr.Tail = of_bare bare.Tail
parts_of (instr.Map l) = of_one single.Map l
parts_of (instr.Value n l) = of_two double.Value n l
parts_of (instr.Equal l) = of_one single.Equal l
parts_of (instr.Jump l) = of_one single.Jump l
parts_of (instr.Call f n l) = of_call f n l
parts_of (instr.Int l) = of_one single.Int l
parts_of (instr.Arith a l) = of_arith a l
parts_of (instr.Bool l) = of_one single.Bool l
parts_of (instr.Branch l) = of_one single.Branch l
parts_of (instr.MakeTuple n l) = of_two double.MakeTuple n l
parts_of (instr.MakeCons l) = of_one single.MakeCons l
parts_of (instr.MakeMap n l) = of_two double.MakeMap n l
parts_of instr.Answer = of_bare bare.Answer
parts_of instr.NoAnswer = of_bare bare.NoAnswer
parts_of (instr.Invoke n l) = of_two double.Invoke n l
parts_of instr.Return = of_bare bare.Return
parts_of instr.Fail = of_bare bare.Fail

abbrev whole : Parts → Instr
whole (of_bare o) = bare_instr o
whole (of_slot o v) = slotted_instr o v
whole (of_one o n) = single_instr o n
whole (of_two o n l) = double_instr o n l
whole (of_call f n l) = instr.Call f n l
whole (of_arith a l) = instr.Arith a l

abbrev pub opcode_of : Parts → Opcode
opcode_of (of_bare o) = opcode.Bare o
opcode_of (of_slot o v) = opcode.Slotted o
opcode_of (of_one o n) = opcode.Single o
opcode_of (of_two o n l) = opcode.Double o
opcode_of (of_call f n l) = opcode.Call
opcode_of (of_arith a l) = opcode.Arith

abbrev pub rest_bytes : Parts → List ℕ
rest_bytes (of_bare o) = []
rest_bytes (of_slot o v) = v ∷ []
rest_bytes (of_one o n) = u16_bytes n
rest_bytes (of_two o n l) = u16_bytes n ++ u16_bytes l
rest_bytes (of_call f n l) = function_number f ∷ u16_bytes n ++ u16_bytes l
rest_bytes (of_arith a l) = arithmetic_number a ∷ u16_bytes l

abbrev pub HoldsParts : Parts → Type 0
HoldsParts (of_bare o) = Unit {0}
HoldsParts (of_slot o v) = IsU8 v
HoldsParts (of_one o n) = IsU16 n
HoldsParts (of_two o n l) = IsU16 n × IsU16 l
HoldsParts (of_call f n l) = IsU16 n × IsU16 l
HoldsParts (of_arith a l) = IsU16 l

back : (i : Instr) → whole (parts_of i) ≡ i
back instr.Load = refl
back i = refl

pub spelled : (i : Instr) → instruction_bytes i ≡ opcode_number (opcode_of (parts_of i)) ∷ rest_bytes (parts_of i)
spelled instr.Load = refl
spelled i = refl

-- the number of an instruction is that of its opcode
pub number_is : (i : Instr) → instruction_number i ≡ opcode_number (opcode_of (parts_of i))
number_is i = ap (λ bs. slice_index_or bs 0 0) (spelled i)

held : (i : Instr) → HoldsArguments i → HoldsParts (parts_of i)
held instr.Load h = h
held i h = h

-- the other parts follow an opcode
pub record Opened (o : Opcode) (r : List ℕ) (p : Parts) (s : List ℕ) : Type 0 where
  pub opcode_is : opcode_of p ≡ o
  pub rest_is : r ≡ rest_bytes p ++ s
  pub fits : HoldsParts p

pub opened : (most : ℕ) (bytes : List ℕ) (o : Opcode) (r : List ℕ) (i : Instr) (s : List ℕ) → Begins (opcode_format most) bytes o r → Begins (instruction_format most) bytes i s → Opened o r (parts_of i) s
opened most bytes o r i s h k =
    let same = sym h.parts ∙ k.parts ∙ ap (λ bs. bs ++ s) (spelled i) in
    record {
      opcode_is = sym (one_opcode o (opcode_of (parts_of i)) (head_is (opcode_number o) (opcode_number (opcode_of (parts_of i))) r (rest_bytes (parts_of i) ++ s) same));
      rest_is = tail_is (opcode_number o) (opcode_number (opcode_of (parts_of i))) r (rest_bytes (parts_of i) ++ s) same;
      fits = held i k.fits.0;
    }

-- an instruction is opened by its own opcode
pub self_opened : (most : ℕ) (bytes : List ℕ) (i : Instr) (s : List ℕ) → Begins (instruction_format most) bytes i s → Begins (opcode_format most) bytes (opcode_of (parts_of i)) (rest_bytes (parts_of i) ++ s)
self_opened most bytes i s h = record { fits = subst (λ n. n ≤ most) (number_is i) h.fits.1; parts = h.parts ∙ ap (λ bs. bs ++ s) (spelled i) }

-- ---- the parts after an opcode, as values of a format

pub slot_in : (o : Slotted) (r : List ℕ) (p : Parts) (s : List ℕ) → Opened (opcode.Slotted o) r p s → (v : ℕ) × (p ≡ of_slot o v) × Begins u8_format r v s
slot_in o r (of_slot q v) s h = (v, ap (λ (x : Slotted). of_slot x v) (cc (h.opcode_is)), record { fits = h.fits; parts = h.rest_is })
slot_in o r p s h = absurd (cc (h.opcode_is))

pub one_in : (o : Single) (r : List ℕ) (p : Parts) (s : List ℕ) → Opened (opcode.Single o) r p s → (n : ℕ) × (p ≡ of_one o n) × Begins u16_format r n s
one_in o r (of_one q n) s h = (n, ap (λ (x : Single). of_one x n) (cc (h.opcode_is)), record { fits = h.fits; parts = h.rest_is })
one_in o r p s h = absurd (cc (h.opcode_is))

pub two_in : (o : Double) (r : List ℕ) (p : Parts) (s : List ℕ) → Opened (opcode.Double o) r p s → (n : ℕ × ℕ) × (p ≡ of_two o n.0 n.1) × Begins (both u16_format u16_format) r n s
two_in o r (of_two q n l) s h = ((n, l), ap (λ (x : Double). of_two x n l) (cc (h.opcode_is)), record { fits = h.fits; parts = h.rest_is })
two_in o r p s h = absurd (cc (h.opcode_is))

pub call_in : (r : List ℕ) (p : Parts) (s : List ℕ) → Opened opcode.Call r p s → (c : Function × (ℕ × ℕ)) × (p ≡ of_call c.0 c.1.0 c.1.1) × Begins (both function_format (both u16_format u16_format)) r c s
call_in r (of_call f n l) s h = ((f, (n, l)), refl, record { fits = (tt, h.fits); parts = h.rest_is })
call_in r p s h = absurd (cc (h.opcode_is))

pub arith_in : (r : List ℕ) (p : Parts) (s : List ℕ) → Opened opcode.Arith r p s → (c : Arithmetic × ℕ) × (p ≡ of_arith c.0 c.1) × Begins (both arithmetic_format u16_format) r c s
arith_in r (of_arith a l) s h = ((a, l), refl, record { fits = (tt, h.fits); parts = h.rest_is })
arith_in r p s h = absurd (cc (h.opcode_is))

-- ---- no instruction begins another

parts_one : (p q : Parts) (r s t : List ℕ) → Opened (opcode_of p) t p r → Opened (opcode_of p) t q s → (p ≡ q) × (r ≡ s)
parts_one (of_bare o) (of_bare o') r s t h k = (ap of_bare (cc (k.opcode_is)), sym h.rest_is ∙ k.rest_is)
parts_one (of_bare o) q r s t h k = absurd (cc (k.opcode_is))
parts_one (of_slot o v) q r s t h k =
    let a = slot_in o t (of_slot o v) r h in
    let b = slot_in o t q s k in
    let same = u8_free.one t a.0 b.0 r s a.2 b.2 in
    (a.1 ∙ ap (λ x. of_slot o x) same.0 ∙ sym b.1, same.1)
parts_one (of_one o n) q r s t h k =
    let a = one_in o t (of_one o n) r h in
    let b = one_in o t q s k in
    let same = u16_free.one t a.0 b.0 r s a.2 b.2 in
    (a.1 ∙ ap (λ x. of_one o x) same.0 ∙ sym b.1, same.1)
parts_one (of_two o n l) q r s t h k =
    let a = two_in o t (of_two o n l) r h in
    let b = two_in o t q s k in
    let same = (both_prefix_free u16_format u16_format u16_free u16_free).one t a.0 b.0 r s a.2 b.2 in
    (a.1 ∙ ap (λ (x : ℕ × ℕ). of_two o x.0 x.1) same.0 ∙ sym b.1, same.1)
parts_one (of_call f n l) q r s t h k =
    let a = call_in t (of_call f n l) r h in
    let b = call_in t q s k in
    let free = both_prefix_free function_format (both u16_format u16_format) function_free (both_prefix_free u16_format u16_format u16_free u16_free) in
    let same = free.one t a.0 b.0 r s a.2 b.2 in
    (a.1 ∙ ap (λ (x : Function × (ℕ × ℕ)). of_call x.0 x.1.0 x.1.1) same.0 ∙ sym b.1, same.1)
parts_one (of_arith a l) q r s t h k =
    let x = arith_in t (of_arith a l) r h in
    let y = arith_in t q s k in
    let same = (both_prefix_free arithmetic_format u16_format arithmetic_free u16_free).one t x.0 y.0 r s x.2 y.2 in
    (x.1 ∙ ap (λ (z : Arithmetic × ℕ). of_arith z.0 z.1) same.0 ∙ sym y.1, same.1)

pub instruction_free : (most : ℕ) → IsPrefixFree (instruction_format most)
instruction_free most = record {
  one = λ bytes i j r s h k.
      let begun = self_opened most bytes i r h in
      let t : List ℕ = rest_bytes (parts_of i) ++ r in
      let same = parts_one (parts_of i) (parts_of j) r s t (opened most bytes (opcode_of (parts_of i)) t i r begun h) (opened most bytes (opcode_of (parts_of i)) t j s begun k) in
      (sym (back i) ∙ ap whole same.0 ∙ back j, same.1);
}
