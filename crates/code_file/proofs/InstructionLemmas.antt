-- Reading what follows an opcode, and what stops it.
use Rattle.std.specs.Prelude.{◌↔◌, ◌≤◌}
use Rattle.std.proofs.Common.{◌≡◌, ◌≢◌, ℕ, ◌<◌, ◌^◌, List, [], ◌∷◌, ◌++◌, length, refl, sym, ap, subst, ◌∙◌, arith, Some, None}
use Rattle.prims_table.specs.Numbers.{function_number, arithmetic_number}
use Rattle.prims_table.specs.declared.prim.Function.{Function}
use Rattle.prims_table.specs.declared.prim.Function.TheVariants as function
use Rattle.prims_table.specs.declared.prim.Test.TheVariants as test
use Rattle.prims_table.specs.declared.prim.BooleanFunction.TheVariants as boolean
use Rattle.prims_table.specs.declared.prim.Comparison.TheVariants as comparison
use Rattle.prims_table.specs.declared.prim.Extreme.TheVariants as extreme
use Rattle.prims_table.specs.declared.prim.IntegerFunction.TheVariants as integer
use Rattle.prims_table.specs.declared.prim.TupleFunction.TheVariants as tuple
use Rattle.prims_table.specs.declared.prim.ListFunction.TheVariants as list
use Rattle.prims_table.specs.declared.prim.MapFunction.TheVariants as map
use Rattle.prims_table.specs.declared.prim.SizeFunction.TheVariants as size
use Rattle.prims_table.specs.declared.prim.Arithmetic.{Arithmetic}
use Rattle.prims_table.specs.declared.prim.Arithmetic.TheVariants as arithmetic
use Rattle.mcode.specs.declared.instr.Instr.TheVariants as instr
use Rattle.code_writer.specs.declared.opcode.Opcode.{Opcode}
use Rattle.code_writer.specs.declared.opcode.Opcode.TheVariants as opcode
use Rattle.code_writer.specs.declared.opcode.Bare.{Bare}
use Rattle.code_writer.specs.declared.opcode.Bare.TheVariants as bare
use Rattle.code_writer.specs.declared.opcode.Slotted.{Slotted}
use Rattle.code_writer.specs.declared.opcode.Slotted.TheVariants as slotted
use Rattle.code_writer.specs.declared.opcode.Single.{Single}
use Rattle.code_writer.specs.declared.opcode.Single.TheVariants as single
use Rattle.code_writer.specs.declared.opcode.Double.{Double}
use Rattle.code_writer.specs.declared.opcode.Double.TheVariants as double
use Rattle.code_writer.specs.Opcodes.{bare_instr, slotted_instr, single_instr, double_instr, opcode_number}
use Rattle.code_writer.specs.Format.{Format, Begins, BeginsNone, both}
use Rattle.code_writer.specs.Formats.{u8_format, u16_format, opcode_format, function_format, arithmetic_format, instruction_format}
use Rattle.code_writer.proofs.InstructionLemmas.{arith_in, arithmetic_free, call_in, function_free, head_is, number_is, one_in, opcode_of, opened, parts_of, rest_bytes, self_opened, slot_in, spelled, two_in}
use Rattle.code_writer.proofs.FormatLemmas.{both_first, both_rest}
use Rattle.code_file.specs.declared.stop.FileCause.TheVariants.{BadOpcode}
use Rattle.code_file.specs.declared.stop.FileStop.{FileStop}
use Rattle.code_file.specs.Due.{Item, Due}
use Rattle.code_file.specs.Due.Item.{an_instruction, a_function, an_arithmetic, so_many}
use Rattle.code_file.specs.Causes.{IsWrong, width}
use Rattle.code_file.specs.Reads.{Blames, IsCut, IsRefuted, IsStop}
use Rattle.code_file.proofs.StopLemmas.{stop_none, stop_due, stop_cut}

module _ (most : ℕ) where
  -- ---- what is read after an opcode

  pub bare_begins : (bytes : List ℕ) (o : Bare) (r : List ℕ) → Begins (opcode_format most) bytes (opcode.Bare o) r → Begins (instruction_format most) bytes (bare_instr o) r
  bare_begins bytes bare.Load r h = record { fits = (tt, h.fits); parts = h.parts }
  bare_begins bytes o r h = record { fits = (tt, h.fits); parts = h.parts }

  pub slotted_begins : (bytes : List ℕ) (o : Slotted) (r : List ℕ) (v : ℕ) (s : List ℕ) → Begins (opcode_format most) bytes (opcode.Slotted o) r → Begins u8_format r v s → Begins (instruction_format most) bytes (slotted_instr o v) s
  slotted_begins bytes slotted.Get r v s h k = record { fits = (k.fits, h.fits); parts = h.parts ∙ ap (λ bs. 3 ∷ bs) k.parts }
  slotted_begins bytes slotted.Bind r v s h k = record { fits = (k.fits, h.fits); parts = h.parts ∙ ap (λ bs. 4 ∷ bs) k.parts }

  pub single_begins : (bytes : List ℕ) (o : Single) (r : List ℕ) (n : ℕ) (s : List ℕ) → Begins (opcode_format most) bytes (opcode.Single o) r → Begins u16_format r n s → Begins (instruction_format most) bytes (single_instr o n) s
  single_begins bytes single.Const r n s h k = record { fits = (k.fits, h.fits); parts = h.parts ∙ ap (λ bs. opcode_number (opcode.Single single.Const) ∷ bs) k.parts }
  single_begins bytes o r n s h k = record { fits = (k.fits, h.fits); parts = h.parts ∙ ap (λ bs. opcode_number (opcode.Single o) ∷ bs) k.parts }

  pub double_begins : (bytes : List ℕ) (o : Double) (r : List ℕ) (p : ℕ × ℕ) (s : List ℕ) → Begins (opcode_format most) bytes (opcode.Double o) r → Begins (both u16_format u16_format) r p s → Begins (instruction_format most) bytes (double_instr o p.0 p.1) s
  double_begins bytes double.Tuple r p s h k = record { fits = (k.fits, h.fits); parts = h.parts ∙ ap (λ bs. opcode_number (opcode.Double double.Tuple) ∷ bs) k.parts }
  double_begins bytes o r p s h k = record { fits = (k.fits, h.fits); parts = h.parts ∙ ap (λ bs. opcode_number (opcode.Double o) ∷ bs) k.parts }

  pub call_begins : (bytes : List ℕ) (r : List ℕ) (p : Function × (ℕ × ℕ)) (s : List ℕ) → Begins (opcode_format most) bytes opcode.Call r → Begins (both function_format (both u16_format u16_format)) r p s → Begins (instruction_format most) bytes (instr.Call p.0 p.1.0 p.1.1) s
  call_begins bytes r p s h k = record { fits = (k.fits.1, h.fits); parts = h.parts ∙ ap (λ bs. 16 ∷ bs) k.parts }

  pub arith_begins : (bytes : List ℕ) (r : List ℕ) (p : Arithmetic × ℕ) (s : List ℕ) → Begins (opcode_format most) bytes opcode.Arith r → Begins (both arithmetic_format u16_format) r p s → Begins (instruction_format most) bytes (instr.Arith p.0 p.1) s
  arith_begins bytes r p s h k = record { fits = (k.fits.1, h.fits); parts = h.parts ∙ ap (λ bs. 18 ∷ bs) k.parts }

  -- ---- stops

  -- there is no byte where the number of one is due
  numbered_stop : {X : Type 0} (number : X → ℕ) (Fits : X → Type 0) (i : Item) → width i ≡ 1 → ((x : X) → number x < 2 ^ 8) → (bytes : List ℕ) (stop : FileStop)
      → IsStop u8_format bytes (IsCut 1 bytes) stop → IsStop (record { spell = λ (x : X). number x ∷ []; Fits = Fits }) bytes (Blames i bytes) stop
  numbered_stop {X} number Fits i is small bytes stop h =
      stop_cut u8_format (record { spell = λ (x : X). number x ∷ []; Fits = Fits }) 1 i i bytes bytes stop is
      (λ none x s k. none (number x) s (record { fits = small x; parts = k.parts })) (λ file due. due) h

  -- a byte is not the number of any
  pub numberless : {X : Type 0} (number : X → ℕ) (Fits : X → Type 0) (bytes : List ℕ) (b : ℕ) (rest : List ℕ)
      → bytes ≡ b ∷ rest → ((x : X) → Fits x → number x ≢ b) → BeginsNone (record { spell = λ (x : X). number x ∷ []; Fits = Fits }) bytes
  numberless number Fits bytes b rest is differs x s h = differs x h.fits (head_is (number x) b s rest (sym h.parts ∙ is))

  none_is_none : {X : Type 0} (x : X) → None ≡ Some x → ⊥
  none_is_none x is = cc

  opcode_small : (o : Opcode) → opcode_number o < 2 ^ 8
  opcode_small (opcode.Bare bare.Load) = omega arith
  opcode_small (opcode.Slotted slotted.Get) = omega arith
  opcode_small (opcode.Single single.Const) = omega arith
  opcode_small (opcode.Double double.Tuple) = omega arith
  opcode_small o = omega arith

  function_small : (f : Function) → function_number f < 2 ^ 8
  function_small (function.Test test.IsAtom) = omega arith
  function_small (function.Boolean boolean.Not) = omega arith
  function_small (function.Comparison comparison.Greater) = omega arith
  function_small (function.Extreme extreme.Max) = omega arith
  function_small (function.Integer integer.Abs) = omega arith
  function_small (function.Tuple tuple.IsRecord) = omega arith
  function_small (function.List list.Hd) = omega arith
  function_small (function.Map map.IsMapKey) = omega arith
  function_small (function.Size size.Size) = omega arith
  function_small f = omega arith

  arithmetic_small : (a : Arithmetic) → arithmetic_number a < 2 ^ 8
  arithmetic_small arithmetic.Add = omega arith
  arithmetic_small a = omega arith

  pub opcode_short : (bytes : List ℕ) (stop : FileStop) → IsStop u8_format bytes (IsCut 1 bytes) stop → IsStop (opcode_format most) bytes (Blames (an_instruction most) bytes) stop
  opcode_short bytes stop h = numbered_stop opcode_number (λ o. opcode_number o ≤ most) (an_instruction most) refl opcode_small bytes stop h

  pub function_short : (bytes : List ℕ) (stop : FileStop) → IsStop u8_format bytes (IsCut 1 bytes) stop → IsStop function_format bytes (Blames a_function bytes) stop
  function_short bytes stop h = numbered_stop function_number (λ _. Unit {0}) a_function refl function_small bytes stop h

  pub arithmetic_short : (bytes : List ℕ) (stop : FileStop) → IsStop u8_format bytes (IsCut 1 bytes) stop → IsStop arithmetic_format bytes (Blames an_arithmetic bytes) stop
  arithmetic_short bytes stop h = numbered_stop arithmetic_number (λ _. Unit {0}) an_arithmetic refl arithmetic_small bytes stop h

  pub opcode_unnamed : (bytes : List ℕ) (b : ℕ) (rest : List ℕ) → Begins u8_format bytes b rest → ((o : Opcode) → (None ≡ Some o) ↔ ((opcode_number o ≡ b) × (opcode_number o ≤ most))) → IsRefuted (opcode_format most) bytes (Blames (an_instruction most) bytes BadOpcode (length bytes))
  opcode_unnamed bytes b rest h unnamed =
      let differs : (o : Opcode) → opcode_number o ≤ most → opcode_number o ≢ b = λ o few is. none_is_none o ((unnamed o).1 (is, few)) in
      record {
        none = numberless opcode_number (λ o. opcode_number o ≤ most) bytes b rest h.parts differs;
        blame = λ file due. (
          b ∷ rest,
          ap length h.parts,
          IsWrong.no_opcode (subst (Due file (an_instruction most)) h.parts due)
              (λ i plain w. differs (opcode_of (parts_of i)) (subst (λ n. n ≤ most) (number_is i) plain) (head_is (opcode_number (opcode_of (parts_of i))) b (rest_bytes (parts_of i)) w.0 (sym (spelled i) ∙ w.1))),
        );
      }

  pub function_unnamed : (bytes : List ℕ) (b : ℕ) (rest : List ℕ) → Begins u8_format bytes b rest → ((f : Function) → (None ≡ Some f) ↔ (function_number f ≡ b)) → IsRefuted function_format bytes (Blames a_function bytes BadOpcode (length bytes))
  function_unnamed bytes b rest h unnamed =
      let differs : (f : Function) → function_number f ≢ b = λ f is. none_is_none f ((unnamed f).1 is) in
      record {
        none = numberless function_number (λ _. Unit {0}) bytes b rest h.parts (λ f any. differs f);
        blame = λ file due. (b ∷ rest, ap length h.parts, IsWrong.no_function (subst (Due file a_function) h.parts due) differs);
      }

  pub arithmetic_unnamed : (bytes : List ℕ) (b : ℕ) (rest : List ℕ) → Begins u8_format bytes b rest → ((a : Arithmetic) → (None ≡ Some a) ↔ (arithmetic_number a ≡ b)) → IsRefuted arithmetic_format bytes (Blames an_arithmetic bytes BadOpcode (length bytes))
  arithmetic_unnamed bytes b rest h unnamed =
      let differs : (a : Arithmetic) → arithmetic_number a ≢ b = λ a is. none_is_none a ((unnamed a).1 is) in
      record {
        none = numberless arithmetic_number (λ _. Unit {0}) bytes b rest h.parts (λ a any. differs a);
        blame = λ file due. (b ∷ rest, ap length h.parts, IsWrong.no_arithmetic (subst (Due file an_arithmetic) h.parts due) differs);
      }

  abbrev two_format : Format (ℕ × ℕ)
  two_format = both u16_format u16_format

  abbrev call_format : Format (Function × (ℕ × ℕ))
  call_format = both function_format two_format

  abbrev arith_format : Format (Arithmetic × ℕ)
  arith_format = both arithmetic_format u16_format

  call_none : (bytes r : List ℕ) → Begins (opcode_format most) bytes opcode.Call r → BeginsNone call_format r → BeginsNone (instruction_format most) bytes
  call_none bytes r h none i s k = let c = call_in r (parts_of i) s (opened most bytes opcode.Call r i s h k) in none c.0 s c.2

  arith_none : (bytes r : List ℕ) → Begins (opcode_format most) bytes opcode.Arith r → BeginsNone arith_format r → BeginsNone (instruction_format most) bytes
  arith_none bytes r h none i s k = let c = arith_in r (parts_of i) s (opened most bytes opcode.Arith r i s h k) in none c.0 s c.2

  pub call_stop_function : (bytes r : List ℕ) (stop : FileStop) → Begins (opcode_format most) bytes opcode.Call r → IsStop function_format r (Blames a_function r) stop → IsStop (instruction_format most) bytes (Blames (an_instruction most) bytes) stop
  call_stop_function bytes r stop h k =
      stop_due function_format (instruction_format most) a_function (an_instruction most) r bytes stop
      (λ none. call_none bytes r h (λ p s l. none p.0 (two_format.spell p.1 ++ s) (both_first function_format two_format r p s l))) (λ file due. Due.function due h) k

  pub call_stop_arguments : (bytes r : List ℕ) (f : Function) (t : List ℕ) (stop : FileStop) → Begins (opcode_format most) bytes opcode.Call r → Begins function_format r f t → IsStop two_format t (IsCut 4 t) stop → IsStop (instruction_format most) bytes (Blames (an_instruction most) bytes) stop
  call_stop_arguments bytes r f t stop h k l =
      stop_cut two_format (instruction_format most) 4 (so_many 4) (an_instruction most) t bytes stop refl
      (λ none. call_none bytes r h (λ p s m. none p.1 s (both_rest function_format two_format function_free r f t p s k m).1)) (λ file due. Due.behind_function (Due.function due h) k) l

  pub arith_stop_function : (bytes r : List ℕ) (stop : FileStop) → Begins (opcode_format most) bytes opcode.Arith r → IsStop arithmetic_format r (Blames an_arithmetic r) stop → IsStop (instruction_format most) bytes (Blames (an_instruction most) bytes) stop
  arith_stop_function bytes r stop h k =
      stop_due arithmetic_format (instruction_format most) an_arithmetic (an_instruction most) r bytes stop
      (λ none. arith_none bytes r h (λ p s l. none p.0 (u16_format.spell p.1 ++ s) (both_first arithmetic_format u16_format r p s l))) (λ file due. Due.arithmetic due h) k

  pub arith_stop_target : (bytes r : List ℕ) (a : Arithmetic) (t : List ℕ) (stop : FileStop) → Begins (opcode_format most) bytes opcode.Arith r → Begins arithmetic_format r a t → IsStop u16_format t (IsCut 2 t) stop → IsStop (instruction_format most) bytes (Blames (an_instruction most) bytes) stop
  arith_stop_target bytes r a t stop h k l =
      stop_cut u16_format (instruction_format most) 2 (so_many 2) (an_instruction most) t bytes stop refl
      (λ none. arith_none bytes r h (λ p s m. none p.1 s (both_rest arithmetic_format u16_format arithmetic_free r a t p s k m).1)) (λ file due. Due.behind_arithmetic (Due.arithmetic due h) k) l

  pub opcode_stop : (bytes : List ℕ) (stop : FileStop) → IsStop (opcode_format most) bytes (Blames (an_instruction most) bytes) stop → IsStop (instruction_format most) bytes (Blames (an_instruction most) bytes) stop
  opcode_stop bytes stop h = stop_none (opcode_format most) (instruction_format most) bytes bytes (Blames (an_instruction most) bytes) stop (λ none i s k. none (opcode_of (parts_of i)) (rest_bytes (parts_of i) ++ s) (self_opened most bytes i s k)) h

  pub slotted_stop : (bytes : List ℕ) (o : Slotted) (r : List ℕ) (stop : FileStop) → Begins (opcode_format most) bytes (opcode.Slotted o) r → IsStop u8_format r (IsCut 1 r) stop → IsStop (instruction_format most) bytes (Blames (an_instruction most) bytes) stop
  slotted_stop bytes o r stop h k =
      stop_cut u8_format (instruction_format most) 1 (so_many 1) (an_instruction most) r bytes stop refl
      (λ none i s l. let c = slot_in o r (parts_of i) s (opened most bytes (opcode.Slotted o) r i s h l) in none c.0 s c.2) (λ file due. Due.argument_slot due h) k

  pub single_stop : (bytes : List ℕ) (o : Single) (r : List ℕ) (stop : FileStop) → Begins (opcode_format most) bytes (opcode.Single o) r → IsStop u16_format r (IsCut 2 r) stop → IsStop (instruction_format most) bytes (Blames (an_instruction most) bytes) stop
  single_stop bytes o r stop h k =
      stop_cut u16_format (instruction_format most) 2 (so_many 2) (an_instruction most) r bytes stop refl
      (λ none i s l. let c = one_in o r (parts_of i) s (opened most bytes (opcode.Single o) r i s h l) in none c.0 s c.2) (λ file due. Due.argument due h) k

  pub double_stop : (bytes : List ℕ) (o : Double) (r : List ℕ) (stop : FileStop) → Begins (opcode_format most) bytes (opcode.Double o) r → IsStop two_format r (IsCut 4 r) stop → IsStop (instruction_format most) bytes (Blames (an_instruction most) bytes) stop
  double_stop bytes o r stop h k =
      stop_cut two_format (instruction_format most) 4 (so_many 4) (an_instruction most) r bytes stop refl
      (λ none i s l. let c = two_in o r (parts_of i) s (opened most bytes (opcode.Double o) r i s h l) in none c.0 s c.2) (λ file due. Due.arguments due h) k
