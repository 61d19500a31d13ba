-- Instructions by their opcodes and arguments.
use Rattle.std.specs.Prelude.{ℕ}
use Rattle.mcode.specs.declared.instr.Instr.{Instr}
use Rattle.mcode.specs.declared.instr.Instr.TheVariants as instr
use Rattle.code_writer.specs.declared.opcode.Opcode.{Opcode}
use Rattle.code_writer.specs.declared.opcode.Opcode.TheVariants as opcode
use Rattle.code_writer.specs.declared.opcode.Bare.{Bare}
use Rattle.code_writer.specs.declared.opcode.Bare.TheVariants as bare
use Rattle.code_writer.specs.declared.opcode.Slotted.{Slotted}
use Rattle.code_writer.specs.declared.opcode.Slotted.TheVariants as slotted
use Rattle.code_writer.specs.declared.opcode.Single.{Single}
use Rattle.code_writer.specs.declared.opcode.Single.TheVariants as single
use Rattle.code_writer.specs.declared.opcode.Double.{Double}
use Rattle.code_writer.specs.declared.opcode.Double.TheVariants as double

-- the instruction of an opcode without arguments
abbrev pub bare_instr : Bare → Instr
bare_instr bare.Load = instr.Load
bare_instr bare.Dup = instr.Dup
bare_instr bare.Drop = instr.Drop
bare_instr bare.Head = instr.Head
bare_instr bare.Tail = instr.Tail
bare_instr bare.Answer = instr.Answer
bare_instr bare.NoAnswer = instr.NoAnswer
bare_instr bare.Return = instr.Return
bare_instr bare.Fail = instr.Fail

-- the instruction of an opcode and a slot
abbrev pub slotted_instr : Slotted → ℕ → Instr
slotted_instr slotted.Get v = instr.Get v
slotted_instr slotted.Bind v = instr.Bind v

-- the instruction of an opcode and a number
abbrev pub single_instr : Single → ℕ → Instr
single_instr single.Const n = instr.Const n
single_instr single.Field n = instr.Field n
single_instr single.Cons n = instr.Cons n
single_instr single.Map n = instr.Map n
single_instr single.Equal n = instr.Equal n
single_instr single.Jump n = instr.Jump n
single_instr single.Int n = instr.Int n
single_instr single.Bool n = instr.Bool n
single_instr single.Branch n = instr.Branch n
single_instr single.MakeCons n = instr.MakeCons n

-- the instruction of an opcode and two numbers
abbrev pub double_instr : Double → ℕ → ℕ → Instr
double_instr double.Tuple n l = instr.Tuple n l
double_instr double.Value n l = instr.Value n l
double_instr double.MakeTuple n l = instr.MakeTuple n l
double_instr double.MakeMap n l = instr.MakeMap n l
double_instr double.Invoke n l = instr.Invoke n l

-- the number of an opcode
abbrev pub opcode_number : Opcode → ℕ
opcode_number (opcode.Bare bare.Load) = 1
opcode_number (opcode.Single single.Const) = 2
opcode_number (opcode.Slotted slotted.Get) = 3
opcode_number (opcode.Slotted slotted.Bind) = 4
opcode_number (opcode.Bare bare.Dup) = 5
opcode_number (opcode.Bare bare.Drop) = 6
opcode_number (opcode.Double double.Tuple) = 7
opcode_number (opcode.Single single.Field) = 8
opcode_number (opcode.Single single.Cons) = 9
opcode_number (opcode.Bare bare.Head) = 10
opcode_number (opcode.Bare bare.Tail) = 11
opcode_number (opcode.Single single.Map) = 12
opcode_number (opcode.Double double.Value) = 13
opcode_number (opcode.Single single.Equal) = 14
opcode_number (opcode.Single single.Jump) = 15
opcode_number opcode.Call = 16
opcode_number (opcode.Single single.Int) = 17
opcode_number opcode.Arith = 18
opcode_number (opcode.Single single.Bool) = 19
opcode_number (opcode.Single single.Branch) = 20
opcode_number (opcode.Double double.MakeTuple) = 21
opcode_number (opcode.Single single.MakeCons) = 22
opcode_number (opcode.Double double.MakeMap) = 23
opcode_number (opcode.Bare bare.Answer) = 24
opcode_number (opcode.Bare bare.NoAnswer) = 25
opcode_number (opcode.Double double.Invoke) = 26
opcode_number (opcode.Bare bare.Return) = 27
opcode_number (opcode.Bare bare.Fail) = 28
