-- Functions of integers (Erlang Reference Manual, "Expressions", "Arithmetic Expressions"; module erlang).
use Rattle.std.specs.Prelude.{zero, ℤ, pos, neg_ℤ, ◌+ℤ◌, ◌-ℤ◌, ◌*ℤ◌, int_div, int_rem, unsigned_abs, Option, Some, None}
use Rattle.std.specs.Int.{w64, int_bit_and, int_bit_or, int_bit_xor}
use Rattle.prims_table.specs.declared.prim.IntegerFunction.{IntegerFunction}
use Rattle.prims_table.specs.declared.prim.IntegerFunction.TheVariants.{Abs, Round, Trunc, Plus, Negate, Bnot}
use Rattle.prims_table.specs.declared.prim.Arithmetic.{Arithmetic}
use Rattle.prims_table.specs.declared.prim.Arithmetic.TheVariants.{Add, Subtract, Multiply, Div, Rem, Band, Bor, Bxor, Bsl, Bsr}
use Rattle.prims.specs.Shifts.{shift_left, shift_right}
use Rattle.prims.specs.Fitting.{fitting}

-- the result of a function of one integer, None if it is outside 64 bits
abbrev pub integer_function_of : IntegerFunction → ℤ → Option ℤ
integer_function_of Abs z = fitting (pos (unsigned_abs z))
integer_function_of Round z = Some z
integer_function_of Trunc z = Some z
integer_function_of Plus z = Some z
integer_function_of Negate z = fitting (neg_ℤ z)
integer_function_of Bnot z = Some (neg_ℤ z -ℤ pos 1)

-- the quotient, rounded toward zero, None if the divisor is 0 or the quotient is outside 64 bits
abbrev pub quotient : ℤ → ℤ → Option ℤ
quotient x (pos zero) = None
quotient x y = fitting (int_div x y)

-- the remainder, with the sign of the dividend, None if the divisor is 0
abbrev pub remainder : ℤ → ℤ → Option ℤ
remainder x (pos zero) = None
remainder x y = Some (int_rem x y)

-- the result of a function of two integers, None if it fails; band, bor and bxor use the bits of the two's complement
abbrev pub arithmetic_of : Arithmetic → ℤ → ℤ → Option ℤ
arithmetic_of Add x y = fitting (x +ℤ y)
arithmetic_of Subtract x y = fitting (x -ℤ y)
arithmetic_of Multiply x y = fitting (x *ℤ y)
arithmetic_of Div x y = quotient x y
arithmetic_of Rem x y = remainder x y
arithmetic_of Band x y = Some (int_bit_and w64 x y)
arithmetic_of Bor x y = Some (int_bit_or w64 x y)
arithmetic_of Bxor x y = Some (int_bit_xor w64 x y)
arithmetic_of Bsl x y = shift_left x y
arithmetic_of Bsr x y = shift_right x y
