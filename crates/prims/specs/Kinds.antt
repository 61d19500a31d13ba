-- Tests of a term for its kind (Erlang Reference Manual, "Expressions", "Guard Expressions"; module erlang).
use Rattle.std.specs.Prelude.{Bool, true, false, is_some}
use Rattle.term_core.specs.Datum.{Datum}
use Rattle.term_core.specs.Datum.Datum.{integer, atom, tuple, map, nil, cons, binary}
use Rattle.term_operand.specs.Operand.{boolean_of}
use Rattle.prims_table.specs.declared.prim.Test.{Test}
use Rattle.prims_table.specs.declared.prim.Test.TheVariants.{IsAtom, IsInteger, IsList, IsNumber, IsTuple, IsMap, IsBinary, IsBitstring, IsBoolean}

-- Whether the term is of the kind. Integers are the only numbers, binaries the only bit strings, and there
-- are no floats, pids, ports, references and functions.
abbrev pub test_of : Test → Datum → Bool
test_of IsAtom (atom cs) = true
test_of IsInteger (integer z) = true
test_of IsList nil = true
test_of IsList (cons head tail) = true
test_of IsNumber (integer z) = true
test_of IsTuple (tuple ds) = true
test_of IsMap (map es) = true
test_of IsBinary (binary bs) = true
test_of IsBitstring (binary bs) = true
test_of IsBoolean d = is_some (boolean_of d)
test_of test d = false
