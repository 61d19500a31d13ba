-- The sizes of terms (Erlang Reference Manual, module erlang: size, tuple_size, byte_size, bit_size).
use Rattle.std.specs.Prelude.{◌*◌, length, ℤ, pos, Option, Some, None}
use Rattle.term_core.specs.Datum.{Datum, item_count}
use Rattle.term_core.specs.Datum.Datum.{tuple, binary}
use Rattle.prims_table.specs.declared.prim.SizeFunction.{SizeFunction}
use Rattle.prims_table.specs.declared.prim.SizeFunction.TheVariants.{Size, TupleSize, ByteSize, BitSize}

-- the number of a tuple's elements, or of a binary's bytes or bits, None for a term that the function does not measure
abbrev pub size_of : SizeFunction → Datum → Option ℤ
size_of Size (tuple ds) = Some (pos (item_count ds))
size_of Size (binary bs) = Some (pos (length bs))
size_of TupleSize (tuple ds) = Some (pos (item_count ds))
size_of ByteSize (binary bs) = Some (pos (length bs))
size_of BitSize (binary bs) = Some (pos (8 * length bs))
size_of function d = None
