-- Definitions about what an instruction needs.
use Rattle.std.specs.Prelude.{ℕ, ◌≡◌, nat_lt, nat_le, Bool, true, false, ◌&&◌, Option, Some, option_map, List, length, map}
use Rattle.term_core.specs.Datum.{Datum}
use Rattle.prims_table.specs.Names.{takes}
use Rattle.prims_table.specs.declared.prim.Primitive.TheVariants as prim
use Rattle.mcode.specs.Machine.{map_keys}
use Rattle.mcode.specs.Program.{Program}
use Rattle.mcode.specs.declared.instr.Instr.{Instr}
use Rattle.mcode.specs.declared.instr.Instr.TheVariants as instr
use Rattle.mcode.specs.declared.kind.Kind.{Kind}
use Rattle.mcode.specs.declared.kind.Kind.TheVariants as kind

-- the number of keys of a term that is a proper list of terms that all differ, None for any other term
abbrev pub keys_counted : Datum → Option ℕ
keys_counted d = option_map length (map_keys d)

-- these are the numbers of keys of the code's constants
abbrev pub AreCounts : Program → List (Option ℕ) → Type 0
AreCounts p counts = counts ≡ map keys_counted p.constants

-- whether the two kinds at the top are those that an instruction needs
abbrev pub tops_fit : Instr → Option Kind → Option Kind → Bool
tops_fit (instr.Field i) (Some (kind.Tuple n)) second = nat_lt 0 i && nat_le i n
tops_fit (instr.Field i) top second = false
tops_fit instr.Head (Some kind.Cons) second = true
tops_fit instr.Head top second = false
tops_fit instr.Tail (Some kind.Cons) second = true
tops_fit instr.Tail top second = false
tops_fit (instr.Value c l) (Some kind.Map) second = true
tops_fit (instr.Value c l) top second = false
tops_fit (instr.Call f n l) top second = takes (prim.Function f) n
tops_fit (instr.Arith f l) (Some kind.Int) (Some kind.Int) = true
tops_fit (instr.Arith f l) top second = false
tops_fit (instr.Branch l) (Some kind.Bool) second = true
tops_fit (instr.Branch l) top second = false
tops_fit i top second = true

-- the number of places that an instruction pushes
abbrev pub pushed_count : Instr → ℕ
pushed_count (instr.Bind v) = 0
pushed_count instr.Dup = 2
pushed_count instr.Drop = 0
pushed_count (instr.Equal l) = 0
pushed_count (instr.Jump l) = 0
pushed_count (instr.Branch l) = 0
pushed_count instr.Answer = 0
pushed_count instr.NoAnswer = 0
pushed_count instr.Return = 0
pushed_count instr.Fail = 0
pushed_count i = 1
