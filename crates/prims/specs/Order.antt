-- Comparisons by the order of terms (Erlang Reference Manual, "Expressions", "Term Comparisons"; module erlang: max,
-- min).
use Rattle.std.specs.Prelude.{Bool, if◌then◌else◌}
use Rattle.std.specs.declared.cmp.Ordering.{Ordering}
use Rattle.std.specs.Ordering.{is_eq, is_ne, is_lt, is_gt, is_le, is_ge}
use Rattle.term_core.specs.Datum.{Datum}
use Rattle.term_core.specs.Order.{datum_cmp}
use Rattle.prims_table.specs.declared.prim.Comparison.{Comparison}
use Rattle.prims_table.specs.declared.prim.Comparison.TheVariants.{Greater, GreaterOrEqual, Less, LessOrEqual, ExactlyEqual, ExactlyUnequal, Equal, Unequal}
use Rattle.prims_table.specs.declared.prim.Extreme.{Extreme}
use Rattle.prims_table.specs.declared.prim.Extreme.TheVariants.{Max, Min}

-- whether a comparison allows this order of the first term and the second
abbrev pub allows : Comparison → Ordering → Bool
allows Greater o = is_gt o
allows GreaterOrEqual o = is_ge o
allows Less o = is_lt o
allows LessOrEqual o = is_le o
allows ExactlyEqual o = is_eq o
allows ExactlyUnequal o = is_ne o
allows Equal o = is_eq o
allows Unequal o = is_ne o

-- whether two terms satisfy the comparison
abbrev pub comparison_of : Comparison → Datum → Datum → Bool
comparison_of comparison d e = allows comparison (datum_cmp d e)

-- the greater or the smaller of two terms, the first if they are equal
abbrev pub extreme_of : Extreme → Datum → Datum → Datum
extreme_of Max d e = if is_lt (datum_cmp d e) then e else d
extreme_of Min d e = if is_gt (datum_cmp d e) then e else d
