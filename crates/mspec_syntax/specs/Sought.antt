-- The kinds of atoms that a map's key is searched for.
use Rattle.std.specs.Prelude.{Bool}
use Rattle.mspec_syntax.specs.Grammar.{is_hole, is_misnumbered}
use Rattle.mspec_syntax.specs.declared.word.Word.{Word}
use Rattle.mspec_syntax.specs.declared.word.Sought.{Sought}
use Rattle.mspec_syntax.specs.declared.word.Sought.TheVariants as sought

abbrev pub is_sought : Sought → Word → Bool
is_sought sought.Hole w = is_hole w
is_sought sought.Misnumbered w = is_misnumbered w
