use Rattle.std.proofs.Common.{sym, ◌∙◌, ap}
use Rattle.mspec_syntax.specs.PatternView.{tail_pattern}
use Rattle.compiler_patterns.specs.Writable.{is_anything}
use Rattle.compiler_patterns.proofs.WriteLemmas.{cells-no_anything}
use Rattle.compiler_patterns.proofs.write.is_anything.Goals as goal

pub returns-in-List : goal.returns-in-List
returns-in-List g c =
    let is = rw c.in-List.is at c.kind.ensures.value in
    let kept = rw c.in-List.is at c.kind.ensures.kept in
    sym (cells-no_anything c.in-List._elements.items (tail_pattern c.in-List._tail) kept.0) ∙ ap is_anything is
