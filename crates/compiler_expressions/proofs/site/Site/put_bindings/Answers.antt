use Rattle.compiler_expressions.proofs.LineLemmas.{bound-parts}
use Rattle.compiler_expressions.proofs.site.Site.put_bindings.Goals as goal

pub put_cells-requires : goal.put_cells-requires
put_cells-requires g c =
    (bound-parts c.args.self.now c.args.integers.now c.args.depth c.bound-numbers.ensures c.is_empty.ensures
    c.if-is_empty.false c.requires.lines).1

pub put_variables-requires : goal.put_variables-requires
put_variables-requires g c =
    (bound-parts c.args.self.now c.args.integers.now c.args.depth c.bound-numbers.ensures c.is_empty.ensures
    c.if-is_empty.false c.requires.lines).0
