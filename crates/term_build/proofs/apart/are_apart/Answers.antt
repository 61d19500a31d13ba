use Rattle.term_build.proofs.ByKeyLemmas.{apart-sorted}
use Rattle.term_build.proofs.apart.are_apart.Goals as goal

pub returns : goal.returns
returns g c =
    apart-sorted c.neighbours_differ.result c.args.terms.now c.in_ok-references.references.items c.sort_unstable.new.self.items c.in_ok-references.ensures c.sort_unstable.ensures.permutation
    (rw c.as_slice.ensures.value at c.neighbours_differ.ensures)
