-- The elements that were there, and the copies so far.
use Rattle.std.proofs.Common.{◌≡◌, ◌++◌, take}
use Rattle.term_core.proofs.term.append_copies.Given as goal

abbrev pub invariant-loop-element : goal.invariant-loop-element
invariant-loop-element g l =
    l.elements.items ≡ l.initial.elements.items ++ take l.element-index l.more
