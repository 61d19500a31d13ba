-- if none of the remaining terms is as deep, none is at all
use Rattle.std.proofs.Common.{◌<◌, drop}
use Rattle.term_core.specs.Datum.{items_of}
use Rattle.term_core.specs.Limits.{items_depth}
use Rattle.term_core.proofs.term.rest.has_as_deep.Given as goal

abbrev pub invariant-loop-element : goal.invariant-loop-element
invariant-loop-element g l =
    items_depth (items_of (drop l.element-index l.elements)) < l.depth → items_depth (items_of l.elements) < l.depth
