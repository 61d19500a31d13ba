use Rattle.std.proofs.Common.{◌≡◌, drop}
use Rattle.prims_table.specs.Names.{found}
use Rattle.prims_table.proofs.names.find.Given as goal

abbrev pub invariant-loop-prim : goal.invariant-loop-prim
invariant-loop-prim l =
    found l.name l.arguments (drop l.prim-index l.prims) ≡ found l.name l.arguments l.prims
