-- Members of a selection: the sessions that take part in it.
use Rattle.std.specs.Prelude.{All, List, map}
use Rattle.tables.specs.Turns.{Home}
use Rattle.parallel_select.specs.Workers.{AreOfOneTable}

-- sessions of one table, each of which can make turns
abbrev pub AreMembers : {T : Type 0} → (T → Type 0) → (T → Home) → List T → Type 0
AreMembers is_ready home members = All is_ready members × AreOfOneTable (map home members)
