-- How a command is read: by its name and the number of its arguments.
use Rattle.std.specs.Prelude.{ℕ, ℤ, nat_eq, if◌then◌else◌, Option, Some, None, option_map, List, [], ◌∷◌, codes}
use Rattle.std.specs.Option.{option_or}
use Rattle.std.specs.Cmp.Lexicographic.{pointwise}
use Rattle.term_core.specs.Datum.{Datum}
use Rattle.term_core.specs.Datum.Datum.{atom}
use Rattle.term_operand.specs.Operand.{integer_of}
use Rattle.part_core.specs.declared.kind.TableKind.{TableKind}
use Rattle.part_core.specs.declared.kind.TableKind.TheVariants.{Set, OrderedSet, Bag, DuplicateBag}
use Rattle.tool_script.specs.Command.{Ask, Selection, Command}
use Rattle.tool_script.specs.Command.Ask.{Insert, InsertNew, Lookup, Member, Delete, DeleteObject, Take, Fix, Unfix, Leave, First, Next}
use Rattle.tool_script.specs.Command.Selection.{Select, SelectLimit, SelectMore, SelectCount, SelectDelete}
use Rattle.tool_script.specs.Command.Command.{Open, Session, Walk, Close}

-- a term that is not an atom
abbrev pub IsNoAtom : Datum → Type 0
IsNoAtom (atom cs) = ⊥
IsNoAtom d = Unit {0}

-- the table kind that this name means
abbrev pub kind_in : List ℕ → Option TableKind
kind_in cs =
    if pointwise nat_eq (codes "set") cs then Some Set
    else if pointwise nat_eq (codes "ordered_set") cs then Some OrderedSet
    else if pointwise nat_eq (codes "bag") cs then Some Bag
    else if pointwise nat_eq (codes "duplicate_bag") cs then Some DuplicateBag
    else None

-- the request that has this name and no argument
abbrev pub ask_alone : List ℕ → Option Ask
ask_alone cs =
    if pointwise nat_eq (codes "fix") cs then Some Fix
    else if pointwise nat_eq (codes "unfix") cs then Some Unfix
    else if pointwise nat_eq (codes "leave") cs then Some Leave
    else if pointwise nat_eq (codes "first") cs then Some First
    else None

-- the request that has this name and one term
abbrev pub ask_with : List ℕ → Datum → Option Ask
ask_with cs d =
    if pointwise nat_eq (codes "insert") cs then Some (Insert d)
    else if pointwise nat_eq (codes "insert_new") cs then Some (InsertNew d)
    else if pointwise nat_eq (codes "lookup") cs then Some (Lookup d)
    else if pointwise nat_eq (codes "member") cs then Some (Member d)
    else if pointwise nat_eq (codes "delete") cs then Some (Delete d)
    else if pointwise nat_eq (codes "delete_object") cs then Some (DeleteObject d)
    else if pointwise nat_eq (codes "take") cs then Some (Take d)
    else if pointwise nat_eq (codes "next") cs then Some (Next d)
    else None

-- the command of a session that requests something, if the number of the session and the request were read
abbrev pub asked_with : Option ℤ → Option Ask → Option Command
asked_with (Some s) (Some ask) = Some (Session s ask)
asked_with s ask = None

abbrev pub asked_by : Datum → Option Ask → Option Command
asked_by s ask = asked_with (integer_of s) ask

-- the request that has this name and one term, which is a specification or the number of a continuation
abbrev pub selection_with : List ℕ → Datum → Option Selection
selection_with cs d =
    if pointwise nat_eq (codes "select") cs then Some (Select d)
    else if pointwise nat_eq (codes "more") cs then option_map SelectMore (integer_of d)
    else if pointwise nat_eq (codes "select_count") cs then Some (SelectCount d)
    else if pointwise nat_eq (codes "select_delete") cs then Some (SelectDelete d)
    else None

-- the request that has this name, a specification and a limit
abbrev pub selection_within : List ℕ → Datum → Datum → Option Selection
selection_within cs d limit =
    if pointwise nat_eq (codes "select") cs then option_map (SelectLimit d) (integer_of limit) else None

-- the command of a session that walks the table, if the number of the session and the request were read
abbrev pub walked_with : Option ℤ → Option Selection → Option Command
walked_with (Some s) (Some selection) = Some (Walk s selection)
walked_with s selection = None

abbrev pub walked_by : Datum → Option Selection → Option Command
walked_by s selection = walked_with (integer_of s) selection

-- the command of a session that has this name and one term
abbrev pub told_by : List ℕ → Datum → Datum → Option Command
told_by cs s d = option_or (asked_by s (ask_with cs d)) (walked_by s (selection_with cs d))

-- the table kind that a term names
abbrev pub kind_by : Datum → Option TableKind
kind_by (atom cs) = kind_in cs
kind_by d = None

-- the command that opens a table, if the kind and the numbers were read
abbrev pub opened_with : Option TableKind → Option ℤ → Option ℤ → Option ℤ → Option Command
opened_with (Some kind) (Some keypos) (Some parts) (Some sessions) =
    Some (Open kind keypos parts sessions)
opened_with kind keypos parts sessions = None

abbrev pub opened_by : List ℕ → Datum → Datum → Datum → Datum → Option Command
opened_by cs kind keypos parts sessions =
    if pointwise nat_eq (codes "open") cs
    then opened_with (kind_by kind) (integer_of keypos) (integer_of parts) (integer_of sessions)
    else None

-- the command that has this name and no argument: `close`
abbrev pub closed_by : List ℕ → Option Command
closed_by cs = if pointwise nat_eq (codes "close") cs then Some Close else None

-- the command that has this name and these arguments
abbrev pub command_with : List ℕ → List Datum → Option Command
command_with cs [] = closed_by cs
command_with cs (s ∷ []) = asked_by s (ask_alone cs)
command_with cs (s ∷ d ∷ []) = told_by cs s d
command_with cs (s ∷ d ∷ limit ∷ []) = walked_by s (selection_within cs d limit)
command_with cs (kind ∷ keypos ∷ parts ∷ sessions ∷ []) = opened_by cs kind keypos parts sessions
command_with cs ds = None

-- the command of a tuple's elements: an atom and arguments
abbrev pub elements_in : List Datum → Option Command
elements_in (atom cs ∷ ds) = command_with cs ds
elements_in ds = None
