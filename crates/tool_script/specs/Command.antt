-- The commands of a script, and the term of each. (STDLIB Reference Manual, module ets.)
use Rattle.std.specs.Prelude.{ℕ, ℤ, ◌≢◌, List, [], ◌∷◌, codes}
use Rattle.term_core.specs.Datum.{Datum, items_of}
use Rattle.term_core.specs.Datum.Datum.{integer, atom, tuple}
use Rattle.part_core.specs.declared.kind.TableKind.{TableKind}
use Rattle.part_core.specs.declared.kind.TableKind.TheVariants.{Set, OrderedSet, Bag, DuplicateBag}

-- what a session requests of the table, other than a walk
pub data Ask : Type 0 where
  Insert : Datum → Ask
  InsertNew : Datum → Ask
  Lookup : Datum → Ask
  Member : Datum → Ask
  Delete : Datum → Ask
  DeleteObject : Datum → Ask
  Take : Datum → Ask
  Fix : Ask
  Unfix : Ask
  Leave : Ask
  First : Ask
  Next : Datum → Ask

-- What a session requests with a specification, or of a walk that it began: all answers (ets:select/2); at most a given
-- number at once (ets:select/3); the answers that follow a piece, by the number of its continuation (ets:select/1); the
-- number of objects for which the answer is true (ets:select_count/2); the deletion of these objects
-- (ets:select_delete/2).
pub data Selection : Type 0 where
  Select : Datum → Selection
  SelectLimit : Datum → ℤ → Selection
  SelectMore : ℤ → Selection
  SelectCount : Datum → Selection
  SelectDelete : Datum → Selection

-- A command: opens a table of a kind, with the key position, the numbers of parts and of sessions; has a session, by
-- its number, request something or walk the table; or closes the table.
pub data Command : Type 0 where
  Open : TableKind → ℤ → ℤ → ℤ → Command
  Session : ℤ → Ask → Command
  Walk : ℤ → Selection → Command
  Close : Command

-- the atom of a kind
abbrev pub kind_name : TableKind → List ℕ
kind_name Set = codes "set"
kind_name OrderedSet = codes "ordered_set"
kind_name Bag = codes "bag"
kind_name DuplicateBag = codes "duplicate_bag"

-- a tuple of an atom and arguments
abbrev pub called : List ℕ → List Datum → Datum
called name arguments = tuple (items_of (atom name ∷ arguments))

-- the term of a session's request, with the number of the session
abbrev pub ask_term : ℤ → Ask → Datum
ask_term s (Insert t) = called (codes "insert") (integer s ∷ t ∷ [])
ask_term s (InsertNew t) = called (codes "insert_new") (integer s ∷ t ∷ [])
ask_term s (Lookup k) = called (codes "lookup") (integer s ∷ k ∷ [])
ask_term s (Member k) = called (codes "member") (integer s ∷ k ∷ [])
ask_term s (Delete k) = called (codes "delete") (integer s ∷ k ∷ [])
ask_term s (DeleteObject t) = called (codes "delete_object") (integer s ∷ t ∷ [])
ask_term s (Take k) = called (codes "take") (integer s ∷ k ∷ [])
ask_term s Fix = called (codes "fix") (integer s ∷ [])
ask_term s Unfix = called (codes "unfix") (integer s ∷ [])
ask_term s Leave = called (codes "leave") (integer s ∷ [])
ask_term s First = called (codes "first") (integer s ∷ [])
ask_term s (Next k) = called (codes "next") (integer s ∷ k ∷ [])

-- the term of a session's request with a specification or for a walk, with the number of the session
abbrev pub selection_term : ℤ → Selection → Datum
selection_term s (Select d) = called (codes "select") (integer s ∷ d ∷ [])
selection_term s (SelectLimit d limit) =
    called (codes "select") (integer s ∷ d ∷ integer limit ∷ [])
selection_term s (SelectMore c) = called (codes "more") (integer s ∷ integer c ∷ [])
selection_term s (SelectCount d) = called (codes "select_count") (integer s ∷ d ∷ [])
selection_term s (SelectDelete d) = called (codes "select_delete") (integer s ∷ d ∷ [])

-- the term of a command
abbrev pub command_term : Command → Datum
command_term (Open kind keypos parts sessions) =
    called (codes "open") (atom (kind_name kind) ∷ integer keypos ∷ integer parts ∷ integer sessions ∷ [])
command_term (Session s ask) = ask_term s ask
command_term (Walk s selection) = selection_term s selection
command_term Close = called (codes "close") []

-- a term that is not the term of any command
abbrev pub IsNoCommand : Datum → Type 0
IsNoCommand d = (command : Command) → d ≢ command_term command
