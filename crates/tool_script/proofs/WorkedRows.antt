-- Worked scripts, computed from the definitions.
use Rattle.std.proofs.Common.{◌≡◌, ℕ, pos, List, [], ◌∷◌, refl, None, ◌∙◌, sym, ap}
use Rattle.std.specs.Prelude.{true, false, codes, negsuc}
use Rattle.std.proofs.lemmas.Option.{none-some}
use Rattle.term_core.specs.Datum.{Datum, items_of, cells}
use Rattle.term_core.specs.Datum.Datum.{integer, atom, tuple, nil}
use Rattle.term_core.specs.KeyHash.{key_hash}
use Rattle.term_core.specs.Order.{datum_cmp}
use Rattle.term_operand.specs.Operand.{boolean}
use Rattle.part_core.specs.declared.kind.TableKind.{TableKind}
use Rattle.part_core.specs.declared.kind.TableKind.TheVariants.{Set, OrderedSet, Bag, DuplicateBag}
use Rattle.part_core.specs.Visits.{walk_order}
use Rattle.part_core.specs.Replies.{reply_of}
use Rattle.part_core.specs.After.{after}
use Rattle.tool_script.specs.Command.{Ask, Command, called, IsNoCommand}
use Rattle.tool_script.specs.Command.Ask.{Insert, InsertNew, Lookup, Member, Delete, DeleteObject, Take, Fix, Unfix, Leave, First, Next}
use Rattle.tool_script.specs.Command.Command.{Open, Session, Close}
use Rattle.tool_script.specs.Course.{Course, Step}
use Rattle.tool_script.specs.Course.Course.{Settled, Judging}
use Rattle.tool_script.specs.Replied.{course}
use Rattle.tool_script.specs.Script.{ScriptState, beginning, error}
use Rattle.tool_script.proofs.ReadingLemmas.{command_in, elements_of, read_back}

-- the step of a command that judges no term
abbrev settled : ScriptState → Course ScriptState → Step ScriptState
settled st (Settled s) = s
settled st (Judging o d go) = (error 65, st)

-- the replies to commands, from a state
abbrev replied : ScriptState → List Command → List Datum
replied st [] = []
replied st (c ∷ cs) =
    (settled st (course st st.current c)).0 ∷ replied (settled st (course st st.current c)).1 cs

abbrev replies : List Command → List Datum
replies = replied beginning

-- a term from which no command is read is the term of none
none_read : (d : Datum) → command_in d ≡ None → IsNoCommand d
none_read d none = λ c is. absurd (none-some c (sym none ∙ ap command_in is ∙ read_back c))

abbrev key : ℕ → Datum
key n = integer (pos n)

abbrev word : List ℕ → Datum
word cs = atom cs

abbrev one : ℕ → Datum
one n = tuple (items_of (key n ∷ []))

abbrev two : ℕ → Datum → Datum
two n d = tuple (items_of (key n ∷ d ∷ []))

abbrev yes : Datum
yes = boolean true

abbrev not_so : Datum
not_so = boolean false

abbrev list : List Datum → Datum
list ds = cells ds nil

abbrev opens : TableKind → ℕ → ℕ → ℕ → Command
opens kind keypos parts sessions = Open kind (pos keypos) (pos parts) (pos sessions)

abbrev does : ℕ → Ask → Command
does n ask = Session (pos n) ask

-- ---- tables that can't be opened

one_part : replies (opens OrderedSet 1 2 1 ∷ []) ≡ error 60 ∷ []
one_part = refl

no_place : replies (opens Set 0 1 1 ∷ opens Set 65536 1 1 ∷ opens Set 1 65 1 ∷ opens Set 1 1 17 ∷ Open Set (negsuc 0) (pos 1) (pos 1) ∷ []) ≡ error 60 ∷ error 60 ∷ error 60 ∷ error 60 ∷ error 60 ∷ []
no_place = refl

-- ---- terms that are no commands

no_heap : IsNoCommand (called (codes "open") (word (codes "heap") ∷ key 1 ∷ key 1 ∷ key 1 ∷ []))
unfolding command_in elements_of
no_heap = none_read _ refl

no_select : IsNoCommand (called (codes "select") (key 0 ∷ nil ∷ nil ∷ []))
unfolding command_in elements_of
no_select = none_read _ refl

no_continuation : IsNoCommand (called (codes "more") (key 0 ∷ word (codes "a") ∷ []))
unfolding command_in elements_of
no_continuation = none_read _ refl

no_session : IsNoCommand (called (codes "insert") (word (codes "a") ∷ one 1 ∷ []))
unfolding command_in elements_of
no_session = none_read _ refl

no_argument : IsNoCommand (called (codes "insert") (key 0 ∷ []))
unfolding command_in elements_of
no_argument = none_read _ refl

-- ---- the order of checks

none_open : replies (does 0 (Lookup (key 1)) ∷ Close ∷ []) ≡ error 65 ∷ error 65 ∷ []
none_open = refl

one_open : replies (opens Set 1 1 1 ∷ opens Set 0 1 1 ∷ []) ≡ yes ∷ error 65 ∷ []
one_open = refl

session_first : replies (opens Set 1 1 1 ∷ does 1 (Insert (word (codes "a"))) ∷ Session (negsuc 0) Fix ∷ does 0 (Insert (word (codes "a"))) ∷ []) ≡ yes ∷ error 61 ∷ error 61 ∷ error 50 ∷ []
session_first = refl

-- ---- one session at a table

abbrev session_of : TableKind → List Command
session_of kind =
    opens kind 1 1 1 ∷ does 0 (Insert (tuple (items_of []))) ∷ does 0 (Insert (word (codes "a"))) ∷ does 5 Fix
    ∷ does 0 (Insert (two 1 (word (codes "a")))) ∷ does 0 (Insert (two 1 (word (codes "b")))) ∷ does 0 (Lookup (key 1))
    ∷ does 0 (InsertNew (two 1 (word (codes "c")))) ∷ does 0 (Take (key 1)) ∷ does 0 (Member (key 1)) ∷ Close ∷ []

abbrev replies_of_session : List Datum
replies_of_session =
    yes ∷ error 50 ∷ error 50 ∷ error 61 ∷ yes ∷ yes ∷ list (two 1 (word (codes "b")) ∷ []) ∷ not_so
    ∷ list (two 1 (word (codes "b")) ∷ []) ∷ not_so ∷ nil ∷ []

set_session : replies (session_of Set) ≡ replies_of_session
unfolding reply_of after datum_cmp key_hash walk_order
set_session = refl

ordered_session : replies (session_of OrderedSet) ≡ replies_of_session
unfolding reply_of after datum_cmp key_hash walk_order
ordered_session = refl

ordered_keys : replies (opens OrderedSet 1 1 1 ∷ does 0 (InsertNew (two 2 (word (codes "c")))) ∷ does 0 First ∷ does 0 (Next (key 1)) ∷ Close ∷ []) ≡ yes ∷ yes ∷ key 2 ∷ key 2 ∷ list (two 2 (word (codes "c")) ∷ []) ∷ []
unfolding reply_of after datum_cmp key_hash walk_order
ordered_keys = refl

-- ---- bags

abbrev a : Datum
a = two 1 (word (codes "a"))

abbrev b : Datum
b = two 1 (word (codes "b"))

abbrev c : Datum
c = two 2 (word (codes "c"))

abbrev bag_session : TableKind → List Command
bag_session kind =
    opens kind 1 1 1 ∷ does 0 (Insert a) ∷ does 0 (Insert b) ∷ does 0 (Insert a) ∷ does 0 (Insert c)
    ∷ does 0 (Lookup (key 1)) ∷ does 0 (InsertNew (two 1 (word (codes "z")))) ∷ does 0 (DeleteObject a)
    ∷ does 0 (Take (key 1)) ∷ Close ∷ []

-- in a bag an equal object changes nothing, and keeps its place
of_a_bag : replies (bag_session Bag) ≡ yes ∷ yes ∷ yes ∷ yes ∷ yes ∷ list (a ∷ b ∷ []) ∷ not_so ∷ yes ∷ list (b ∷ []) ∷ list (c ∷ []) ∷ []
unfolding reply_of after datum_cmp key_hash walk_order
of_a_bag = refl

-- in a duplicate bag an equal object is added
of_a_duplicate_bag : replies (bag_session DuplicateBag) ≡ yes ∷ yes ∷ yes ∷ yes ∷ yes ∷ list (a ∷ b ∷ a ∷ []) ∷ not_so ∷ yes ∷ list (b ∷ []) ∷ list (c ∷ []) ∷ []
unfolding reply_of after datum_cmp key_hash walk_order
of_a_duplicate_bag = refl

-- ---- two sessions that fix a set

fixed_set : replies (opens Set 1 1 2 ∷ does 0 (Insert (one 1)) ∷ does 0 (Insert (one 2)) ∷ does 0 Fix ∷ does 1 Fix ∷ does 0 First ∷ does 0 (Delete (key 1)) ∷ does 0 Unfix ∷ does 0 (Next (key 1)) ∷ does 1 Unfix ∷ does 0 (Next (key 1)) ∷ does 0 Unfix ∷ []) ≡ yes ∷ yes ∷ yes ∷ yes ∷ yes ∷ key 1 ∷ yes ∷ yes ∷ key 2 ∷ yes ∷ error 53 ∷ error 52 ∷ []
unfolding reply_of after datum_cmp key_hash walk_order
fixed_set = refl

-- a session that leaves releases its fixes, and can't use the table any more
left : replies (opens Set 1 1 2 ∷ does 0 (Insert (one 1)) ∷ does 0 Fix ∷ does 0 Fix ∷ does 1 (Delete (key 1)) ∷ does 0 Leave ∷ does 1 (Next (key 1)) ∷ does 0 Leave ∷ does 0 (Lookup (key 1)) ∷ []) ≡ yes ∷ yes ∷ yes ∷ yes ∷ yes ∷ yes ∷ error 53 ∷ error 61 ∷ error 61 ∷ []
unfolding reply_of after datum_cmp key_hash walk_order
left = refl

-- ---- two tables, one after the other, the first in two parts

two_tables : replies (opens Set 1 2 1 ∷ does 0 (Insert (one 1)) ∷ does 0 (Insert (one 2)) ∷ does 0 (Insert (one 3)) ∷ does 0 (Insert (one 4)) ∷ does 0 First ∷ does 0 (Next (key 4)) ∷ does 0 (Next (key 3)) ∷ does 0 (DeleteObject (one 4)) ∷ does 0 Leave ∷ Close ∷ opens Set 1 1 1 ∷ does 0 (Member (key 1)) ∷ Close ∷ []) ≡ yes ∷ yes ∷ yes ∷ yes ∷ yes ∷ key 2 ∷ key 1 ∷ word (codes "$end_of_table") ∷ yes ∷ yes ∷ list (one 2 ∷ one 1 ∷ one 3 ∷ []) ∷ yes ∷ not_so ∷ nil ∷ []
unfolding reply_of after datum_cmp key_hash walk_order
two_tables = refl
