-- Worked scripts that walk their tables, computed from the definitions.
use Rattle.std.proofs.Common.{◌≡◌, ℕ, ℤ, pos, List, [], ◌∷◌, ◌++◌, refl, map, inl, None, Some}
use Rattle.std.specs.Prelude.{true, codes, negsuc, if◌then◌else◌, Option}
use Rattle.term_core.specs.Datum.{Datum, items_of, cells}
use Rattle.term_core.specs.Datum.Datum.{integer, atom, tuple, nil}
use Rattle.term_core.specs.KeyHash.{key_hash}
use Rattle.term_core.specs.Order.{datum_cmp}
use Rattle.term_operand.specs.Operand.{boolean}
use Rattle.term_operand.specs.Order.{is_same}
use Rattle.prims_table.specs.declared.prim.Function.TheVariants as function
use Rattle.prims_table.specs.declared.prim.Comparison.TheVariants as comparison
use Rattle.mcode.specs.Answer.{answer_of}
use Rattle.mcode.specs.Program.{Program, alone}
use Rattle.mcode.specs.declared.instr.Instr.{Instr}
use Rattle.mcode.specs.declared.instr.Instr.TheVariants as instr
use Rattle.part_core.specs.declared.kind.TableKind.{TableKind}
use Rattle.part_core.specs.declared.kind.TableKind.TheVariants.{Set, OrderedSet, Bag, DuplicateBag}
use Rattle.part_core.specs.Visits.{walk_order}
use Rattle.part_core.specs.Replies.{reply_of}
use Rattle.part_core.specs.After.{after}
use Rattle.mspec_syntax.specs.declared.fault.SpecFault.TheVariants as fault
use Rattle.tool_script.specs.Command.{Ask, Selection, Command, called, command_term}
use Rattle.tool_script.specs.Command.Ask.{Insert, Delete, Fix, Unfix, Leave, Next}
use Rattle.tool_script.specs.Command.Selection.{Select, SelectLimit, SelectMore, SelectCount, SelectDelete}
use Rattle.tool_script.specs.Command.Command.{Open, Session, Walk, Close}
use Rattle.tool_script.specs.Course.{Step, Course, Comes}
use Rattle.tool_script.specs.Course.Course.{Settled, Judging}
use Rattle.tool_script.specs.Replied.{course, AreReplies}
use Rattle.tool_script.specs.Script.{ScriptState, beginning, error, key_or_end}
use Rattle.tool_script.specs.Verdict.{Verdict, IsVerdict}
use Rattle.tool_script.specs.Verdict.Verdict.{Meant, Faulty}
use Rattle.tool_script.specs.Walks.{piece_term}

-- a command of a script, and what the term in it is as a specification, if one is judged
data Line : Type 0 where
  plain : Command → Line
  judges : Command → Verdict → Line

abbrev command_in : Line → Command
command_in (plain c) = c
command_in (judges c v) = c

abbrev step_in : Course ScriptState → Line → Step ScriptState
step_in (Settled s) l = s
step_in (Judging o d go) (plain c) = go (Faulty fault.NotAList)
step_in (Judging o d go) (judges c v) = go v

abbrev step_by : ScriptState → Line → Step ScriptState
step_by st l = step_in (course st st.current (command_in l)) l

-- the replies to lines, from a state
abbrev replied : ScriptState → List Line → List Datum
replied st [] = []
replied st (l ∷ ls) = (step_by st l).0 ∷ replied (step_by st l).1 ls

abbrev replies : List Line → List Datum
replies = replied beginning

-- the verdict of a line is one on the term that its command judges
abbrev IsJudged : Course ScriptState → Line → Type 0
IsJudged (Settled s) l = Unit {0}
IsJudged (Judging o d go) (plain c) = ⊥
IsJudged (Judging o d go) (judges c v) = IsVerdict o d v

abbrev AreJudged : ScriptState → List Line → Type 0
AreJudged st [] = Unit {0}
AreJudged st (l ∷ ls) =
    IsJudged (course st st.current (command_in l)) l × AreJudged (step_by st l).1 ls

comes : (c : Course ScriptState) (l : Line) → IsJudged c l → Comes c (step_in c l).0 (step_in c l).1
comes (Settled s) l judged = (refl, refl)
comes (Judging o d go) (plain c) judged = absurd judged
comes (Judging o d go) (judges c v) judged = (v, judged, (refl, refl))

-- the replies that are computed are the replies to the lines' terms
are_replied : (st : ScriptState) (ls : List Line) → AreJudged st ls → AreReplies st (map (λ l. command_term (command_in l)) ls) (replied st ls)
are_replied st [] judged = tt
are_replied st (l ∷ ls) judged =
    let go = course st st.current (command_in l) in
    ((step_in go l).1, inl (command_in l, refl, comes go l judged.0), are_replied (step_in go l).1 ls judged.1)

abbrev selects : ℤ → Selection → Verdict → Line
selects s selection v = judges (Walk s selection) v

abbrev key : ℕ → Datum
key n = integer (pos n)

abbrev one : ℕ → Datum
one n = tuple (items_of (key n ∷ []))

abbrev list : List Datum → Datum
list ds = cells ds nil

abbrev yes : Datum
yes = boolean true

abbrev end : Datum
end = key_or_end None

abbrev opens : TableKind → ℕ → ℕ → ℕ → Line
opens kind keypos parts sessions = plain (Open kind (pos keypos) (pos parts) (pos sessions))

abbrev does : ℕ → Ask → Line
does n ask = plain (Session (pos n) ask)

abbrev inserts : List ℕ → List Line
inserts ns = map (λ n. does 0 (Insert (one n))) ns

abbrev yes_each : List ℕ → List Datum
yes_each ns = map (λ n. yes) ns

abbrev program : List Datum → List Instr → Program
program ds is = record { slots = 0; constants = ds; instructions = is; frames = []; around = alone }

-- the specification [{{'$1'},[],['$1']}]; its code below leaves out the match of tuples of one element, which all
-- objects here are
abbrev query : Datum
query =
    list (tuple (items_of (tuple (items_of (atom (codes "$1") ∷ [])) ∷ nil ∷ list (atom (codes "$1") ∷ []) ∷ [])) ∷ [])

abbrev first_element : Verdict
first_element = Meant (answer_of (program [] (instr.Load ∷ instr.Field 1 ∷ instr.Answer ∷ []))) None

abbrev always : Datum → Verdict
always d = Meant (answer_of (program (d ∷ []) (instr.Const 0 ∷ instr.Answer ∷ []))) None

abbrev past : ℕ → Verdict
past n =
    Meant (answer_of (program (key n ∷ []) (instr.Load ∷ instr.Field 1 ∷ instr.Const 0 ∷ instr.Call (function.Comparison comparison.Greater) 2 5 ∷ instr.Answer ∷ instr.NoAnswer ∷ []))) None

abbrev selects_some : ℕ → ℕ → Line
selects_some n limit = selects (pos n) (SelectLimit query (pos limit)) first_element

abbrev more : ℕ → ℕ → Line
more n c = selects (pos n) (SelectMore (pos c)) first_element

-- ---- counts

counted : replies (opens Set 1 1 1 ∷ (inserts (1 ∷ 2 ∷ 3 ∷ []) ++ selects (pos 0) (SelectCount query) (always (key 1)) ∷ selects (pos 0) (SelectCount query) (always yes) ∷ [])) ≡ yes ∷ (yes_each (1 ∷ 2 ∷ 3 ∷ []) ++ key 0 ∷ key 3 ∷ [])
unfolding reply_of after datum_cmp key_hash answer_of
counted = refl

counted_in_order : replies (opens OrderedSet 1 1 1 ∷ (inserts (1 ∷ 2 ∷ 3 ∷ []) ++ selects (pos 0) (SelectCount query) (always (key 1)) ∷ selects (pos 0) (SelectCount query) (always yes) ∷ [])) ≡ yes ∷ (yes_each (1 ∷ 2 ∷ 3 ∷ []) ++ key 0 ∷ key 3 ∷ [])
unfolding reply_of after datum_cmp key_hash answer_of
counted_in_order = refl

-- ---- pieces of a set: an object inserted into a class that the walk has passed is not met

in_pieces : replies (opens Set 1 1 2 ∷ (inserts (1 ∷ 2 ∷ 3 ∷ 4 ∷ 5 ∷ []) ++ does 0 Fix ∷ selects_some 0 2 ∷ does 1 (Delete (key 3)) ∷ does 1 (Insert (one 9)) ∷ does 1 (Insert (one 6)) ∷ more 0 0 ∷ more 0 1 ∷ more 0 2 ∷ more 0 2 ∷ [])) ≡ yes ∷ (yes_each (1 ∷ 2 ∷ 3 ∷ 4 ∷ 5 ∷ []) ++ yes ∷ piece_term (key 1 ∷ key 2 ∷ []) 0 ∷ yes ∷ yes ∷ yes ∷ piece_term (key 4 ∷ key 5 ∷ []) 1 ∷ piece_term (key 6 ∷ []) 2 ∷ end ∷ error 62 ∷ [])
unfolding reply_of after datum_cmp key_hash answer_of
in_pieces = refl

-- an answer past the limit is kept for the next piece, even if its object is deleted
kept : replies (opens Set 1 1 2 ∷ (inserts (1 ∷ 9 ∷ 17 ∷ []) ++ does 0 Fix ∷ selects_some 0 2 ∷ does 1 (Delete (key 17)) ∷ more 0 0 ∷ more 0 1 ∷ [])) ≡ yes ∷ (yes_each (1 ∷ 9 ∷ 17 ∷ []) ++ yes ∷ piece_term (key 1 ∷ key 9 ∷ []) 0 ∷ yes ∷ piece_term (key 17 ∷ []) 1 ∷ end ∷ [])
unfolding reply_of after datum_cmp key_hash answer_of
kept = refl

-- ---- of an ordered set

in_order : replies (opens OrderedSet 1 1 1 ∷ (inserts (10 ∷ 20 ∷ 30 ∷ []) ++ selects_some 0 1 ∷ does 0 (Delete (key 10)) ∷ does 0 (Delete (key 20)) ∷ does 0 (Insert (one 25)) ∷ more 0 0 ∷ more 0 1 ∷ more 0 2 ∷ [])) ≡ yes ∷ (yes_each (10 ∷ 20 ∷ 30 ∷ []) ++ piece_term (key 10 ∷ []) 0 ∷ yes ∷ yes ∷ yes ∷ piece_term (key 25 ∷ []) 1 ∷ piece_term (key 30 ∷ []) 2 ∷ end ∷ [])
unfolding reply_of after datum_cmp key_hash answer_of
in_order = refl

-- ---- walks without objects; limits, and the order of checks

none_there : replies (opens Set 1 1 1 ∷ selects_some 0 1 ∷ selects_some 0 0 ∷ selects (pos 0) (SelectLimit nil (negsuc 0)) (Faulty fault.NotAList) ∷ selects (pos 1) (SelectLimit nil (pos 0)) (Faulty fault.NotAList) ∷ selects (pos 0) (Select nil) (Faulty (fault.Unbound 0 3)) ∷ more 0 0 ∷ []) ≡ yes ∷ end ∷ error 63 ∷ error 63 ∷ error 61 ∷ called (codes "error") (key 16 ∷ key 0 ∷ key 3 ∷ []) ∷ error 62 ∷ []
unfolding reply_of after datum_cmp key_hash answer_of
none_there = refl

none_open : replies (selects_some 0 1 ∷ more 0 0 ∷ []) ≡ error 65 ∷ error 65 ∷ []
none_open = refl

-- ---- a set in two parts, and objects that are deleted

two_parts : replies (opens Set 1 2 1 ∷ (inserts (1 ∷ 2 ∷ 3 ∷ 4 ∷ []) ++ selects_some 0 3 ∷ more 0 0 ∷ selects (pos 0) (SelectDelete query) (past 2) ∷ more 0 1 ∷ plain Close ∷ [])) ≡ yes ∷ (yes_each (1 ∷ 2 ∷ 3 ∷ 4 ∷ []) ++ piece_term (key 2 ∷ key 4 ∷ key 1 ∷ []) 0 ∷ piece_term (key 3 ∷ []) 1 ∷ key 2 ∷ end ∷ list (one 2 ∷ one 1 ∷ []) ∷ [])
unfolding reply_of after datum_cmp key_hash answer_of walk_order
two_parts = refl

removed_in_order : replies (opens OrderedSet 1 1 1 ∷ (inserts (1 ∷ 2 ∷ 3 ∷ 4 ∷ []) ++ selects (pos 0) (SelectDelete query) (past 2) ∷ selects (pos 0) (Select query) first_element ∷ [])) ≡ yes ∷ (yes_each (1 ∷ 2 ∷ 3 ∷ 4 ∷ []) ++ key 2 ∷ list (key 1 ∷ key 2 ∷ []) ∷ [])
unfolding reply_of after datum_cmp key_hash answer_of walk_order
removed_in_order = refl

-- ---- continuations of other sessions and tables

strangers : replies (opens Set 1 1 2 ∷ (inserts (1 ∷ 2 ∷ []) ++ does 1 Fix ∷ selects_some 1 1 ∷ does 0 (Delete (key 1)) ∷ does 0 (Next (key 1)) ∷ does 1 Leave ∷ does 0 (Next (key 1)) ∷ more 1 0 ∷ more 0 0 ∷ does 0 Unfix ∷ plain Close ∷ opens Set 1 1 2 ∷ more 1 0 ∷ more 1 (1) ∷ selects (pos 1) (SelectMore (negsuc 0)) first_element ∷ [])) ≡ yes ∷ (yes_each (1 ∷ 2 ∷ []) ++ yes ∷ piece_term (key 1 ∷ []) 0 ∷ yes ∷ key 2 ∷ yes ∷ error 53 ∷ error 61 ∷ error 62 ∷ error 52 ∷ list (one 2 ∷ []) ∷ yes ∷ error 62 ∷ error 62 ∷ error 62 ∷ [])
unfolding reply_of after datum_cmp key_hash answer_of walk_order
strangers = refl

-- ---- keys that are named

abbrev word : List ℕ → Datum
word cs = atom cs

-- a specification that names keys, and what it means on objects, of which all have one element here
abbrev names : Datum
names =
    list
    (tuple (items_of (one 2 ∷ nil ∷ list (word (codes "two") ∷ []) ∷ []))
    ∷ tuple (items_of (one 1 ∷ nil ∷ list (word (codes "one") ∷ []) ∷ []))
    ∷ tuple (items_of (one 2 ∷ nil ∷ list (word (codes "again") ∷ []) ∷ [])) ∷ [])

abbrev answer_named : Datum → Option Datum
answer_named d =
    if is_same d (one 2) then Some (word (codes "two")) else if is_same d (one 1) then Some (word (codes "one")) else None

abbrev named : List ℕ → Verdict
named ns = Meant answer_named (Some (map key ns))

named_in_turn : replies (opens Set 1 1 1 ∷ (inserts (1 ∷ 2 ∷ []) ++ selects (pos 0) (Select names) (named (2 ∷ 1 ∷ [])) ∷ [])) ≡ yes ∷ (yes_each (1 ∷ 2 ∷ []) ++ list (word (codes "two") ∷ word (codes "one") ∷ []) ∷ [])
unfolding reply_of after datum_cmp key_hash answer_of
named_in_turn = refl

named_in_order : replies (opens OrderedSet 1 1 1 ∷ (inserts (1 ∷ 2 ∷ []) ++ selects (pos 0) (Select names) (named (1 ∷ 2 ∷ [])) ∷ [])) ≡ yes ∷ (yes_each (1 ∷ 2 ∷ []) ++ list (word (codes "one") ∷ word (codes "two") ∷ []) ∷ [])
unfolding reply_of after datum_cmp key_hash answer_of
named_in_order = refl

-- walks by named keys in pieces, with objects that are deleted
named_in_pieces : replies (opens Set 1 2 1 ∷ (inserts (1 ∷ 2 ∷ 3 ∷ []) ++ selects (pos 0) (SelectLimit names (pos 1)) (named (2 ∷ 1 ∷ [])) ∷ does 0 (Delete (key 1)) ∷ more 0 0 ∷ plain Close ∷ [])) ≡ yes ∷ (yes_each (1 ∷ 2 ∷ 3 ∷ []) ++ piece_term (word (codes "two") ∷ []) 0 ∷ yes ∷ end ∷ list (one 2 ∷ one 3 ∷ []) ∷ [])
unfolding reply_of after datum_cmp key_hash answer_of walk_order
named_in_pieces = refl

-- ---- bags: a piece may end between two objects of a key

abbrev pair : ℕ → List ℕ → Datum
pair n cs = tuple (items_of (key n ∷ word cs ∷ []))

abbrev whole : Verdict
whole = Meant (answer_of (program [] (instr.Load ∷ instr.Answer ∷ []))) None

-- the meaning of [{{'$1',a},[],[true]}] by its code, without the match of tuples of two elements, which all objects
-- here are
abbrev is_a : Verdict
is_a =
    Meant (answer_of (program (word (codes "a") ∷ []) (instr.Load ∷ instr.Field 2 ∷ instr.Const 0 ∷ instr.Call (function.Comparison comparison.Equal) 2 5 ∷ instr.Answer ∷ instr.NoAnswer ∷ []))) None

abbrev bag_walk : TableKind → List Line
bag_walk kind =
    opens kind 1 1 1 ∷ does 0 (Insert (pair 1 (codes "a"))) ∷ does 0 (Insert (pair 1 (codes "b")))
    ∷ does 0 (Insert (pair 1 (codes "a"))) ∷ does 0 (Insert (pair 2 (codes "c")))
    ∷ selects (pos 0) (SelectCount query) is_a ∷ selects (pos 0) (SelectLimit query (pos 2)) whole
    ∷ selects (pos 0) (SelectMore (pos 0)) whole ∷ []

bag_in_pieces : replies (bag_walk Bag) ≡ yes ∷ (yes_each (1 ∷ 1 ∷ 1 ∷ 2 ∷ []) ++ key 1 ∷ piece_term (pair 1 (codes "a") ∷ pair 1 (codes "b") ∷ []) 0 ∷ piece_term (pair 2 (codes "c") ∷ []) 1 ∷ [])
unfolding reply_of after datum_cmp key_hash answer_of
bag_in_pieces = refl

duplicates_in_pieces : replies (bag_walk DuplicateBag) ≡ yes ∷ (yes_each (1 ∷ 1 ∷ 1 ∷ 2 ∷ []) ++ key 2 ∷ piece_term (pair 1 (codes "a") ∷ pair 1 (codes "b") ∷ []) 0 ∷ piece_term (pair 1 (codes "a") ∷ pair 2 (codes "c") ∷ []) 1 ∷ [])
unfolding reply_of after datum_cmp key_hash answer_of
duplicates_in_pieces = refl
