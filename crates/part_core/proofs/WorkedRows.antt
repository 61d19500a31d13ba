-- Worked rows, computed from the definitions.
use Rattle.std.proofs.Common.{◌≡◌, ℕ, List, [], ◌∷◌, refl, pos, map}
use Rattle.std.specs.Prelude.{true, Some, None, fold, ◌-◌, ◌^◌, ◌++◌}
use Rattle.std.specs.List.{range_with_len}
use Rattle.term_core.specs.Datum.{Datum}
use Rattle.term_core.specs.Datum.Datum.{integer, tuple}
use Rattle.term_core.specs.Datum.Items.{no_items, item}
use Rattle.term_core.specs.KeyHash.{key_hash}
use Rattle.term_core.specs.Order.{datum_cmp}
use Rattle.term_operand.specs.Operand.{boolean}
use Rattle.mcode.specs.Answer.{answer_of}
use Rattle.mcode.specs.Program.{Program, alone}
use Rattle.mcode.specs.declared.instr.Instr.TheVariants as instr
use Rattle.part_core.specs.declared.kind.TableKind.{TableKind}
use Rattle.part_core.specs.declared.kind.TableKind.TheVariants.{Set, OrderedSet, Bag, DuplicateBag}
use Rattle.part_core.specs.declared.settings.Settings.{Settings}
use Rattle.part_core.specs.Acts.{Act, Answer}
use Rattle.part_core.specs.Acts.Purpose.{Answers, Counts, Deletes}
use Rattle.part_core.specs.Acts.Cursor.{Class, Behind}
use Rattle.part_core.specs.Acts.Scope.{Begin, After}
use Rattle.part_core.specs.Acts.Act.{Insert, InsertNew, Delete, DeleteObject, Fix, Unfix, Visit, First, Next, Release}
use Rattle.part_core.specs.Acts.Said.{Flag, AtKey, Found, Counted, Nothing}
use Rattle.part_core.specs.Acts.Answer.{Replied, Refused}
use Rattle.part_core.specs.Acts.Refusal.{NotFixed, BadKey, CursorOutside, TooSmall, FixLimit}
use Rattle.part_core.specs.Rows.{PartState, opening}
use Rattle.part_core.specs.Visits.{rows_up_to, walk_order}
use Rattle.part_core.specs.Replies.{reply_of}
use Rattle.part_core.specs.After.{after}

abbrev key : ℕ → Datum
key n = integer (pos n)

abbrev one : ℕ → Datum
one n = tuple (item (key n) no_items)

abbrev two : ℕ → ℕ → Datum
two n m = tuple (item (key n) (item (key m) no_items))

abbrev settings : TableKind → Settings
settings kind = record { kind = kind; keypos = 1; parts = 1; sessions = 2 }

abbrev itself : Program
itself = record { slots = 0; constants = []; instructions = instr.Load ∷ instr.Answer ∷ []; frames = []; around = alone }

abbrev always : Program
always =
    record { slots = 0; constants = boolean true ∷ []; instructions = instr.Const 0 ∷ instr.Answer ∷ []; frames = []; around = alone }

-- the state after the given acts of sessions 0 and 1
abbrev acted : TableKind → List (ℕ × Act) → PartState
acted kind xs = fold (λ s x. after (settings kind) s x.0 x.1) (opening (settings kind)) xs

abbrev reply : TableKind → List (ℕ × Act) → Act → Answer
reply kind xs act = reply_of (settings kind) (acted kind xs) 0 act

-- an object that is replaced keeps its place
replaced : (acted Set ((0, Insert (two 1 1)) ∷ (0, Insert (one 9)) ∷ (0, Insert (two 1 2)) ∷ [])).rows ≡ (key 1, two 1 2 ∷ []) ∷ (key 9, one 9 ∷ []) ∷ []
unfolding reply_of after datum_cmp
replaced = refl

-- an object that is inserted again under a fix revives its row where it was; without a fix its row comes after the others
revived : (acted Set ((0, Insert (one 1)) ∷ (0, Insert (one 9)) ∷ (1, Fix) ∷ (0, Delete (key 1)) ∷ (0, Insert (two 1 2)) ∷ [])).rows ≡ (key 1, two 1 2 ∷ []) ∷ (key 9, one 9 ∷ []) ∷ []
unfolding reply_of after datum_cmp
revived = refl

unfixed : (acted Set ((0, Insert (one 1)) ∷ (0, Insert (one 9)) ∷ (0, Delete (key 1)) ∷ (0, Insert (two 1 2)) ∷ [])).rows ≡ (key 9, one 9 ∷ []) ∷ (key 1, two 1 2 ∷ []) ∷ []
unfolding reply_of after datum_cmp
unfixed = refl

-- the last fix of all sessions keeps dead rows
abbrev fixed_twice : List (ℕ × Act)
fixed_twice =
    (0, Insert (one 1)) ∷ (0, Insert (one 2)) ∷ (0, Fix) ∷ (1, Fix) ∷ (0, Delete (key 1)) ∷ (0, Unfix) ∷ []

still_fixed : reply Set fixed_twice (Next (key 1)) ≡ Replied (AtKey (Some (key 2)))
unfolding reply_of after datum_cmp key_hash walk_order
still_fixed = refl

fixed_no_more : reply Set (fixed_twice ++ (1, Unfix) ∷ []) (Next (key 1)) ≡ Refused BadKey
unfolding reply_of after datum_cmp key_hash walk_order
fixed_no_more = refl

not_fixed : reply Set fixed_twice Unfix ≡ Refused NotFixed
unfolding reply_of after datum_cmp
not_fixed = refl

first_of_two : reply Set ((0, Insert (one 2)) ∷ (0, Insert (one 1)) ∷ []) First ≡ Replied (AtKey (Some (key 1)))
unfolding reply_of after datum_cmp key_hash walk_order
first_of_two = refl

-- insert_new inserts at a key whose row is dead
new_on_dead : reply Set ((0, Insert (one 1)) ∷ (1, Fix) ∷ (0, Delete (key 1)) ∷ []) (InsertNew (one 1)) ≡ Replied (Flag true)
unfolding reply_of after datum_cmp
new_on_dead = refl

-- cursors that aren't the part's
past_the_last_class : reply Set [] (Visit Answers itself (After (Class 8 8)) 1) ≡ Refused CursorOutside
unfolding reply_of after
past_the_last_class = refl

no_base : reply Set [] (Visit Answers itself (After (Class 4 0)) 1) ≡ Refused CursorOutside
unfolding reply_of after
no_base = refl

base_to_come : reply Set [] (Visit Answers itself (After (Class 16 0)) 1) ≡ Refused CursorOutside
unfolding reply_of after
base_to_come = refl

of_the_other_kind : reply Set [] (Visit Answers itself (After (Behind (key 1))) 1) ≡ Refused CursorOutside
unfolding reply_of after
of_the_other_kind = refl

class_of_ordered : reply OrderedSet [] (Visit Answers itself (After (Class 8 0)) 1) ≡ Refused CursorOutside
unfolding reply_of after
class_of_ordered = refl

-- rows of one class, in the order in which they were created
abbrev one_class : List (ℕ × Act)
one_class = (0, Insert (one 17)) ∷ (0, Insert (one 1)) ∷ (0, Insert (one 2)) ∷ (0, Insert (one 9)) ∷ []

class_one : reply Set one_class (Visit Answers itself (After (Class 8 1)) 1) ≡ Replied (Found (one 17 ∷ one 1 ∷ one 9 ∷ []) (Some (Class 8 2)))
unfolding reply_of after datum_cmp key_hash answer_of
class_one = refl

last_class : reply Set one_class (Visit Answers itself (After (Class 8 7)) 1) ≡ Replied (Found [] None)
unfolding reply_of after datum_cmp key_hash answer_of
last_class = refl

-- an ordered set that isn't fixed
abbrev ordered : List (ℕ × Act)
ordered = (0, Insert (one 30)) ∷ (0, Insert (one 10)) ∷ (0, Insert (one 20)) ∷ []

first_piece : reply OrderedSet ordered (Visit Answers itself Begin 1) ≡ Replied (Found (one 10 ∷ []) (Some (Behind (key 10))))
unfolding reply_of after datum_cmp rows_up_to answer_of
first_piece = refl

-- a visit that reaches its target at the last row leaves a cursor
last_wanted : reply OrderedSet ordered (Visit Answers itself (After (Behind (key 10))) 2) ≡ Replied (Found (one 20 ∷ one 30 ∷ []) (Some (Behind (key 30))))
unfolding reply_of after datum_cmp rows_up_to answer_of
last_wanted = refl

no_row_left : reply OrderedSet ordered (Visit Answers itself (After (Behind (key 10))) 3) ≡ Replied (Found (one 20 ∷ one 30 ∷ []) None)
unfolding reply_of after datum_cmp rows_up_to answer_of
no_row_left = refl

any_key : reply OrderedSet ordered (Next (key 15)) ≡ Replied (AtKey (Some (key 20)))
unfolding reply_of after datum_cmp
any_key = refl

-- an ordered set with n rows
abbrev long : ℕ → PartState
long n =
    record (opening (settings OrderedSet)) { rows = map (λ m. (key m, one m ∷ [])) (range_with_len 0 n) }

abbrev counted : ℕ → Answer
counted n = reply_of (settings OrderedSet) (long n) 0 (Visit Counts always Begin (2 ^ 64 - 1))

-- a visit that stops at its sixty-fourth row leaves a cursor even if that row is the last
sixty_three : counted 63 ≡ Replied (Counted 63 None)
unfolding reply_of datum_cmp rows_up_to answer_of
sixty_three = refl

sixty_four : counted 64 ≡ Replied (Counted 64 (Some (Behind (key 63))))
unfolding reply_of datum_cmp rows_up_to answer_of
sixty_four = refl

sixty_five : counted 65 ≡ Replied (Counted 64 (Some (Behind (key 63))))
unfolding reply_of datum_cmp rows_up_to answer_of
sixty_five = refl

-- objects for which the query returns true are deleted, and others stay
deleted : (acted Set (one_class ++ (0, Visit Deletes always (After (Class 8 1)) 1) ∷ [])).rows ≡ (key 2, one 2 ∷ []) ∷ []
unfolding reply_of after datum_cmp key_hash answer_of
deleted = refl

none_deleted : (acted Set (one_class ++ (0, Visit Deletes itself (After (Class 8 1)) 1) ∷ [])).rows ≡ (acted Set one_class).rows
unfolding reply_of after datum_cmp key_hash answer_of
none_deleted = refl

-- a bag keeps one of several equal objects, and a duplicate bag keeps all
bag : (acted Bag ((0, Insert (two 1 1)) ∷ (0, Insert (two 1 2)) ∷ (0, Insert (two 1 1)) ∷ [])).rows ≡ (key 1, two 1 1 ∷ two 1 2 ∷ []) ∷ []
unfolding reply_of after datum_cmp
bag = refl

duplicate_bag : (acted DuplicateBag ((0, Insert (two 1 1)) ∷ (0, Insert (two 1 1)) ∷ (0, Insert (two 1 2)) ∷ (0, DeleteObject (two 1 1)) ∷ [])).rows ≡ (key 1, two 1 2 ∷ []) ∷ []
unfolding reply_of after datum_cmp
duplicate_bag = refl

-- a session releases only its own fixes
abbrev released : List (ℕ × Act)
released =
    (0, Insert (one 1)) ∷ (0, Fix) ∷ (1, Fix) ∷ (1, Fix) ∷ (0, Delete (key 1)) ∷ (1, Release) ∷ []

other_released : (acted Set released).fixes ≡ 1 ∷ 0 ∷ []
unfolding reply_of after datum_cmp
other_released = refl

dead_still : (acted Set released).rows ≡ (key 1, []) ∷ []
unfolding reply_of after datum_cmp
dead_still = refl

-- operations that are refused
too_small : reply Set [] (Insert (tuple no_items)) ≡ Refused TooSmall
unfolding reply_of
too_small = refl

no_tuple : reply OrderedSet [] (DeleteObject (key 1)) ≡ Refused TooSmall
unfolding reply_of
no_tuple = refl

abbrev fixed_often : ℕ → Answer
fixed_often n =
    reply_of (settings Set) (record (opening (settings Set)) { fixes = n ∷ 0 ∷ [] }) 0 Fix

last_fix : fixed_often 65534 ≡ Replied Nothing
unfolding reply_of
last_fix = refl

fix_too_many : fixed_often 65535 ≡ Refused FixLimit
unfolding reply_of
fix_too_many = refl
