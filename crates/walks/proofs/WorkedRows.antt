-- Worked walks, computed from the definitions.
use Rattle.std.proofs.Common.{◌≡◌, ℕ, List, [], ◌∷◌, refl, pos, Some, None, map}
use Rattle.std.specs.Prelude.{fold, true}
use Rattle.term_core.specs.Datum.{Datum, items_of}
use Rattle.term_core.specs.Datum.Datum.{integer, tuple}
use Rattle.term_core.specs.KeyHash.{key_hash}
use Rattle.term_core.specs.Order.{datum_cmp}
use Rattle.term_operand.specs.Operand.{boolean}
use Rattle.mcode.specs.Answer.{answer_of}
use Rattle.mcode.specs.Program.{Program, alone}
use Rattle.mcode.specs.declared.instr.Instr.TheVariants as instr
use Rattle.part_core.specs.declared.kind.TableKind.{TableKind}
use Rattle.part_core.specs.declared.kind.TableKind.TheVariants.{Set, OrderedSet}
use Rattle.part_core.specs.Settings.{part_of}
use Rattle.part_core.specs.Acts.{Act}
use Rattle.part_core.specs.Acts.Act.{Insert, Delete, Fix}
use Rattle.part_core.specs.Acts.Cursor.{Class, Behind}
use Rattle.part_core.specs.Replies.{reply_of}
use Rattle.part_core.specs.After.{after}
use Rattle.tables.specs.declared.options.Options.{Options}
use Rattle.tables.specs.Options.{settings_of}
use Rattle.tables.specs.OneThread.{TableState, opened, after_at}
use Rattle.walk_core.specs.Walk.{Position}
use Rattle.walks.specs.Sights.{Piece, first_position, sights_from, piece_of, selected, number_true, after_removal, whole}
use Rattle.walk_core.specs.Walk.Position.{InPart, AtNamed, Over}

abbrev key : ℕ → Datum
key n = integer (pos n)

abbrev one : ℕ → Datum
one n = tuple (items_of (key n ∷ []))

abbrev options : TableKind → ℕ → Options
options kind parts = record { name = 0; kind = kind; keypos = 1; parts = parts; sessions = 2 }

-- code that answers the first element of the object
abbrev first_element : Program
first_element =
    record { slots = 0; constants = []; instructions = instr.Load ∷ instr.Field 1 ∷ instr.Answer ∷ []; frames = []; around = alone }

abbrev always : Program
always =
    record { slots = 0; constants = boolean true ∷ []; instructions = instr.Const 0 ∷ instr.Answer ∷ []; frames = []; around = alone }

-- the table after a session's operation at the part of a key
abbrev at_key : TableState → Datum → Act → TableState
at_key t k act = after_at t 0 (part_of (settings_of t.options) k) act

-- a table with these keys
abbrev with_keys : TableKind → ℕ → List ℕ → TableState
with_keys kind parts keys = fold (λ t n. at_key t (key n) (Insert (one n))) (opened (options kind parts)) keys

abbrev piece : TableState → ℕ → List Datum → Position → Piece
piece t limit kept at = piece_of (answer_of first_element) limit kept at (sights_from t None at)

-- ---- a set in one part: a class is visited whole

abbrev five : TableState
five = with_keys Set 1 (1 ∷ 2 ∷ 3 ∷ 4 ∷ 5 ∷ [])

two_of_five : piece five 2 [] (first_position None) ≡ record { given = key 1 ∷ key 2 ∷ []; kept = []; at = InPart 0 (Some (Class 8 3)) }
unfolding reply_of after datum_cmp key_hash answer_of
two_of_five = refl

-- a key that is inserted in a class before the walk's position is not met, and one in a class after it is
abbrev five_later : TableState
five_later = at_key (at_key (at_key five (key 3) (Delete (key 3))) (key 9) (Insert (one 9))) (key 6) (Insert (one 6))

two_more : piece five_later 2 [] (InPart 0 (Some (Class 8 3))) ≡ record { given = key 4 ∷ key 5 ∷ []; kept = []; at = InPart 0 (Some (Class 8 6)) }
unfolding reply_of after datum_cmp key_hash answer_of
two_more = refl

last_one : piece five_later 2 [] (InPart 0 (Some (Class 8 6))) ≡ record { given = key 6 ∷ []; kept = []; at = Over }
unfolding reply_of after datum_cmp key_hash answer_of
last_one = refl

no_more : piece five_later 2 [] Over ≡ record { given = []; kept = []; at = Over }
unfolding reply_of after datum_cmp key_hash answer_of
no_more = refl

-- answers above the limit are kept, and returned before another visit is made
abbrev in_one_class : TableState
in_one_class = with_keys Set 1 (1 ∷ 9 ∷ 17 ∷ [])

two_of_three : piece in_one_class 2 [] (first_position None) ≡ record { given = key 1 ∷ key 9 ∷ []; kept = key 17 ∷ []; at = InPart 0 (Some (Class 8 2)) }
unfolding reply_of after datum_cmp key_hash answer_of
two_of_three = refl

kept_one : piece (at_key in_one_class (key 17) (Delete (key 17))) 2 (key 17 ∷ []) (InPart 0 (Some (Class 8 2))) ≡ record { given = key 17 ∷ []; kept = []; at = Over }
unfolding reply_of after datum_cmp key_hash answer_of
kept_one = refl

-- ---- an ordered set

abbrev tens : TableState
tens = with_keys OrderedSet 1 (10 ∷ 20 ∷ 30 ∷ [])

first_ten : piece tens 1 [] (first_position None) ≡ record { given = key 10 ∷ []; kept = []; at = InPart 0 (Some (Behind (key 10))) }
unfolding reply_of after datum_cmp key_hash answer_of
first_ten = refl

abbrev tens_later : TableState
tens_later = at_key (at_key (at_key tens (key 10) (Delete (key 10))) (key 20) (Delete (key 20))) (key 25) (Insert (one 25))

next_ten : piece tens_later 1 [] (InPart 0 (Some (Behind (key 10)))) ≡ record { given = key 25 ∷ []; kept = []; at = InPart 0 (Some (Behind (key 25))) }
unfolding reply_of after datum_cmp key_hash answer_of
next_ten = refl

-- after the last key a further visit finds the end
behind_thirty : piece tens_later 1 [] (InPart 0 (Some (Behind (key 30)))) ≡ record { given = []; kept = []; at = Over }
unfolding reply_of after datum_cmp key_hash answer_of
behind_thirty = refl

-- ---- a set in two parts

abbrev four : TableState
four = with_keys Set 2 (1 ∷ 2 ∷ 3 ∷ 4 ∷ [])

three_of_four : piece four 3 [] (first_position None) ≡ record { given = key 2 ∷ key 4 ∷ key 1 ∷ []; kept = []; at = InPart 1 (Some (Class 8 1)) }
unfolding reply_of after datum_cmp key_hash answer_of
three_of_four = refl

all_of_four : selected four None (answer_of first_element) ≡ key 2 ∷ key 4 ∷ key 1 ∷ key 3 ∷ []
unfolding reply_of after datum_cmp key_hash answer_of
all_of_four = refl

-- ---- named keys, in the order in which they are named

named : selected four (Some (key 3 ∷ key 7 ∷ key 2 ∷ [])) (answer_of first_element) ≡ key 3 ∷ key 2 ∷ []
unfolding reply_of after datum_cmp key_hash answer_of
named = refl

named_two : selected (with_keys Set 1 (1 ∷ 2 ∷ [])) (Some (key 2 ∷ key 1 ∷ [])) (answer_of first_element) ≡ key 2 ∷ key 1 ∷ []
unfolding reply_of after datum_cmp key_hash answer_of
named_two = refl

named_sights : whole (with_keys Set 1 (1 ∷ 2 ∷ [])) (Some (key 2 ∷ key 1 ∷ []))
    ≡ record { rows = (key 2, one 2 ∷ []) ∷ []; behind = AtNamed 1 } ∷ record { rows = (key 1, one 1 ∷ []) ∷ []; behind = Over } ∷ []
unfolding reply_of after datum_cmp key_hash answer_of
named_sights = refl

first_named : piece_of (answer_of first_element) 1 [] (AtNamed 0) (sights_from four (Some (key 3 ∷ key 7 ∷ key 2 ∷ [])) (AtNamed 0)) ≡ record { given = key 3 ∷ []; kept = []; at = AtNamed 1 }
unfolding reply_of after datum_cmp key_hash answer_of
first_named = refl

none_named : selected four (Some []) (answer_of first_element) ≡ []
none_named = refl

-- ---- objects for which the query returns true are counted, and deleted

none_true : number_true four None (answer_of first_element) ≡ 0
unfolding reply_of after datum_cmp key_hash answer_of
none_true = refl

all_true : number_true four None (answer_of always) ≡ 4
unfolding reply_of after datum_cmp key_hash answer_of
all_true = refl

removed : ((after_removal four None (answer_of always)).states 1).rows ≡ []
unfolding reply_of after datum_cmp key_hash answer_of
removed = refl

-- while another session fixes its part, the row stays as a dead one
fixed_removed : ((after_removal (at_key four (key 1) Fix) (Some (key 1 ∷ [])) (answer_of always)).states 1).rows ≡ (key 1, []) ∷ (key 3, one 3 ∷ []) ∷ []
unfolding reply_of after datum_cmp key_hash answer_of
fixed_removed = refl

-- if keys are named, only these are deleted, each in its part
named_removed : map (λ part. ((after_removal four (Some (key 4 ∷ key 1 ∷ key 7 ∷ [])) (answer_of always)).states part).rows) (0 ∷ 1 ∷ []) ≡ ((key 2, one 2 ∷ []) ∷ []) ∷ ((key 3, one 3 ∷ []) ∷ []) ∷ []
unfolding reply_of after datum_cmp key_hash answer_of
named_removed = refl
