-- Properties of replies that hold in every state.
use Rattle.std.proofs.Common.{◌≡◌, ℕ, refl, true, false}
use Rattle.term_core.specs.Datum.{Datum}
use Rattle.part_core.specs.declared.settings.Settings.{Settings}
use Rattle.part_core.specs.Settings.{is_object, key_of}
use Rattle.part_core.specs.Acts.{is_refused}
use Rattle.part_core.specs.Acts.Act.{Insert, InsertNew, Lookup, Member, Delete, DeleteObject, Take}
use Rattle.part_core.specs.Acts.Answer.{Replied}
use Rattle.part_core.specs.Acts.Said.{Nothing, Flag}
use Rattle.part_core.specs.Rows.{PartState, is_empty, objects_at}
use Rattle.part_core.specs.Replies.{reply_of}
use Rattle.tables.specs.Calls.{is_flag, is_objects}

pub insert_said : (o : Settings) (t : Datum) → is_object o t ≡ true → (s : PartState) (n : ℕ) → reply_of o s n (Insert t) ≡ Replied Nothing
unfolding reply_of
insert_said o t h s n = rw h refl

pub insert_new_said : (o : Settings) (t : Datum) → is_object o t ≡ true → (s : PartState) (n : ℕ) → reply_of o s n (InsertNew t) ≡ Replied (Flag (is_empty (objects_at s.rows (key_of o t))))
unfolding reply_of
insert_new_said o t h s n = rw h refl

pub delete_object_said : (o : Settings) (t : Datum) → is_object o t ≡ true → (s : PartState) (n : ℕ) → reply_of o s n (DeleteObject t) ≡ Replied Nothing
unfolding reply_of
delete_object_said o t h s n = rw h refl

pub delete_said : (o : Settings) (k : Datum) (s : PartState) (n : ℕ) → reply_of o s n (Delete k) ≡ Replied Nothing
unfolding reply_of
delete_said o k s n = refl

pub member_flag : (o : Settings) (k : Datum) (s : PartState) (n : ℕ) → is_flag (reply_of o s n (Member k)) ≡ true
unfolding reply_of
member_flag o k s n = refl

pub member_done : (o : Settings) (k : Datum) (s : PartState) (n : ℕ) → is_refused (reply_of o s n (Member k)) ≡ false
unfolding reply_of
member_done o k s n = refl

pub lookup_objects : (o : Settings) (k : Datum) (s : PartState) (n : ℕ) → is_objects (reply_of o s n (Lookup k)) ≡ true
unfolding reply_of
lookup_objects o k s n = refl

pub lookup_done : (o : Settings) (k : Datum) (s : PartState) (n : ℕ) → is_refused (reply_of o s n (Lookup k)) ≡ false
unfolding reply_of
lookup_done o k s n = refl

pub take_objects : (o : Settings) (k : Datum) (s : PartState) (n : ℕ) → is_objects (reply_of o s n (Take k)) ≡ true
unfolding reply_of
take_objects o k s n = refl

pub take_done : (o : Settings) (k : Datum) (s : PartState) (n : ℕ) → is_refused (reply_of o s n (Take k)) ≡ false
unfolding reply_of
take_done o k s n = refl
