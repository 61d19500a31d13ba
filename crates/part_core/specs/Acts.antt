-- What a session does at a part, what is answered, and the history of a part. (STDLIB Reference Manual, module ets.)
use Rattle.std.specs.Prelude.{ℕ, ◌<◌, Bool, true, false, Option, None, List}
use Rattle.term_core.specs.Datum.{Datum}
use Rattle.mcode.specs.Program.{Program}

-- the purpose of a visit: to return answers, to count the objects whose answer is the atom true, or to delete these objects
pub data Purpose : Type 0 where
  Answers : Purpose
  Counts : Purpose
  Deletes : Purpose

-- where a walk goes on: at a class of a set, given with the base by which the walk divides the part; or after a key of
-- an ordered set
pub data Cursor : Type 0 where
  Class : ℕ → ℕ → Cursor
  Behind : Datum → Cursor

-- what a visit looks at: the beginning of a walk, the place where a walk goes on, or one named key
pub data Scope : Type 0 where
  Begin : Scope
  After : Cursor → Scope
  Named : Datum → Scope

-- one operation at a part; a visit has its purpose, the query's code, where to look, and its target: the number of
-- answers after which it stops
pub data Act : Type 0 where
  Insert : Datum → Act
  InsertNew : Datum → Act
  Lookup : Datum → Act
  Member : Datum → Act
  Delete : Datum → Act
  DeleteObject : Datum → Act
  Take : Datum → Act
  Fix : Act
  Unfix : Act
  Release : Act
  Visit : Purpose → Program → Scope → ℕ → Act
  First : Act
  Next : Datum → Act

-- the value that a part returns: nothing; yes or no; the objects of a key; a key, or none at the end; the objects that
-- a visit found, or their number, and where the walk goes on, none at its end
pub data Said : Type 0 where
  Nothing : Said
  Flag : Bool → Said
  Objects : List Datum → Said
  AtKey : Option Datum → Said
  Found : List Datum → Option Cursor → Said
  Counted : ℕ → Option Cursor → Said

-- why an operation is refused: the term is no object; the count of fixes is at its limit; there is no fix to release;
-- the key has no row; the cursor isn't the part's
pub data Refusal : Type 0 where
  TooSmall : Refusal
  FixLimit : Refusal
  NotFixed : Refusal
  BadKey : Refusal
  CursorOutside : Refusal

-- the answer to an operation: a value, or a refusal
pub data Answer : Type 0 where
  Replied : Said → Answer
  Refused : Refusal → Answer

-- one entry of a history: which session did what, and the answer
pub record Entry : Type 0 where
  pub session : ℕ
  pub act : Act
  pub answer : Answer

-- what was done at a part, in order of time
abbrev pub History : Type 0
History = List Entry

-- an operation that may be requested: the target of a visit is at least 1
abbrev pub IsAsked : Act → Type 0
IsAsked (Visit purpose p scope wanted) = 0 < wanted
IsAsked act = Unit {0}

-- the answer is a refusal
abbrev pub is_refused : Answer → Bool
is_refused (Replied said) = false
is_refused (Refused refusal) = true

-- where a walk goes on after a visit; none if the value is no visit's
abbrev pub next_in : Said → Option Cursor
next_in (Found xs next) = next
next_in (Counted count next) = next
next_in said = None
