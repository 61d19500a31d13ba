-- Options that are read open a table.
use Rattle.std.proofs.Common.{◌≡◌, ℕ, ℤ, pos, ◌≤◌, ◌==◌, refl, ap, subst, ◌∙◌, Some, None, Option, Bool, true, false}
use Rattle.std.specs.Prelude.{IsTrue, IsFalse, ◌&&◌, ◌||◌, not, nat_le, negsuc, if◌then◌else◌}
use Rattle.std.proofs.lemmas.Bool.{and_parts, leb-true, eqb-true, false≢true}
use Rattle.std.proofs.lemmas.Option.{none-some, same_Some}
use Rattle.part_core.specs.declared.kind.TableKind.{TableKind}
use Rattle.part_core.specs.declared.kind.TableKind.TheVariants.{Set, OrderedSet, Bag, DuplicateBag}
use Rattle.part_core.specs.Settings.{is_ordered}
use Rattle.part_core.specs.Served.{ServesUnordered}
use Rattle.tables.specs.declared.options.Options.{Options}
use Rattle.tables.specs.Options.{IsOpenable}
use Rattle.tool_script.specs.Script.{number_within, options_with}

number_in : (low high : ℕ) (z : ℤ) (n : ℕ) → number_within low high z ≡ Some n → (low ≤ n) × (n ≤ high)
number_in low high (pos m) n e = by (nat_le low m && nat_le m high) refl e
  where
    by : (b : Bool) → (nat_le low m && nat_le m high) ≡ b → (if b then Some m else None) ≡ Some n → (low ≤ n) × (n ≤ high)
    by true holds e =
        let parts = and_parts (nat_le low m) (nat_le m high) holds in
        subst (λ k. (low ≤ k) × (k ≤ high)) (same_Some m n e) (leb-true low m parts.0, leb-true m high parts.1)
    by false fails e = absurd (none-some n e)
number_in low high (negsuc m) n e = absurd (none-some n e)

-- the fields of options are what was read
record AreFrom (name : ℕ) (kind : TableKind) (keypos parts sessions : Option ℕ) (o : Options) : Type 0 where
  named : o.name ≡ name
  keypos_is : keypos ≡ Some o.keypos
  parts_is : parts ≡ Some o.parts
  sessions_is : sessions ≡ Some o.sessions
  whole : IsTrue (not (is_ordered o.kind) || o.parts == 1)

made_from : (name : ℕ) (kind : TableKind) (keypos parts sessions : Option ℕ) (o : Options) → options_with name kind keypos parts sessions ≡ Some o → AreFrom name kind keypos parts sessions o
made_from name kind (Some keypos) (Some parts) (Some sessions) o e = by (not (is_ordered kind) || parts == 1) refl e
  where
    by : (b : Bool) → (not (is_ordered kind) || parts == 1) ≡ b → (if b then Some (record { name = name; kind = kind; keypos = keypos; parts = parts; sessions = sessions }) else None) ≡ Some o → AreFrom name kind (Some keypos) (Some parts) (Some sessions) o
    by true holds e =
        subst (AreFrom name kind (Some keypos) (Some parts) (Some sessions)) (same_Some _ o e) (record { named = refl; keypos_is = refl; parts_is = refl; sessions_is = refl; whole = holds })
    by false fails e = absurd (none-some o e)
made_from name kind keypos parts sessions o e = absurd (none-some o e)

openable : (serves : TableKind → Bool) (name : ℕ) (kind : TableKind) (x y z : ℤ) (o : Options) → IsTrue (serves o.kind) → AreFrom name kind (number_within 1 65535 x) (number_within 1 64 y) (number_within 1 16 z) o → IsOpenable serves o
openable serves name kind x y z o served from = record {
  served = record { kind = served; ranges = record { keypos = number_in 1 65535 x o.keypos from.keypos_is; parts = number_in 1 64 y o.parts from.parts_is; sessions = number_in 1 16 z o.sessions from.sessions_is } };
  whole = λ ordered. eqb-true o.parts 1 (subst (λ b. IsTrue (not b || o.parts == 1)) ordered from.whole);
}

pub unordered_openable : (serves : TableKind → Bool) (name : ℕ) (kind : TableKind) (x y z : ℤ) (o : Options) → ServesUnordered serves → options_with name kind (number_within 1 65535 x) (number_within 1 64 y) (number_within 1 16 z) ≡ Some o → IsFalse (is_ordered o.kind) → IsOpenable serves o
unordered_openable serves name kind x y z o served made plain =
    openable serves name kind x y z o (served o.kind plain) (made_from name kind _ _ _ o made)

pub options_named : (name : ℕ) (kind : TableKind) (keypos parts sessions : Option ℕ) (o : Options) → options_with name kind keypos parts sessions ≡ Some o → o.name ≡ name
options_named name kind keypos parts sessions o made = (made_from name kind keypos parts sessions o made).named

ordered_there : (kind : TableKind) → IsTrue (is_ordered kind) → kind ≡ OrderedSet
ordered_there OrderedSet ordered = refl
ordered_there Set ordered = absurd (false≢true ordered)
ordered_there Bag ordered = absurd (false≢true ordered)
ordered_there DuplicateBag ordered = absurd (false≢true ordered)

pub ordered_openable : (serves : TableKind → Bool) (name : ℕ) (kind : TableKind) (x y z : ℤ) (o : Options) → IsTrue (serves OrderedSet) → options_with name kind (number_within 1 65535 x) (number_within 1 64 y) (number_within 1 16 z) ≡ Some o → IsTrue (is_ordered o.kind) → IsOpenable serves o
ordered_openable serves name kind x y z o served made ordered =
    openable serves name kind x y z o (ap serves (ordered_there o.kind ordered) ∙ served) (made_from name kind _ _ _ o made)
