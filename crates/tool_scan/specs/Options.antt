-- The options of a scan, and which of its sessions has a part.
use Rattle.std.specs.Prelude.{ℕ, ◌≡◌, ◌%◌, Bool, true, false, if◌then◌else◌, codes, Contains, IsTrue, List, [], ◌∷◌, Result, Ok, Err}
use Rattle.std.specs.List.{list_any}
use Rattle.std.specs.Str.{bytes_eq}
use Rattle.term_core.specs.Datum.{Datum}
use Rattle.part_core.specs.declared.kind.TableKind.{TableKind}
use Rattle.part_core.specs.declared.kind.TableKind.TheVariants as table
use Rattle.part_core.specs.declared.settings.Settings.{Settings}
use Rattle.part_core.specs.Served.{AreInRange}
use Rattle.part_core.specs.Settings.{is_object, key_of, part_of}
use Rattle.tables.specs.declared.options.Options.{Options}
use Rattle.tables.specs.Options.{settings_of}
use Rattle.parallel_select.specs.Parts.{is_share}
use Rattle.tool_scan.specs.declared.options.ScanKind.{ScanKind}
use Rattle.tool_scan.specs.declared.options.ScanKind.TheVariants as scan
use Rattle.tool_scan.specs.declared.options.ScanOptions.{ScanOptions}

-- the text is the name of a kind
abbrev pub is_kind : List ℕ → Bool
is_kind text =
    list_any (λ name. bytes_eq name text) (codes "set" ∷ codes "bag" ∷ codes "duplicate_bag" ∷ [])

-- the kind of this name
abbrev pub kind_named : List ℕ → ScanKind
kind_named name =
    if bytes_eq (codes "bag") name then scan.Bag
    else (if bytes_eq (codes "duplicate_bag") name then scan.DuplicateBag else scan.Set)

-- a text is read as the kind that it names, and rejected if it names none
abbrev pub IsKindText : {E : Type 0} → List ℕ → Result ScanKind E → Type 0
IsKindText text (Ok k) = (is_kind text ≡ true) × (k ≡ kind_named text)
IsKindText text (Err e) = is_kind text ≡ false

-- the kind of the table
abbrev pub kind_of : ScanKind → TableKind
kind_of scan.Set = table.Set
kind_of scan.Bag = table.Bag
kind_of scan.DuplicateBag = table.DuplicateBag

-- the table's options, with one session for each worker
abbrev pub table_of : ScanOptions → Options
table_of o = record {
  name = 0;
  kind = kind_of o.kind;
  keypos = o.keypos;
  parts = o.parts;
  sessions = o.workers;
}

abbrev pub scan_settings : ScanOptions → Settings
scan_settings o = settings_of (table_of o)

-- each number is in its range
abbrev pub AreAllowed : ScanOptions → Type 0
AreAllowed o = AreInRange (scan_settings o)

-- the term is an object of the table
abbrev pub IsFit : ScanOptions → Datum → Type 0
IsFit o t = IsTrue (is_object (scan_settings o) t)

-- some term is no object of the table
abbrev pub HasNoObject : ScanOptions → List Datum → Type 0
HasNoObject o terms = (t : Datum) × Contains terms t × ¬ (IsFit o t)

-- the worker to which the object's part belongs
abbrev pub worker_of : ScanOptions → Datum → ℕ
worker_of o t = part_of (scan_settings o) (key_of (scan_settings o) t) % o.workers

-- whether the object is in one of the worker's parts: those whose number modulo the number of workers is the worker's
abbrev pub is_own : ScanOptions → ℕ → Datum → Bool
is_own o worker t = is_share o.workers worker (part_of (scan_settings o) (key_of (scan_settings o) t))
