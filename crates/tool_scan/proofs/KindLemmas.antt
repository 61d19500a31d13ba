-- What is known of kinds and of their names.
use Rattle.std.proofs.Common.{◌≡◌, ℕ, Bool, true, false, List, refl, sym}
use Rattle.std.proofs.lemmas.Slice.Eq.{bytes_eq-Decides}
use Rattle.std.specs.Str.{bytes_eq}
use Rattle.part_core.specs.Settings.{is_ordered}
use Rattle.tool_scan.specs.declared.options.ScanKind.{ScanKind}
use Rattle.tool_scan.specs.declared.options.ScanKind.TheVariants as scan
use Rattle.tool_scan.specs.Options.{kind_of}

-- the test of two different texts is false
pub not_that : (a b : List ℕ) → (b ≡ a → ⊥) → bytes_eq a b ≡ false
not_that a b other = by_test (bytes_eq a b) refl
  where
    by_test : (c : Bool) → bytes_eq a b ≡ c → bytes_eq a b ≡ false
    by_test true e = absurd (other (sym ((bytes_eq-Decides a b).0 e)))
    by_test false e = e

-- no kind of a scan's table is ordered
pub unordered : (k : ScanKind) → is_ordered (kind_of k) ≡ false
unordered scan.Set = refl
unordered scan.Bag = refl
unordered scan.DuplicateBag = refl
