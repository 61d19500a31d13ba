-- The kind that is read from an option's text.
use Rattle.std.proofs.Common.{◌≡◌, ◌∙◌, ap, true≢false, List, ℕ, Option, Some, None, sym, codes}
use Rattle.clap.specs.Matches.{ReadsOne, one_text}
use Rattle.clap.specs.Walk.{rows_of}
use Rattle.clap.specs.declared.parser.matches.Found.{Found}
use Rattle.clap.proofs.WalkLemmas.{one_text-rows}
use Rattle.tool_scan.specs.Options.{IsKindText}
use Rattle.tool_scan.specs.declared.options.ScanKind.{ScanKind}
use Rattle.tool_cli.specs.Words.{IsKindOf}

-- how a text that names a kind is read
named_read : (E : Type 0) (k : ScanKind) (rows : _) (is : IsKindOf k rows) (r : Option ScanKind) → ReadsOne (IsKindText {E = E}) is.text r → r ≡ Some k
named_read E k rows is (Some v) read = ap Some (read.1 ∙ sym is.named)
named_read E k rows is None read = absurd (true≢false (sym is.passes ∙ read.1))

-- the kind that is read from the row of the option
pub kind_read : (E : Type 0) (f : Found) (k : ScanKind) (r : Option ScanKind)
    → ((t : List ℕ) → one_text f (codes "kind") ≡ Some t → ReadsOne (IsKindText {E = E}) t r) → IsKindOf k (rows_of f) → r ≡ Some k
kind_read E f k r reads is = named_read E k (rows_of f) is r (reads is.text (one_text-rows f (codes "kind") ∙ is.looked))

pub none_some : (k : ScanKind) → None ≡ Some k → ⊥
none_some k e = cc

pub some_same : (j k : ScanKind) → Some j ≡ Some k → j ≡ k
some_same j k e = cc
