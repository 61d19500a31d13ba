-- Conditions under which two operands are compared.
use Rattle.term_core.specs.Datum.{Datum}
use Rattle.term_core.specs.Datum.Datum.{tuple, map, cons, binary}
pub use Rattle.term_core.specs.Order.{is_same}

-- at least one of two terms is not a list with elements
abbrev pub AreEnds : Datum → Datum → Type 0
AreEnds (cons head tail) (cons head' tail') = ⊥
AreEnds d e = Unit {0}

-- a term that is neither a tuple, a map nor a binary
abbrev pub IsSimple : Datum → Type 0
IsSimple (tuple ds) = ⊥
IsSimple (map es) = ⊥
IsSimple (binary bs) = ⊥
IsSimple d = Unit {0}

-- two terms that, if they are of one kind, are integers, atoms or []
abbrev pub AreDecided : Datum → Datum → Type 0
AreDecided (tuple ds) (tuple es) = ⊥
AreDecided (map ds) (map es) = ⊥
AreDecided (cons head tail) (cons head' tail') = ⊥
AreDecided (binary bs) (binary cs) = ⊥
AreDecided d e = Unit {0}
