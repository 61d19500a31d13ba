-- The facts that the impl of `TryTurns` for a table of one thread has to provide.
use Rattle.std.specs.Prelude.{ℕ, ◌<◌}
use Rattle.part_core.specs.declared.part.Part.{Ghosts}
use Rattle.part_core.specs.Acts.{History}
use Rattle.part_core.specs.Legal.{IsLegal}
use Rattle.tables.specs.LocalFacts.{local_legal}
use Rattle.tables.specs.Options.{settings_of}
use Rattle.tables.specs.Turns.{Views}
use Rattle.open_table.specs.declared.parts.Parts.{Parts}
use Rattle.open_table.specs.declared.parts.Parts.TheVariants as parts
use Rattle.open_table.specs.Parts.{Sees, options_in}

-- there is a part
pub some_part : {S O A : Type 0} {s : Ghosts S A} {o : Ghosts O A} → (p : Parts S O A s o) → 0 < (options_in p).parts
some_part (parts.Unordered l) = l.some
some_part (parts.Ordered l) = l.some

-- some histories are seen
pub some_views : {S O A : Type 0} {s : Ghosts S A} {o : Ghosts O A} → (p : Parts S O A s o) → ∥ ((v : Views) × Sees p v) ∥₁
some_views (parts.Unordered l) = l.seen
some_views (parts.Ordered l) = l.seen

-- the histories that are seen are legal, since those of the parts are
pub are_legal : {S O A : Type 0} {s : Ghosts S A} {o : Ghosts O A} → ((p : S) (log : History) → s.is_after p log → IsLegal (s.settings p) log) → ((p : O) (log : History) → o.is_after p log → IsLegal (o.settings p) log)
    → (p : Parts S O A s o) → (v : Views) → Sees p v → (part : ℕ) → part < (options_in p).parts → IsLegal (settings_of (options_in p)) (v part)
are_legal {s} {o} unordered ordered (parts.Unordered l) v sees part inside = local_legal s.settings s.is_after unordered l.options l.parts.items l.count l.same v sees part inside
are_legal {s} {o} unordered ordered (parts.Ordered l) v sees part inside = local_legal o.settings o.is_after ordered l.options l.parts.items l.count l.same v sees part inside
