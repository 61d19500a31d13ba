-- The facts that an impl of `Turns` for tables on one thread has to provide.
use Rattle.std.specs.Prelude.{ℕ, ◌≡◌, ◌<◌, ◌≤◌, ◌⊎◌, Some, None, get_or, All, length, slice_get, List}
use Rattle.std.proofs.lemmas.List.Elements.{All-get_or}
use Rattle.std.proofs.Common.{ap, ◌∙◌, subst, sym, inl, inr, arith}
use Rattle.std.proofs.Math.Logic.{∥∥₁_elim}
use Rattle.std.proofs.lemmas.Option.{slice_get_cases}
use Rattle.part_core.specs.declared.settings.Settings.{Settings}
use Rattle.part_core.specs.Acts.{History}
use Rattle.part_core.specs.Legal.{IsLegal}
use Rattle.part_core.specs.LegalFacts.{legal_prop}
use Rattle.tables.specs.declared.options.Options.{Options}
use Rattle.tables.specs.Options.{settings_of}
use Rattle.tables.specs.Turns.{Views}
use Rattle.tables.specs.Local.{AreAfter}

-- the history of each part is legal
pub local_legal : {P : Type 0} (settings : P → Settings) (IsAfter : P → History → Type 0)
    → ((p : P) (log : History) → IsAfter p log → IsLegal (settings p) log)
    → (o : Options) (parts : List P) → length parts ≡ o.parts → ∥ (All (λ p. settings p ≡ settings_of o) parts) ∥₁
    → (v : Views) → AreAfter IsAfter parts v → (part : ℕ) → part < o.parts → IsLegal (settings_of o) (v part)
local_legal settings IsAfter legal o parts count same v sees part inside =
    ∥∥₁_elim same (legal_prop (settings_of o) (v part)) (λ all. go all (slice_get_cases parts part).1)
  where
    go : All (λ p. settings p ≡ settings_of o) parts
        → (((x : _) × (part < length parts) × (slice_get parts part ≡ Some x) × (get_or parts part x ≡ x)) ⊎ ((length parts ≤ part) × (slice_get parts part ≡ None)))
        → IsLegal (settings_of o) (v part)
    go all (inl (p, within, got, same)) = subst (λ (x : Settings). IsLegal x (v part)) (ap settings (sym same) ∙ All-get_or (λ p. settings p ≡ settings_of o) parts part p within all) (legal p (v part) (sees part p got))
    go all (inr (past, none)) = absurd (omega (arith, inside, count, past))
