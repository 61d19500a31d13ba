-- Definitions about what an instruction leaves.
use Rattle.std.specs.Prelude.{ℕ, ◌<◌, if◌then◌else◌, is_some, Option, Some, None, List, [], ◌∷◌}
use Rattle.term_core.specs.Datum.{Datum}
use Rattle.term_operand.specs.Operand.{boolean_of}
use Rattle.mcode.specs.Program.{Program}
use Rattle.mcode.specs.declared.instr.Instr.{Instr}
use Rattle.mcode.specs.declared.instr.Instr.TheVariants as instr
use Rattle.mcode.specs.declared.kind.Kind.{Kind}
use Rattle.mcode.specs.declared.kind.Kind.TheVariants as kind
use Rattle.verifier_types.specs.Effect.{pushed_kinds}
use Rattle.verifier_types.specs.declared.leaving.Pushed.{Pushed}
use Rattle.verifier_types.specs.declared.leaving.Pushed.TheVariants.{Nothing, One, Twice}

-- the kind of an atom: Bool for true and false, else Any
abbrev pub boolean_kind : Datum → Kind
boolean_kind d = if is_some (boolean_of d) then kind.Bool else kind.Any

-- the kinds that are pushed, from the top
abbrev pub pushed_list : Pushed → List Kind
pushed_list Nothing = []
pushed_list (One k) = k ∷ []
pushed_list (Twice k) = k ∷ k ∷ []

-- the kind at the top, if there is one, as a stack
abbrev pub top_list : Option Kind → List Kind
top_list None = []
top_list (Some k) = k ∷ []

-- the kinds that an instruction pushes if this kind is at the top
abbrev pub pushed_for : Program → Instr → Option Kind → List Kind
pushed_for p i top = pushed_kinds p i (top_list top)

-- the slot that an instruction binds, if any, is below this number
abbrev pub IsBindable : Instr → ℕ → Type 0
IsBindable (instr.Bind v) n = v < n
IsBindable i n = Unit {0}
