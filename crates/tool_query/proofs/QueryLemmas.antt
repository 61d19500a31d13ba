-- Which query a term is, and why it is none.
use Rattle.std.proofs.Common.{◌≡◌, ◌≢◌, ◌<◌, ◌⊎◌, inl, inr, ℕ, Option, List, [], ◌∷◌, length, get_or, is_some, false, refl, sym, ap, subst, ◌∙◌, arith, Bor}
use Rattle.std.proofs.lemmas.Bool.{false≢true}
use Rattle.std.proofs.lemmas.Option.{slice_get-get_or}
use Rattle.std.specs.Option.{option_copied}
use Rattle.term_core.specs.Datum.{Datum}
use Rattle.term_core.specs.Datum.Datum.{integer, atom, tuple, map, nil, cons, binary}
use Rattle.term_core.specs.Datum.{cells}
use Rattle.term_core.specs.Term.{tail_of}
use Rattle.term_core.specs.View.{shown, IsSplit}
use Rattle.term_core.specs.declared.view.View.{View}
use Rattle.term_core.specs.declared.view.View.TheVariants as view
use Rattle.mcode.specs.Answer.{answer_of}
use Rattle.mcode.specs.Program.{Program, alone, routine_at}
use Rattle.mcode.specs.Run.{HasRun}
use Rattle.mcode.specs.declared.instr.Instr.{Instr}
use Rattle.mcode.specs.declared.instr.Instr.TheVariants as instr
use Rattle.mcode.proofs.BodyLemmas.{alone_main, no_routine}
use Rattle.mspec_syntax.specs.Faults.{IsRefusal}
use Rattle.mspec_syntax.specs.Specification.{Specification}
use Rattle.mspec_syntax.specs.declared.fault.SpecFault.{SpecFault}
use Rattle.mspec_syntax.specs.declared.fault.SpecFault.TheVariants as specification
use Rattle.mspec_meaning.specs.Meaning.{Means}
use Rattle.compiler_assembly.proofs.StandLemmas.{assembled_alone}
use Rattle.compiler_clauses.specs.Clauses.{code_of}
use Rattle.code_writer.specs.File.{HasFile, IsUpTo, Spells, plain_opcode}
use Rattle.code_writer.specs.Laws.{OneCode}
use Rattle.code_file.specs.declared.fault.FileFault.TheVariants as file
use Rattle.machine_bodies.specs.Laws.{RunsEndWithTheAnswer}
use Rattle.verifier.specs.Faults.{IsFirstFault}
use Rattle.verifier.specs.Laws.{FaultyCodeIsUntyped}
use Rattle.verifier.specs.Typing.{IsTyped}
use Rattle.verifier_types.specs.Fit.{IsPlaced}
use Rattle.verifier_types.specs.declared.fault.Fault as code_fault
use Rattle.verifier_types.specs.declared.fault.Fault.TheVariants as code
use Rattle.tool_io.specs.declared.fault.ToolFault.{ToolFault}
use Rattle.tool_io.specs.declared.fault.ToolFault.TheVariants as fault
use Rattle.tool_query.specs.Code.{IsFileOf, IsNoBinary}
use Rattle.tool_query.specs.Query.{Query, Answers, IsRead, IsQuery, IsLoaded, IsNoSpecification, IsUnloaded, IsNoQuery}
use Rattle.tool_io.specs.Wrapped.{of_specification, of_code}

-- ---- faults of lower crates as those of the program

pub no_specification : (d : Datum) (f : SpecFault) → IsRefusal f d → IsNoSpecification d (of_specification f)
no_specification d specification.Memory h = tt
no_specification d specification.NotAList h = ((λ e. absurd (cc)), h)
no_specification d (specification.NotAClause n) h = ((λ e. absurd (cc)), h)
no_specification d (specification.BadHead n) h = ((λ e. absurd (cc)), h)
no_specification d (specification.BadConditions n) h = ((λ e. absurd (cc)), h)
no_specification d (specification.BadBody n) h = ((λ e. absurd (cc)), h)
no_specification d (specification.UnknownCall n) h = ((λ e. absurd (cc)), h)
no_specification d (specification.Unbound n v) h = ((λ e. absurd (cc)), h)
no_specification d (specification.BadVariableName n) h = ((λ e. absurd (cc)), h)
no_specification d (specification.BadExpression n) h = ((λ e. absurd (cc)), h)
no_specification d (specification.VariableInMapKey n) h = ((λ e. absurd (cc)), h)
no_specification d specification.TooLarge h = ((λ e. absurd (cc)), h)

first_fault : (f : code_fault.Fault) (b : ℕ) (p : Program) → f ≢ code.Memory → (f ≡ code.Memory) ⊎ IsFirstFault p b f → IsFirstFault p b f
first_fault f b p other (inl memory) = absurd (other memory)
first_fault f b p other (inr first) = first

faulty : (bytes : List ℕ) (p : Program) (f : code_fault.Fault) (b : ℕ) → Spells bytes p → (f ≡ code.Memory) ⊎ IsFirstFault p b f → f ≢ code.Memory → (f ≢ code.Memory) × ((q : Program) × Spells bytes q × IsFirstFault q b f)
faulty bytes p f b spells h other = (other, (p, spells, first_fault f b p other h))

pub no_code : (bytes : List ℕ) (p : Program) (f : code_fault.Fault) (b : ℕ) → Spells bytes p → (f ≡ code.Memory) ⊎ IsFirstFault p b f → IsUnloaded bytes (of_code f b)
no_code bytes p code.Memory b s h = tt
no_code bytes p (code.Underflow pc) b s h = faulty bytes p (code.Underflow pc) b s h (λ e. absurd (cc))
no_code bytes p (code.Kind pc) b s h = faulty bytes p (code.Kind pc) b s h (λ e. absurd (cc))
no_code bytes p (code.Unbound pc) b s h = faulty bytes p (code.Unbound pc) b s h (λ e. absurd (cc))
no_code bytes p (code.JumpOutside pc) b s h = faulty bytes p (code.JumpOutside pc) b s h (λ e. absurd (cc))
no_code bytes p (code.JumpBack pc) b s h = faulty bytes p (code.JumpBack pc) b s h (λ e. absurd (cc))
no_code bytes p (code.Frame pc) b s h = faulty bytes p (code.Frame pc) b s h (λ e. absurd (cc))
no_code bytes p (code.FallsOff pc) b s h = faulty bytes p (code.FallsOff pc) b s h (λ e. absurd (cc))
no_code bytes p (code.Constant pc) b s h = faulty bytes p (code.Constant pc) b s h (λ e. absurd (cc))
no_code bytes p (code.Depth pc) b s h = faulty bytes p (code.Depth pc) b s h (λ e. absurd (cc))
no_code bytes p (code.Routine pc) b s h = faulty bytes p (code.Routine pc) b s h (λ e. absurd (cc))
no_code bytes p code.Budget b s h = faulty bytes p code.Budget b s h (λ e. absurd (cc))

-- ---- a file that was written can be loaded

-- in code without routines, an instruction that is allowed at its place is none that only routines use
placed_plain : (p : Program) (i : Instr) → p.around ≡ alone → IsPlaced p i → IsUpTo plain_opcode i
placed_plain p (instr.Invoke r target) is placed =
    let none : is_some (routine_at p r) ≡ false = ap is_some (no_routine p r is) in
    absurd (false≢true (sym none ∙ placed.1))
placed_plain p instr.Return is placed = absurd (omega (arith, placed, alone_main p is))
placed_plain p instr.Fail is placed = absurd (omega (arith, placed, alone_main p is))
placed_plain p instr.Load is placed = omega arith
placed_plain p i is placed = omega arith

-- typed code without routines has a file
typed_has_file : (p : Program) → p.around ≡ alone → IsTyped p → HasFile p
typed_has_file p is typed none pc d inside =
    let here = slice_get-get_or p.instructions pc d inside in
    placed_plain p (get_or p.instructions pc d) is ((typed.bodies 0 (omega arith)).1.each pc (get_or p.instructions pc d) inside here).typed.placed

code_alone : (s : Specification) → (code_of s).around ≡ alone
unfolding code_of
code_alone s = assembled_alone _ _

pub file_is : (s : Specification) (bytes : List ℕ) (p q : Program) → q ≡ p → p ≡ code_of s → (HasFile q → Spells bytes q) → IsTyped p
    → ((object : Datum) → (answer : Option Datum) × (n : ℕ) × Means s object answer × HasRun p object n answer) → IsFileOf s bytes
file_is s bytes p q same is spells typed runs = record {
  spells = subst (Spells bytes) (same ∙ is) (spells (subst HasFile (sym same) (typed_has_file p (ap (λ (r : Program). r.around) is ∙ code_alone s) typed)));
  typed = subst IsTyped is typed;
  runs = subst (λ (r : Program). (object : Datum) → (answer : Option Datum) × (n : ℕ) × Means s object answer × HasRun r object n answer) is runs;
}

pub loads_alone : OneCode → FaultyCodeIsUntyped → (s : Specification) (bytes : List ℕ) (f : ToolFault) → IsFileOf s bytes → IsUnloaded bytes f → f ≡ fault.Memory
loads_alone one untyped s bytes fault.Memory h k = refl
loads_alone one untyped s bytes (fault.File f) h k = absurd (k.1.none (code_of s) h.spells)
loads_alone one untyped s bytes (fault.Code f b) h k =
    absurd (untyped k.1.0 b f k.1.2 (subst IsTyped (one bytes (code_of s) k.1.0 h.spells k.1.1) h.typed))
loads_alone one untyped s bytes (fault.Text f) h k = absurd k
loads_alone one untyped s bytes fault.BadInput h k = absurd k
loads_alone one untyped s bytes (fault.Specification f) h k = absurd k
loads_alone one untyped s bytes fault.ReadFailed h k = absurd k
loads_alone one untyped s bytes fault.TooSmall h k = absurd k
loads_alone one untyped s bytes fault.BadOptions h k = absurd k
loads_alone one untyped s bytes fault.WriteFailed h k = absurd k

pub loaded_answers : OneCode → RunsEndWithTheAnswer → (s : Specification) (bytes : List ℕ) (p : Program) → IsFileOf s bytes → IsLoaded bytes p → (object : Datum) → Means s object (answer_of p object)
loaded_answers one ends s bytes p h loaded object =
    let run = h.runs object in
    let same : code_of s ≡ p = one bytes (code_of s) p h.spells loaded.0 in
    let answer : run.0 ≡ answer_of (code_of s) object = ends (code_of s) object (alone_main (code_of s) (code_alone s)) h.typed run.1 run.0 run.3 in
    subst (λ (q : Program). Means s object (answer_of q object)) same (subst (Means s object) answer run.2)

-- ---- a term that is no binary is a query by its specification

-- the view of a binary
abbrev IsBinaryView : {A : Type 0} → View A → Type 0
IsBinaryView (view.Binary bs) = Unit {0}
IsBinaryView v = ⊥

cells_no_binary : (ds : List Datum) (tail : Datum) → 0 < length ds → IsNoBinary (cells ds tail)
cells_no_binary [] tail some = absurd (omega (arith, some))
cells_no_binary (d ∷ ds) tail some = tt

pub shown_no_binary : {A : Type 0} (v : View A) → IsSplit v → ¬ IsBinaryView v → IsNoBinary (shown v)
shown_no_binary (view.Integer z) split other = tt
shown_no_binary (view.Atom cs) split other = tt
shown_no_binary (view.Tuple ds) split other = tt
shown_no_binary view.Nil split other = tt
shown_no_binary (view.List ds tail) split other = cells_no_binary ds.now (tail_of (option_copied tail)) split.0
shown_no_binary (view.Map es) split other = tt
shown_no_binary (view.Binary bs) split other = absurd (other tt)

-- a term whose view is not that of a binary is no binary
pub no_binary_at : {A : Type 0} (d : Datum) (v : View A) → shown v ≡ d → IsSplit v → ((bytes : Bor (List ℕ)) → v ≡ view.Binary bytes → ⊥) → IsNoBinary d
no_binary_at d v is split other = subst IsNoBinary is (shown_no_binary v split (not_viewed v other))
  where
    not_viewed : {A : Type 0} (v : View A) → ((bytes : Bor (List ℕ)) → v ≡ view.Binary bytes → ⊥) → ¬ IsBinaryView v
    not_viewed (view.Binary bytes) other h = other bytes refl
    not_viewed (view.Integer z) other h = h
    not_viewed (view.Atom cs) other h = h
    not_viewed (view.Tuple ds) other h = h
    not_viewed view.Nil other h = h
    not_viewed (view.List ds tail) other h = h
    not_viewed (view.Map es) other h = h

pub coded_query : (d : Datum) (bytes : List ℕ) (p : Program) → d ≡ binary bytes → IsLoaded bytes p
    → (q : Query) × IsQuery d q × ((object : Datum) → Answers q object (answer_of p object))
coded_query d bytes p is loaded =
    (Query.coded p, subst (λ e. IsQuery e (Query.coded p)) (sym is) (p, refl, loaded), λ object. refl)

pub asks_meant : (d : Datum) (s : Specification) → IsNoBinary d → IsRead d s → IsQuery d (Query.meant s)
asks_meant (integer z) s other h = (s, refl, h)
asks_meant (atom cs) s other h = (s, refl, h)
asks_meant (tuple ds) s other h = (s, refl, h)
asks_meant (map es) s other h = (s, refl, h)
asks_meant nil s other h = (s, refl, h)
asks_meant (cons head tail) s other h = (s, refl, h)
asks_meant (binary bs) s other h = absurd other

pub meant_query : (d : Datum) (s : Specification) (p : Program) → IsNoBinary d → IsRead d s → ((object : Datum) → Means s object (answer_of p object))
    → (q : Query) × IsQuery d q × ((object : Datum) → Answers q object (answer_of p object))
meant_query d s p other read answers = (Query.meant s, asks_meant d s other read, answers)

pub asks_nothing : (d : Datum) (f : ToolFault) → IsNoBinary d → IsNoSpecification d f → IsNoQuery d f
asks_nothing (integer z) f other h = h
asks_nothing (atom cs) f other h = h
asks_nothing (tuple ds) f other h = h
asks_nothing (map es) f other h = h
asks_nothing nil f other h = h
asks_nothing (cons head tail) f other h = h
asks_nothing (binary bs) f other h = absurd other

no_memory : (d : Datum) → IsNoQuery d fault.Memory
no_memory (integer z) = tt
no_memory (atom cs) = tt
no_memory (tuple ds) = tt
no_memory (map es) = tt
no_memory nil = tt
no_memory (cons head tail) = tt
no_memory (binary bs) = tt

pub for_memory : (d : Datum) (f : ToolFault) → f ≡ fault.Memory → IsNoQuery d f
for_memory d f is = subst (IsNoQuery d) (sym is) (no_memory d)
