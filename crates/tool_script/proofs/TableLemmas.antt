-- A table that is opened, and its objects.
use Rattle.std.proofs.Common.{◌≡◌, ℕ, zero, suc, ◌+◌, ◌-◌, ◌<◌, ◌≤◌, List, [], ◌∷◌, ◌++◌, refl, ap, sym, ◌∙◌, arith, flat_map}
use Rattle.std.specs.Prelude.{Result, Ok, Err, IfErr, IsErrOf}
use Rattle.std.specs.List.{range_with_len}
use Rattle.std.proofs.lemmas.List.Concat.{flat_map-append}
use Rattle.term_core.specs.Datum.{Datum}
use Rattle.part_core.specs.declared.fault.OpenFault.{OpenFault}
use Rattle.part_core.specs.declared.fault.OpenFault.TheVariants as open_fault
use Rattle.part_core.specs.Rows.{Row, PartState, opening}
use Rattle.part_core.specs.Visits.{walk_order, walked_objects}
use Rattle.tables.specs.declared.options.Options.{Options}
use Rattle.tables.specs.Options.{settings_of}
use Rattle.tables.specs.Turns.{Views}
use Rattle.tables.specs.Local.{part_objects, objects_seen}
use Rattle.tables.specs.OneThread.{TableState, opened}
use Rattle.walks.specs.OneThread.{table_objects}
use Rattle.tool_script.specs.State.{IsAt}

-- a fault of opening that is not about the options is out of memory
pub memory_alone : {T : Type 0} (P : Type 0) (r : Result T OpenFault) → P → (IsErrOf r open_fault.BadOptions → ¬ P) → IfErr r (λ fault. fault ≡ open_fault.Memory)
memory_alone P (Ok t) holds refused = tt
memory_alone P (Err open_fault.Memory) holds refused = refl
memory_alone P (Err open_fault.BadOptions) holds refused = absurd (refused refl holds)

pub opened_is : (o p : Options) (sees : Views → Type 0) → p ≡ o → sees (λ part. []) → IsAt p sees (opened o)
opened_is o p sees same none =
    record { options = sym same; views = λ part. []; seen = none; states = λ k inside. ap (λ (x : Options). opening (settings_of x)) (sym same) }

joined : (f : ℕ → List Row) (ks : List ℕ) → flat_map (λ (r : Row). r.1) (flat_map f ks) ≡ flat_map (λ k. flat_map (λ (r : Row). r.1) (f k)) ks
joined f [] = refl
joined f (k ∷ ks) =
    flat_map-append (λ (r : Row). r.1) (f k) (flat_map f ks) ∙ ap (λ xs. flat_map (λ (r : Row). r.1) (f k) ++ xs) (joined f ks)

same_in_range : (f g : ℕ → List Datum) (a n : ℕ) → ((k : ℕ) → a ≤ k → k < a + n → f k ≡ g k) → flat_map f (range_with_len a n) ≡ flat_map g (range_with_len a n)
same_in_range f g a zero each = refl
same_in_range f g a (suc n) each =
    ap (λ xs. xs ++ flat_map f (range_with_len (a + 1) n)) (each a (omega arith) (omega arith))
    ∙ ap (λ xs. g a ++ xs) (same_in_range f g (a + 1) n (λ k from to. each k (omega (arith, from)) (omega (arith, to))))

-- the objects that are seen are those of the state
pub objects_are : (o : Options) (sees : Views → Type 0) (t : TableState) (at : IsAt o sees t) → objects_seen o at.views ≡ table_objects t
objects_are o sees t at =
    let walked : ℕ → List Datum = λ k. walked_objects (settings_of t.options) (t.states k) in
    let count : o.parts ≡ t.options.parts - 0 = sym (ap (λ (x : Options). x.parts) at.options) ∙ omega arith in
    let each : (k : ℕ) → 0 ≤ k → k < 0 + o.parts → part_objects o at.views k ≡ walked k = λ k from to.
    ap (λ (s : PartState). walked_objects (settings_of o) s) (sym (at.states k (omega (arith, to))))
    ∙ ap (λ (x : Options). walked_objects (settings_of x) (t.states k)) (sym at.options) in
    same_in_range (part_objects o at.views) walked 0 o.parts each ∙ ap (λ n. flat_map walked (range_with_len 0 n)) count
    ∙ sym (joined (λ k. walk_order (settings_of t.options) (t.states k).base (t.states k).rows) (range_with_len 0 (t.options.parts - 0)))
