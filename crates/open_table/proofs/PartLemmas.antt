-- Parts that are opened, and their objects.
use Rattle.std.proofs.Common.{◌≡◌, ℕ, zero, suc, ◌+◌, ◌-◌, ◌<◌, ◌≤◌, List, [], ◌∷◌, ◌++◌, refl, ap, sym, ◌∙◌, arith, flat_map}
use Rattle.std.specs.List.{range_with_len}
use Rattle.std.specs.Prelude.{IsTrue, Bool, true, false, if◌then◌else◌, All, Some, slice_get}
use Rattle.std.proofs.lemmas.List.Concat.{flat_map-append}
use Rattle.std.proofs.lemmas.List.Elements.{All-get_or}
use Rattle.std.proofs.lemmas.Option.{get_or_from_slice_get, slice_get_within}
use Rattle.term_core.specs.Datum.{Datum}
use Rattle.part_core.specs.declared.kind.TableKind.{TableKind}
use Rattle.part_core.specs.declared.settings.Settings.{Settings}
use Rattle.part_core.specs.Settings.{is_ordered}
use Rattle.part_core.specs.Rows.{Row, PartState, opening}
use Rattle.part_core.specs.Visits.{walk_order, walked_objects}
use Rattle.tables.specs.declared.options.Options.{Options}
use Rattle.tables.specs.Options.{IsOpenable, settings_of}
use Rattle.tables.specs.Turns.{Views}
use Rattle.tables.specs.Local.{part_objects, objects_seen}
use Rattle.tables.specs.OneThread.{TableState, opened}
use Rattle.walks.specs.OneThread.{table_objects}
use Rattle.open_table.specs.Parts.{CanOpen, IsAt}

pub opened_is : (o p : Options) (sees : Views → Type 0) → p ≡ o → sees (λ part. []) → IsAt p sees (opened o)
opened_is o p sees same none =
    record { options = sym same; views = λ part. []; seen = none; states = λ k inside. ap (λ (x : Options). opening (settings_of x)) (sym same) }

joined : (f : ℕ → List Row) (ks : List ℕ) → flat_map (λ (r : Row). r.1) (flat_map f ks) ≡ flat_map (λ k. flat_map (λ (r : Row). r.1) (f k)) ks
joined f [] = refl
joined f (k ∷ ks) =
    flat_map-append (λ (r : Row). r.1) (f k) (flat_map f ks) ∙ ap (λ xs. flat_map (λ (r : Row). r.1) (f k) ++ xs) (joined f ks)

same_in_range : (f g : ℕ → List Datum) (a n : ℕ) → ((k : ℕ) → a ≤ k → k < a + n → f k ≡ g k) → flat_map f (range_with_len a n) ≡ flat_map g (range_with_len a n)
same_in_range f g a zero each = refl
same_in_range f g a (suc n) each =
    ap (λ xs. xs ++ flat_map f (range_with_len (a + 1) n)) (each a (omega arith) (omega arith))
    ∙ ap (λ xs. g a ++ xs) (same_in_range f g (a + 1) n (λ k from to. each k (omega (arith, from)) (omega (arith, to))))

-- the objects that are seen are those of the state
pub objects_are : (o : Options) (sees : Views → Type 0) (t : TableState) (at : IsAt o sees t) → objects_seen o at.views ≡ table_objects t
objects_are o sees t at =
    let walked : ℕ → List Datum = λ k. walked_objects (settings_of t.options) (t.states k) in
    let count : o.parts ≡ t.options.parts - 0 = sym (ap (λ (x : Options). x.parts) at.options) ∙ omega arith in
    let each : (k : ℕ) → 0 ≤ k → k < 0 + o.parts → part_objects o at.views k ≡ walked k = λ k from to.
    ap (λ (s : PartState). walked_objects (settings_of o) s) (sym (at.states k (omega (arith, to))))
    ∙ ap (λ (x : Options). walked_objects (settings_of x) (t.states k)) (sym at.options) in
    same_in_range (part_objects o at.views) walked 0 o.parts each ∙ ap (λ n. flat_map walked (range_with_len 0 n)) count
    ∙ sym (joined (λ k. walk_order (settings_of t.options) (t.states k).base (t.states k).rows) (range_with_len 0 (t.options.parts - 0)))

-- ---- settings

-- the settings of a part are those of its table
pub settings_there : {P : Type 0} (settings : P → Settings) (o : Settings) (parts : List P) (i : ℕ) (p : P) → slice_get parts i ≡ Some p → All (λ p. settings p ≡ o) parts → settings p ≡ o
settings_there settings o parts i p there all =
    ap settings (sym (get_or_from_slice_get parts i p p there)) ∙ All-get_or (λ p. settings p ≡ o) parts i p (slice_get_within parts i p there) all

-- ---- which options can be opened

pub can_ordered : (unordered ordered : TableKind → Bool) (o : Options) → is_ordered o.kind ≡ true → IsOpenable ordered o → CanOpen unordered ordered o
can_ordered unordered ordered o is opens =
    record { served = record { kind = rw is opens.served.kind; ranges = opens.served.ranges }; whole = opens.whole }

pub as_ordered : (unordered ordered : TableKind → Bool) (o : Options) → is_ordered o.kind ≡ true → CanOpen unordered ordered o → IsOpenable ordered o
as_ordered unordered ordered o is opens =
    let kind : IsTrue (ordered o.kind) = ap (λ b. if b then ordered o.kind else unordered o.kind) (sym is) ∙ opens.served.kind in
    record { served = record { kind = kind; ranges = opens.served.ranges }; whole = opens.whole }

pub can_unordered : (unordered ordered : TableKind → Bool) (o : Options) → is_ordered o.kind ≡ false → IsOpenable unordered o → CanOpen unordered ordered o
can_unordered unordered ordered o is opens =
    record { served = record { kind = rw is opens.served.kind; ranges = opens.served.ranges }; whole = opens.whole }

pub as_unordered : (unordered ordered : TableKind → Bool) (o : Options) → is_ordered o.kind ≡ false → CanOpen unordered ordered o → IsOpenable unordered o
as_unordered unordered ordered o is opens =
    let kind : IsTrue (unordered o.kind) = ap (λ b. if b then ordered o.kind else unordered o.kind) (sym is) ∙ opens.served.kind in
    record { served = record { kind = kind; ranges = opens.served.ranges }; whole = opens.whole }
