-- What a visit of a part looks at, in terms of the part's state.
use Rattle.std.proofs.Common.{◌≡◌, ◌<◌, ◌⊎◌, inl, inr, ℕ, Option, Some, None, List, ◌++◌, refl, sym, subst, ◌∙◌, ap, arith, flat_map, length}
use Rattle.std.proofs.Math.Path.{fun_ext}
use Rattle.std.specs.Prelude.{Bool, IsTrue, ◌&&◌, if◌then◌else◌, true, false, filter, filter_map}
use Rattle.std.specs.Ordering.{is_lt}
use Rattle.std.specs.declared.cmp.Ordering.{Ordering}
use Rattle.std.specs.declared.cmp.Ordering.TheVariants.{Less, Equal, Greater}
use Rattle.term_core.specs.Datum.{Datum}
use Rattle.term_core.specs.Order.{datum_cmp}
use Rattle.term_core.specs.OrderLaws.{datum_cmp_total}
use Rattle.mcode.specs.Program.{Program}
use Rattle.part_core.specs.Acts.{Purpose, Cursor}
use Rattle.part_core.specs.Acts.Cursor.{Class, Behind}
use Rattle.part_core.specs.Acts.Scope.{After}
use Rattle.part_core.specs.Laws.{LeadsTo}
use Rattle.part_core.specs.Replies.{yield_of}
use Rattle.part_core.specs.Rows.{Row}
use Rattle.part_core.specs.Settings.{is_ordered}
use Rattle.part_core.specs.States.{IsState}
use Rattle.part_core.specs.Visits.{in_class, is_beyond, is_inside, most_rows, next_class, next_key, next_of, following_rows, rows_up_to, yields}
use Rattle.part_core.proofs.KeyLemmas.{by_test}
use Rattle.part_core.proofs.StateLemmas.{base_least, filtered_rows}
use Rattle.part_core.proofs.VisitLemmas.{filter-filter}
use Rattle.tables.specs.Options.{settings_of}
use Rattle.tables.specs.OneThread.{TableState}
use Rattle.walk_core.specs.Walk.{scope_from}
use Rattle.walk_core.specs.Walk.Position.{InPart}
use Rattle.walks.specs.Sights.{goes_on, row_sights, sights_from}
use Rattle.walks.proofs.LookLemmas.{Looks, gives, later_parts, one_looks, rows_looks}
use Rattle.walks.proofs.SightLemmas.{class_sight, class_step, first_class_step}

-- ---- rows after a key, and after a further one

is_less : (o : Ordering) → is_lt o ≡ true → o ≡ Less
is_less Less h = refl
is_less Equal h = cc
is_less Greater h = cc

further_behind : (j k l : Datum) → is_beyond j k ≡ true → is_beyond k l ≡ true → is_beyond j l ≡ true
further_behind j k l first next =
    ap is_lt (datum_cmp_total.trans j k l (is_less (datum_cmp j k) first) (is_less (datum_cmp k l) next))

both_behind : (j k l : Datum) → is_beyond j k ≡ true → (is_beyond j l && is_beyond k l) ≡ is_beyond k l
both_behind j k l first =
    by_test (is_beyond k l) _ (λ next. rw (next, further_behind j k l first next) refl) (λ fails. rw fails (none (is_beyond j l)))
  where
    none : (b : Bool) → (b && false) ≡ false
    none true = refl
    none false = refl

further_rows : (j k : Datum) (rows : List Row) → is_beyond j k ≡ true → following_rows k rows ≡ following_rows k (following_rows j rows)
further_rows j k rows first =
    sym (filter-filter (λ (r : Row). is_beyond k r.0) (λ (r : Row). is_beyond j r.0) rows
    ∙ ap (λ (p : Row → Bool). filter p rows) (fun_ext (λ (r : Row). both_behind j k r.0 first)))

-- ---- a visit

-- what a visit with a target above 0 looks at, in a part where a walk is
pub visit_looks : (f : Datum → Option Datum) (purpose : Purpose) (p : Program) (t : TableState) (plan : Option (List Datum)) (part wanted : ℕ) (cursor : Option Cursor) → yields purpose p ≡ filter_map f → 0 < wanted
    → IsState (settings_of t.options) (t.states part)
    → IsTrue (is_inside (settings_of t.options) (t.states part) (scope_from cursor))
    → LeadsTo (settings_of t.options) (t.states part).base (scope_from cursor) (next_of (settings_of t.options) (t.states part) purpose p (scope_from cursor) wanted)
    → Looks f t plan wanted (InPart part cursor) (goes_on t part (next_of (settings_of t.options) (t.states part) purpose p (scope_from cursor) wanted)) (yield_of (settings_of t.options) (t.states part) purpose p (scope_from cursor) wanted)
visit_looks f purpose p t plan part wanted (Some (Class base class)) same some state inside leads =
    subst (λ (g : List Datum → List Datum). Looks f t plan wanted (InPart part (Some (Class base class))) (goes_on t part (next_class base class)) (flat_map (λ (r : Row). g r.1) (in_class (settings_of t.options) base class (t.states part).rows))) (sym same)
    (one_looks f t plan wanted (InPart part (Some (Class base class))) (class_sight t part base class) some (class_step t plan part base class leads.0))
visit_looks f purpose p t plan part wanted (Some (Behind j)) same some state inside leads =
    subst (λ (g : List Datum → List Datum). Looks f t plan wanted (InPart part (Some (Behind j))) (goes_on t part (next_key (λ (r : Row). length (g r.1)) wanted (rows_up_to (λ (r : Row). length (g r.1)) wanted most_rows (following_rows j (t.states part).rows)))) (flat_map (λ (r : Row). g r.1) (rows_up_to (λ (r : Row). length (g r.1)) wanted most_rows (following_rows j (t.states part).rows)))) (sym same)
    (rows_looks f t plan part wanted (InPart part (Some (Behind j))) (following_rows j (t.states part).rows) some refl
    ((filtered_rows (settings_of t.options) (λ (r : Row). is_beyond j r.0) (t.states part).rows state.rows).rising inside)
    (λ k stops. of k stops (subst (λ (g : List Datum → List Datum). LeadsTo (settings_of t.options) (t.states part).base (After (Behind j)) (next_key (λ (r : Row). length (g r.1)) wanted (rows_up_to (λ (r : Row). length (g r.1)) wanted most_rows (following_rows j (t.states part).rows)))) same leads)))
  where
    of : (k : Datum) → next_key (gives f) wanted (rows_up_to (gives f) wanted most_rows (following_rows j (t.states part).rows)) ≡ Some (Behind k)
        → (next_key (gives f) wanted (rows_up_to (gives f) wanted most_rows (following_rows j (t.states part).rows)) ≡ None) ⊎ ((l : Datum) × (next_key (gives f) wanted (rows_up_to (gives f) wanted most_rows (following_rows j (t.states part).rows)) ≡ Some (Behind l)) × IsTrue (is_beyond j l))
        → following_rows k (t.states part).rows ≡ following_rows k (following_rows j (t.states part).rows)
    of k stops (inl none) = absurd (some_none (sym stops ∙ none))
      where
        some_none : Some (Behind k) ≡ None → ⊥
        some_none e = cc
    of k stops (inr (l, is, further)) =
        let one : l ≡ k = same_key (sym is ∙ stops) in
        further_rows j k (t.states part).rows (subst (λ (i : Datum). is_beyond j i ≡ true) one further)
      where
        same_key : Some (Behind l) ≡ Some (Behind k) → l ≡ k
        same_key e = cc
visit_looks f purpose p t plan part wanted None same some state inside leads = of (is_ordered t.options.kind) refl
  where
    of : (b : Bool) → is_ordered t.options.kind ≡ b
        → Looks f t plan wanted (InPart part None)
        (goes_on t part (if b then next_key (λ (r : Row). length (yields purpose p r.1)) wanted (if b then rows_up_to (λ (r : Row). length (yields purpose p r.1)) wanted most_rows (t.states part).rows else in_class (settings_of t.options) (t.states part).base 0 (t.states part).rows) else next_class (t.states part).base 0))
        (flat_map (λ (r : Row). yields purpose p r.1) (if b then rows_up_to (λ (r : Row). length (yields purpose p r.1)) wanted most_rows (t.states part).rows else in_class (settings_of t.options) (t.states part).base 0 (t.states part).rows))
    of true ordered =
        subst (λ (g : List Datum → List Datum). Looks f t plan wanted (InPart part None) (goes_on t part (next_key (λ (r : Row). length (g r.1)) wanted (rows_up_to (λ (r : Row). length (g r.1)) wanted most_rows (t.states part).rows))) (flat_map (λ (r : Row). g r.1) (rows_up_to (λ (r : Row). length (g r.1)) wanted most_rows (t.states part).rows))) (sym same)
        (rows_looks f t plan part wanted (InPart part None) (t.states part).rows some (first ordered) (state.rows.rising ordered) (λ k stops. refl))
      where
        first : is_ordered t.options.kind ≡ true → sights_from t plan (InPart part None) ≡ row_sights t part (t.states part).rows ++ later_parts t part
        first holds = rw holds refl
    of false unordered =
        subst (λ (g : List Datum → List Datum). Looks f t plan wanted (InPart part None) (goes_on t part (next_class (t.states part).base 0)) (flat_map (λ (r : Row). g r.1) (in_class (settings_of t.options) (t.states part).base 0 (t.states part).rows))) (sym same)
        (one_looks f t plan wanted (InPart part None) (class_sight t part (t.states part).base 0) some
        (first_class_step t plan part unordered ∙ class_step t plan part (t.states part).base 0 (omega (arith, base_least (t.states part).base state.base.0))))
