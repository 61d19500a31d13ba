-- What holds of every tour whose order stays.
use Rattle.std.specs.Prelude.{ℕ, ◌≡◌, ◌≢◌, ◌++◌, IsTrue, AllPairs, Contains, None, [], ◌∷◌}
use Rattle.std.specs.List.Sorted.{IsStrictlySortedBy}
use Rattle.term_core.specs.Datum.{Datum}
use Rattle.term_core.specs.Order.{datum_cmp}
use Rattle.part_core.specs.declared.fault.Fault.TheVariants as fault
use Rattle.part_core.specs.Settings.{is_ordered, part_of}
use Rattle.tables.specs.Options.{settings_of}
use Rattle.tables.specs.Turns.{Home, Views}
use Rattle.walk_core.specs.Moments.{span, IsGrown}
use Rattle.walks.specs.Keys.{RefusedNext}
use Rattle.walk_laws.specs.Tours.{Tour, IsTour, IsTurn, IsSteady, Stayed, objects_then}

-- a key that a tour returned isn't refused when the session requests the key after it, even much later
abbrev pub ToursGoOn : Type 0
ToursGoOn =
    (h : Home) (t : Tour) (k : Datum) (before after : Views)
    → IsTour h t → Contains t.keys k → IsGrown h.options t.views before
    → IsSteady h (t.calls ++ span before after ∷ []) after
    → RefusedNext h k fault.BadKey before after → ⊥

-- no key is met twice
abbrev pub ToursMeetOnce : Type 0
ToursMeetOnce =
    (h : Home) (t : Tour) → IsTour h t → IsSteady h t.calls t.views → AllPairs (λ j k. j ≢ k) t.keys

-- each key that is met had objects at a turn of the tour
abbrev pub ToursMeetWhoIsThere : Type 0
ToursMeetWhoIsThere =
    (h : Home) (t : Tour) (k : Datum) → IsTour h t → IsSteady h t.calls t.views → Contains t.keys k
    → (moment : ℕ) × IsTurn h t.calls t.views (part_of (settings_of h.options) k) moment
    × (objects_then h t.views k moment ≢ [])

-- at its end a tour has met each key that stayed
abbrev pub ToursMeetWhoStayed : Type 0
ToursMeetWhoStayed =
    (h : Home) (t : Tour) (k : Datum) → IsTour h t → IsSteady h t.calls t.views → t.last ≡ None
    → Stayed h t.calls t.views k → Contains t.keys k

-- the keys of an ordered set are ascending
abbrev pub ToursRise : Type 0
ToursRise =
    (h : Home) (t : Tour) → IsTour h t → IsSteady h t.calls t.views → IsTrue (is_ordered h.options.kind)
    → IsStrictlySortedBy datum_cmp t.keys
