-- Visits of named keys.
use Rattle.std.proofs.Common.{◌≡◌, ◌<◌, ◌+◌, ℕ, Option, Some, List, [], ◌∷◌, refl, sym, subst, ◌∙◌, ap, flat_map, length, drop, get_or}
use Rattle.std.specs.Prelude.{Bool, false, if◌then◌else◌, nat_lt, filter, filter_map}
use Rattle.std.proofs.lemmas.Bool.{ltb-true, ltb-false}
use Rattle.std.proofs.lemmas.List.{drop_all, drop_more}
use Rattle.term_core.specs.Datum.{Datum}
use Rattle.term_core.specs.Datum.Datum.{nil}
use Rattle.term_operand.specs.Order.{is_same}
use Rattle.mcode.specs.Program.{Program}
use Rattle.part_core.specs.Acts.{Purpose}
use Rattle.part_core.specs.Acts.Scope.{Named}
use Rattle.part_core.specs.Replies.{yield_of}
use Rattle.part_core.specs.Rows.{Row, is_empty}
use Rattle.part_core.specs.Settings.{part_of}
use Rattle.part_core.specs.Visits.{yields}
use Rattle.part_core.proofs.KeyLemmas.{by_test}
use Rattle.tables.specs.Options.{settings_of}
use Rattle.tables.specs.OneThread.{TableState}
use Rattle.walk_core.specs.Walk.{Position, at_key}
use Rattle.walk_core.specs.Walk.Position.{AtNamed, Over}
use Rattle.walks.specs.Sights.{Sight, key_sights, sights_from}
use Rattle.walks.proofs.LookLemmas.{Looks, one_looks}

-- the visit of a named key, and the walk's position after it
abbrev pub key_sight : TableState → Datum → Position → Sight
key_sight t k behind =
    record { rows = filter (λ r. is_same k r.0) (t.states (part_of (settings_of t.options) k)).rows; behind = behind }

-- the first of the remaining keys is visited, and the other visits are those from the walk's position after it
pub key_step : (t : TableState) (ks : List Datum) (n : ℕ) → n < length ks
    → sights_from t (Some ks) (AtNamed n) ≡ key_sight t (get_or ks n nil) (at_key (n + 1) (length ks)) ∷ sights_from t (Some ks) (at_key (n + 1) (length ks))
key_step t ks n within =
    ap (key_sights t n) (drop_more ks n nil within)
    ∙ by_test (nat_lt (n + 1) (length ks)) _
    (λ further. let some : is_empty (drop (n + 1) ks) ≡ false = ap is_empty (drop_more ks (n + 1) nil (ltb-true (n + 1) (length ks) further)) in
    let there : at_key (n + 1) (length ks) ≡ AtNamed (n + 1) = rw further refl in
    ap (λ (b : Bool). key_sight t (get_or ks n nil) (if b then Over else AtNamed (n + 1)) ∷ key_sights t (n + 1) (drop (n + 1) ks)) some
    ∙ sym (ap (λ (at : Position). key_sight t (get_or ks n nil) at ∷ sights_from t (Some ks) at) there))
    (λ last. let none : drop (n + 1) ks ≡ [] = drop_all (n + 1) ks (ltb-false (n + 1) (length ks) last) in
    let over : at_key (n + 1) (length ks) ≡ Over = rw last refl in
    ap (λ (js : List Datum). key_sight t (get_or ks n nil) (if is_empty js then Over else AtNamed (n + 1)) ∷ key_sights t (n + 1) js) none
    ∙ sym (ap (λ (at : Position). key_sight t (get_or ks n nil) at ∷ sights_from t (Some ks) at) over))

-- a visit of a named key that has a target above 0
pub key_looks : (f : Datum → Option Datum) (purpose : Purpose) (p : Program) (t : TableState) (ks : List Datum) (n wanted : ℕ) → yields purpose p ≡ filter_map f → 0 < wanted → n < length ks
    → Looks f t (Some ks) wanted (AtNamed n) (at_key (n + 1) (length ks)) (yield_of (settings_of t.options) (t.states (part_of (settings_of t.options) (get_or ks n nil))) purpose p (Named (get_or ks n nil)) wanted)
key_looks f purpose p t ks n wanted same some within =
    let v = key_sight t (get_or ks n nil) (at_key (n + 1) (length ks)) in
    subst (λ (g : List Datum → List Datum). Looks f t (Some ks) wanted (AtNamed n) v.behind (flat_map (λ (r : Row). g r.1) v.rows)) (sym same)
    (one_looks f t (Some ks) wanted (AtNamed n) v some (key_step t ks n within))
