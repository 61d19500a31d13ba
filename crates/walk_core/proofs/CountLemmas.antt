-- A session's fixes over its operations at a part.
use Rattle.std.proofs.Common.{◌≡◌, ℕ, ◌<◌, ◌==◌, refl, ap, sym, subst, ◌∙◌, [], ◌∷◌, ◌++◌, Some}
use Rattle.std.specs.Prelude.{true, not, ◌&&◌, if◌then◌else◌}
use Rattle.std.proofs.lemmas.Bool.{eqb-true, eqb-false, eq-eqb}
use Rattle.std.proofs.lemmas.List.Sums.{fold-append}
use Rattle.part_core.specs.Acts.{Act, Entry, History, Said, is_refused}
use Rattle.part_core.specs.Acts.Act.{Visit}
use Rattle.part_core.specs.Acts.Answer.{Replied}
use Rattle.part_core.specs.Legal.{fix_count, fixes_after}
use Rattle.part_core.proofs.KeyLemmas.{by_test}
use Rattle.tables.specs.Turns.{Home, Views, TurnedAt}
use Rattle.tables.proofs.TurnLemmas.{count_own}
use Rattle.walk_core.specs.Goes.{Way, Visits, Goes, Drifted}
use Rattle.walk_core.specs.Goes.Goes.{stays, goes}
use Rattle.walk_core.specs.Walk.{Walk, part_at, scope_at}

-- how an answered entry of a session changes its count
pub turned_count : (h : Home) (old new : History) (act : Act) (said : Said) → TurnedAt h old act (Some (Replied said)) new → fix_count h.number new ≡ fixes_after act (fix_count h.number old)
turned_count h old new act said t =
    ap (fix_count h.number) t.grown ∙ fold-append step 0 (old ++ t.between) (entry ∷ []) ∙ mine ∙ ap (fixes_after act) (count_own h.number old t.between t.others.others)
  where
    step : ℕ → Entry → ℕ
    step count e = if e.session == h.number && not (is_refused e.answer) then fixes_after e.act count else count

    entry : Entry
    entry = record { session = h.number; act = act; answer = Replied said }

    mine : step (fix_count h.number (old ++ t.between)) entry ≡ fixes_after act (fix_count h.number (old ++ t.between))
    mine = let is : (h.number == h.number) ≡ true = eq-eqb h.number h.number refl in rw is refl

-- visits don't change the session's count
visit_count : (h : Home) (w : Walk) (wanted : ℕ → ℕ) (a b : Way) (k : ℕ) → Visits h w wanted a b → fix_count h.number (b.views k) ≡ fix_count h.number (a.views k)
visit_count h w wanted a b k v =
    by_test (k == part_at w a.at) _
    (λ here. subst (λ (q : ℕ). fix_count h.number (b.views q) ≡ fix_count h.number (a.views q)) (sym (eqb-true k (part_at w a.at) here)) (turned_count h (a.views (part_at w a.at)) (b.views (part_at w a.at)) (Visit w.purpose w.program (scope_at w a.at) (wanted _)) v.said v.turned.here))
    (λ other. ap (fix_count h.number) (v.turned.rest k (eqb-false k (part_at w a.at) other)))

pub goes_count : (h : Home) (w : Walk) (wanted : ℕ → ℕ) (a b : Way) (k : ℕ) → Goes h w wanted a b → fix_count h.number (b.views k) ≡ fix_count h.number (a.views k)
goes_count h w wanted a b k stays = refl
goes_count h w wanted a c k (goes {b} way more v) =
    visit_count h w wanted b c k v ∙ goes_count h w wanted a b k way

-- entries of others don't change the session's count
pub drifted_count : (h : Home) (v u : Views) (k : ℕ) → k < h.options.parts → Drifted h v u → fix_count h.number (u k) ≡ fix_count h.number (v k)
drifted_count h v u k inside drifted =
    let d = drifted k inside in
    ap (fix_count h.number) d.2 ∙ count_own h.number (v k) d.0 d.1.others
