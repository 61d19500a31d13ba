-- Walks, visit after visit.
use Rattle.std.proofs.Common.{◌≡◌, ◌≢◌, ℕ, ◌+◌, ◌<◌, ◌≤◌, inl, inr, refl, ap, sym, subst, ◌∙◌, arith, List, [], ◌∷◌, ◌++◌, length}
use Rattle.std.specs.Prelude.{Bool, true, false, ◌&&◌, ◌||◌, ◌==◌, nat_lt, nat_le, IsTrue, All, Option, Some, None}
use Rattle.std.proofs.lemmas.Bool.{true≢false, ltb-true, ltb-false, leb-true, le-ltb, lt-ltb, lt-leb}
use Rattle.std.proofs.lemmas.List.{append_assoc, append-nil, length-append}
use Rattle.std.proofs.lemmas.List.Elements.{All-nil}
use Rattle.term_core.specs.Datum.{Datum}
use Rattle.part_core.specs.Acts.{Cursor, Scope, Said, Entry, History, next_in}
use Rattle.part_core.specs.Acts.Act.{Visit}
use Rattle.part_core.specs.Acts.Answer.{Replied}
use Rattle.part_core.specs.Acts.Scope.{After}
use Rattle.part_core.specs.Laws.{IsPlacedAt, LeadsTo}
use Rattle.part_core.specs.Legal.{state_after, IsLegal}
use Rattle.part_core.specs.Replies.{yield_of}
use Rattle.part_core.specs.Visits.{is_inside}
use Rattle.part_core.specs.Yields.{Yields}
use Rattle.part_core.specs.Covers.{covers}
use Rattle.part_core.proofs.CoverLemmas.{visit_yields}
use Rattle.part_core.proofs.KeyLemmas.{by_test}
use Rattle.part_core.proofs.LawLemmas.{inside_stays, visits_led, visits_led_inside}
use Rattle.tables.specs.Options.{settings_of}
use Rattle.tables.specs.declared.options.Options.{Options}
use Rattle.tables.specs.Turns.{Home, Views}
use Rattle.walk_core.specs.Walk.{Walk, Position, IsWalk, IsPosition, is_all, is_in_parts, is_named_below, is_done, part_at, scope_at, start_of, start_by, next_position, at_part, at_key, named_at, named_count}
use Rattle.walk_core.specs.Walk.Position.{InPart, AtNamed, Over}
use Rattle.walk_core.specs.Goes.{Way, IsAt, Visits, Goes, Drifted, Stops, past_of}
use Rattle.walk_core.specs.Goes.Goes.{stays, goes}
use Rattle.walk_core.specs.Moments.{Span, span, IsMoment, Gathers, IsSoFar, IsAnswer, IsGrown, ArePlaced, AreLegal, part_of_key}
use Rattle.walk_core.proofs.GrowthLemmas.{key_inside, grown_position, grown_gathers, more_gathers}
use Rattle.walk_core.proofs.PositionLemmas.{done_next, covered_anew}
use Rattle.walk_core.proofs.StepLemmas.{all_front, turned_grown, visit_entry, later_gathers, gathers_on}

-- ---- one visit

-- the part where a walk is, is one of its table
part_inside : (w : Walk) (now : Views) (at : Position) → IsWalk w → IsPosition w now at → part_at w at < w.options.parts
part_inside w now (InPart part cursor) walk position = omega (arith, position.2, walk.parts.1)
part_inside w now (AtNamed n) walk position = key_inside w (named_at w.plan n) walk
part_inside w now Over walk position = walk.parts.0

pub visit_grown : (h : Home) (w : Walk) (wanted : ℕ → ℕ) (a b : Way) → IsAt h w → AreLegal w.options a.views → Visits h w wanted a b → IsGrown w.options a.views b.views
visit_grown h w wanted a b is_at legal v =
    turned_grown h w.options (part_at w a.at) _ _ a.views b.views is_at.options legal v.turned

-- the history that a visit leaves, written with the walk's own options and number
seen : (h : Home) (w : Walk) (wanted : ℕ → ℕ) (a b : Way) → IsAt h w → (v : Visits h w wanted a b) → b.views (part_at w a.at) ≡ past_of h w (wanted (length a.gained)) a b v.said v.turned ++ visit_entry w (scope_at w a.at) (wanted (length a.gained)) v.said ∷ []
seen h w wanted a b is_at v =
    subst (λ (n : ℕ). b.views (part_at w a.at) ≡ past_of h w (wanted (length a.gained)) a b v.said v.turned ++ (record { session = n; act = Visit w.purpose w.program (scope_at w a.at) (wanted (length a.gained)); answer = Replied v.said }) ∷ []) is_at.number v.turned.here.grown

legal_behind : (h : Home) (w : Walk) (wanted : ℕ → ℕ) (a b : Way) → IsAt h w → (v : Visits h w wanted a b) → IsLegal (settings_of w.options) (past_of h w (wanted (length a.gained)) a b v.said v.turned ++ visit_entry w (scope_at w a.at) (wanted (length a.gained)) v.said ∷ [])
legal_behind h w wanted a b is_at v =
    subst (IsLegal (settings_of w.options)) (seen h w wanted a b is_at v) (subst (λ (o : Options). IsLegal (settings_of o) (b.views (part_at w a.at))) is_at.options v.turned.here.legal)

-- the position of a walk after a visit is a position that a walk can have
position_next : (w : Walk) (later : Views) (at : Position) (next : Option Cursor) → (now : Views) → IsPosition w now at → ((c : Cursor) → next ≡ Some c → IsTrue (is_inside (settings_of w.options) (state_after (settings_of w.options) (later (part_at w at))) (After c))) → IsPosition w later (next_position w at next)
position_next w later (InPart part cursor) (Some c) now position inside =
    (position.0, position.1, position.2, inside c refl)
position_next w later (InPart part cursor) None now position inside =
    by_test (nat_lt (part + 1) w.to) (IsPosition w later (at_part (part + 1) w.to))
    (λ further. rw further (position.0, omega (arith, position.1), ltb-true (part + 1) w.to further, refl))
    (λ last. rw last tt)
position_next w later (AtNamed n) next now position inside =
    by_test (nat_lt (n + 1) (named_count w.plan)) (IsPosition w later (at_key (n + 1) (named_count w.plan)))
    (λ further. rw further (ltb-true (n + 1) (named_count w.plan) further))
    (λ last. rw last tt)
position_next w later Over next now position inside = tt

pub visit_position : (h : Home) (w : Walk) (wanted : ℕ → ℕ) (a b : Way) → IsAt h w → IsWalk w → IsPosition w a.views a.at → Visits h w wanted a b → IsPosition w b.views b.at
visit_position h w wanted a b is_at walk position v =
    let o = settings_of w.options in
    let past = past_of h w (wanted (length a.gained)) a b v.said v.turned in
    let legal = legal_behind h w wanted a b is_at v in
    subst (IsPosition w b.views) (sym v.at)
    (position_next w b.views a.at (next_in v.said) a.views position
    (λ c next. subst (λ log. IsTrue (is_inside o (state_after o log) (After c))) (sym (seen h w wanted a b is_at v))
    (inside_stays o past (visit_entry w (scope_at w a.at) (wanted (length a.gained)) v.said ∷ []) (After c) legal
    (led past (scope_at w a.at) (wanted (length a.gained)) v.said c legal next))))
  where
    led : (past : History) (scope : Scope) (n : ℕ) (said : Said) (c : Cursor) → IsLegal (settings_of w.options) (past ++ visit_entry w scope n said ∷ []) → next_in said ≡ Some c → IsTrue (is_inside (settings_of w.options) (state_after (settings_of w.options) past) (After c))
    led past scope n said c legal next =
        visits_led_inside (settings_of w.options) past w.number w.purpose w.program scope n said c legal next

yields_behind : (w : Walk) (past : History) (scope : Scope) (n : ℕ) (said : Said) → IsLegal (settings_of w.options) (past ++ visit_entry w scope n said ∷ []) → Yields (settings_of w.options) past w.purpose w.program (covers (settings_of w.options) scope (next_in said)) (yield_of (settings_of w.options) (state_after (settings_of w.options) past) w.purpose w.program scope n)
yields_behind w past scope n said legal =
    (visit_yields (settings_of w.options) past w.number w.purpose w.program scope n said legal).yields

leads_behind : (w : Walk) (past : History) (scope : Scope) (n : ℕ) (said : Said) → IsLegal (settings_of w.options) (past ++ visit_entry w scope n said ∷ []) → LeadsTo (settings_of w.options) (state_after (settings_of w.options) past).base scope (next_in said)
leads_behind w past scope n said legal =
    visits_led (settings_of w.options) past w.number w.purpose w.program scope n said legal

pub visit_gathers : (h : Home) (w : Walk) (wanted : ℕ → ℕ) (calls : List Span) (given : List Datum) (before : Views) (a b : Way) → IsAt h w → IsWalk w → AreLegal w.options a.views → ArePlaced w.options b.views → IsPosition w a.views a.at → a.at ≢ Over → ((part : ℕ) → part < w.options.parts → length (before part) ≤ length (a.views part)) → Visits h w wanted a b → Gathers w (calls ++ span before a.views ∷ []) a.views (is_done w a.at) (given ++ a.gained) → Gathers w (calls ++ span before b.views ∷ []) b.views (is_done w b.at) (given ++ b.gained)
visit_gathers h w wanted calls given before a b is_at walk legal placed position more begins v g =
    let past = past_of h w (wanted (length a.gained)) a b v.said v.turned in
    let legal_new = legal_behind h w wanted a b is_at v in
    let part = part_at w a.at in
    let inside = part_inside w a.views a.at walk position in
    let grown = visit_grown h w wanted a b is_at legal v in
    let is_seen = seen h w wanted a b is_at v in
    subst (Gathers w (calls ++ span before b.views ∷ []) b.views (is_done w b.at)) (append_assoc given a.gained _ ∙ ap (λ xs. given ++ xs) (sym v.gained))
    (gathers_on w calls before b.views part past (scope_at w a.at) (wanted (length a.gained)) v.said (is_done w a.at) (is_done w b.at) (given ++ a.gained) _
    (all_front (λ (e : Entry). IsPlacedAt (settings_of w.options) part e.act) past _ (subst (λ (log : History). All (λ (e : Entry). IsPlacedAt (settings_of w.options) part e.act) log) is_seen (placed part inside)))
    (let long = length-append (a.views part) v.turned.here.between in omega (arith, begins part inside, long))
    is_seen
    (yields_behind w past (scope_at w a.at) (wanted (length a.gained)) v.said legal_new)
    (λ k. ap (λ (at : Position). is_done w at k) v.at ∙ done_next w a.views (state_after (settings_of w.options) past).base a.at (next_in v.said) k position more (leads_behind w past (scope_at w a.at) (wanted (length a.gained)) v.said legal_new))
    (λ k covered. covered_anew w a.views a.at (next_in v.said) k walk position more covered)
    (grown_gathers w (calls ++ span before b.views ∷ []) a.views b.views (is_done w a.at) (given ++ a.gained) walk grown
    (later_gathers w calls before a.views b.views a.views (is_done w a.at) (given ++ a.gained) (longer grown) g)))
  where
    longer : IsGrown w.options a.views b.views → (k : Datum) → length (a.views (part_of_key w k)) ≤ length (b.views (part_of_key w k))
    longer grown k =
        let g = grown (part_of_key w k) (key_inside w k walk) in
        let long = length-append (a.views (part_of_key w k)) g.0 in
        subst (λ (log : History). length (a.views (part_of_key w k)) ≤ length log) (sym g.1) (omega (arith, long))

-- ---- any number of visits

pub grown_itself : (o : Options) (v : Views) → AreLegal o v → IsGrown o v v
grown_itself o v legal part inside = ([], sym (append-nil (v part)), legal part inside)

pub grown_further : (o : Options) (u v w : Views) → IsGrown o u v → IsGrown o v w → IsGrown o u w
grown_further o u v w first then part inside =
    let f = first part inside in
    let t = then part inside in
    (f.0 ++ t.0, t.1 ∙ ap (λ (log : History). log ++ t.0) f.1 ∙ append_assoc (u part) f.0 t.0, t.2)

pub grown_legal : (o : Options) (v w : Views) → IsGrown o v w → AreLegal o w
grown_legal o v w grown part inside = (grown part inside).2

pub placed_before : (o : Options) (v w : Views) → IsGrown o v w → ArePlaced o w → ArePlaced o v
placed_before o v w grown placed part inside =
    let g = grown part inside in
    all_front (λ (e : Entry). IsPlacedAt (settings_of o) part e.act) (v part) g.0 (subst (λ (log : History). All (λ (e : Entry). IsPlacedAt (settings_of o) part e.act) log) g.1 (placed part inside))

pub goes_grown : (h : Home) (w : Walk) (wanted : ℕ → ℕ) (a b : Way) → IsAt h w → AreLegal w.options a.views → Goes h w wanted a b → IsGrown w.options a.views b.views
goes_grown h w wanted a b is_at legal stays = grown_itself w.options a.views legal
goes_grown h w wanted a c is_at legal (goes {b} way more v) =
    let first = goes_grown h w wanted a b is_at legal way in
    grown_further w.options a.views b.views c.views first (visit_grown h w wanted b c is_at (grown_legal w.options a.views b.views first) v)

pub goes_position : (h : Home) (w : Walk) (wanted : ℕ → ℕ) (a b : Way) → IsAt h w → IsWalk w → IsPosition w a.views a.at → Goes h w wanted a b → IsPosition w b.views b.at
goes_position h w wanted a b is_at walk position stays = position
goes_position h w wanted a c is_at walk position (goes {b} way more v) =
    visit_position h w wanted b c is_at walk (goes_position h w wanted a b is_at walk position way) v

goes_gathers : (h : Home) (w : Walk) (wanted : ℕ → ℕ) (calls : List Span) (given : List Datum) (a b : Way) → IsAt h w → IsWalk w → AreLegal w.options a.views → ArePlaced w.options b.views → IsPosition w a.views a.at → Gathers w calls a.views (is_done w a.at) (given ++ a.gained) → Goes h w wanted a b → Gathers w (calls ++ span a.views b.views ∷ []) b.views (is_done w b.at) (given ++ b.gained)
goes_gathers h w wanted calls given a b is_at walk legal placed position g stays =
    more_gathers w calls (span a.views a.views ∷ []) a.views (is_done w a.at) (given ++ a.gained) g
goes_gathers h w wanted calls given a c is_at walk legal placed position g (goes {b} way more v) =
    let first = goes_grown h w wanted a b is_at legal way in
    let legal_there = grown_legal w.options a.views b.views first in
    let last = visit_grown h w wanted b c is_at legal_there v in
    visit_gathers h w wanted calls given a.views b c is_at walk legal_there placed (goes_position h w wanted a b is_at walk position way) more
    (λ part inside. let f = first part inside in let long = length-append (a.views part) f.0 in subst (λ (log : History). length (a.views part) ≤ length log) (sym f.1) (omega (arith, long)))
    v
    (goes_gathers h w wanted calls given a b is_at walk legal (placed_before w.options b.views c.views last placed) position g way)

pub goes_so_far : (h : Home) (w : Walk) (wanted : ℕ → ℕ) (calls : List Span) (given : List Datum) (a b : Way) → IsAt h w → IsWalk w → AreLegal w.options a.views → ArePlaced w.options b.views → IsSoFar w calls given a.views a.at a.gained → Goes h w wanted a b → IsSoFar w (calls ++ span a.views b.views ∷ []) given b.views b.at b.gained
goes_so_far h w wanted calls given a b is_at walk legal placed s way = record {
  gathers = goes_gathers h w wanted calls given a b is_at walk legal placed s.position s.gathers way;
  position = goes_position h w wanted a b is_at walk s.position way;
}

-- ---- where a walk begins

nothing_done : (w : Walk) (k : Datum) → is_done w (start_of w) k ≡ false
nothing_done w k = of w.plan refl
  where
    none_below : (from x : ℕ) → (nat_le from x && nat_lt x from) ≡ false
    none_below from x =
        by_test (nat_lt x from) _
        (λ below. let low = ltb-true x from below in let le : nat_le from x ≡ false = lt-leb from x low in rw (below, le) refl)
        (λ above. rw above (falses (nat_le from x)))
      where
        falses : (b : Bool) → (b && false) ≡ false
        falses true = refl
        falses false = refl

    none_in : (from to x : ℕ) → to ≤ from → (nat_le from x && nat_lt x to) ≡ false
    none_in from to x empty =
        by_test (nat_le from x) _
        (λ high. let le = leb-true from x high in let past : nat_lt x to ≡ false = le-ltb x to (omega (arith, le, empty)) in rw (high, past) refl)
        (λ low. rw low refl)

    or_false : (a b : Bool) → a ≡ false → (a || (b && false)) ≡ false
    or_false true b h = cc
    or_false false true h = refl
    or_false false false h = refl

    of : (plan : Option (List Datum)) → w.plan ≡ plan → is_done w (start_by plan w.from w.to) k ≡ false
    of None is =
        by_test (nat_lt w.from w.to) (is_done w (start_by None w.from w.to) k ≡ false)
        (λ some. rw some (or_false _ (part_of_key w k == w.from) (none_below w.from (part_of_key w k))))
        (λ none. rw (none, is) (none_in w.from w.to (part_of_key w k) (ltb-false w.from w.to none)))
    of (Some []) is = ap (λ (p : Option (List Datum)). is_all w p k) is
    of (Some (j ∷ ks)) is =
        let some : nat_lt 0 (length (j ∷ ks)) ≡ true = lt-ltb 0 (length (j ∷ ks)) (omega arith) in
        rw some (ap (λ (p : Option (List Datum)). is_named_below p 0 k) is)

pub begins_so_far : (w : Walk) (now : Views) → IsWalk w → IsSoFar w [] [] now (start_of w) []
begins_so_far w now walk = record {
  gathers = record {
    marks = [];
    apart = λ i j d lt within. absurd (omega (arith, within));
    inside = All-nil (λ m. IsTrue (is_done w (start_of w) m.key));
    moments = All-nil (λ m. IsMoment w [] now m.key m.moment);
    sum = refl;
    silent = λ k done. absurd (true≢false (sym done ∙ nothing_done w k));
  };
  position = of w.plan refl;
}
  where
    of : (plan : Option (List Datum)) → w.plan ≡ plan → IsPosition w now (start_by plan w.from w.to)
    of None is =
        by_test (nat_lt w.from w.to) (IsPosition w now (start_by None w.from w.to))
        (λ some. rw some (is, omega arith, ltb-true w.from w.to some, refl))
        (λ none. rw none tt)
    of (Some []) is = tt
    of (Some (j ∷ ks)) is =
        let some : nat_lt 0 (length (j ∷ ks)) ≡ true = lt-ltb 0 (length (j ∷ ks)) (omega arith) in
        rw some (subst (λ (p : Option (List Datum)). 0 < named_count p) (sym is) (omega arith))

-- ---- where it ends

pub ends_answer : (w : Walk) (calls : List Span) (given : List Datum) (now : Views) → IsWalk w → IsSoFar w calls given now Over [] → IsAnswer w calls now given
ends_answer w calls given now walk s = record {
  gathers = subst (Gathers w calls now (is_done w Over)) (append-nil given) s.gathers;
  all = λ k inside. by_test (is_all w w.plan k) _
      (λ done. inl done)
      (λ other. inr (λ t object key. walk.silent t object (subst (λ (j : Datum). IsTrue (is_in_parts w w.to j)) (sym key) inside) (subst (λ (j : Datum). is_all w w.plan j ≡ false) (sym key) other)));
}

-- ---- a walk that stops

pub drifted_grown : (h : Home) (o : Options) (v u : Views) → h.options ≡ o → Drifted h v u → IsGrown o v u
drifted_grown h o v u same drifted =
    subst (λ (p : Options). IsGrown p v u) same (λ part inside. let d = drifted part inside in (d.0, d.2, d.3))

pub stops_so_far : (h : Home) (w : Walk) (wanted : ℕ → ℕ) (calls : List Span) (given : List Datum) (a : Way) (at : Position) (gained : List Datum) (now : Views) → IsAt h w → IsWalk w → AreLegal w.options a.views → ArePlaced w.options now → IsSoFar w calls given a.views a.at a.gained → Stops h w wanted a at gained now → IsSoFar w (calls ++ span a.views now ∷ []) given now at gained
stops_so_far h w wanted calls given a at gained now is_at walk legal placed s (last, way, drifted) =
    let grown = drifted_grown h w.options last now is_at.options drifted in
    let there = goes_so_far h w wanted calls given a (record { views = last; at = at; gained = gained }) is_at walk legal (placed_before w.options last now grown placed) s way in
    record {
      gathers = later_gathers w calls a.views last now now (is_done w at) (given ++ gained) (longer grown) (grown_gathers w (calls ++ span a.views last ∷ []) last now (is_done w at) (given ++ gained) walk grown there.gathers);
      position = grown_position w last now at walk grown there.position;
    }
  where
    longer : IsGrown w.options last now → (k : Datum) → length (last (part_of_key w k)) ≤ length (now (part_of_key w k))
    longer grown k =
        let g = grown (part_of_key w k) (key_inside w k walk) in
        let long = length-append (last (part_of_key w k)) g.0 in
        subst (λ (log : History). length (last (part_of_key w k)) ≤ length log) (sym g.1) (omega (arith, long))
