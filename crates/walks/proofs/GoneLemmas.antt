-- Visits one after the other, of a session that is alone and whose visits change no state.
use Rattle.std.proofs.Common.{◌≡◌, ◌≢◌, ◌<◌, ◌+◌, ◌-◌, ◌==◌, ℕ, Option, Some, List, [], ◌∷◌, ◌++◌, refl, sym, subst, ◌∙◌, ap, arith, flat_map, length, fold}
use Rattle.std.specs.Prelude.{IsTrue, filter_map}
use Rattle.std.proofs.lemmas.Bool.{eqb-true, eqb-false}
use Rattle.std.proofs.lemmas.List.{append_assoc, append-nil, length-append}
use Rattle.std.proofs.lemmas.List.Concat.{flat_map-append}
use Rattle.std.proofs.lemmas.List.Sums.{fold-append}
use Rattle.term_core.specs.Datum.{Datum}
use Rattle.mcode.specs.Program.{Program}
use Rattle.part_core.specs.Acts.{Purpose, Scope, Said, Entry, History, next_in}
use Rattle.part_core.specs.Acts.Act.{Visit}
use Rattle.part_core.specs.Acts.Answer.{Replied}
use Rattle.part_core.specs.After.{after, rows_after}
use Rattle.part_core.specs.Laws.{LeadsTo}
use Rattle.part_core.specs.Legal.{state_after, IsLegal}
use Rattle.part_core.specs.Replies.{reply_of, yield_of}
use Rattle.part_core.specs.Rows.{Row, PartState, opening}
use Rattle.part_core.specs.States.{IsState}
use Rattle.part_core.specs.Visits.{is_inside, next_of, yields}
use Rattle.part_core.proofs.AfterLemmas.{read_after}
use Rattle.part_core.proofs.CoverLemmas.{visit_yields}
use Rattle.part_core.proofs.HistoryLemmas.{legal_front_from, legal_rest_from, state_of}
use Rattle.part_core.proofs.KeyLemmas.{by_test}
use Rattle.part_core.proofs.LawLemmas.{visits_led}
use Rattle.tables.specs.Options.{settings_of}
use Rattle.tables.specs.Turns.{Home, Views, TurnedAt}
use Rattle.tables.proofs.TurnLemmas.{turned_alone}
use Rattle.walk_core.specs.Goes.{Way, way, Visits, Goes}
use Rattle.walk_core.specs.Goes.Goes.{stays, goes}
use Rattle.walk_core.specs.Walk.{Walk, Position, named_count, next_position, part_at, scope_at}
use Rattle.walk_core.specs.Walk.Position.{Over}
use Rattle.walk_core.specs.Positions.{IsThere}
use Rattle.walks.specs.Sights.{Sight, answers_in, first_position, made, rows_seen, sights_from, whole}
use Rattle.walks.proofs.OneThreadLemmas.{AreStates}
use Rattle.walks.proofs.LookLemmas.{Looks}
use Rattle.walks.proofs.PlainLemmas.{part_inside, plain, table_of, there_next, walk_looks}

-- ---- one visit

-- what is known of a visit that was not refused, in terms of the state before it
pub record Told (h : Home) (purpose : Purpose) (p : Program) (scope : Scope) (wanted : ℕ) (said : Said) (new : History) (s : PartState) : Type 0 where
  pub some : 0 < wanted
  pub state : IsState (settings_of h.options) s
  pub inside : IsTrue (is_inside (settings_of h.options) s scope)
  pub next : next_in said ≡ next_of (settings_of h.options) s purpose p scope wanted
  pub leads : LeadsTo (settings_of h.options) s.base scope (next_of (settings_of h.options) s purpose p scope wanted)
  pub replied : reply_of (settings_of h.options) s h.number (Visit purpose p scope wanted) ≡ Replied said
  pub leaves : after (settings_of h.options) s h.number (Visit purpose p scope wanted) ≡ state_after (settings_of h.options) new

pub visit_told : (h : Home) (purpose : Purpose) (p : Program) (scope : Scope) (wanted : ℕ) (said : Said) (old new : History) → IsTrue h.alone → TurnedAt h old (Visit purpose p scope wanted) (Some (Replied said)) new
    → Told h purpose p scope wanted said new (state_after (settings_of h.options) old)
visit_told h purpose p scope wanted said old new alone t =
    let o = settings_of h.options in
    let last : Entry = record { session = h.number; act = Visit purpose p scope wanted; answer = Replied said } in
    let grown : new ≡ old ++ last ∷ [] = t.grown ∙ ap (λ (es : History). (old ++ es) ++ last ∷ []) (t.others.alone alone) ∙ ap (λ (es : History). es ++ last ∷ []) (append-nil old) in
    let legal : IsLegal o (old ++ last ∷ []) = subst (IsLegal o) grown t.legal in
    let turned = turned_alone h old new (Visit purpose p scope wanted) (Replied said) alone t in
    let says = visit_yields o old h.number purpose p scope wanted said legal in
    record {
      some = (legal_rest_from o (opening o) old (last ∷ []) legal).0.asked;
      state = state_of o old (legal_front_from o (opening o) old (last ∷ []) legal);
      inside = says.inside;
      next = says.next;
      leads = subst (LeadsTo o (state_after o old).base scope) says.next (visits_led o old h.number purpose p scope wanted said legal);
      replied = sym turned.0;
      leaves = turned.1;
    }

-- a visit, in terms of what it looks at in a table
pub record Looked (f : Datum → Option Datum) (h : Home) (states : ℕ → PartState) (plan : Option (List Datum)) (wanted : ℕ → ℕ) (a b : Way) : Type 0 where
  pub found : List Datum
  pub looks : Looks f (table_of h states) plan (wanted (length a.gained)) a.at b.at found
  pub gained : b.gained ≡ a.gained ++ found
  pub there : IsThere h.options.parts (named_count plan) b.at

-- a visit of a table as the session sees it
record Seen (f : Datum → Option Datum) (h : Home) (purpose : Purpose) (p : Program) (states : ℕ → PartState) (plan : Option (List Datum)) (wanted : ℕ → ℕ) (a b : Way) : Type 0 where
  part : ℕ
  scope : Scope
  said : Said
  told : Told h purpose p scope (wanted (length a.gained)) said (b.views part) (states part)
  rest : (k : ℕ) → k ≢ part → b.views k ≡ a.views k
  looked : Looked f h states plan wanted a b

visit_seen : (f : Datum → Option Datum) (h : Home) (purpose : Purpose) (p : Program) (states : ℕ → PartState) (plan : Option (List Datum)) (wanted : ℕ → ℕ) (a b : Way) → yields purpose p ≡ filter_map f → IsTrue h.alone → 0 < h.options.parts → AreStates h (table_of h states) a.views
    → IsThere h.options.parts (named_count plan) a.at → a.at ≢ Over → Visits h (plain h purpose p plan) wanted a b → Seen f h purpose p states plan wanted a b
visit_seen f h purpose p states plan wanted a b same alone some are there more visit =
    let o = settings_of h.options in
    let w : Walk = plain h purpose p plan in
    let n : ℕ = wanted (length a.gained) in
    let part : ℕ = part_at w a.at in
    let scope : Scope = scope_at w a.at in
    let inside : part < h.options.parts = part_inside h purpose p plan a.at some there more in
    let told : Told h purpose p scope n visit.said (b.views part) (states part) = subst (Told h purpose p scope n visit.said (b.views part)) (sym (are part inside)) (visit_told h purpose p scope n visit.said (a.views part) (b.views part) alone visit.turned.here) in
    let met : state_after o (a.views part ++ visit.turned.here.between) ≡ states part = ap (λ (es : History). state_after o (a.views part ++ es)) (visit.turned.here.others.alone alone) ∙ ap (state_after o) (append-nil (a.views part)) ∙ sym (are part inside) in
    let at : b.at ≡ next_position w a.at (next_of o (states part) purpose p scope n) = visit.at ∙ ap (next_position w a.at) told.next in
    record {
      part = part;
      scope = scope;
      said = visit.said;
      told = told;
      rest = visit.turned.rest;
      looked = record {
        found = yield_of o (states part) purpose p scope n;
        looks = subst (λ (later : Position). Looks f (table_of h states) plan n a.at later (yield_of o (states part) purpose p scope n)) (sym at)
            (walk_looks f h purpose p states n a.at plan same told.some there more told.state told.inside told.leads);
        gained = visit.gained ∙ ap (λ (s : PartState). a.gained ++ yield_of o s purpose p scope n) met;
        there = subst (IsThere h.options.parts (named_count plan)) (sym visit.at) (there_next h purpose p plan a.at (next_in visit.said) there);
      };
    }

-- ---- visits one after the other

-- How a walk has gone, in terms of the visits of one thread: it made those of `front`, and the others are left.
pub record Gone (f : Datum → Option Datum) (h : Home) (states : ℕ → PartState) (plan : Option (List Datum)) (wanted : ℕ → ℕ) (a b : Way) : Type 0 where
  pub front : List Sight
  pub splits : sights_from (table_of h states) plan a.at ≡ front ++ sights_from (table_of h states) plan b.at
  pub gains : b.gained ≡ a.gained ++ answers_in f front
  pub picks : (limit : ℕ) → ((n : ℕ) → wanted n ≡ limit - n) → made f (limit - length a.gained) (sights_from (table_of h states) plan a.at) ≡ front ++ made f (limit - length b.gained) (sights_from (table_of h states) plan b.at)
  pub last : fold (λ before v. v.behind) a.at front ≡ b.at
  pub there : IsThere h.options.parts (named_count plan) b.at

answers_on : (f : Datum → Option Datum) (vs ws : List Sight) → answers_in f (vs ++ ws) ≡ answers_in f vs ++ answers_in f ws
answers_on f vs ws =
    ap (flat_map (λ (r : Row). filter_map f r.1)) (flat_map-append (λ (v : Sight). v.rows) vs ws)
    ∙ flat_map-append (λ (r : Row). filter_map f r.1) (rows_seen vs) (rows_seen ws)

gone_on : (f : Datum → Option Datum) (h : Home) (states : ℕ → PartState) (plan : Option (List Datum)) (wanted : ℕ → ℕ) (a b c : Way) → Gone f h states plan wanted a b → Looked f h states plan wanted b c → Gone f h states plan wanted a c
gone_on f h states plan wanted a b c g visit =
    let t = table_of h states in
    let looks = visit.looks in
    record {
      front = g.front ++ looks.front;
      splits = g.splits ∙ ap (λ (vs : List Sight). g.front ++ vs) looks.splits ∙ sym (append_assoc g.front looks.front (sights_from t plan c.at));
      gains = visit.gained ∙ ap (λ (xs : List Datum). xs ++ visit.found) g.gains ∙ append_assoc a.gained (answers_in f g.front) visit.found
          ∙ ap (λ (xs : List Datum). a.gained ++ xs) (ap (λ (xs : List Datum). answers_in f g.front ++ xs) (sym looks.gains) ∙ sym (answers_on f g.front looks.front));
      picks = λ limit is.
          let want = is (length b.gained) in
          let all : length c.gained ≡ length b.gained + length visit.found = ap length visit.gained ∙ length-append b.gained visit.found in
          let left : (limit - length b.gained) - length visit.found ≡ limit - length c.gained = omega (arith, all) in
          g.picks limit is
          ∙ ap (λ (vs : List Sight). g.front ++ vs)
          (subst (λ (n : ℕ). made f n (sights_from t plan b.at) ≡ looks.front ++ made f (n - length visit.found) (sights_from t plan c.at)) want looks.picks
          ∙ ap (λ (n : ℕ). looks.front ++ made f n (sights_from t plan c.at)) left)
          ∙ sym (append_assoc g.front looks.front (made f (limit - length c.gained) (sights_from t plan c.at)));
      last = fold-append (λ (before : Position) (v : Sight). v.behind) a.at g.front looks.front ∙ ap (λ (at : Position). fold (λ (before : Position) (v : Sight). v.behind) at looks.front) g.last ∙ looks.last;
      there = visit.there;
    }

-- a walk from its beginning to its end
pub gone_whole : (f : Datum → Option Datum) (h : Home) (states : ℕ → PartState) (plan : Option (List Datum)) (wanted : ℕ → ℕ) (v u : Views) (gained : List Datum) → Gone f h states plan wanted (way v (first_position plan) []) (way u Over gained)
    → gained ≡ answers_in f (whole (table_of h states) plan)
gone_whole f h states plan wanted v u gained g = g.gains ∙ ap (answers_in f) (sym (g.splits ∙ append-nil g.front))

-- if each visit is such a visit, and preserves what is known of the views, so do all visits together
pub goes_along : (f : Datum → Option Datum) (h : Home) (w : Walk) (states : ℕ → PartState) (plan : Option (List Datum)) (wanted : ℕ → ℕ) (Known : Way → Type 0) (a b : Way)
    → ((x y : Way) → Known x → IsThere h.options.parts (named_count plan) x.at → x.at ≢ Over → Visits h w wanted x y → Looked f h states plan wanted x y × Known y)
    → Known a → IsThere h.options.parts (named_count plan) a.at → Goes h w wanted a b → Gone f h states plan wanted a b × Known b
goes_along f h w states plan wanted Known a b step known there stays = (
  record {
    front = [];
    splits = refl;
    gains = sym (append-nil a.gained);
    picks = λ limit is. refl;
    last = refl;
    there = there;
  },
  known,
)
goes_along f h w states plan wanted Known a c step known there (goes {b} g more visit) =
    let before = goes_along f h w states plan wanted Known a b step known there g in
    let next = step b c before.1 before.0.there more visit in
    (gone_on f h states plan wanted a b c before.0 next.0, next.1)

-- ---- visits that change no state

-- a visit of this purpose writes nothing
abbrev pub Reads : Home → Purpose → Program → Type 0
Reads h purpose p = (s : PartState) (scope : Scope) (wanted : ℕ) → rows_after (settings_of h.options) s (Visit purpose p scope wanted) ≡ s.rows

states_seen : (f : Datum → Option Datum) (h : Home) (purpose : Purpose) (p : Program) (states : ℕ → PartState) (plan : Option (List Datum)) (wanted : ℕ → ℕ) (a b : Way) → Reads h purpose p → AreStates h (table_of h states) a.views
    → Seen f h purpose p states plan wanted a b → AreStates h (table_of h states) b.views
states_seen f h purpose p states plan wanted a b reads are seen k inside =
    by_test (k == seen.part) (states k ≡ state_after (settings_of h.options) (b.views k))
    (λ here. subst (λ (j : ℕ). states j ≡ state_after (settings_of h.options) (b.views j)) (sym (eqb-true k seen.part here))
    (sym (read_after (settings_of h.options) (states seen.part) h.number (Visit purpose p seen.scope (wanted (length a.gained))) (Replied seen.said) seen.told.state seen.told.replied (reads (states seen.part) seen.scope (wanted (length a.gained))) refl) ∙ seen.told.leaves))
    (λ other. are k inside ∙ ap (state_after (settings_of h.options)) (sym (seen.rest k (eqb-false k seen.part other))))

pub goes_gone : (f : Datum → Option Datum) (h : Home) (purpose : Purpose) (p : Program) (states : ℕ → PartState) (plan : Option (List Datum)) (wanted : ℕ → ℕ) (a b : Way) → yields purpose p ≡ filter_map f → Reads h purpose p → IsTrue h.alone → 0 < h.options.parts
    → AreStates h (table_of h states) a.views → IsThere h.options.parts (named_count plan) a.at
    → Goes h (plain h purpose p plan) wanted a b → Gone f h states plan wanted a b × AreStates h (table_of h states) b.views
goes_gone f h purpose p states plan wanted a b same reads alone some are there walk =
    goes_along f h (plain h purpose p plan) states plan wanted (λ (x : Way). AreStates h (table_of h states) x.views) a b
    (λ x y known inside more visit. let seen = visit_seen f h purpose p states plan wanted x y same alone some known inside more visit in (seen.looked, states_seen f h purpose p states plan wanted x y reads known seen))
    are there walk
