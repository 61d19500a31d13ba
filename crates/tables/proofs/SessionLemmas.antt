-- Turns of a session at a table whose parts have gates.
use Rattle.std.proofs.Common.{ℕ, ◌+◌, ◌==◌, ◌≡◌, ◌≢◌, ◌<◌, ◌≤◌, ◌⊎◌, inl, inr, ◌++◌, List, [], length, map, get_or, refl, ap, sym, subst, ◌∙◌, arith, Option, option_map, Some, None, slice_get, append_assoc}
use Rattle.std.proofs.lemmas.Bool.{eqb-true, eqb-false, false≢true}
use Rattle.std.proofs.lemmas.List.{append-nil, length-map}
use Rattle.std.proofs.lemmas.Option.{slice_get_cases, slice_get_within, slice_get-map, get_or_from_slice_get}
use Rattle.std.proofs.Math.Seq.{map-set_same}
use Rattle.part_core.specs.declared.settings.Settings.{Settings}
use Rattle.part_core.specs.Acts.{Act, Answer, History}
use Rattle.part_core.specs.Legal.{IsLegal}
use Rattle.part_core.specs.Ops.{entries_of}
use Rattle.part_core.proofs.KeyLemmas.{by_test}
use Rattle.gate.specs.Views.{GateId, Ticket, ticket_with, GoesOn, own}
use Rattle.tables.specs.declared.options.Options.{Options}
use Rattle.tables.specs.Options.{settings_of}
use Rattle.tables.specs.Turns.{Views, Turned, Follows}
use Rattle.gate.specs.Sessions.{AllLegal, IsTurnAt}
use Rattle.tables.specs.SessionFacts.{session_legal}
use Rattle.tables.specs.Sessions.{Sees, IsOpened, session_home}
use Rattle.tables.proofs.LocalLemmas.{got_set, grown_at, grown_here, grown_there, set_after}

module _ (o : Options) (gates : List GateId) (number : ℕ) (passes : List Ticket) (opened : IsOpened o gates number passes) where
  pub pass_count : length passes ≡ o.parts
  pass_count = omega (arith, length-map passes (λ (pass : Ticket). pass.gate), ap length opened.made, opened.count)

  -- the pass at a part was made with the gate there
  pub pass_at : (part : ℕ) (gate : GateId) → slice_get gates part ≡ Some gate
      → (pass : Ticket) × (slice_get passes part ≡ Some pass) × (pass.gate ≡ gate)
  pass_at part gate there = of (slice_get_cases passes part).1
    where
      of : ((pass : Ticket) × (part < length passes) × (slice_get passes part ≡ Some pass) × (get_or passes part pass ≡ pass)) ⊎ ((length passes ≤ part) × (slice_get passes part ≡ None))
          → (pass : Ticket) × (slice_get passes part ≡ Some pass) × (pass.gate ≡ gate)
      of (inl (pass, within, got, same)) =
          let both : Some pass.gate ≡ Some gate = sym (slice_get-map (λ (t : Ticket). t.gate) passes part ∙ ap (option_map (λ (t : Ticket). t.gate)) got) ∙ ap (λ (gs : List GateId). slice_get gs part) opened.made ∙ there in
          (pass, got, cc)
      of (inr (past, none)) = absurd (omega (arith, past, pass_count, opened.count, slice_get_within gates part gate there))

  -- a turn that is put off is one without an entry
  pub put_off_at : AllLegal passes → (new : List Ticket) → new ≡ passes → (part : ℕ) → part < o.parts → (act : Act) (table : ℕ)
      → Follows (Sees passes) (Sees new) (Turned (session_home o gates number table) part act None)
  put_off_at legal new same part inside act table = λ v sees. (
    v,
    subst (λ (ps : List Ticket). Sees ps v) (sym same) sees,
    record {
      here = record {
        between = [];
        others = record { others = refl; alone = λ alone. refl };
        grown = sym (append-nil ((v part) ++ []) ∙ append-nil (v part));
        legal = session_legal o gates number passes opened legal v sees part inside;
      };
      rest = λ k apart. refl;
    },
  )

  module _ (new : List Ticket) (part : ℕ) (act : Act) (answer : Option Answer) (t : IsTurnAt passes part act answer new) where
    -- a session is still opened after a turn
    pub opened_still : IsOpened o gates number new
    opened_still = record {
      some = opened.some;
      count = opened.count;
      session = opened.session;
      made = ap (map (λ (pass : Ticket). pass.gate)) t.now
          ∙ map-set_same (λ (pass : Ticket). pass.gate) passes part (ticket_with t.pass t.log) t.pass (ap (λ (pass : Ticket). pass.gate) (sym (get_or_from_slice_get passes part t.pass t.pass t.there)))
          ∙ opened.made;
      each = λ k pass got. of k pass (got_set passes part k (ticket_with t.pass t.log) pass (ap (λ (ps : List Ticket). slice_get ps k) (sym t.now) ∙ got));
    }
      where
        of : (k : ℕ) (pass : Ticket) → ((k ≡ part) × (pass ≡ ticket_with t.pass t.log)) ⊎ ((k ≢ part) × (slice_get passes k ≡ Some pass))
            → (pass.settings ≡ settings_of o) × (pass.number ≡ number)
        of k pass (inl (place, same)) =
            (ap (λ (p : Ticket). p.settings) same ∙ (opened.each part t.pass t.there).0, ap (λ (p : Ticket). p.number) same ∙ (opened.each part t.pass t.there).1)
        of k pass (inr (apart, got)) = opened.each k pass got

    -- the turn with a pass is a turn of the session at the part
    pub turned_at : (table : ℕ) → Follows (Sees passes) (Sees new) (Turned (session_home o gates number table) part act answer)
    turned_at table = λ v sees.
        let between : History = t.turn.between in
        let entries : History = entries_of number act answer in
        let es : History = between ++ entries in
        let same : t.pass.number ≡ number = (opened.each part t.pass t.there).1 in
        let log : v part ++ es ≡ t.log =
        ap (λ (l : History). l ++ es) (sees part t.pass t.there) ∙ sym (append_assoc t.pass.log between entries)
        ∙ ap (λ (n : ℕ). (t.pass.log ++ between) ++ entries_of n act answer) (sym same) ∙ sym t.turn.grown in (
          grown_at v part es,
          subst (λ (ps : List Ticket). Sees ps (grown_at v part es)) (sym t.now) (set_after (λ (pass : Ticket) (l : History). l ≡ pass.log) passes part (ticket_with t.pass t.log) v es sees log),
          record {
            here = record {
              between = between;
              others = record { others = subst (λ (n : ℕ). own n between ≡ []) same t.turn.others; alone = λ alone. absurd (false≢true alone) };
              grown = grown_here v part es ∙ sym (append_assoc (v part) between entries);
              legal = subst (IsLegal (settings_of o)) (sym (grown_here v part es ∙ log)) (subst (λ (x : Settings). IsLegal x t.log) (opened.each part t.pass t.there).0 t.turn.legal);
            };
            rest = λ k apart. grown_there v part k es apart;
          },
        )

-- ---- sessions that meet

-- of what two sessions have seen of the first n parts, one begins with the other
abbrev pub HaveMet : List Ticket → List Ticket → ℕ → Type 0
HaveMet ones others n =
    (part : ℕ) (v w : Views) → part < n → Sees ones v → Sees others w → GoesOn (v part) (w part) ⊎ GoesOn (w part) (v part)

pub met_more : (ones others : List Ticket) (n : ℕ) (one two : Ticket) → slice_get ones n ≡ Some one → slice_get others n ≡ Some two
    → GoesOn one.log two.log ⊎ GoesOn two.log one.log → HaveMet ones others n → HaveMet ones others (n + 1)
met_more ones others n one two there other_there met before = λ part v w inside sees others_see.
    by_test (part == n) (GoesOn (v part) (w part) ⊎ GoesOn (w part) (v part))
    (λ same.
    let place : n ≡ part = sym (eqb-true part n same) in
    let mine : one.log ≡ v part = sym (sees n one there) ∙ ap v place in
    let yours : two.log ≡ w part = sym (others_see n two other_there) ∙ ap w place in
    subst (λ (l : History). GoesOn (v part) l ⊎ GoesOn l (v part)) yours (subst (λ (l : History). GoesOn l two.log ⊎ GoesOn two.log l) mine met))
    (λ other. before part v w (omega (arith, inside, eqb-false part n other)) sees others_see)
