-- Passes that are distributed to the sessions of a table.
use Rattle.std.proofs.Common.{ℕ, zero, suc, ◌+◌, ◌≡◌, ◌≢◌, ◌<◌, ◌≤◌, ◌⊎◌, inl, inr, ◌++◌, List, [], ◌∷◌, length, map, refl, ap, sym, ◌∙◌, arith, Some, slice_get, slice_set}
use Rattle.std.proofs.lemmas.Bool.{false≢true}
use Rattle.std.proofs.lemmas.List.{map-append, length-append}
use Rattle.std.proofs.lemmas.Option.{slice_get_within}
use Rattle.std.specs.List.{range_with_len}
use Rattle.std.specs.Option.{is_some}
use Rattle.part_core.specs.declared.settings.Settings.{Settings}
use Rattle.gate.specs.Views.{GateId, Ticket, first_ticket}
use Rattle.gate.proofs.HistoryLemmas.{numbered_more}
use Rattle.gate.proofs.ClosedLemmas.{last_two}
use Rattle.tables.specs.declared.options.Options.{Options}
use Rattle.gate.specs.declared.session.Session.{Session}
use Rattle.tables.specs.Options.{settings_of}
use Rattle.tables.specs.Opened.{first_passes, AreDealt, AreOpened}
use Rattle.tables.proofs.LocalLemmas.{got_set}

-- ---- lists

got_last : {X : Type 0} (xs : List X) (y x : X) (k : ℕ) → slice_get (xs ++ y ∷ []) k ≡ Some x
    → (slice_get xs k ≡ Some x) ⊎ ((k ≡ length xs) × (y ≡ x))
got_last [] y x zero e = inr (refl, cc)
got_last [] y x (suc k) e = absurd (false≢true (ap is_some e))
got_last (z ∷ xs) y x zero e = inl e
got_last (z ∷ xs) y x (suc k) e = of (got_last xs y x k e)
  where
    of : (slice_get xs k ≡ Some x) ⊎ ((k ≡ length xs) × (y ≡ x)) → (slice_get xs k ≡ Some x) ⊎ ((suc k ≡ suc (length xs)) × (y ≡ x))
    of (inl got) = inl got
    of (inr (place, same)) = inr (ap suc place, same)

got_map : {X Y : Type 0} (f : X → Y) (xs : List X) (k : ℕ) (y : Y) → slice_get (map f xs) k ≡ Some y → (x : X) × (y ≡ f x)
got_map f [] k y e = absurd (false≢true (ap is_some e))
got_map f (x ∷ xs) zero y e = (x, cc)
got_map f (x ∷ xs) (suc k) y e = got_map f xs k y e

gates_back : (o : Settings) (n : ℕ) (gates : List GateId) → map (λ (pass : Ticket). pass.gate) (first_passes o gates n) ≡ gates
gates_back o n [] = refl
gates_back o n (gate ∷ gates) = ap (λ (gs : List GateId). gate ∷ gs) (gates_back o n gates)

-- passes numbered from 0, and the last of them
module _ (f : ℕ → Ticket) (n m : ℕ) (passes rest : List Ticket) (next : n ≡ m + 1) (are : passes ≡ map f (range_with_len 0 n)) where
  more : passes ≡ map f (range_with_len 0 m) ++ f m ∷ []
  more = are ∙ ap (λ (k : ℕ). map f (range_with_len 0 k)) next ∙ numbered_more f m

  pub some_left : 0 < length passes
  some_left = omega (arith, ap length more, length-append (map f (range_with_len 0 m)) (f m ∷ []))

  pub last_left : (pass : Ticket) → passes ≡ rest ++ pass ∷ [] → (rest ≡ map f (range_with_len 0 m)) × (pass ≡ f m)
  last_left pass last = last_two rest (map f (range_with_len 0 m)) pass (f m) (sym last ∙ more)

-- ---- sessions

-- the sessions from number n on have their pass at the next gate too
abbrev pub AreDealtFrom : {P A : Type 0} → Settings → List GateId → GateId → ℕ → List (Session P A) → Type 0
AreDealtFrom o gates gate n sessions =
    (k : ℕ) (s : Session _ _) → slice_get sessions k ≡ Some s
    → (s.number ≡ k) × (k < n → s.passes.items ≡ first_passes o gates k) × (n ≤ k → s.passes.items ≡ first_passes o (gates ++ gate ∷ []) k)

module _ {P A : Type 0} (o : Settings) where
  -- one more session, without passes
  pub session_more : (sessions : List (Session P A)) (n : ℕ) (new : Session P A) → length sessions ≡ n → new.number ≡ n → new.passes.items ≡ []
      → AreDealt o [] sessions → AreDealt o [] (sessions ++ new ∷ [])
  session_more sessions n new count number none dealt = λ k s got. of k s (got_last sessions new s k got)
    where
      of : (k : ℕ) (s : Session P A) → (slice_get sessions k ≡ Some s) ⊎ ((k ≡ length sessions) × (new ≡ s)) → (s.number ≡ k) × (s.passes.items ≡ [])
      of k s (inl got) = dealt k s got
      of k s (inr (place, same)) = (ap (λ (x : Session P A). x.number) (sym same) ∙ number ∙ sym count ∙ sym place, ap (λ (x : Session P A). x.passes.items) (sym same) ∙ none)

  module _ (gates : List GateId) (gate : GateId) where
    pub deal_begins : (sessions : List (Session P A)) (n : ℕ) → length sessions ≡ n → AreDealt o gates sessions → AreDealtFrom o gates gate n sessions
    deal_begins sessions n count dealt = λ k s got. ((dealt k s got).0, (λ below. (dealt k s got).1), (λ above. absurd (omega (arith, slice_get_within sessions k s got, count, above))))

    pub deal_ends : (sessions : List (Session P A)) (n : ℕ) → n ≡ 0 → AreDealtFrom o gates gate n sessions → AreDealt o (gates ++ gate ∷ []) sessions
    deal_ends sessions n none dealt = λ k s got. ((dealt k s got).0, (dealt k s got).2 (omega (arith, none)))

    pub deal_step : (sessions : List (Session P A)) (n m : ℕ) (old new : Session P A) → n ≡ m + 1 → slice_get sessions m ≡ Some old
        → new.number ≡ old.number → new.passes.items ≡ old.passes.items ++ first_ticket gate o m ∷ []
        → AreDealtFrom o gates gate n sessions → AreDealtFrom o gates gate m (slice_set sessions m new)
    deal_step sessions n m old new next there number given dealt = λ k s got. of k s (got_set sessions m k new s got)
      where
        was : (old.number ≡ m) × (m < n → old.passes.items ≡ first_passes o gates m) × (n ≤ m → old.passes.items ≡ first_passes o (gates ++ gate ∷ []) m)
        was = dealt m old there

        now : new.passes.items ≡ first_passes o (gates ++ gate ∷ []) m
        now = given ∙ ap (λ (ps : List Ticket). ps ++ first_ticket gate o m ∷ []) (was.1 (omega (arith, next))) ∙ sym (map-append (λ (g : GateId). first_ticket g o m) gates (gate ∷ []))

        of : (k : ℕ) (s : Session P A) → ((k ≡ m) × (s ≡ new)) ⊎ ((k ≢ m) × (slice_get sessions k ≡ Some s))
            → (s.number ≡ k) × (k < m → s.passes.items ≡ first_passes o gates k) × (m ≤ k → s.passes.items ≡ first_passes o (gates ++ gate ∷ []) k)
        of k s (inl (place, same)) = (
          ap (λ (x : Session P A). x.number) same ∙ number ∙ was.0 ∙ sym place,
          (λ below. absurd (omega (arith, below, place))),
          (λ above. ap (λ (x : Session P A). x.passes.items) same ∙ now ∙ ap (λ (j : ℕ). first_passes o (gates ++ gate ∷ []) j) (sym place)),
        )
        of k s (inr (apart, got)) = (
          (dealt k s got).0,
          (λ below. (dealt k s got).1 (omega (arith, below, next))),
          (λ above. (dealt k s got).2 (omega (arith, above, apart, next))),
        )

-- sessions with a pass at each gate are sessions that were opened with the table
pub all_opened : {P A : Type 0} (o : Options) (gates : List GateId) (sessions : List (Session P A)) → 0 < o.parts → length gates ≡ o.parts
    → length sessions ≡ o.sessions → AreDealt (settings_of o) gates sessions → AreOpened o gates sessions
all_opened o gates sessions some count sessions_count dealt = record {
  count = sessions_count;
  numbered = λ k s got. (dealt k s got).0;
  opened = λ k s got. record {
    some = some;
    count = count;
    session = omega (arith, (dealt k s got).0, slice_get_within sessions k s got, sessions_count);
    made = ap (map (λ (pass : Ticket). pass.gate)) (dealt k s got).1 ∙ gates_back (settings_of o) k gates;
    each = λ j pass there.
        let first = got_map (λ (gate : GateId). first_ticket gate (settings_of o) k) gates j pass (ap (λ (ps : List Ticket). slice_get ps j) (sym (dealt k s got).1) ∙ there) in
        (ap (λ (t : Ticket). t.settings) first.1, ap (λ (t : Ticket). t.number) first.1 ∙ sym (dealt k s got).0);
  };
  seen = λ k s got j pass there.
      let first = got_map (λ (gate : GateId). first_ticket gate (settings_of o) k) gates j pass (ap (λ (ps : List Ticket). slice_get ps j) (sym (dealt k s got).1) ∙ there) in
      sym (ap (λ (t : Ticket). t.log) first.1);
}
