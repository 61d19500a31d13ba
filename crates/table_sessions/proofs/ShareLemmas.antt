-- Sessions that are given a share of their table, one after the other.
use Rattle.std.proofs.Common.{ℕ, zero, suc, ◌+◌, ◌≡◌, ◌⊎◌, inl, inr, ◌++◌, List, [], ◌∷◌, length, refl, ap, sym, subst, ◌∙◌, arith, Some, slice_get}
use Rattle.std.proofs.lemmas.Bool.{false≢true}
use Rattle.std.specs.Option.{is_some}
use Rattle.gate.specs.Views.{GateId}
use Rattle.gate.specs.declared.session.Session.{Session}
use Rattle.tables.specs.declared.options.Options.{Options}
use Rattle.tables.specs.declared.table.Table.{Table}
use Rattle.tables.specs.Opened.{AreOpened}
use Rattle.tables.specs.Sessions.{IsOpened, Sees, session_home}
use Rattle.table_sessions.specs.declared.own.OwnSession.{OwnSession}
use Rattle.table_sessions.specs.Own.{home_of, SeenBy}

got_last : {X : Type 0} (xs : List X) (y x : X) (k : ℕ) → slice_get (xs ++ y ∷ []) k ≡ Some x → (slice_get xs k ≡ Some x) ⊎ ((k ≡ length xs) × (y ≡ x))
got_last [] y x zero e = inr (refl, cc)
got_last [] y x (suc k) e = absurd (false≢true (ap is_some e))
got_last (z ∷ xs) y x zero e = inl e
got_last (z ∷ xs) y x (suc k) e = of (got_last xs y x k e)
  where
    of : (slice_get xs k ≡ Some x) ⊎ ((k ≡ length xs) × (y ≡ x)) → (slice_get xs k ≡ Some x) ⊎ ((suc k ≡ suc (length xs)) × (y ≡ x))
    of (inl got) = inl got
    of (inr (place, same)) = inr (ap suc place, same)

-- the sessions that have no share yet, the first of which is number n
abbrev pub AreLeft : {P A : Type 0} → Options → List GateId → ℕ → List (Session P A) → Type 0
AreLeft o gates n sessions =
    (k : ℕ) (s : Session _ _) → slice_get sessions k ≡ Some s
    → (s.number ≡ n + k) × (IsOpened o gates s.number s.passes.items × Sees s.passes.items (λ part. []))

-- the sessions that have one, from number 0 on
abbrev pub HaveShares : {P A : Type 0} → Options → List GateId → List (OwnSession P A) → Type 0
HaveShares o gates sessions =
    (k : ℕ) (s : OwnSession _ _) → slice_get sessions k ≡ Some s
    → (home_of s ≡ session_home o gates k 0) × SeenBy s (λ part. [])

module _ {P A : Type 0} (o : Options) (gates : List GateId) where
  pub all_left : (sessions : List (Session P A)) → AreOpened o gates sessions → AreLeft o gates 0 sessions
  all_left sessions opened = λ k s got. (omega (arith, opened.numbered k s got), (opened.opened k s got, opened.seen k s got))

  pub next_left : (n : ℕ) (s : Session P A) (rest : List (Session P A)) → AreLeft o gates n (s ∷ rest)
      → (s.number ≡ n) × (IsOpened o gates s.number s.passes.items × Sees s.passes.items (λ part. []))
  next_left n s rest left =
      let of = left 0 s refl in
      (omega (arith, of.0), of.1)

  pub others_left : (n m : ℕ) (s : Session P A) (rest : List (Session P A)) → m ≡ n + 1 → AreLeft o gates n (s ∷ rest) → AreLeft o gates m rest
  others_left n m s rest next left = λ k t got.
      let of = left (suc k) t got in
      (omega (arith, next, of.0), of.1)

  pub none_yet : (sessions : List (OwnSession P A)) → sessions ≡ [] → HaveShares o gates sessions
  none_yet sessions none = λ k s got. absurd (false≢true (ap is_some (sym (ap (λ (xs : List (OwnSession P A)). slice_get xs k) none) ∙ got)))

  pub home_there : (s : OwnSession P A) (t : Table P A) (n : ℕ) → s.table.value ≡ t → t.options ≡ o → t.gates.items ≡ gates → s.seat.number ≡ n → home_of s ≡ session_home o gates n 0
  home_there s t n there same all number =
      ap (λ (u : Table P A). session_home u.options u.gates.items s.seat.number 0) there
      ∙ ap (λ (x : Options). session_home x t.gates.items s.seat.number 0) same
      ∙ ap (λ (gs : List GateId). session_home o gs s.seat.number 0) all
      ∙ ap (λ (m : ℕ). session_home o gates m 0) number

  pub one_more : (sessions : List (OwnSession P A)) (n : ℕ) (new : OwnSession P A) → length sessions ≡ n
      → home_of new ≡ session_home o gates n 0 → SeenBy new (λ part. []) → HaveShares o gates sessions → HaveShares o gates (sessions ++ new ∷ [])
  one_more sessions n new count home seen shared = λ k s got. of k s (got_last sessions new s k got)
    where
      of : (k : ℕ) (s : OwnSession P A) → (slice_get sessions k ≡ Some s) ⊎ ((k ≡ length sessions) × (new ≡ s)) → (home_of s ≡ session_home o gates k 0) × SeenBy s (λ part. [])
      of k s (inl got) = shared k s got
      of k s (inr (place, same)) =
          subst (λ (t : OwnSession P A). (home_of t ≡ session_home o gates k 0) × SeenBy t (λ part. [])) same
          (home ∙ ap (λ (m : ℕ). session_home o gates m 0) (sym (place ∙ count)), seen)
