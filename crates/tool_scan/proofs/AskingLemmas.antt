-- The sessions of a scan, with their table.
use Rattle.std.proofs.Common.{zero, suc, ◌≡◌, ℕ, ◌+◌, ◌<◌, refl, ap, sym, subst, ◌∙◌, arith, List, [], ◌∷◌, ◌++◌, length, slice_get}
use Rattle.std.specs.Prelude.{All, Some, Option, get_or, map}
use Rattle.std.specs.List.{AllZip}
use Rattle.std.proofs.lemmas.List.{append_assoc, append-nil}
use Rattle.std.proofs.lemmas.List.Elements.{All-head, All-map, All-tail, All-weaker}
use Rattle.std.proofs.lemmas.Option.{slice_get-get_or}
use Rattle.std.proofs.lemmas.Slice.Zip.{AllZip-long}
use Rattle.term_core.specs.Datum.{Datum}
use Rattle.mcode.specs.Program.{Program}
use Rattle.tables.specs.Opened.{AllOpened, AreOpened}
use Rattle.tables.specs.Sessions.{IsOpened, Sees, session_home}
use Rattle.tables.specs.Turns.{Home, Views}
use Rattle.tables.specs.declared.at.At.{At}
use Rattle.tables.specs.declared.options.Options.{Options}
use Rattle.gate.specs.declared.session.Session.{Session}
use Rattle.tables.specs.declared.table.Table.{Table}
use Rattle.parallel_select.specs.Workers.{AreOfOneTable, Did, Each}
use Rattle.tool_scan.specs.Asking.{AreSeated, IsScanned}
use Rattle.tool_scan.specs.Members.{AreMembers, Scans}
use Rattle.tool_scan.specs.Options.{table_of}
use Rattle.tool_scan.specs.declared.options.ScanOptions.{ScanOptions}

pub nil_of : {X : Type 0} (xs : List X) → length xs ≡ 0 → xs ≡ []
nil_of [] e = refl
nil_of (x ∷ xs) e = absurd (omega (arith, e))

module _ {M S : Type 0} (Sits : M → S → Type 0) where
  zip_join : (ms ns : List M) (xs ys : List S) → AllZip Sits ms xs → AllZip Sits ns ys → AllZip Sits (ms ++ ns) (xs ++ ys)
  zip_join [] ns [] ys first next = next
  zip_join [] ns (x ∷ xs) ys first next = absurd first
  zip_join (a ∷ ms) ns [] ys first next = absurd first
  zip_join (a ∷ ms) ns (x ∷ xs) ys first next = (first.0, zip_join ms ns xs ys first.1 next)

  pub seated_join : (s : S) (ss : List S) (old mid new : List M) → AreSeated Sits (s ∷ []) old mid → AreSeated Sits ss mid new → AreSeated Sits (s ∷ ss) old new
  seated_join s ss old mid new first next = (
    first.0 ++ next.0,
    next.1 ∙ (ap (λ l. l ++ next.0) first.1 ∙ append_assoc old first.0 next.0),
    zip_join first.0 next.0 (s ∷ []) ss first.2 next.2,
  )

  pub none_seated : (old : List M) → AreSeated Sits [] old old
  none_seated old = ([], sym (append-nil old), tt)

  -- one member for each session, if there was none before
  pub seated_all : (ss : List S) (old new now : List M) → AreSeated Sits ss old new → old ≡ [] → now ≡ new → AllZip Sits now ss
  seated_all ss old new now seated none same =
      subst (λ ms. AllZip Sits ms ss) (sym (same ∙ (seated.1 ∙ ap (λ l. l ++ seated.0) none))) seated.2

  -- the session of a member
  sitting : (ms : List M) (ss : List S) (i : ℕ) (m : M) → AllZip Sits ms ss → slice_get ms i ≡ Some m → (s : S) × (slice_get ss i ≡ Some s) × Sits m s
  sitting [] ss i m zip there = absurd (cc)
  sitting (n ∷ ms) [] i m zip there = absurd zip
  sitting (n ∷ ms) (s ∷ ss) zero m zip there = (s, refl, subst (λ x. Sits x s) (some_same n m there) zip.0)
    where
      some_same : (a b : M) → Some a ≡ Some b → a ≡ b
      some_same a b e = cc
  sitting (n ∷ ms) (s ∷ ss) (suc i) m zip there = sitting ms ss i m zip.1 there

-- ---- what each session did

module _ {T : Type 0} (is_ready : T → Type 0) (home : T → Home) (sees : T → Views → Type 0) (o : ScanOptions) (program : Program) (plan : Option (List Datum)) (objects : List Datum) (lists : List (List Datum)) where
  -- a member with a new session of this number, which has seen nothing
  abbrev pub IsFresh : ℕ → T → Type 0
  IsFresh n m = ((home m).options ≡ table_of o) × ((home m).number ≡ n) × sees m (λ part. [])

  did_scan : (n : ℕ) (old new : T) → IsFresh n old → Did is_ready home sees (Scans o program plan objects lists n) old new → IsScanned o program plan objects lists n
  did_scan n old new fresh did =
      let f = did.2 (λ part. []) fresh.2 in
      record { home = home old; opened = fresh.0; number = fresh.1; last = f.0; scans = f.2 }

  each_scanned : (k : ℕ) (olds news : List T) → ((i : ℕ) (m : T) → slice_get olds i ≡ Some m → IsFresh (k + i) m)
      → Each (λ n. Did is_ready home sees (Scans o program plan objects lists n)) k olds news → (i : ℕ) → i < length olds → IsScanned o program plan objects lists (k + i)
  each_scanned k [] news fresh each i within = absurd (omega (arith, within))
  each_scanned k (old ∷ olds) [] fresh each i within = absurd each
  each_scanned k (old ∷ olds) (new ∷ news) fresh each zero within =
      subst (IsScanned o program plan objects lists) (omega arith) (did_scan k old new (subst (λ n. IsFresh n old) (omega arith) (fresh 0 old refl)) each.0)
  each_scanned k (old ∷ olds) (new ∷ news) fresh each (suc i) within =
      subst (IsScanned o program plan objects lists) (omega arith)
      (each_scanned (k + 1) olds news (λ j m there. subst (λ n. IsFresh n m) (omega arith) (fresh (suc j) m there)) each.1 i (omega (arith, within)))

  pub all_scanned : (olds news : List T) → length olds ≡ o.workers → ((i : ℕ) (m : T) → slice_get olds i ≡ Some m → IsFresh i m)
      → Each (λ n. Did is_ready home sees (Scans o program plan objects lists n)) 0 olds news → (worker : ℕ) → worker < o.workers → IsScanned o program plan objects lists worker
  all_scanned olds news many fresh each worker below =
      subst (IsScanned o program plan objects lists) (omega arith) (each_scanned 0 olds news (λ i m there. subst (λ n. IsFresh n m) (omega arith) (fresh i m there)) each worker (omega (arith, many, below)))

-- ---- sessions with their table

-- each session was opened
pub each_opened : {P A : Type 0} (o : Options) (gates : _) (sessions : List (Session P A))
    → AllOpened o gates sessions → All (λ (s : Session P A). IsOpened o gates s.number s.passes.items) sessions
each_opened o gates sessions opened = λ k d within. opened k _ (slice_get-get_or sessions k d within)

-- members of which each has this table's options and gates
of_one_table : {X : Type 0} (home : X → Home) (o : Options) (gates : _) (xs : List X)
    → All (λ x. ((home x).options ≡ o) × ((home x).gates ≡ gates)) xs → AreOfOneTable (map home xs)
of_one_table home o gates [] all = tt
of_one_table home o gates (x ∷ xs) all =
    let here = All-head (λ y. ((home y).options ≡ o) × ((home y).gates ≡ gates)) x xs all in
    All-map (λ other. (other.options ≡ (home x).options) × (other.gates ≡ (home x).gates)) home xs
    (All-weaker (λ y. ((home y).options ≡ o) × ((home y).gates ≡ gates))
    (λ y. ((home y).options ≡ (home x).options) × ((home y).gates ≡ (home x).gates))
    (λ y h. (h.0 ∙ sym here.0, h.1 ∙ sym here.1)) xs
    (All-tail (λ y. ((home y).options ≡ o) × ((home y).gates ≡ gates)) x xs all))

module _ {P A R : Type 0} (table : Table P A) (o : ScanOptions) where
  abbrev pub SitsAt : At P A R → Session P A → Type 0
  SitsAt m s = (m.table.now ≡ table) × (m.session.now ≡ s)

  abbrev pub is_ready_at : At P A R → Type 0
  is_ready_at m = IsOpened m.table.now.options m.table.now.gates.items m.session.now.number m.session.now.passes.items

  abbrev pub home_at : At P A R → Home
  home_at m = session_home m.table.now.options m.table.now.gates.items m.session.now.number m.session.ghost_name

  abbrev pub sees_at : At P A R → Views → Type 0
  sees_at m = Sees m.session.now.passes.items

  module _ (sessions : List (Session P A)) (are : table.options ≡ table_of o) (opened : AreOpened (table_of o) table.gates.items sessions) where
    ready_there : (m : At P A R) (s : Session P A) → SitsAt m s → IsOpened (table_of o) table.gates.items s.number s.passes.items → is_ready_at m
    ready_there m s sits is =
        subst (λ (t : Table P A). IsOpened t.options t.gates.items m.session.now.number m.session.now.passes.items) (sym sits.0)
        (subst (λ (x : Options). IsOpened x table.gates.items m.session.now.number m.session.now.passes.items) (sym are)
        (subst (λ (y : Session P A). IsOpened (table_of o) table.gates.items y.number y.passes.items) (sym sits.1) is))

    options_there : (m : At P A R) (s : Session P A) → SitsAt m s → (home_at m).options ≡ table_of o
    options_there m s sits = ap (λ (t : Table P A). t.options) sits.0 ∙ are

    pub seated_members : (members : List (At P A R)) → AllZip SitsAt members sessions → AreMembers is_ready_at home_at o members
    seated_members members zip = record {
      count = sym (AllZip-long SitsAt members sessions zip) ∙ opened.count;
      ready = λ k d within.
          let sat = sitting SitsAt members sessions k (get_or members k d) zip (slice_get-get_or members k d within) in
          ready_there (get_or members k d) sat.0 sat.2 (opened.opened k sat.0 sat.1);
      table = of_one_table home_at (table_of o) table.gates.items members (λ k d within.
          let sat = sitting SitsAt members sessions k (get_or members k d) zip (slice_get-get_or members k d within) in
          (options_there (get_or members k d) sat.0 sat.2, ap (λ (t : Table P A). t.gates.items) sat.2.0));
      options = λ k d within.
          let sat = sitting SitsAt members sessions k (get_or members k d) zip (slice_get-get_or members k d within) in
          options_there (get_or members k d) sat.0 sat.2;
    }

    pub fresh_members : (members : List (At P A R)) → AllZip SitsAt members sessions → (i : ℕ) (m : At P A R) → slice_get members i ≡ Some m
        → ((home_at m).options ≡ table_of o) × ((home_at m).number ≡ i) × sees_at m (λ part. [])
    fresh_members members zip i m there =
        let sat = sitting SitsAt members sessions i m zip there in (
          options_there m sat.0 sat.2,
          ap (λ (s : Session P A). s.number) sat.2.1 ∙ opened.numbered i sat.0 sat.1,
          subst (λ (s : Session P A). Sees s.passes.items (λ part. [])) (sym sat.2.1) (opened.seen i sat.0 sat.1),
        )
