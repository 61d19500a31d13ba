-- What each session of a scan does.
use Rattle.std.proofs.Common.{suc, ◌≡◌, ◌≢◌, ℕ, ◌+◌, ◌<◌, refl, ap, sym, subst, ◌∙◌, arith, List, [], ◌∷◌, ◌++◌, length, map, take, get_or}
use Rattle.std.specs.Prelude.{Bool, Some, Option, Result, Ok, Err, OnOk, All, ◌==◌, if◌then◌else◌, filter, true, false}
use Rattle.std.proofs.lemmas.Bool.{ne_eqb, eq-eqb}
use Rattle.std.proofs.lemmas.List.{append-nil, length-take-le, take_more}
use Rattle.std.proofs.lemmas.List.Elements.{All-cons, All-head, All-nil, All-tail}
use Rattle.term_core.specs.Datum.{Datum}
use Rattle.mcode.specs.Program.{Program}
use Rattle.part_core.specs.Acts.Act.{Insert}
use Rattle.part_core.specs.Acts.Answer.{Replied}
use Rattle.part_core.specs.Acts.Purpose.{Answers}
use Rattle.part_core.specs.Acts.Said.{Nothing}
use Rattle.part_core.proofs.KeyLemmas.{by_test}
use Rattle.tables.specs.Calls.{TurnedByObject}
use Rattle.tables.specs.Turns.{Home, Views, Follows}
use Rattle.tables.specs.declared.options.Options.{Options}
use Rattle.walk_query.specs.declared.query.Query.{Query}
use Rattle.walks.specs.Query.{plan_of}
use Rattle.parallel_select.specs.Parts.{part_walk, is_share, answers_of, Works}
use Rattle.parallel_select.specs.Workers.{AreOfOneTable, Did, Each, EachAnswers}
use Rattle.tool_scan.specs.Members.{AreMembers, EachPuts, EachPutsThose, EachScans, Puts, Scans, scan_walk, those_of}
use Rattle.tool_scan.specs.Options.{is_own, table_of, worker_of}
use Rattle.tool_scan.specs.declared.options.ScanOptions.{ScanOptions}

-- the turn in which an object is inserted
abbrev pub PutIn : Datum → Home → Views → Views → Type 0
PutIn t h v w = TurnedByObject h t (Insert t) (Some (Replied Nothing)) v w

-- one more object is inserted after others
puts_more : (h : Home) (ts : List Datum) (t : Datum) (v u w : Views) → Puts h ts v u → PutIn t h u w → Puts h (ts ++ t ∷ []) v w
puts_more h [] t v u w same turned = (w, subst (λ x. PutIn t h x w) same turned, refl)
puts_more h (s ∷ ts) t v u w puts turned = (puts.0, puts.1, puts_more h ts t puts.0 u w puts.2 turned)

-- ---- objects, each with a number alongside

those_push : (n m : ℕ) (t : Datum) (ms : List ℕ) (ts : List Datum) → length ms ≡ length ts → those_of n (ms ++ m ∷ []) (ts ++ t ∷ []) ≡ those_of n ms ts ++ (if m == n then t ∷ [] else [])
those_push n m t [] [] same = refl
those_push n m t [] (u ∷ ts) same = absurd (omega (arith, same))
those_push n m t (k ∷ ms) [] same = absurd (omega (arith, same))
those_push n m t (k ∷ ms) (u ∷ ts) same =
    by_test (k == n) _
    (λ own. rw own (ap (λ l. u ∷ l) (those_push n m t ms ts (omega (arith, same)))))
    (λ other. rw other (those_push n m t ms ts (omega (arith, same))))

-- one more object, with this number or another
pub those_more : (n : ℕ) (ms : List ℕ) (ts : List Datum) (i m default : ℕ) (t : Datum) → length ms ≡ length ts → i < length ts → m ≡ get_or ms i default → t ≡ get_or ts i t
    → those_of n (take (i + 1) ms) (take (i + 1) ts) ≡ those_of n (take i ms) (take i ts) ++ (if m == n then t ∷ [] else [])
those_more n ms ts i m default t same within is_number is =
    ap (λ (l : List ℕ). those_of n l (take (i + 1) ts)) (take_more ms i default (omega (arith, same, within)) ∙ ap (λ (k : ℕ). take i ms ++ k ∷ []) (sym is_number))
    ∙ ap (λ (l : List Datum). those_of n (take i ms ++ m ∷ []) l) (take_more ts i t within ∙ ap (λ (u : Datum). take i ts ++ u ∷ []) (sym is))
    ∙ those_push n m t (take i ms) (take i ts) (length-take-le i ms (omega (arith, same, within)) ∙ sym (length-take-le i ts (omega (arith, within))))

-- the objects with a worker's number are those that belong to its parts
those_are : (o : ScanOptions) (n : ℕ) (ts : List Datum) → those_of n (map (worker_of o) ts) ts ≡ filter (is_own o n) ts
those_are o n [] = refl
those_are o n (t ∷ ts) = ap (λ l. if worker_of o t == n then t ∷ l else l) (those_are o n ts)

-- ---- one member

module _ {T : Type 0} (is_ready : T → Type 0) (home : T → Home) (sees : T → Views → Type 0) where
  -- no object yet
  pub nothing_put : (h : Home) (n : ℕ) (numbers : List ℕ) (objects : List Datum) (s : T) → Follows (sees s) (sees s) (Puts h (those_of n (take 0 numbers) (take 0 objects)))
  nothing_put h n numbers objects s v b = (v, b, refl)

  -- one more object of this member
  pub one_put : (n : ℕ) (numbers : List ℕ) (objects : List Datum) (i m default : ℕ) (t : Datum) (old mid new : T) → length numbers ≡ length objects → i < length objects → m ≡ get_or numbers i default → t ≡ get_or objects i t → m ≡ n
      → home mid ≡ home old → Follows (sees old) (sees mid) (Puts (home old) (those_of n (take i numbers) (take i objects))) → Follows (sees mid) (sees new) (PutIn t (home mid))
      → Follows (sees old) (sees new) (Puts (home old) (those_of n (take (i + 1) numbers) (take (i + 1) objects)))
  one_put n numbers objects i m default t old mid new same within is_number is own stays so_far put v b =
      let f = so_far v b in
      let g = put f.0 f.1 in
      let more = those_more n numbers objects i m default t same within is_number is ∙ ap (λ (b : Bool). those_of n (take i numbers) (take i objects) ++ (if b then t ∷ [] else [])) (eq-eqb m n own) in (
        g.0,
        g.1,
        subst (λ ts. Puts (home old) ts v g.0) (sym more)
            (puts_more (home old) (those_of n (take i numbers) (take i objects)) t v f.0 g.0 f.2 (subst (λ (h : Home). PutIn t h f.0 g.0) stays g.2)),
      )

  -- one object of another member
  pub none_put : (n : ℕ) (numbers : List ℕ) (objects : List Datum) (i m default : ℕ) (t : Datum) (old mid : T) → length numbers ≡ length objects → i < length objects → m ≡ get_or numbers i default → t ≡ get_or objects i t → m ≢ n
      → Follows (sees old) (sees mid) (Puts (home old) (those_of n (take i numbers) (take i objects)))
      → Follows (sees old) (sees mid) (Puts (home old) (those_of n (take (i + 1) numbers) (take (i + 1) objects)))
  none_put n numbers objects i m default t old mid same within is_number is other so_far v b =
      let f = so_far v b in
      let more = those_more n numbers objects i m default t same within is_number is
      ∙ ap (λ (b : Bool). those_of n (take i numbers) (take i objects) ++ (if b then t ∷ [] else [])) (ne_eqb m n other)
      ∙ append-nil (those_of n (take i numbers) (take i objects)) in
      (f.0, f.1, subst (λ ts. Puts (home old) ts v f.0) (sym more) f.2)

  -- one member and the members after it, if no insertion failed
  pub both_put : {X E : Type 0} (objects : List Datum) (numbers : List ℕ) (number : ℕ) (one : Result X E) (x : X) (others : Result X E) (old new last : T) (olds news lasts : List T) → last ≡ new → lasts ≡ news → one ≡ Ok x
      → OnOk one (Did is_ready home sees (λ h. Puts h (those_of number numbers objects)) old new) → OnOk others (EachPutsThose is_ready home sees objects numbers (number + 1) olds news)
      → OnOk others (EachPutsThose is_ready home sees objects numbers number (old ∷ olds) (last ∷ lasts))
  both_put objects numbers number one x (Ok y) old new last olds news lasts is_last are_last done first rest =
      rw (is_last, are_last) (subst (λ r. OnOk r (Did is_ready home sees (λ h. Puts h (those_of number numbers objects)) old new)) done first, rest)
  both_put objects numbers number one x (Err e) old new last olds news lasts is_last are_last done first rest = tt

-- ---- lists of members

module _ {T : Type 0} where
  -- what is true of each member implies something else of each
  each_by : (P Q : ℕ → T → T → Type 0) (k : ℕ) (olds news : List T) → ((n : ℕ) (old new : T) → P n old new → Q n old new) → Each P k olds news → Each Q k olds news
  each_by P Q k [] [] by each = tt
  each_by P Q k (old ∷ olds) (new ∷ news) by each = (by k old new each.0, each_by P Q (k + 1) olds news by each.1)
  each_by P Q k [] (new ∷ news) by each = absurd each
  each_by P Q k (old ∷ olds) [] by each = absurd each

  -- what each member did first, followed by what it did then
  each_both : (P Q R : ℕ → T → T → Type 0) (k : ℕ) (olds mids news : List T) → ((n : ℕ) (old mid new : T) → P n old mid → Q n mid new → R n old new) → Each P k olds mids → Each Q k mids news → Each R k olds news
  each_both P Q R k [] [] [] both first behind = tt
  each_both P Q R k (old ∷ olds) (mid ∷ mids) (new ∷ news) both first behind =
      (both k old mid new first.0 behind.0, each_both P Q R (k + 1) olds mids news both first.1 behind.1)
  each_both P Q R k [] (mid ∷ mids) news both first behind = absurd first
  each_both P Q R k (old ∷ olds) [] news both first behind = absurd first
  each_both P Q R k [] [] (new ∷ news) both first behind = absurd behind
  each_both P Q R k (old ∷ olds) (mid ∷ mids) [] both first behind = absurd behind

  module _ (is_ready : T → Type 0) (home : T → Home) (sees : T → Views → Type 0) (o : ScanOptions) where
    -- there are as many members afterwards as before
    each_long : (R : ℕ → Home → Views → Views → Type 0) (k : ℕ) (olds news : List T) → Each (λ n. Did is_ready home sees (R n)) k olds news → length news ≡ length olds
    each_long R k [] [] each = refl
    each_long R k (old ∷ olds) (new ∷ news) each = ap (λ n. suc n) (each_long R (k + 1) olds news each.1)
    each_long R k [] (new ∷ news) each = absurd each
    each_long R k (old ∷ olds) [] each = absurd each

    each_ready : (R : ℕ → Home → Views → Views → Type 0) (k : ℕ) (olds news : List T) → Each (λ n. Did is_ready home sees (R n)) k olds news → All is_ready news
    each_ready R k [] [] each = All-nil _
    each_ready R k (old ∷ olds) (new ∷ news) each = All-cons is_ready new news each.0.0 (each_ready R (k + 1) olds news each.1)
    each_ready R k [] (new ∷ news) each = absurd each
    each_ready R k (old ∷ olds) [] each = absurd each

    each_home : (R : ℕ → Home → Views → Views → Type 0) (k : ℕ) (olds news : List T) → Each (λ n. Did is_ready home sees (R n)) k olds news → map home news ≡ map home olds
    each_home R k [] [] each = refl
    each_home R k (old ∷ olds) (new ∷ news) each =
        ap (λ (h : Home). h ∷ map home news) each.0.1 ∙ ap (λ hs. home old ∷ hs) (each_home R (k + 1) olds news each.1)
    each_home R k [] (new ∷ news) each = absurd each
    each_home R k (old ∷ olds) [] each = absurd each

    each_options : (R : ℕ → Home → Views → Views → Type 0) (k : ℕ) (olds news : List T) → Each (λ n. Did is_ready home sees (R n)) k olds news → All (λ m. (home m).options ≡ table_of o) olds → All (λ m. (home m).options ≡ table_of o) news
    each_options R k [] [] each all = All-nil _
    each_options R k (old ∷ olds) (new ∷ news) each all =
        All-cons (λ m. (home m).options ≡ table_of o) new news (ap (λ (h : Home). h.options) each.0.1 ∙ All-head (λ m. (home m).options ≡ table_of o) old olds all)
        (each_options R (k + 1) olds news each.1 (All-tail (λ m. (home m).options ≡ table_of o) old olds all))
    each_options R k [] (new ∷ news) each all = absurd each
    each_options R k (old ∷ olds) [] each all = absurd each

    -- the members are those of the scan still, and each inserted the objects of its parts
    pub members_put : (objects : List Datum) (numbers : List ℕ) (olds news : List T) → numbers ≡ map (worker_of o) objects → AreMembers is_ready home o olds → EachPutsThose is_ready home sees objects numbers 0 olds news → AreMembers is_ready home o news
    members_put objects numbers olds news is are each =
        let did : ℕ → Home → Views → Views → Type 0 = λ n h. Puts h (those_of n numbers objects) in
        record {
          count = each_long did 0 olds news each ∙ are.count;
          ready = each_ready did 0 olds news each;
          table = subst AreOfOneTable (sym (each_home did 0 olds news each)) are.table;
          options = each_options did 0 olds news each are.options;
        }

    pub each_put : (objects : List Datum) (numbers : List ℕ) (olds news : List T) → numbers ≡ map (worker_of o) objects → EachPutsThose is_ready home sees objects numbers 0 olds news → EachPuts is_ready home sees o objects olds news
    each_put objects numbers olds news is each =
        each_by (λ n. Did is_ready home sees (λ h. Puts h (those_of n numbers objects))) (λ n. Did is_ready home sees (λ h. Puts h (filter (is_own o n) objects))) 0 olds news
        (λ n old new did. subst (λ ts. Did is_ready home sees (λ h. Puts h ts) old new) (ap (λ ms. those_of n ms objects) is ∙ those_are o n objects) did) each

    -- if no insertion failed, the members are those of the scan still, and each inserted the objects of its parts
    pub on_ok_put : {X E : Type 0} (objects : List Datum) (numbers : List ℕ) (r : Result X E) (olds news : List T) → numbers ≡ map (worker_of o) objects → AreMembers is_ready home o olds → OnOk r (EachPutsThose is_ready home sees objects numbers 0 olds news)
        → OnOk r (AreMembers is_ready home o news) × OnOk r (EachPuts is_ready home sees o objects olds news)
    on_ok_put objects numbers (Ok x) olds news is are each = (members_put objects numbers olds news is are each, each_put objects numbers olds news is each)
    on_ok_put objects numbers (Err e) olds news is are each = (tt, tt)

    -- what each member did, with what was true of it before
    each_with : (F : T → Type 0) (P : ℕ → T → T → Type 0) (k : ℕ) (olds news : List T) → All F olds → Each P k olds news → Each (λ n old new. F old × P n old new) k olds news
    each_with F P k [] [] all each = tt
    each_with F P k (old ∷ olds) (new ∷ news) all each =
        ((All-head F old olds all, each.0), each_with F P (k + 1) olds news (All-tail F old olds all) each.1)
    each_with F P k [] (new ∷ news) all each = absurd each
    each_with F P k (old ∷ olds) [] all each = absurd each

    module _ {A : Type 0} (query : Query A) (lists : List (List Datum)) where
      abbrev answered : ℕ → ℕ → T → T → Type 0
      answered workers n old new =
          (length lists ≡ (home old).options.parts)
          × Did is_ready home sees (λ h v u. Works h (part_walk h Answers query) (is_share workers n) (answers_of lists) v h.options.parts u) old new

      abbrev program : Program
      program = query.code

      -- objects were inserted, and then the walks were made
      scans_then : (objects : List Datum) (workers n : ℕ) (old mid new : T) → workers ≡ o.workers → Did is_ready home sees (λ h. Puts h (filter (is_own o n) objects)) old mid
          → ((home mid).options ≡ table_of o) × answered workers n mid new → Did is_ready home sees (Scans o program (plan_of query (table_of o)) objects lists n) old new
      scans_then objects workers n old mid new many put walked = (
        walked.1.1.0,
        walked.1.1.1 ∙ put.1,
        λ v b.
            let f = put.2 v b in
            let g = walked.1.1.2 f.0 f.1 in (
              g.0,
              g.1,
              record {
                full = f.0;
                puts = f.2;
                works = subst (λ (h : Home). WorksAs h (plan_of query (table_of o)) o.workers f.0 g.0) put.1
                    (subst (λ w. WorksAs (home mid) (plan_of query (table_of o)) w f.0 g.0) many
                    (subst (λ (x : Options). WorksAs (home mid) (plan_of query x) workers f.0 g.0) walked.0 g.2));
              },
            ),
      )
        where
          WorksAs : Home → Option (List Datum) → ℕ → Views → Views → Type 0
          WorksAs h plan w v u = Works h (scan_walk h program plan) (is_share w n) (answers_of lists) v h.options.parts u

      lists_of_first : (workers : ℕ) (mids news : List T) → AreMembers is_ready home o mids → 0 < o.workers → Each (answered workers) 0 mids news → length lists ≡ o.parts
      lists_of_first workers [] news are some each = absurd (omega (arith, are.count, some))
      lists_of_first workers (mid ∷ mids) [] are some each = absurd each
      lists_of_first workers (mid ∷ mids) (new ∷ news) are some each =
          each.0.0 ∙ ap (λ (x : Options). x.parts) (All-head (λ m. (home m).options ≡ table_of o) mid mids are.options)

      pub members_scanned : (objects : List Datum) (olds mids news : List T) → AreMembers is_ready home o mids → 0 < o.workers → EachPuts is_ready home sees o objects olds mids
          → EachAnswers is_ready home sees query (length mids) lists 0 mids news
          → (length lists ≡ o.parts) × EachScans is_ready home sees o program (plan_of query (table_of o)) objects lists olds news
      members_scanned objects olds mids news are some put walked = (
        lists_of_first (length mids) mids news are some walked,
        each_both (λ n. Did is_ready home sees (λ h. Puts h (filter (is_own o n) objects))) (λ n mid new. ((home mid).options ≡ table_of o) × answered (length mids) n mid new)
            (λ n. Did is_ready home sees (Scans o program (plan_of query (table_of o)) objects lists n)) 0 olds mids news
            (λ n old mid new first behind. scans_then objects (length mids) n old mid new are.count first behind) put
            (each_with (λ m. (home m).options ≡ table_of o) (answered (length mids)) 0 mids news are.options walked),
      )
