-- Selection by several workers, each of which walks through its own parts with its own session.
use Rattle.std.specs.Prelude.{ℕ, ◌≡◌, ◌<◌, ◌≤◌, ◌+◌, ◌⊎◌, if◌then◌else◌, IfErr, IfOk, Result, Ok, All, Bool, MatchBool, List, [], ◌∷◌, length}
use Rattle.term_core.specs.Datum.{Datum}
use Rattle.part_core.specs.Acts.{Purpose}
use Rattle.part_core.specs.Acts.Purpose.{Answers}
use Rattle.tables.specs.Turns.{Home, Views, Follows}
use Rattle.walk_core.specs.Walk.{Walk}
use Rattle.walk_query.specs.declared.query.Query.{Query}
use Rattle.parallel_select.specs.Parts.{part_walk, is_share, answers_of, Works, Broken, Counted, BrokenAt, IsTotal}

-- sessions of one table
abbrev pub AreOfOneTable : List Home → Type 0
AreOfOneTable [] = Unit {0}
AreOfOneTable (h ∷ hs) = All (λ other. (other.options ≡ h.options) × (other.gates ≡ h.gates)) hs

-- a property holds of each member, before and after; the first member has this number
abbrev pub Each : {T : Type 0} → (ℕ → T → T → Type 0) → ℕ → List T → List T → Type 0
Each P number [] [] = Unit {0}
Each P number (old ∷ olds) (new ∷ news) = P number old new × Each P (number + 1) olds news
Each P number olds news = ⊥

-- a property holds of each member with a number of its own, and these numbers add up to a total
abbrev pub EachAdding : {T : Type 0} → (ℕ → ℕ → T → T → Type 0) → ℕ → ℕ → List T → List T → Type 0
EachAdding P total number [] [] = total ≡ 0
EachAdding P total number (old ∷ olds) (new ∷ news) =
    (count : ℕ) × (rest : ℕ) × P number count old new × EachAdding P rest (number + 1) olds news × (total ≡ count + rest)
EachAdding P total number olds news = ⊥

-- A session has the same home, can make turns, and did this.
abbrev pub Did : {T : Type 0} → (T → Type 0) → (T → Home) → (T → Views → Type 0) → (Home → Views → Views → Type 0) → T → T → Type 0
Did is_ready home sees R old new =
    is_ready new × (home new ≡ home old) × Follows (sees old) (sees new) (R (home old))

-- Each member made the walks of its own parts, and the answers of each part are in these lists.
abbrev pub EachAnswers : {T A : Type 0} → (T → Type 0) → (T → Home) → (T → Views → Type 0) → Query A → ℕ → List (List Datum) → ℕ → List T → List T → Type 0
EachAnswers is_ready home sees query workers lists number olds news =
    Each (λ n old new. (length lists ≡ (home old).options.parts)
    × Did is_ready home sees (λ h v u. Works h (part_walk h Answers query) (is_share workers n) (answers_of lists) v h.options.parts u) old new)
    number olds news

-- Each member made walks of its own parts; some ran out of memory, or the joining of their answers did.
abbrev pub EachBroken : {T A : Type 0} → (T → Type 0) → (T → Home) → (T → Views → Type 0) → Query A → ℕ → ℕ → List T → List T → Type 0
EachBroken is_ready home sees query workers number olds news =
    Each (λ n. Did is_ready home sees (λ h. Broken h (part_walk h Answers query) (is_share workers n))) number olds news

-- What one member gathered: the lists of its answers, or it ran out of memory.
pub record Gathered {T A X E : Type 0} (is_ready : T → Type 0) (home : T → Home) (sees : T → Views → Type 0) (query : Query A) (workers number : ℕ) (given : X → List (List Datum)) (r : Result X E) (olds news : List T) : Type 0 where
  pub done : IfOk r (λ lists. EachAnswers is_ready home sees query workers (given lists) number olds news)
  pub refused : IfErr r (λ _. EachBroken is_ready home sees query workers number olds news)

-- what several members gathered: the lists of their answers, or some ran out of memory
pub record GatheredEach {T A X E : Type 0} (is_ready : T → Type 0) (home : T → Home) (sees : T → Views → Type 0) (query : Query A) (workers number parts : ℕ) (given : X → List (List Datum)) (r : Result X E) (olds news : List T) : Type 0 where
  pub done : IfOk r (λ lists. (length (given lists) ≡ parts) × EachAnswers is_ready home sees query workers (given lists) number olds news)
  pub refused : IfErr r (λ _. EachBroken is_ready home sees query workers number olds news)

-- lists of answers that are one worker's at its own parts, and those of others at the other parts
abbrev pub AreJoined : ℕ → ℕ → ℕ → List (List Datum) → List (List Datum) → List (List Datum) → Type 0
AreJoined workers number parts own others lists =
    (part : ℕ) → part < parts
    → answers_of lists part ≡ (if is_share workers number part then answers_of own part else answers_of others part)

-- lists of answers joined from two results that both have answers
abbrev pub AreBothJoined : {X E : Type 0} → (X → List (List Datum)) → ℕ → ℕ → ℕ → Result X E → Result X E → List (List Datum) → Type 0
AreBothJoined given workers number parts (Ok own) (Ok others) lists =
    AreJoined workers number parts (given own) (given others) lists
AreBothJoined given workers number parts own others lists = ⊥

-- a worker that counted to its end; if some worker of the selection failed, this one may have run out of memory
abbrev pub Tallied : Home → (ℕ → Walk) → (ℕ → Bool) → Bool → ℕ → Views → Views → Type 0
Tallied h walk own refused count v u =
    MatchBool refused (Counted h walk own count v u ⊎ BrokenAt h walk own count v u) (Counted h walk own count v u)

-- Each member counted or deleted in its own parts, and this is their number, at most 2^64 - 1.
abbrev pub EachTallied : {T A : Type 0} → (T → Type 0) → (T → Home) → (T → Views → Type 0) → Query A → Purpose → ℕ → Bool → ℕ → ℕ → List T → List T → Type 0
EachTallied is_ready home sees query purpose workers refused count number olds news =
    (total : ℕ) × IsTotal total count
    × EachAdding (λ n own. Did is_ready home sees (λ h. Tallied h (part_walk h purpose query) (is_share workers n) refused own)) total number olds news

-- there are 1 to 16 members
abbrev pub AreFew : ℕ → Type 0
AreFew count = (0 < count) × (count ≤ 16)
