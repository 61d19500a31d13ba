-- What the members of a selection find together: the answer of a query over all parts of their table. The moments of
-- each part are those that its worker sees.
use Rattle.std.specs.Prelude.{ℕ, ◌≡◌, ◌≢◌, ◌<◌, ◌≤◌, ◌+◌, ◌⊎◌, ◌%◌, not, false, IsTrue, All, AllPairs, Contains, None, filter, map, flat_map, get_or, List, [], ◌∷◌, length, min}
use Rattle.term_core.specs.Datum.{Datum}
use Rattle.mcode.specs.Answer.{answer_of}
use Rattle.mcode.specs.Program.{Program}
use Rattle.part_core.specs.Acts.{Purpose}
use Rattle.part_core.specs.Acts.Purpose.{Answers, Deletes}
use Rattle.part_core.specs.Replies.{most_counted}
use Rattle.part_core.specs.Settings.{is_object, key_of, part_of}
use Rattle.part_core.specs.Visits.{is_true}
use Rattle.tables.specs.declared.options.Options.{Options}
use Rattle.tables.specs.Options.{settings_of}
use Rattle.tables.specs.Turns.{Home, Views}
use Rattle.walk_core.specs.Moments.{Span, IsMoment, Mark, IsGrown, ArePlaced, answers_at}
use Rattle.walk_core.specs.Once.{IsVisitAt, content_at}
use Rattle.walk_core.specs.Walk.{Walk}
use Rattle.walk_query.specs.declared.query.Query.{Query}
use Rattle.parallel_select.specs.Parts.{walk_through}
use Rattle.parallel_select.specs.Workers.{EachAnswers, EachTallied}

-- for each part, by its number: the walk of its worker there, the call in which this was made, and what the worker sees
pub record PartWalks : Type 0 where
  pub walk : ℕ → Walk
  pub call : ℕ → Span
  pub now : ℕ → Views

-- the part of a key
abbrev pub place_of : Options → Datum → ℕ
place_of o k = part_of (settings_of o) k

-- a moment of a key in the walk of its part
abbrev pub IsPartMoment : Options → PartWalks → Datum → ℕ → Type 0
IsPartMoment o ws k moment =
    IsMoment (ws.walk (place_of o k)) (ws.call (place_of o k) ∷ []) (ws.now (place_of o k)) k moment

-- the answers for a key's objects at a moment of its part
abbrev pub part_answers_at : Options → PartWalks → Datum → ℕ → List Datum
part_answers_at o ws k moment = answers_at (ws.walk (place_of o k)) (ws.now (place_of o k)) k moment

-- there is a moment of the key at which its objects yield nothing, or the query has no answer for any object with this key
abbrev pub IsUnanswered : Options → Program → PartWalks → Datum → Type 0
IsUnanswered o p ws k =
    ((moment : ℕ) × IsPartMoment o ws k moment × (part_answers_at o ws k moment ≡ []))
    ⊎ ((t : Datum) → IsTrue (is_object (settings_of o) t) → key_of (settings_of o) t ≡ k → answer_of p t ≡ None)

-- There are distinct keys, in the order of their parts, each with one moment of its part. The answers are those for
-- each key's objects at its moment, one key after the other. Every other key is unanswered. No key has two moments.
pub record AreAnswers (o : Options) (p : Program) (ws : PartWalks) (found : List Datum) : Type 0 where
  pub marks : List Mark
  pub apart : AllPairs (λ l m. l.key ≢ m.key) marks
  pub ordered : AllPairs (λ l m. place_of o l.key ≤ place_of o m.key) marks
  pub moments : All (λ m. IsPartMoment o ws m.key m.moment) marks
  pub sum : found ≡ flat_map (λ m. part_answers_at o ws m.key m.moment) marks
  pub silent : (k : Datum) → Contains (map (λ m. m.key) marks) k ⊎ IsUnanswered o p ws k
  pub once : (k : Datum) (m n : ℕ) → IsPartMoment o ws k m → IsPartMoment o ws k n → m ≡ n

-- the walks of `workers` workers, whose sessions have these numbers and see these views
abbrev pub shared_walks : {A : Type 0} → Options → (ℕ → ℕ) → Purpose → Query A → ℕ → (ℕ → Span) → (ℕ → Views) → PartWalks
shared_walks o numbers purpose q workers call now = record {
  walk = λ part. walk_through o (numbers (part % workers)) purpose q part;
  call = call;
  now = λ part. now (part % workers);
}

-- The answers are those of the walks of workers that saw `before` at the beginning and see `now`.
pub record FindTogether {A : Type 0} (o : Options) (numbers : ℕ → ℕ) (purpose : Purpose) (q : Query A) (workers : ℕ) (before now : ℕ → Views) (found : List Datum) : Type 0 where
  pub call : ℕ → Span
  pub within : (part : ℕ) → part < o.parts
      → IsGrown o (before (part % workers)) (call part).before × IsGrown o (call part).after (now (part % workers))
  pub answers : AreAnswers o q.code (shared_walks o numbers purpose q workers call now) found

-- the objects of a key after the first `count` entries of its part
abbrev pub part_content_at : Options → PartWalks → Datum → ℕ → List Datum
part_content_at o ws k count = content_at (ws.walk (place_of o k)) (ws.now (place_of o k)) k count

-- a visit of the walk of the key's part, whether or not it covers the key
abbrev pub IsPartVisit : Options → PartWalks → Datum → ℕ → Type 0
IsPartVisit o ws k place =
    IsVisitAt (ws.walk (place_of o k)) (ws.call (place_of o k) ∷ []) (ws.now (place_of o k)) k place

-- For each visit of a walk that deletes and each key of its part: either the visit is the key's moment among the marks,
-- and removes the objects for which the query returns true, which are the key's answers; or it removes nothing.
abbrev pub TakeTheAnswers : (o : Options) (p : Program) (ws : PartWalks) → List Mark → Type 0
TakeTheAnswers o p ws marks =
    (k : Datum) (place : ℕ) → IsPartVisit o ws k place
    → (Contains marks (record { key = k; moment = place })
    × (part_content_at o ws k (place + 1) ≡ filter (λ t. not (is_true p t)) (part_content_at o ws k place))
    × (part_answers_at o ws k place ≡ filter (is_true p) (part_content_at o ws k place)))
    ⊎ (part_content_at o ws k (place + 1) ≡ part_content_at o ws k place)

-- What workers that delete find together, they remove, each object at its key's moment, and nothing else.
pub record RemoveTogether {A : Type 0} (o : Options) (numbers : ℕ → ℕ) (q : Query A) (workers : ℕ) (before now : ℕ → Views) (found : List Datum) : Type 0 where
  pub find : FindTogether o numbers Deletes q workers before now found
  pub take : TakeTheAnswers o q.code (shared_walks o numbers Deletes q workers find.call now) find.answers.marks

-- sessions of a table with these options that can make turns, and, by position, the number of each, and what it sees
pub record AreAt {T : Type 0} (is_ready : T → Type 0) (home : T → Home) (sees : T → Views → Type 0) (o : Options) (numbers : ℕ → ℕ) (views : ℕ → Views) (members : List T) : Type 0 where
  pub ready : All is_ready members
  pub home_of : (n : ℕ) (d : T) → n < length members
      → ((home (get_or members n d)).options ≡ o) × ((home (get_or members n d)).number ≡ numbers n)
  pub seen : (n : ℕ) (d : T) → n < length members → sees (get_or members n d) (views n)

-- What members answered part by part is what they find together.
abbrev pub PartsJoin : {T : Type 0} → Type 0 → (T → Type 0) → (T → Home) → (T → Views → Type 0) → Type 0
PartsJoin {T} A is_ready home sees =
    (o : Options) (numbers : ℕ → ℕ) (q : Query A) (lists : List (List Datum)) (before : ℕ → Views) (olds news : List T)
    → 0 < length olds → AreAt is_ready home sees o numbers before olds
    → EachAnswers is_ready home sees q (length olds) lists 0 olds news
    → (now : ℕ → Views) × AreAt is_ready home sees o numbers now news
    × (((n : ℕ) → n < length olds → ArePlaced o (now n))
    → FindTogether o numbers Answers q (length olds) before now (flat_map (λ list. list) lists))

-- What members counted, or deleted and counted, is the number of what they find together, at most 2^64 - 1.
abbrev pub CountsJoin : {T : Type 0} → Type 0 → (T → Type 0) → (T → Home) → (T → Views → Type 0) → Type 0
CountsJoin {T} A is_ready home sees =
    (o : Options) (numbers : ℕ → ℕ) (purpose : Purpose) (q : Query A) (count : ℕ) (before : ℕ → Views) (olds news : List T)
    → 0 < length olds → AreAt is_ready home sees o numbers before olds
    → EachTallied is_ready home sees q purpose (length olds) false count 0 olds news
    → (now : ℕ → Views) × (found : List Datum) × AreAt is_ready home sees o numbers now news
    × (count ≡ min (length found) most_counted)
    × (((n : ℕ) → n < length olds → ArePlaced o (now n))
    → FindTogether o numbers purpose q (length olds) before now found)

-- What members deleted is what they find together. It is gone from the content of their parts. Their count is its
-- number, at most 2^64 - 1.
abbrev pub RemovalsJoin : {T : Type 0} → Type 0 → (T → Type 0) → (T → Home) → (T → Views → Type 0) → Type 0
RemovalsJoin {T} A is_ready home sees =
    (o : Options) (numbers : ℕ → ℕ) (q : Query A) (count : ℕ) (before : ℕ → Views) (olds news : List T)
    → 0 < length olds → AreAt is_ready home sees o numbers before olds
    → EachTallied is_ready home sees q Deletes (length olds) false count 0 olds news
    → (now : ℕ → Views) × (found : List Datum) × AreAt is_ready home sees o numbers now news
    × (count ≡ min (length found) most_counted)
    × (((n : ℕ) → n < length olds → ArePlaced o (now n))
    → RemoveTogether o numbers q (length olds) before now found)
