-- What walks gain: answers, or how many objects were counted or deleted.
use Rattle.std.specs.Prelude.{◌≡◌, ◌+◌, ◌++◌, Bool, true, false, List, length, min}
use Rattle.term_core.specs.Datum.{Datum}
use Rattle.part_core.specs.Acts.{Purpose, Said}
use Rattle.part_core.specs.Acts.Purpose.{Answers, Counts, Deletes}
use Rattle.part_core.specs.Acts.Said.{Found, Counted}
use Rattle.part_core.specs.Replies.{most_counted}
use Rattle.parallel_select.specs.declared.gained.Gained.{Gained}
use Rattle.parallel_select.specs.declared.gained.Gained.TheVariants as gained
use Rattle.parallel_select.specs.declared.gained.Asking.{Asking}
use Rattle.parallel_select.specs.declared.gained.Asking.TheVariants as asking

-- the purpose of visits
abbrev pub purpose_of : Asking → Purpose
purpose_of asking.Answers = Answers
purpose_of asking.Counts = Counts
purpose_of asking.Deletes = Deletes

-- visits that count, or delete and count
abbrev pub is_counting : Asking → Bool
is_counting asking.Answers = false
is_counting counting = true

-- a count is gained, not answers
abbrev pub is_count : {A : Type 0} → Gained A → Bool
is_count (gained.Answers answers) = false
is_count (gained.Count count) = true

-- what is gained fits such visits: answers, or a count
abbrev pub IsFor : {A : Type 0} → Asking → Gained A → Type 0
IsFor asking g = is_count g ≡ is_counting asking

-- `found` is all that was found so far: the answers, or the objects whose number, at most 2^64 - 1, is the count
abbrev pub IsGained : {A : Type 0} → Gained A → List Datum → Type 0
IsGained (gained.Answers answers) found = answers.items ≡ found
IsGained (gained.Count count) found = count ≡ min (length found) most_counted

-- if a count is gained, it is the number of these objects; nothing is known of answers
abbrev pub IsCounted : {A : Type 0} → Gained A → List Datum → Type 0
IsCounted (gained.Answers answers) found = Unit {0}
IsCounted (gained.Count count) found = count ≡ min (length found) most_counted

-- `found` was gained in addition to what was gained before
abbrev pub Gains : {A : Type 0} → Gained A → Gained A → List Datum → Type 0
Gains before after found = (earlier : List Datum) → IsGained before earlier → IsGained after (earlier ++ found)

-- if a count is gained, `found` was added to it; nothing is known of answers
abbrev pub Adds : {A : Type 0} → Gained A → Gained A → List Datum → Type 0
Adds before after found = (earlier : List Datum) → IsGained before earlier → IsCounted after (earlier ++ found)

-- a visit returned what can be gained: answers, or a count
abbrev pub is_told : {A : Type 0} → Gained A → Said → Bool
is_told (gained.Answers answers) (Found found next) = true
is_told (gained.Count count) (Counted more next) = true
is_told gained said = false

-- what a visit returned was added to what was gained
abbrev pub TakesIn : {A : Type 0} → Said → Gained A → Gained A → Type 0
TakesIn (Found found next) (gained.Answers before) (gained.Answers after) = after.items ≡ before.items ++ found
TakesIn (Counted more next) (gained.Count before) (gained.Count after) = after ≡ min (before + more) most_counted
TakesIn said before after = ⊥
