-- The course of a walk: visit after visit, each one turn of the session at a part.
use Rattle.std.specs.Prelude.{ℕ, ◌≡◌, ◌≢◌, ◌<◌, ◌-◌, ◌++◌, Some, List, length}
use Rattle.term_core.specs.Datum.{Datum}
use Rattle.part_core.specs.Acts.{Said, History, next_in}
use Rattle.part_core.specs.Acts.Act.{Visit}
use Rattle.part_core.specs.Acts.Answer.{Replied}
use Rattle.part_core.specs.Legal.{state_after, IsLegal}
use Rattle.part_core.specs.Replies.{most_counted, yield_of}
use Rattle.tables.specs.Options.{settings_of}
use Rattle.tables.specs.Turns.{Home, Views, IsBetween, Turned}
use Rattle.walk_core.specs.Walk.{Walk, Position, part_at, scope_at, next_position}
use Rattle.walk_core.specs.Walk.Position.{Over}

-- a walk in progress: what the session sees, the position of the walk, and the answers so far, or the objects counted or deleted
pub record Way : Type 0 where
  pub views : Views
  pub at : Position
  pub gained : List Datum

abbrev pub way : Views → Position → List Datum → Way
way views at gained = record { views = views; at = at; gained = gained }

-- the session is that of the walk: at a table with the walk's options, and with its number
pub record IsAt (h : Home) (w : Walk) : Type 0 where
  pub options : h.options ≡ w.options
  pub number : h.number ≡ w.number

-- the history of a part before a visit: what was seen of it, and the entries of others that came between
abbrev pub past_of : (h : Home) (w : Walk) (wanted : ℕ) (a b : Way) (said : Said)
    → Turned h (part_at w a.at) (Visit w.purpose w.program (scope_at w a.at) wanted) (Some (Replied said)) a.views b.views
    → History
past_of h w wanted a b said turned = a.views (part_at w a.at) ++ turned.here.between

-- One visit: one turn at the part where the walk is, with its purpose and its code. The walk goes on where the answer
-- says, and gains what the query yields for what the visit looked at.
pub record Visits (h : Home) (w : Walk) (wanted : ℕ → ℕ) (a b : Way) : Type 0 where
  pub said : Said
  pub turned : Turned h (part_at w a.at) (Visit w.purpose w.program (scope_at w a.at) (wanted (length a.gained)))
      (Some (Replied said)) a.views b.views
  pub at : b.at ≡ next_position w a.at (next_in said)
  pub gained : b.gained ≡ a.gained ++ yield_of (settings_of w.options)
      (state_after (settings_of w.options) (past_of h w (wanted (length a.gained)) a b said turned))
      w.purpose w.program (scope_at w a.at) (wanted (length a.gained))

-- any number of visits, one after the other; `wanted` gives the target of a visit, depending on the number of answers so far
pub data Goes (h : Home) (w : Walk) (wanted : ℕ → ℕ) (a : Way) : Way → Type 0 where
  stays : Goes h w wanted a a
  goes : {b c : Way} → Goes h w wanted a b → b.at ≢ Over → Visits h w wanted b c → Goes h w wanted a c

-- the target of a walk in pieces: what is missing to its limit
abbrev pub up_to : ℕ → ℕ → ℕ
up_to limit count = limit - count

-- the target of a walk that counts: the greatest number that is counted
abbrev pub whole : ℕ → ℕ
whole count = most_counted

-- Other sessions may have made entries at the parts, and the session made none.
abbrev pub Drifted : Home → Views → Views → Type 0
Drifted h v w =
    (part : ℕ) → part < h.options.parts
    → (between : History) × IsBetween h between × (w part ≡ v part ++ between) × IsLegal (settings_of h.options) (w part)

-- visits, and then one that ran out of memory, or none
abbrev pub Stops : Home → Walk → (ℕ → ℕ) → Way → Position → List Datum → Views → Type 0
Stops h w wanted a at gained now =
    (last : Views) × Goes h w wanted a (way last at gained) × Drifted h last now
