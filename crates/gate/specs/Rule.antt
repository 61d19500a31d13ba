-- What holds of a gate between any two steps: of its word, its slot, and the views of all that make steps there.
use Rattle.std.specs.Prelude.{ℕ, ◌≡◌, ◌≢◌, ◌≤◌, ◌⊎◌, [], ◌∷◌, List}
use mathlib.Core.Option.{none, some}
use lib.ListN.{get_elem?}
use Rattle.atomic_table.specs.Table.{State}
use Rattle.part_core.specs.declared.settings.Settings.{Settings}
use Rattle.part_core.specs.Acts.{History}
use Rattle.gate.specs.declared.view.Role.{Role}
use Rattle.gate.specs.declared.view.Role.TheVariants.{Opener, Session, Holder, Note}
use Rattle.gate.specs.declared.view.View.{View}
use Rattle.gate.specs.Views.{own, GoesOn}

-- the sessions whose number is in a view: the opener has those for which no pass has been made yet
abbrev pub Has : Role → ℕ → Type 0
Has (Opener first) n = first ≤ n
Has (Session k) n = k ≡ n
Has (Holder k) n = k ≡ n
Has Note n = ⊥

-- the view is that of a session that has taken the part out
abbrev pub Holds : Role → Type 0
Holds (Holder k) = Unit {0}
Holds other = ⊥

-- the session of a view, 0 if it has none
abbrev pub number_of : Role → ℕ
number_of (Session k) = k
number_of (Holder k) = k
number_of other = 0

-- Views of the opener, of a session that has seen a history, and of a session that holds the part.
abbrev pub opener : Settings → ℕ → View
opener o first = record { settings = o; role = Opener first; seen = []; told = [] }

abbrev pub seer : View → History → View
seer v log = record { settings = v.settings; role = Session (number_of v.role); seen = log; told = v.told }

abbrev pub holder : View → History → View
holder v log = record { settings = v.settings; role = Holder (number_of v.role); seen = log; told = v.told }

-- A view is true to the part's history. A view with a session's number has the part's settings. The history begins with
-- what was seen (`seen`), and with what another session's note showed (`told`). Each session whose number is in the
-- view has all its entries in what was seen.
pub record Fits (o : Settings) (log : History) (v : View) : Type 0 where
  pub knows : (n : ℕ) → Has v.role n → v.settings ≡ o
  pub seen : GoesOn v.seen log
  pub told : GoesOn v.told log
  pub whole : (n : ℕ) → Has v.role n → own n log ≡ own n v.seen

-- all views are true to the part's history
abbrev pub AreFit : Settings → History → List View → Type 0
AreFit o log views = (i : ℕ) (v : View) → get_elem? views i ≡ some v → Fits o log v

-- each session's number is in at most one view
abbrev pub AreApart : List View → Type 0
AreApart views = (i j : ℕ) (v w : View) (n : ℕ) → get_elem? views i ≡ some v → get_elem? views j ≡ some w
    → Has v.role n → Has w.role n → i ≡ j

-- no session has taken the part out
abbrev pub NobodyHolds : List View → Type 0
NobodyHolds views = (i : ℕ) (v : View) → get_elem? views i ≡ some v → ¬ (Holds v.role)

-- exactly one session has taken the part out, and it has seen the whole history
pub record OneHolds (log : History) (views : List View) : Type 0 where
  pub seat : ℕ
  pub view : View
  pub there : get_elem? views seat ≡ some view
  pub holds : Holds view.role
  pub seen : view.seen ≡ log
  pub only : (i : ℕ) (v : View) → get_elem? views i ≡ some v → Holds v.role → i ≡ seat

module _ {P : Type 0} (settings : P → Settings) (IsAfter : P → History → Type 0) (o : Settings) where
  -- the part is at home, in the state after its history
  pub record IsHome (s : State P View) (log : History) : Type 0 where
    pub part : P
    pub word : s.words ≡ 0 ∷ []
    pub slot : s.homes ≡ some part ∷ []
    pub settled : settings part ≡ o
    pub after : IsAfter part log
    pub nobody : NobodyHolds s.views

  -- the part is out
  pub record IsOut (s : State P View) (log : History) : Type 0 where
    pub found : ℕ
    pub word : s.words ≡ found ∷ []
    pub out : found ≢ 0
    pub slot : s.homes ≡ none ∷ []
    pub one : OneHolds log s.views

  -- all views are true to one history, each session's number is in at most one of them, and the part is at home or out
  pub record IsKept (s : State P View) (log : History) : Type 0 where
    pub fit : AreFit o log s.views
    pub apart : AreApart s.views
    pub place : IsHome s log ⊎ IsOut s log

  abbrev pub Keeps : State P View → Type 0
  Keeps s = (log : History) × IsKept s log
