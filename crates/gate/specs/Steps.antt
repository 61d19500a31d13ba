-- What the steps at a gate return to the sessions that make them.
use Rattle.std.specs.Prelude.{ℕ, suc, ◌≡◌, ◌==◌, ◌⊎◌, MatchBool, [], ◌∷◌, ◌++◌}
use Rattle.atomic_table.specs.Table.{Me, Step}
use Rattle.part_core.specs.declared.settings.Settings.{Settings}
use Rattle.part_core.specs.Acts.{History}
use Rattle.part_core.specs.Served.{settings_with}
use Rattle.part_core.specs.declared.kind.TableKind.TheVariants.{Set}
use Rattle.gate.specs.declared.view.View.{View}
use Rattle.gate.specs.declared.view.Role.{Role}
use Rattle.gate.specs.declared.view.Role.TheVariants.{Opener, Session, Note}
use Rattle.gate.specs.Views.{own, GoesOn}
use Rattle.gate.specs.Rule.{number_of, seer, holder}

module _ {P : Type 0} (settings : P → Settings) (IsAfter : P → History → Type 0) where
  -- The part was taken: it is in the state after a history that continues what was seen, with entries of other sessions only.
  pub record IsTaken (me now : Me P View) : Type 0 where
    pub part : P
    pub between : History
    pub others : own (number_of me.0.role) between ≡ []
    pub view : now ≡ (holder me.0 (me.0.seen ++ between), (0, part) ∷ [])
    pub settled : settings part ≡ me.0.settings
    pub after : IsAfter part (me.0.seen ++ between)

  -- A part that was taken out is held: it is in the state after a history.
  pub record IsHeld (me : Me P View) (log : History) : Type 0 where
    pub part : P
    pub slots : me.1 ≡ (0, part) ∷ []
    pub settled : settings part ≡ me.0.settings
    pub after : IsAfter part log

  -- an attempt to take the part: it was at home and is taken, or it was out
  abbrev pub Takes : Step P → Me P View → ℕ → Me P View → Type 0
  Takes s me found now = MatchBool (found == 0) (IsTaken me now) (now ≡ me)

-- the part was put back, with more in its history
abbrev pub PutsBack : {P : Type 0} → History → Step P → Me P View → ℕ → Me P View → Type 0
PutsBack more s me found now = now ≡ (seer me.0 (me.0.seen ++ more), [])

-- of what the view has seen and what another session's note showed, one begins with the other
abbrev pub Compares : {P : Type 0} → Step P → Me P View → ℕ → Me P View → Type 0
Compares s me found now = (now ≡ me) × (GoesOn me.0.seen me.0.told ⊎ GoesOn me.0.told me.0.seen)

-- the note of what a view has seen, and a view after it got another view's note
abbrev pub note_of : View → View
note_of v = record { settings = v.settings; role = Note; seen = v.seen; told = [] }

abbrev pub told_of : View → View → View
told_of v note = record { settings = v.settings; role = v.role; seen = v.seen; told = note.seen }

-- the note after it was handed over: nothing is left of it
abbrev pub empty_note : View
empty_note = record { settings = settings_with Set 1 1 1; role = Note; seen = []; told = [] }

-- the opener after it has made a pass for the next session, and that session's view
abbrev pub later_opener : Role → Role
later_opener (Opener first) = Opener (suc first)
later_opener other = other

abbrev pub next_session : Role → Role
next_session (Opener first) = Session first
next_session other = Note

abbrev pub opener_after : View → View
opener_after v = record { settings = v.settings; role = later_opener v.role; seen = v.seen; told = v.told }

abbrev pub first_view : View → View
first_view v = record { settings = v.settings; role = next_session v.role; seen = []; told = [] }
