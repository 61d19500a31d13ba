-- Sessions that are taken from those that were opened, from the last to the first.
use Rattle.std.proofs.Common.{ℕ, ◌≡◌, ◌<◌, ◌++◌, List, [], ◌∷◌, Some, length, slice_get, ap, sym, subst, ◌∙◌, arith}
use Rattle.std.proofs.lemmas.Option.{slice_get_within, slice_get-get_or, get_or_from_slice_get}
use Rattle.std.proofs.lemmas.List.{get_or_append_left, length-append}
use Rattle.std.proofs.Math.Seq.{get_or-append_seam}
use Rattle.gate.specs.Views.{GateId}
use Rattle.tables.specs.declared.options.Options.{Options}
use Rattle.gate.specs.declared.session.Session.{Session}
use Rattle.tables.specs.Opened.{AllOpened, AreOpened}
use Rattle.tables.specs.Sessions.{IsOpened}

-- an element of a list is at the same position after others are appended
got_before : {X : Type 0} (xs ys : List X) (k : ℕ) (x : X) → slice_get xs k ≡ Some x → slice_get (xs ++ ys) k ≡ Some x
got_before xs ys k x there =
    let within : k < length xs = slice_get_within xs k x there in
    slice_get-get_or (xs ++ ys) k x (omega (arith, within, length-append xs ys))
    ∙ ap Some (get_or_append_left xs ys x k within ∙ get_or_from_slice_get xs k x x there)

-- all sessions but the last were opened with the table
pub front_opened : {P A : Type 0} (o : Options) (gates : List GateId) (all front : List (Session P A)) (last : Session P A)
    → all ≡ front ++ last ∷ [] → AllOpened o gates all → AllOpened o gates front
front_opened o gates all front last same opened = λ k s there.
    opened k s (subst (λ (ss : List _). slice_get ss k ≡ Some s) (sym same) (got_before front (last ∷ []) k s there))

-- the last session was opened with the table
pub last_opened : {P A : Type 0} (o : Options) (gates : List GateId) (all front : List (Session P A)) (last : Session P A)
    → all ≡ front ++ last ∷ [] → AllOpened o gates all → IsOpened o gates last.number last.passes.items
last_opened o gates all front last same opened =
    opened (length front) last (subst (λ (ss : List _). slice_get ss (length front) ≡ Some last) (sym same)
    (slice_get-get_or (front ++ last ∷ []) (length front) last (omega (arith, length-append front (last ∷ []))) ∙ ap Some (get_or-append_seam front last [] last)))

-- all sessions of a table that was opened with these options
pub all_opened : {P A : Type 0} (o opened : Options) (gates : List GateId) (sessions : List (Session P A))
    → opened ≡ o → AreOpened o gates sessions → AllOpened opened gates sessions
all_opened o opened gates sessions same all = subst (λ (x : Options). AllOpened x gates sessions) (sym same) all.opened
