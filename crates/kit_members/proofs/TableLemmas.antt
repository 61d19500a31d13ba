-- Sessions that were opened, and members of one table.
use Rattle.std.proofs.Common.{◌≡◌, List, [], ◌∷◌, map, sym, ◌∙◌}
use Rattle.std.specs.Prelude.{All}
use Rattle.std.proofs.lemmas.List.Elements.{All-map, All-weaker, All-head, All-tail}
use Rattle.std.proofs.lemmas.Option.{slice_get-get_or}
use Rattle.tables.specs.declared.options.Options.{Options}
use Rattle.gate.specs.declared.session.Session.{Session}
use Rattle.tables.specs.Opened.{AllOpened}
use Rattle.tables.specs.Sessions.{IsOpened}
use Rattle.tables.specs.Turns.{Home}
use Rattle.parallel_select.specs.Workers.{AreOfOneTable}

-- each session of a list is opened with the table
pub each_opened : {P A : Type 0} (o : Options) (gates : _) (sessions : List (Session P A))
    → AllOpened o gates sessions → All (λ (s : Session P A). IsOpened o gates s.number s.passes.items) sessions
each_opened o gates sessions opened = λ k d within. opened k _ (slice_get-get_or sessions k d within)

-- members of which each has this table's options and gates
pub of_one_table : {X : Type 0} (home : X → Home) (o : Options) (gates : _) (xs : List X)
    → All (λ x. ((home x).options ≡ o) × ((home x).gates ≡ gates)) xs → AreOfOneTable (map home xs)
of_one_table home o gates [] all = tt
of_one_table home o gates (x ∷ xs) all =
    let here = All-head (λ y. ((home y).options ≡ o) × ((home y).gates ≡ gates)) x xs all in
    All-map (λ other. (other.options ≡ (home x).options) × (other.gates ≡ (home x).gates)) home xs
    (All-weaker (λ y. ((home y).options ≡ o) × ((home y).gates ≡ gates))
    (λ y. ((home y).options ≡ (home x).options) × ((home y).gates ≡ (home x).gates))
    (λ y h. (h.0 ∙ sym here.0, h.1 ∙ sym here.1)) xs
    (All-tail (λ y. ((home y).options ≡ o) × ((home y).gates ≡ gates)) x xs all))
