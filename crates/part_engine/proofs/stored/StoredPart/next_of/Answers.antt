use Rattle.std.proofs.Common.{◌≡◌, ℕ, ◌-◌, sum_by, take, sym, ◌∙◌}
use Rattle.std.specs.Option.{option_map}
use Rattle.std.proofs.lemmas.Result.{IfOk-weaker}
use Rattle.part_core.specs.Ops.{cursor_of, scope_of}
use Rattle.part_core.specs.Rows.{Row}
use Rattle.part_core.specs.Visits.{next_key}
use Rattle.part_engine.proofs.SeenLemmas.{next_stops}
use Rattle.part_engine.proofs.stored.StoredPart.next_of.Goals as goal

pub returns-then-not-stops : goal.returns-then-not-stops
returns-then-not-stops g c = λ answers wanted left.
    c.next_class.ensures answers wanted (take c.args.reach.rows c.args.rows.now)

pub returns : goal.returns
returns g c =
    IfOk-weaker c.following_key.result (λ next. (answers : Row → ℕ) (wanted : ℕ) → c.args.reach.left ≡ wanted - sum_by answers (take c.args.reach.rows c.args.rows.now) → option_map cursor_of next ≡ next_key answers wanted (take c.args.reach.rows c.args.rows.now)) _
    (λ next is answers wanted left. is answers wanted left ∙ sym (next_stops c.args.self.now.settings c.args.self.now.base (scope_of c.args.scope.now) answers wanted (take c.args.reach.rows c.args.rows.now) (sym c.stops.ensures ∙ c.if-not-stops.false))) c.following_key.ensures
