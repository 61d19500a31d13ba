use Rattle.std.proofs.Common.{refl}
use Rattle.std.proofs.Math.Logic.{∥∥₁_map}
use Rattle.part_core.specs.Legal.{state_after}
use Rattle.tables.specs.Options.{settings_of}
use Rattle.open_table.specs.Facts.{some_views}
use Rattle.open_table.specs.Parts.{options_in}
use Rattle.open_table.proofs.table.OpenTable.is_in_a_state.Goals as goal

pub returns : goal.returns
returns g c =
    let parts = c.args.self.now.parts in
    let o = options_in parts in
    ∥∥₁_map (some_views parts) (λ s. (
      record { options = o; states = λ k. state_after (settings_of o) (s.0 k) },
      record { options = refl; views = s.0; seen = s.1; states = λ k inside. refl },
    ))
