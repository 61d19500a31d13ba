use Rattle.std.proofs.Common.{sym}
use Rattle.part_hash.proofs.rows.HashRowsRows.new.Goals as goal

pub returns : goal.returns
returns g c = record {
  served = c.requires;
  rows = c.in_ok-empty.ensures.rows c.args.settings;
  spread = c.spread_of.ensures.value;
  slots = sym c.in_ok-empty.ensures.slots;
}
