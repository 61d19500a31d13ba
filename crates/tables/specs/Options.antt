-- The options of a table. (STDLIB Reference Manual, ets:new/2.)
use Rattle.std.specs.Prelude.{◌≡◌, Bool, IsTrue}
use Rattle.part_core.specs.declared.kind.TableKind.{TableKind}
use Rattle.part_core.specs.declared.settings.Settings.{Settings}
use Rattle.part_core.specs.Settings.{is_ordered}
use Rattle.part_core.specs.Served.{settings_with, IsServed}
use Rattle.tables.specs.declared.options.Options.{Options}

-- the settings that all parts of the table share
abbrev pub settings_of : Options → Settings
settings_of o = settings_with o.kind o.keypos o.parts o.sessions

-- parts of this sort can serve a table with these options: each number is in its range, and an ordered set has one part
pub record IsOpenable (serves : TableKind → Bool) (o : Options) : Type 0 where
  pub served : IsServed serves (settings_of o)
  pub whole : IsTrue (is_ordered o.kind) → o.parts ≡ 1
