-- What holds of a part of either sort, in terms of what holds of its own.
use Rattle.std.specs.Prelude.{Bool}
use Rattle.part_core.specs.declared.kind.TableKind.{TableKind}
use Rattle.part_core.specs.declared.kind.TableKind.TheVariants as kind
use Rattle.part_core.specs.declared.settings.Settings.{Settings}
use Rattle.part_core.specs.Acts.{History}
use Rattle.part_either.specs.declared.either.EitherPart.{EitherPart}
use Rattle.part_either.specs.declared.either.EitherPart.TheVariants.{Unordered, Ordered}

-- ordered sets are served by the one sort, all other kinds by the other
abbrev pub served_by : (unordered ordered : TableKind → Bool) → TableKind → Bool
served_by unordered ordered kind.OrderedSet = ordered kind.OrderedSet
served_by unordered ordered kind = unordered kind

abbrev pub settings_by : {S O : Type 0} → (S → Settings) → (O → Settings) → EitherPart S O → Settings
settings_by unordered ordered (Unordered part) = unordered part
settings_by unordered ordered (Ordered part) = ordered part

abbrev pub IsAfterBy : {S O : Type 0} → (S → History → Type 0) → (O → History → Type 0) → EitherPart S O → History → Type 0
IsAfterBy unordered ordered (Unordered part) log = unordered part log
IsAfterBy unordered ordered (Ordered part) log = ordered part log
