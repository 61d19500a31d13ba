-- The fact that the impl of `Part` for parts of either sort has to provide.
use Rattle.part_core.specs.declared.settings.Settings.{Settings}
use Rattle.part_core.specs.Acts.{History}
use Rattle.part_core.specs.Legal.{IsLegal}
use Rattle.part_either.specs.declared.either.EitherPart.{EitherPart}
use Rattle.part_either.specs.declared.either.EitherPart.TheVariants.{Unordered, Ordered}
use Rattle.part_either.specs.Either.{settings_by, IsAfterBy}

-- each history that a part of either sort is after is legal
pub legal_by : {S O : Type 0} (s : S → Settings) (o : O → Settings) (after_s : S → History → Type 0) (after_o : O → History → Type 0)
    → ((p : S) (log : History) → after_s p log → IsLegal (s p) log)
    → ((p : O) (log : History) → after_o p log → IsLegal (o p) log)
    → (p : EitherPart S O) (log : History) → IsAfterBy after_s after_o p log → IsLegal (settings_by s o p) log
legal_by s o after_s after_o legal_s legal_o (Unordered p) log after = legal_s p log after
legal_by s o after_s after_o legal_s legal_o (Ordered p) log after = legal_o p log after
