-- The characters of the texts of truth values.
use Rattle.std.proofs.Common.{◌≡◌, refl}
use Rattle.std.specs.Prelude.{codes}
use Rattle.std.specs.Str.{chars}

pub chars-true : chars (codes "true") ≡ codes "true"
unfolding chars
chars-true = refl

pub chars-false : chars (codes "false") ≡ codes "false"
unfolding chars
chars-false = refl
