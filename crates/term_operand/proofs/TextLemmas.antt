-- The texts of truth values.
use Rattle.std.proofs.Common.{◌≡◌, ℕ, List, refl, rules}
use Rattle.std.specs.Prelude.{codes}
use Rattle.std.specs.Str.{chars, IsUtf8, bytes_eq}
use Rattle.term_core.specs.Datum.Datum.{atom}
use Rattle.term_core.specs.Limits.{IsSound}
use Rattle.term_core.proofs.TextEq.{ascii_eq}

pub chars-true : chars (codes "true") ≡ codes "true"
unfolding chars
chars-true = refl

pub chars-false : chars (codes "false") ≡ codes "false"
unfolding chars
chars-false = refl

pub sound-true : IsSound (atom (chars (codes "true")))
sound-true = rw chars-true (search rules)

pub sound-false : IsSound (atom (chars (codes "false")))
sound-false = rw chars-false (search rules)

pub is_true : (text : List ℕ) → IsUtf8 text → bytes_eq text (codes "true") ≡ bytes_eq (chars text) (codes "true")
unfolding lib.Utf8.encode
is_true text utf8 = ascii_eq text (codes "true") utf8 refl

pub is_false : (text : List ℕ) → IsUtf8 text → bytes_eq text (codes "false") ≡ bytes_eq (chars text) (codes "false")
unfolding lib.Utf8.encode
is_false text utf8 = ascii_eq text (codes "false") utf8 refl
