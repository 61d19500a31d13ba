-- Terms that are read onto a stack, of which the last one is on top.
use Rattle.std.specs.Prelude.{List, [], ◌∷◌, ◌++◌, ℕ, Option, Some, None, Result, Ok, Err}
use Rattle.term_core.specs.Datum.{Datum}
use Rattle.term_text.specs.TokenReading.{Fault, Read, ◌>>=◌}

-- these terms and, on top of them, the one that is read
abbrev pub pushed : List Datum → Read Datum → Read (List Datum)
pushed front read = read >>= λ x. Ok (front ++ x.0 ∷ [], x.1)

abbrev pub pushed_if : List Datum → Option (Datum × List ℕ) → List Datum × Option (List ℕ)
pushed_if front (Some x) = (front ++ x.0 ∷ [], Some x.1)
pushed_if front None = (front, None)

-- these terms and, on top of them, the next one of a text, if there is one
abbrev pub pushed_next : List Datum → Result (Option (Datum × List ℕ)) Fault → Result (List Datum × Option (List ℕ)) Fault
pushed_next front next = next >>= λ x. Ok (pushed_if front x)
