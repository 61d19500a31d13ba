-- Texts that are appended one after the other.
use Rattle.std.proofs.Common.{◌≡◌, ◌∙◌, ℕ, List, ◌++◌, ap, append_assoc}

-- two texts appended one after the other
pub put_last : (old text more between new : List ℕ) → between ≡ old ++ text → new ≡ between ++ more → new ≡ old ++ (text ++ more)
put_last old text more between new first then = then ∙ ap (λ l. l ++ more) first ∙ append_assoc old text more
