-- What a writer gains by two writes, and by none.
use Rattle.std.proofs.Common.{◌≡◌, ℕ, Option, Some, None, List, [], ◌++◌, sym, append_assoc}
use Rattle.std.proofs.lemmas.List.{append-nil}
use Rattle.std.specs.Io.KnownBytes.{Appends}

pub appends_none : (a : Option (List ℕ)) → Appends a a []
appends_none None = tt
appends_none (Some xs) = sym (append-nil xs)

pub appends_join : (a b c : Option (List ℕ)) (x y : List ℕ) → Appends a b x → Appends b c y → Appends a c (x ++ y)
appends_join None b c x y p q = tt
appends_join (Some u) None c x y p q = absurd p
appends_join (Some u) (Some v) None x y p q = absurd q
appends_join (Some u) (Some v) (Some w) x y p q = rw (q, p) (append_assoc u x y)
