-- Each part of a pattern is smaller than the pattern.
use Rattle.std.specs.Prelude.{ℕ, ◌+◌, ◌<◌, ◌≤◌, suc, max, List, [], ◌∷◌, length, Some, None}
use Rattle.std.proofs.Common.{arith}
use Rattle.std.specs.declared.alloc.Allocator as allocator
use denote.Param.Weighed.{most}
use Rattle.term_core.specs.Datum.{Datum}
use Rattle.term_core.specs.Datum.Datum.{nil}
use Rattle.mspec_syntax.specs.Pattern.{Pattern, patterns_of, fields_of, cells_of, pattern_size, patterns_size, fields_size}
use Rattle.mspec_syntax.specs.Pattern.Pattern.{literal}
use Rattle.mspec_syntax.specs.PatternView.{pattern_of, IsKept}
use Rattle.mspec_syntax.specs.declared.pattern.PatternKind.{PatternKind}
use Rattle.mspec_syntax.specs.declared.pattern.PatternKind.TheVariants as kind
use Rattle.mspec_syntax.specs.declared.pattern.Pattern.TheDeep.{deep-PatternKind}

patterns_fall : (ps : List Pattern) → most (λ p. pattern_size p + 1) ps ≤ suc (patterns_size (patterns_of ps))
patterns_fall [] = omega arith
patterns_fall (p ∷ ps) = omega (arith, patterns_fall ps)

fields_fall : (fs : List (Datum × Pattern)) → most (λ f. max 0 (max (pattern_size f.1 + 1) 0)) fs ≤ suc (fields_size (fields_of fs))
fields_fall [] = omega arith
fields_fall (f ∷ fs) = omega (arith, fields_fall fs)

list_falls : (ps : List Pattern) (q : Pattern) (weight : ℕ) → weight ≤ suc (pattern_size q) → 0 < length ps → max (most (λ p. pattern_size p + 1) ps) (max weight 0) ≤ pattern_size (cells_of ps q)
list_falls [] q weight h some = absurd (omega arith)
list_falls (p ∷ []) q weight h some = omega arith
list_falls (p ∷ r ∷ ps) q weight h some = omega (arith, list_falls (r ∷ ps) q weight h (omega arith))

-- no part of a pattern is as large as the pattern
pub parts_fall : {A : Type 0} (G : allocator.Ghosts A) (k : PatternKind A) → IsKept k → max (deep-PatternKind A G k) 0 ≤ pattern_size (pattern_of k)
parts_fall G kind.Anything h = omega arith
parts_fall G (kind.Variable n) h = omega arith
parts_fall G (kind.Literal d) h = omega arith
parts_fall G (kind.Tuple ps) h = let e = patterns_fall ps.items in omega arith
parts_fall G (kind.List ps None) h = let e = list_falls ps.items (literal nil) 0 (omega arith) h.0 in omega arith
parts_fall G (kind.List ps (Some b)) h = let e = list_falls ps.items b.value (pattern_size b.value + 1) (omega arith) h.0 in omega arith
parts_fall G (kind.Map fs) h = let e = fields_fall fs.items in omega arith
