-- Values of expressions, part by part.
use Rattle.std.proofs.Common.{◌≡◌, ℕ, ◌+◌, ◌<◌, ◌≤◌, Bool, true, false, not, IfSome, Option, Some, None, option_map, Box, List, [], ◌∷◌, ◌++◌, length, get_or, drop, refl, sym, ◌∙◌, ap, subst, arith}
use Rattle.std.proofs.lemmas.List.{drop_all, append_assoc, append-nil}
use Rattle.term_operand.specs.Operand.{boolean}
use Rattle.term_core.specs.Datum.{Datum, Entries, entries_of}
use Rattle.term_core.specs.Datum.Entries.{no_entries, entry}
use Rattle.term_core.specs.MapPairs.{AreRising}
use Rattle.term_core.specs.Order.{IsBelow, IsBelowFirst}
use Rattle.mspec_syntax.specs.Expression.{Expression, Assignments, expressions_of, assignments_of, new_cells, assignment_keys, IsNoListExpression}
use Rattle.mspec_syntax.specs.Keys.{AreKeysRising, IsBelowNext}
use Rattle.mspec_syntax.specs.Expression.Expression.{bound, object, bindings, constant, quoted, call, and_also, or_else, new_tuple, new_cell, new_map}
use Rattle.mspec_syntax.specs.Expression.Assignments.{no_assignments, assignment}
use Rattle.mspec_syntax.specs.ExpressionView.{tail_expression, IsTailExpression}
use Rattle.mspec_match.specs.Match.{Substitution}
use Rattle.mspec_meaning.specs.Made.{made_of, joined_to}
use Rattle.mspec_meaning.specs.Decided.{decided_at}
use Rattle.mspec_meaning.proofs.KnownLemmas.{split_at}
use Rattle.mspec_meaning.specs.Meaning.{before, at_key, joined, value_at, value_of, argument_values, entry_values}
use Rattle.mspec_syntax.specs.Mode.Position.{as_tail}
use Rattle.mspec_meaning.specs.Value.{decided}
use Rattle.mspec_syntax.specs.declared.mode.Mode.{Mode}

-- pairs followed by those of a map
abbrev pub entries_before : List (Datum × Datum) → Entries → Entries
entries_before [] es = es
entries_before (p ∷ ps) es = entry p.0 p.1 (entries_before ps es)

entries-push : (ps : List (Datum × Datum)) (p : Datum × Datum) (es : Entries) → entries_before ps (entry p.0 p.1 es) ≡ entries_before (ps ++ p ∷ []) es
entries-push [] p es = refl
entries-push (q ∷ ps) p es = ap (entry q.0 q.1) (entries-push ps p es)

entries-all : (ps : List (Datum × Datum)) → entries_of ps ≡ entries_before ps no_entries
entries-all [] = refl
entries-all (q ∷ ps) = ap (entry q.0 q.1) (entries-all ps)

nothing_before : (found : Option Entries) → option_map (entries_before []) found ≡ found
nothing_before None = refl
nothing_before (Some es) = refl

none_before : (found : Option (List Datum)) → option_map (λ r. [] ++ r) found ≡ found
none_before None = refl
none_before (Some ds) = refl

before-push : (vs : List Datum) (v : Datum) (found : Option (List Datum)) → option_map (λ r. (vs ++ v ∷ []) ++ r) found ≡ option_map (λ r. vs ++ r) (before (Some v) found)
before-push vs v None = refl
before-push vs v (Some r) = ap Some (append_assoc vs (v ∷ []) r)

before-none : (found : Option (List Datum)) → before None found ≡ None
before-none None = refl
before-none (Some r) = refl

at_key-push : (ps : List (Datum × Datum)) (k v : Datum) (found : Option Entries) → option_map (entries_before (ps ++ (k, v) ∷ [])) found ≡ option_map (entries_before ps) (at_key k (Some v) found)
at_key-push ps k v None = refl
at_key-push ps k v (Some es) = ap Some (sym (entries-push ps (k, v) es))

at_key-none : (k : Datum) (found : Option Entries) → at_key k None found ≡ None
at_key-none k None = refl
at_key-none k (Some es) = refl

joined-before : (a : Option Datum) (b : Option (List Datum)) (c : Option Datum) → joined a (joined_to b c) ≡ joined_to (before a b) c
joined-before None None c = refl
joined-before None (Some ds) None = refl
joined-before None (Some ds) (Some d) = refl
joined-before (Some x) None c = refl
joined-before (Some x) (Some ds) None = refl
joined-before (Some x) (Some ds) (Some d) = refl

pub joined_to-none : (c : Option Datum) → None ≡ joined_to None c
joined_to-none None = refl
joined_to-none (Some d) = refl

joined-nothing : (c : Option Datum) → c ≡ joined_to (Some []) c
joined-nothing None = refl
joined-nothing (Some d) = refl

below-at : (k l : Datum) (v : Option Datum) (found : Option Entries) (es : Entries) → Some es ≡ at_key l v found → IsBelow k l → IsBelowFirst k es
below-at k l None found es is h = absurd (let e = is ∙ at_key-none l found in cc)
below-at k l (Some v) None es is h = absurd (cc)
below-at k l (Some v) (Some fs) es is h = let same : entry l v fs ≡ es = cc in subst (IsBelowFirst k) same h

rises-at : (k : Datum) (v : Option Datum) (found : Option Entries) (es : Entries) → Some es ≡ at_key k v found → ((fs : Entries) → Some fs ≡ found → IsBelowFirst k fs × AreRising fs) → AreRising es
rises-at k None found es is h = absurd (let e = is ∙ at_key-none k found in cc)
rises-at k (Some v) None es is h = absurd (cc)
rises-at k (Some v) (Some fs) es is h = let same : entry k v fs ≡ es = cc in subst AreRising same (h fs refl)

module _ (mode : Mode) (s : Substitution) (o : Datum) where
  -- the values so far, and those of the remaining arguments
  abbrev pub ValuesFront : List Expression → ℕ → List Datum → Type 0
  ValuesFront es i vs =
      option_map (λ r. vs ++ r) (argument_values mode (expressions_of (drop i es)) s o) ≡ argument_values mode (expressions_of es) s o

  abbrev pub EntriesFront : List (Datum × Expression) → ℕ → List (Datum × Datum) → Type 0
  EntriesFront ms i ps =
      option_map (entries_before ps) (entry_values mode (assignments_of (drop i ms)) s o) ≡ entry_values mode (assignments_of ms) s o

  pub ValuesFront-start : (es : List Expression) → ValuesFront es 0 []
  ValuesFront-start es = none_before (argument_values mode (expressions_of es) s o)

  pub ValuesFront-more : (es : List Expression) (i : ℕ) (e : Expression) (vs : List Datum) (v : Datum) → i < length es → e ≡ get_or es i e → Some v ≡ value_of mode e s o → ValuesFront es i vs → ValuesFront es (i + 1) (vs ++ v ∷ [])
  ValuesFront-more es i e vs v h is value front =
      let rest = argument_values mode (expressions_of (drop (i + 1) es)) s o in
      before-push vs v rest
      ∙ ap (λ x. option_map (λ r. vs ++ r) (before x rest)) value
      ∙ ap (λ l. option_map (λ r. vs ++ r) (argument_values mode (expressions_of l) s o)) (sym (split_at es i e h is))
      ∙ front

  pub ValuesFront-none : (es : List Expression) (i : ℕ) (e : Expression) (vs : List Datum) → i < length es → e ≡ get_or es i e → None ≡ value_of mode e s o → ValuesFront es i vs → None ≡ argument_values mode (expressions_of es) s o
  ValuesFront-none es i e vs h is value front =
      let rest = argument_values mode (expressions_of (drop (i + 1) es)) s o in
      ap (option_map (λ r. vs ++ r)) (sym (before-none rest))
      ∙ ap (λ x. option_map (λ r. vs ++ r) (before x rest)) value
      ∙ ap (λ l. option_map (λ r. vs ++ r) (argument_values mode (expressions_of l) s o)) (sym (split_at es i e h is))
      ∙ front

  pub ValuesFront-all : (es : List Expression) (i : ℕ) (vs : List Datum) → length es ≤ i → ValuesFront es i vs → Some vs ≡ argument_values mode (expressions_of es) s o
  ValuesFront-all es i vs end front =
      ap Some (sym (append-nil vs))
      ∙ ap (λ l. option_map (λ r. vs ++ r) (argument_values mode (expressions_of l) s o)) (sym (drop_all i es end))
      ∙ front

  pub EntriesFront-start : (ms : List (Datum × Expression)) → EntriesFront ms 0 []
  EntriesFront-start ms = nothing_before (entry_values mode (assignments_of ms) s o)

  pub EntriesFront-more : (ms : List (Datum × Expression)) (i : ℕ) (m : Datum × Expression) (ps : List (Datum × Datum)) (v : Datum) → i < length ms → m ≡ get_or ms i m → Some v ≡ value_of mode m.1 s o → EntriesFront ms i ps → EntriesFront ms (i + 1) (ps ++ (m.0, v) ∷ [])
  EntriesFront-more ms i m ps v h is value front =
      let rest = entry_values mode (assignments_of (drop (i + 1) ms)) s o in
      at_key-push ps m.0 v rest
      ∙ ap (λ x. option_map (entries_before ps) (at_key m.0 x rest)) value
      ∙ ap (λ l. option_map (entries_before ps) (entry_values mode (assignments_of l) s o)) (sym (split_at ms i m h is))
      ∙ front

  pub EntriesFront-none : (ms : List (Datum × Expression)) (i : ℕ) (m : Datum × Expression) (ps : List (Datum × Datum)) → i < length ms → m ≡ get_or ms i m → None ≡ value_of mode m.1 s o → EntriesFront ms i ps → None ≡ entry_values mode (assignments_of ms) s o
  EntriesFront-none ms i m ps h is value front =
      let rest = entry_values mode (assignments_of (drop (i + 1) ms)) s o in
      ap (option_map (entries_before ps)) (sym (at_key-none m.0 rest))
      ∙ ap (λ x. option_map (entries_before ps) (at_key m.0 x rest)) value
      ∙ ap (λ l. option_map (entries_before ps) (entry_values mode (assignments_of l) s o)) (sym (split_at ms i m h is))
      ∙ front

  pub EntriesFront-all : (ms : List (Datum × Expression)) (i : ℕ) (ps : List (Datum × Datum)) → length ms ≤ i → EntriesFront ms i ps → Some (entries_of ps) ≡ entry_values mode (assignments_of ms) s o
  EntriesFront-all ms i ps end front =
      ap Some (entries-all ps)
      ∙ ap (λ l. option_map (entries_before ps) (entry_values mode (assignments_of l) s o)) (sym (drop_all i ms end))
      ∙ front

  -- the remaining arguments decide
  abbrev pub DecidedFront : Bool → List Expression → ℕ → Type 0
  DecidedFront b es i = decided b mode (expressions_of (drop i es)) s o ≡ decided b mode (expressions_of es) s o

  decided-first : (b : Bool) (e : Expression) (es : List Expression) → decided_at b mode (value_of mode e s o) (decided b mode (expressions_of es) s o) ≡ decided b mode (expressions_of (e ∷ es)) s o
  decided-first true e es = refl
  decided-first false e es = refl

  -- an argument's value and the arguments after it give the value of the whole
  pub DecidedFront-step : (b : Bool) (es : List Expression) (i : ℕ) (e : Expression) (value : Option Datum) → i < length es → e ≡ get_or es i e → value ≡ value_of mode e s o → DecidedFront b es i → decided_at b mode value (decided b mode (expressions_of (drop (i + 1) es)) s o) ≡ decided b mode (expressions_of es) s o
  DecidedFront-step b es i e value h is same front =
      ap (λ x. decided_at b mode x (decided b mode (expressions_of (drop (i + 1) es)) s o)) same
      ∙ decided-first b e (drop (i + 1) es)
      ∙ ap (λ l. decided b mode (expressions_of l) s o) (sym (split_at es i e h is))
      ∙ front

  decided-none : (b : Bool) → Some (boolean (not b)) ≡ decided b mode (expressions_of []) s o
  decided-none true = refl
  decided-none false = refl

  pub DecidedFront-all : (b : Bool) (es : List Expression) (i : ℕ) → length es ≤ i → DecidedFront b es i → Some (boolean (not b)) ≡ decided b mode (expressions_of es) s o
  DecidedFront-all b es i end front =
      decided-none b ∙ ap (λ l. decided b mode (expressions_of l) s o) (sym (drop_all i es end)) ∙ front

  -- a tail that is not a list has the same value by itself and as a tail
  tail-value : {A : Type 0} (tail : Option (Box Expression A)) → IsTailExpression tail
      → value_at mode (tail_expression tail) as_tail s o ≡ value_of mode (tail_expression tail) s o
  tail-value None h = refl
  tail-value (Some b) h = at b.value h
    where
      at : (t : Expression) → IsNoListExpression t → value_at mode t as_tail s o ≡ value_of mode t s o
      at (bound n) h = refl
      at object h = refl
      at bindings h = refl
      at (constant d) h = refl
      at (quoted d) h = refl
      at (call f es) h = refl
      at (and_also es) h = refl
      at (or_else es) h = refl
      at (new_tuple es) h = refl
      at (new_cell e f) h = absurd h
      at (new_map ms) h = refl

  cells-tail : (es : List Expression) (t : Expression) → value_at mode t as_tail s o ≡ value_of mode t s o
      → value_at mode (new_cells es t) as_tail s o ≡ joined_to (argument_values mode (expressions_of es) s o) (value_of mode t s o)
  cells-tail [] t h = h ∙ joined-nothing (value_of mode t s o)
  cells-tail (e ∷ es) t h =
      ap (joined (value_of mode e s o)) (cells-tail es t h)
      ∙ joined-before (value_of mode e s o) (argument_values mode (expressions_of es) s o) (value_of mode t s o)

  cells-value : (es : List Expression) (t : Expression) → 0 < length es
      → value_of mode (new_cells es t) s o ≡ made_of mode (value_at mode (new_cells es t) as_tail s o)
  cells-value [] t h = absurd (omega arith)
  cells-value (e ∷ es) t h = refl

  -- the value of a list of elements and a tail
  pub list-value : {A : Type 0} (es : List Expression) (tail : Option (Box Expression A)) → 0 < length es
      → IsTailExpression tail
      → made_of mode (joined_to (argument_values mode (expressions_of es) s o) (value_of mode (tail_expression tail) s o)) ≡ value_of mode (new_cells es (tail_expression tail)) s o
  list-value es tail some h =
      sym (cells-value es (tail_expression tail) some ∙ ap (made_of mode) (cells-tail es (tail_expression tail) (tail-value tail h)))

  below-next : (k : Datum) (ms : Assignments) (es : Entries) → Some es ≡ entry_values mode ms s o → IsBelowNext k (assignment_keys ms) → IsBelowFirst k es
  below-next k no_assignments es is h = let same : no_entries ≡ es = cc in subst (IsBelowFirst k) same tt
  below-next k (assignment l e ms) es is h = below-at k l (value_of mode e s o) (entry_values mode ms s o) es is h

  -- a map that is made keeps its keys in ascending order
  pub entries-rise : (ms : Assignments) (es : Entries) → Some es ≡ entry_values mode ms s o → AreKeysRising (assignment_keys ms) → AreRising es
  entries-rise no_assignments es is h = let same : no_entries ≡ es = cc in subst AreRising same tt
  entries-rise (assignment k e ms) es is h =
      rises-at k (value_of mode e s o) (entry_values mode ms s o) es is
      (λ fs same. (below-next k ms fs same h.0, entries-rise ms fs same h.1))

  pub pairs-rise : {X : Type 0} (entries : X → Entries) (pairs : Option X) (ms : Assignments) → option_map entries pairs ≡ entry_values mode ms s o → AreKeysRising (assignment_keys ms) → IfSome pairs (λ p. AreRising (entries p))
  pairs-rise entries None ms is h = tt
  pairs-rise entries (Some p) ms is h = entries-rise ms (entries p) is h
