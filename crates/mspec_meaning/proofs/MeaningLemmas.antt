-- A specification has one answer, and none only if no clause applies.
use Rattle.std.proofs.Common.{◌≡◌, inl, inr, ℕ, ◌<◌, ◌==◌, ◌||◌, cond, Bool, true, false, Option, Some, None, option_map, List, [], ◌∷◌, length, refl, sym, ◌∙◌, ap, subst, arith}
use Rattle.std.specs.List.{All}
use Rattle.std.specs.Option.{IsSome}
use Rattle.std.proofs.lemmas.List.Elements.{All-nil, All-cons, All-head, All-tail}
use Rattle.term_operand.specs.Operand.{boolean_of}
use Rattle.prims.specs.Calls.{function_of}
use Rattle.prims_table.specs.declared.prim.Primitive.{Primitive}
use Rattle.term_core.specs.Datum.{Datum, Entries, cells, items_of}
use Rattle.term_core.specs.Datum.Datum.{tuple, map as table, nil}
use Rattle.term_core.specs.Limits.{within_limits}
use Rattle.mspec_syntax.specs.Grammar.{is_among}
use Rattle.mspec_syntax.specs.Expression.{Expression, Expressions, Assignments}
use Rattle.mspec_syntax.specs.Expression.Expression.{bound, object, bindings, constant, quoted, call, and_also, or_else, new_tuple, new_cell, new_map}
use Rattle.mspec_syntax.specs.Expression.Expressions.{no_expressions, expression}
use Rattle.mspec_syntax.specs.Expression.Assignments.{no_assignments, assignment}
use Rattle.mspec_syntax.specs.Specification.{Clause, Specification, clause_variables}
use Rattle.mspec_syntax.specs.Sound.{IsSoundExpression, AreSoundExpressions, AreSoundAssignments, IsSoundClause}
use Rattle.mspec_match.specs.Match.{Substitution, domain, values_of, lookup}
use Rattle.mspec_meaning.specs.Made.{or_failed, made_of}
use Rattle.mspec_meaning.specs.Called.{called}
use Rattle.mspec_meaning.specs.Decided.{and_at, and_step, or_at, or_step}
use Rattle.mspec_meaning.specs.Meaning.{before, at_key, joined, made_list, value_at, argument_values, entry_values, all_true, any_true, body_value, Applies, IsApplicable, Means}
use Rattle.mspec_syntax.specs.Mode.{Position}
use Rattle.mspec_syntax.specs.Mode.Position.{by_itself, as_tail}
use Rattle.mspec_syntax.specs.declared.mode.Mode.TheVariants.{Body}
use Rattle.mspec_match.proofs.MatchLemmas.{one-match}

pub one-meaning : (spec : Specification) (o : Datum) (a b : Option Datum) → Means spec o a → Means spec o b → a ≡ b
one-meaning [] o a b h k = h ∙ sym k
one-meaning (c ∷ cs) o a b (inl h) (inl k) =
    let same = one-match c.head o h.0 k.0 h.1.head k.1.head in
    h.2 ∙ ap (λ s. body_value c.body s o) same ∙ sym k.2
one-meaning (c ∷ cs) o a b (inl h) (inr k) = absurd (k.0 (record { substitution = h.0; applies = h.1 }))
one-meaning (c ∷ cs) o a b (inr h) (inl k) = absurd (h.0 (record { substitution = k.0; applies = k.1 }))
one-meaning (c ∷ cs) o a b (inr h) (inr k) = one-meaning cs o a b h.1 k.1

-- what is made of values in a body has a value
or_failed-some : (o : Option Datum) → IsSome (or_failed Body o)
or_failed-some None = refl
or_failed-some (Some d) = refl

made_of-some : (o : Option Datum) → IsSome o → IsSome (made_of Body o)
made_of-some None h = absurd (cc)
made_of-some (Some d) h = or_failed-some (within_limits d)

called-some : (f : Primitive) (o : Option (List Datum)) → IsSome o → IsSome (called Body f o)
called-some f None h = absurd (cc)
called-some f (Some ds) h = or_failed-some (function_of f ds)

option_map-some : {X Y : Type 0} (f : X → Y) (o : Option X) → IsSome o → IsSome (option_map f o)
option_map-some f None h = absurd (cc)
option_map-some f (Some x) h = refl

joined-some : (a b : Option Datum) → IsSome a → IsSome b → IsSome (joined a b)
joined-some None b h k = absurd (cc)
joined-some (Some x) None h k = absurd (cc)
joined-some (Some x) (Some y) h k = refl

made_list-some : (position : Position) (o : Option Datum) → IsSome o → IsSome (made_list Body position o)
made_list-some by_itself o h = made_of-some o h
made_list-some as_tail o h = h

before-some : (a : Option Datum) (b : Option (List Datum)) → IsSome a → IsSome b → IsSome (before a b)
before-some None b h k = absurd (cc)
before-some (Some x) None h k = absurd (cc)
before-some (Some x) (Some y) h k = refl

at_key-some : (k : Datum) (a : Option Datum) (b : Option Entries) → IsSome a → IsSome b → IsSome (at_key k a b)
at_key-some k None b h i = absurd (cc)
at_key-some k (Some x) None h i = absurd (cc)
at_key-some k (Some x) (Some y) h i = refl

and_at-some : (b : Option Bool) (rest : Option Datum) → IsSome rest → IsSome (and_at Body b rest)
and_at-some None rest h = refl
and_at-some (Some true) rest h = h
and_at-some (Some false) rest h = refl

and_step-some : (a rest : Option Datum) → IsSome a → IsSome rest → IsSome (and_step Body a rest)
and_step-some None rest h k = absurd (cc)
and_step-some (Some d) rest h k = and_at-some (boolean_of d) rest k

or_at-some : (b : Option Bool) (rest : Option Datum) → IsSome rest → IsSome (or_at Body b rest)
or_at-some None rest h = refl
or_at-some (Some true) rest h = refl
or_at-some (Some false) rest h = h

or_step-some : (a rest : Option Datum) → IsSome a → IsSome rest → IsSome (or_step Body a rest)
or_step-some None rest h k = absurd (cc)
or_step-some (Some d) rest h k = or_at-some (boolean_of d) rest k

module _ (vs : List ℕ) (s : Substitution) (o : Datum) (known : (n : ℕ) → is_among vs n ≡ true → IsSome (lookup s n)) where
  mutual
    -- a sound expression in a body has a value
    pub value-some : (e : Expression) (position : Position) → IsSoundExpression vs e → IsSome (value_at Body e position s o)
    value-some (bound n) position h = known n h
    value-some object position h = refl
    value-some bindings position h = or_failed-some (within_limits (cells (values_of s) nil))
    value-some (constant d) position h = refl
    value-some (quoted d) position h = refl
    value-some (call f es) position h = called-some f (argument_values Body es s o) (arguments-some es h.1)
    value-some (and_also es) position h = all_true-some es h.1
    value-some (or_else es) position h = any_true-some es h.1
    value-some (new_tuple es) position h =
        made_of-some _ (option_map-some (λ ds. tuple (items_of ds)) (argument_values Body es s o) (arguments-some es h))
    value-some (new_cell e f) position h =
        made_list-some position _
        (joined-some (value_at Body e by_itself s o) (value_at Body f as_tail s o) (value-some e by_itself h.0) (value-some f as_tail h.1))
    value-some (new_map ms) position h =
        made_of-some _ (option_map-some table (entry_values Body ms s o) (entries-some ms h.1))

    arguments-some : (es : Expressions) → AreSoundExpressions vs es → IsSome (argument_values Body es s o)
    arguments-some no_expressions h = refl
    arguments-some (expression e es) h =
        before-some (value_at Body e by_itself s o) (argument_values Body es s o) (value-some e by_itself h.0) (arguments-some es h.1)

    entries-some : (ms : Assignments) → AreSoundAssignments vs ms → IsSome (entry_values Body ms s o)
    entries-some no_assignments h = refl
    entries-some (assignment k e ms) h =
        at_key-some k (value_at Body e by_itself s o) (entry_values Body ms s o) (value-some e by_itself h.1) (entries-some ms h.2)

    all_true-some : (es : Expressions) → AreSoundExpressions vs es → IsSome (all_true Body es s o)
    all_true-some no_expressions h = refl
    all_true-some (expression e es) h =
        and_step-some (value_at Body e by_itself s o) (all_true Body es s o) (value-some e by_itself h.0) (all_true-some es h.1)

    any_true-some : (es : Expressions) → AreSoundExpressions vs es → IsSome (any_true Body es s o)
    any_true-some no_expressions h = refl
    any_true-some (expression e es) h =
        or_step-some (value_at Body e by_itself s o) (any_true Body es s o) (value-some e by_itself h.0) (any_true-some es h.1)

  body-some : (es : List Expression) → All (IsSoundExpression vs) es → 0 < length es → IsSome (body_value es s o)
  body-some [] sound some = absurd (omega arith)
  body-some (e ∷ []) sound some = value-some e by_itself (All-head (IsSoundExpression vs) e [] sound)
  body-some (e ∷ f ∷ es) sound some =
      body-some (f ∷ es) (All-tail (IsSoundExpression vs) e (f ∷ es) sound) (omega arith)

-- each variable of the domain has a value
pub lookup-some : (s : Substitution) (n : ℕ) → is_among (domain s) n ≡ true → IsSome (lookup s n)
lookup-some [] n h = absurd (cc)
lookup-some (e ∷ s) n h = by (e.0 == n) (λ k. lookup-some s n k) h
  where
    by : (b : Bool) → (is_among (domain s) n ≡ true → IsSome (lookup s n)) → (b || is_among (domain s) n) ≡ true
        → IsSome (cond b (Some e.1) (lookup s n))
    by true rest h = refl
    by false rest h = rest h

pub applicable-value : (c : Clause) (s : Substitution) (o : Datum) → IsSoundClause c → Applies c s o
    → IsSome (body_value c.body s o)
applicable-value c s o sound applies =
    let P : List ℕ → Type 0 = λ vs. (n : ℕ) → is_among vs n ≡ true → IsSome (lookup s n) in
    let known : P (clause_variables c) = subst P applies.head.domain (λ n h. lookup-some s n h) in
    body-some (clause_variables c) s o known c.body sound.body sound.answers

pub none-applies : (spec : Specification) (o : Datum) → All IsSoundClause spec → Means spec o None
    → All (λ c. ¬ IsApplicable c o) spec
none-applies [] o sound h = All-nil (λ c. ¬ IsApplicable c o)
none-applies (c ∷ cs) o sound (inl h) =
    let some : IsSome {T = Datum} None =
    subst IsSome (sym h.2) (applicable-value c h.0 o (All-head IsSoundClause c cs sound) h.1) in
    absurd (cc)
none-applies (c ∷ cs) o sound (inr h) =
    All-cons (λ c. ¬ IsApplicable c o) c cs h.0
    (none-applies cs o (All-tail IsSoundClause c cs sound) h.1)

pub nothing-answered : (spec : Specification) (o : Datum) → All (λ c. ¬ IsApplicable c o) spec
    → Means spec o None
nothing-answered [] o none = refl
nothing-answered (c ∷ cs) o none =
    inr (
      All-head (λ c. ¬ IsApplicable c o) c cs none,
      nothing-answered cs o (All-tail (λ c. ¬ IsApplicable c o) c cs none),
    )
