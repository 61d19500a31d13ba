-- How many instructions the code of a specification has, in terms of its nodes.
use Rattle.std.proofs.Common.{ℕ, suc, ◌+◌, ◌*◌, ◌≤◌, Bool, true, false, cond, Option, Some, None, option_map, List, [], ◌∷◌, ◌++◌, length, arith, length-append}
use Rattle.std.specs.Prelude.{All, sum_by}
use Rattle.std.proofs.lemmas.List.Elements.{All-head, All-tail}
use Rattle.std.proofs.lemmas.List.Sums.{sum_by-cons}
use Rattle.term_core.specs.Datum.{Datum}
use Rattle.term_core.specs.Datum.Datum.{tuple}
use Rattle.mspec_syntax.specs.Expression.{Expression, expression_nodes}
use Rattle.mspec_syntax.specs.Grammar.{is_among}
use Rattle.mspec_syntax.specs.Mode.Position.{by_itself}
use Rattle.mspec_syntax.specs.Pattern.{Pattern, Patterns, Fields, pattern_variables, own_term, own_terms, pattern_nodes, patterns_nodes, fields_nodes, tail_nodes}
use Rattle.mspec_syntax.specs.Pattern.Pattern.{variable, anything, literal, tuple_of, cell_of, map_of}
use Rattle.mspec_syntax.specs.Pattern.Patterns.{no_patterns, pattern}
use Rattle.mspec_syntax.specs.Pattern.Fields.{no_fields, field}
use Rattle.mspec_syntax.specs.Rising.{rank_of}
use Rattle.mspec_syntax.specs.Sound.{IsSoundExpression, IsSoundClause}
use Rattle.mspec_syntax.specs.Specification.{Clause, Specification, clause_nodes, specification_nodes}
use Rattle.mspec_syntax.specs.declared.mode.Mode.TheVariants.{Condition, Body}
use Rattle.compiler_assembly.specs.Line.{SourceLine, plain, line_total}
use Rattle.compiler_assembly.specs.declared.line.Label.TheVariants.{Clean}
use Rattle.compiler_assembly.specs.declared.op.Op.TheVariants as op
use Rattle.compiler_assembly.specs.declared.op.Target.TheVariants.{Failing}
use Rattle.compiler_expressions.specs.Expressions.{Site, lines_at}
use Rattle.compiler_expressions.proofs.LengthLemmas.{lines-length}
use Rattle.compiler_patterns.specs.Leaves.{variable_lines}
use Rattle.compiler_patterns.specs.Patterns.{pattern_count, same_or, unless_anything, pattern_lines, element_lines, field_lines, head_lines}
use Rattle.compiler_clauses.specs.Clauses.{condition_lines, body_lines, site_of, clause_block, blocks_of}

-- ---- patterns

same-length : (o : Option Datum) (ls : List SourceLine) (n : ℕ) → length ls ≤ n → 2 ≤ n → length (same_or o ls) ≤ n
same-length None ls n few some = few
same-length (Some d) ls n few some = some

module _ (vs : List ℕ) where
  variable-length : (known : List ℕ) (n : ℕ) → length (variable_lines vs known n) ≤ 2
  variable-length known n = by (is_among known n)
    where
      by : (b : Bool) → length (cond b (plain (op.Get (rank_of vs n)) ∷ plain (op.Equal Failing) ∷ []) (plain (op.Bind (rank_of vs n)) ∷ [])) ≤ 2
      by true = omega arith
      by false = omega arith

  -- the number of lines of a tuple, given that of its elements
  tuple-length : (known : List ℕ) (ps : Patterns) (n : ℕ) → length (element_lines vs known 1 ps) ≤ 8 * n → length (pattern_lines vs known (tuple_of ps)) + 4 ≤ 8 * suc n
  tuple-length known ps n few =
      let elements = element_lines vs known 1 ps in
      let inner = plain (op.Tuple (pattern_count ps) Failing) ∷ (elements ++ plain op.Drop ∷ []) in
      omega (
        arith,
        same-length (option_map tuple (own_terms ps)) inner (8 * n + 2)
            (omega (arith, few, length-append elements (plain op.Drop ∷ [])))
            (omega arith),
      )

  -- the number of lines of a cell, given those of its parts
  cell-length : (known : List ℕ) (p q : Pattern) (n m : ℕ) → length (pattern_lines vs known p) + 4 ≤ 8 * n → length (pattern_lines vs (known ++ pattern_variables p) q) ≤ 8 * m + 2 → length (pattern_lines vs known (cell_of p q)) ≤ 8 * (n + m) + 2
  cell-length known p q n m first rest =
      let head = pattern_lines vs known p in
      let tail = pattern_lines vs (known ++ pattern_variables p) q in
      let inner = plain (op.Cons Failing) ∷ plain op.Dup ∷ plain op.Head ∷ (head ++ plain op.Tail ∷ tail) in
      same-length (own_term (cell_of p q)) inner (8 * (n + m) + 2)
      (omega (arith, first, rest, length-append head (plain op.Tail ∷ tail)))
      (omega arith)

  anything-length : (p : Pattern) (ls : List SourceLine) → length (unless_anything p ls) ≤ length ls
  anything-length (variable n) ls = omega arith
  anything-length anything ls = omega arith
  anything-length (literal d) ls = omega arith
  anything-length (tuple_of ps) ls = omega arith
  anything-length (cell_of p q) ls = omega arith
  anything-length (map_of fs) ls = omega arith

  mutual
    -- how many lines a pattern has by itself, and as a tail
    pub pattern-length : (p : Pattern) (known : List ℕ) → (length (pattern_lines vs known p) + 4 ≤ 8 * pattern_nodes p) × (length (pattern_lines vs known p) ≤ 8 * tail_nodes p + 2)
    pattern-length (variable n) known = (omega (arith, variable-length known n), omega (arith, variable-length known n))
    pattern-length anything known = (omega arith, omega arith)
    pattern-length (literal d) known = (omega arith, omega arith)
    pattern-length (tuple_of ps) known =
        let few = tuple-length known ps (patterns_nodes ps) (elements-length ps known 1) in
        (few, omega (arith, few))
    pattern-length (cell_of p q) known =
        let few = cell-length known p q (pattern_nodes p) (tail_nodes q) (pattern-length p known).0 (pattern-length q (known ++ pattern_variables p)).1 in
        (omega (arith, few), few)
    pattern-length (map_of fs) known =
        let fields = field_lines vs known fs in
        let few = fields-length fs known in
        let drop = length-append fields (plain op.Drop ∷ []) in
        (omega (arith, few, drop), omega (arith, few, drop))

    elements-length : (ps : Patterns) (known : List ℕ) (i : ℕ) → length (element_lines vs known i ps) ≤ 8 * patterns_nodes ps
    elements-length no_patterns known i = omega arith
    elements-length (pattern p ps) known i =
        let own = plain op.Dup ∷ plain (op.Field i) ∷ pattern_lines vs known p in
        let rest = element_lines vs (known ++ pattern_variables p) (suc i) ps in
        omega (
          arith,
          (pattern-length p known).0,
          elements-length ps (known ++ pattern_variables p) (suc i),
          anything-length p own,
          length-append (unless_anything p own) rest,
        )

    fields-length : (fs : Fields) (known : List ℕ) → length (field_lines vs known fs) ≤ 8 * fields_nodes fs
    fields-length no_fields known = omega arith
    fields-length (field k p fs) known =
        omega (
          arith,
          (pattern-length p known).0,
          fields-length fs (known ++ pattern_variables p),
          length-append (pattern_lines vs known p) (field_lines vs (known ++ pattern_variables p) fs),
        )

  -- the number of lines of a clause's head
  pub head-length : (p : Pattern) → length (head_lines vs p) + 3 ≤ 8 * pattern_nodes p
  head-length (variable n) = omega (arith, (pattern-length (variable n) []).0)
  head-length anything = omega arith
  head-length (literal d) = omega (arith, (pattern-length (literal d) []).0)
  head-length (tuple_of ps) = omega (arith, (pattern-length (tuple_of ps) []).0)
  head-length (cell_of p q) = omega (arith, (pattern-length (cell_of p q) []).0)
  head-length (map_of fs) = omega (arith, (pattern-length (map_of fs) []).0)

-- ---- conditions and bodies

module _ (site : Site) where
  abbrev nodes : Expression → ℕ
  nodes e = expression_nodes (length site.bound) e

  pub conditions-length : (es : List Expression) → All (IsSoundExpression site.bound) es → length (condition_lines site es) ≤ 8 * sum_by nodes es
  conditions-length [] sound = omega arith
  conditions-length (e ∷ es) sound =
      let own = lines_at site 0 [] e by_itself in
      omega (
        arith,
        (lines-length site e 0 [] (All-head (IsSoundExpression site.bound) e es sound)).0,
        conditions-length es (All-tail (IsSoundExpression site.bound) e es sound),
        length-append own (plain (op.Bool Failing) ∷ plain (op.Branch Failing) ∷ condition_lines site es),
        sum_by-cons nodes e es,
      )

  pub body-length : (es : List Expression) → All (IsSoundExpression site.bound) es → length (body_lines site es) ≤ 8 * sum_by nodes es
  body-length [] sound = omega arith
  body-length (e ∷ []) sound =
      let own = lines_at site 0 [] e by_itself in
      omega (
        arith,
        (lines-length site e 0 [] (All-head (IsSoundExpression site.bound) e [] sound)).0,
        length-append own (record { op = op.Answer; label = Some Clean } ∷ []),
        sum_by-cons nodes e [],
      )
  body-length (e ∷ f ∷ es) sound =
      omega (arith, body-length (f ∷ es) (All-tail (IsSoundExpression site.bound) e (f ∷ es) sound), sum_by-cons nodes e (f ∷ es))

-- ---- clauses

-- a clause has at most eight lines for each of its nodes, minus eleven
pub clause-length : (vs : List ℕ) (c : Clause) → IsSoundClause c → length (clause_block vs c).lines + 11 ≤ 8 * clause_nodes c
clause-length vs c sound =
    let head = head_lines vs c.head in
    let conditions = condition_lines (site_of vs c Condition) c.conditions in
    let body = body_lines (site_of vs c Body) c.body in
    omega (
      arith,
      head-length vs c.head,
      conditions-length (site_of vs c Condition) c.conditions sound.conditions,
      body-length (site_of vs c Body) c.body sound.body,
      length-append head (conditions ++ body),
      length-append conditions body,
    )

-- the number of instructions of the code, at most eight per node and one for the end
pub code_size : (spec : Specification) → All IsSoundClause spec → (vs : List ℕ) → line_total (blocks_of vs spec) ≤ 8 * specification_nodes spec + 1
code_size [] sound vs = omega arith
code_size (c ∷ cs) sound vs =
    omega (
      arith,
      clause-length vs c (All-head IsSoundClause c cs sound),
      code_size cs (All-tail IsSoundClause c cs sound) vs,
      sum_by-cons clause_nodes c cs,
    )
