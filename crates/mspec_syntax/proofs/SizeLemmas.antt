-- Parts of patterns and expressions are smaller than the whole, and the sums over the cells of a list.
use Rattle.std.proofs.Common.{◌≡◌, ℕ, zero, suc, ◌+◌, ◌<◌, ◌≤◌, Option, Some, None, Box, List, [], ◌∷◌, ◌++◌, length, get_or, drop, refl, sym, ◌∙◌, ap, subst, arith, drop-cons, add-one}
use Rattle.std.proofs.lemmas.List.{append_assoc}
use Rattle.std.proofs.lemmas.List.Sums.{sum_by-cons}
use Rattle.term_core.specs.Datum.{Datum}
use Rattle.term_core.specs.Datum.Datum.{integer, atom, tuple, map, nil, cons, binary}
use Rattle.mspec_syntax.specs.Pattern.{Pattern, patterns_of, fields_of, cells_of, pattern_size, patterns_size, fields_size, pattern_variables, patterns_variables, pattern_nodes, patterns_nodes, tail_nodes, IsNoListPattern}
use Rattle.mspec_syntax.specs.PatternView.{tail_pattern, IsTailPattern}
use Rattle.mspec_syntax.specs.Pattern.{literal_tail_nodes}
use Rattle.mspec_syntax.specs.Expression.{Expression, expressions_of, new_cells, expression_size, expressions_size, expression_nodes, expressions_nodes, rest_nodes, IsNoListExpression}
use Rattle.mspec_syntax.specs.Expression.Expression.{bound, object, bindings, constant, quoted, call, and_also, or_else, new_tuple, new_cell, new_map}
use Rattle.mspec_syntax.proofs.ExpressionSizes.{size-some, new_cells-size}
use Rattle.mspec_syntax.specs.ExpressionView.{tail_expression, IsTailExpression}
use Rattle.mspec_syntax.specs.Specification.{Clause, clause_nodes, specification_nodes, Leaves}
use Rattle.mspec_syntax.specs.Pattern.Pattern.{variable, anything, literal, tuple_of, cell_of, map_of}

patterns_size-get : (ps : List Pattern) (i : ℕ) (p : Pattern) → i < length ps → pattern_size (get_or ps i p) ≤ patterns_size (patterns_of ps)
patterns_size-get [] i p h = absurd (omega arith)
patterns_size-get (x ∷ xs) zero p h = omega arith
patterns_size-get (x ∷ xs) (suc i) p h = omega (arith, patterns_size-get xs i p (omega arith))

-- an element is at most as large as all elements
pub patterns_size-at : (ps : List Pattern) (i : ℕ) (p : Pattern) → i < length ps → p ≡ get_or ps i p → pattern_size p ≤ patterns_size (patterns_of ps)
patterns_size-at ps i p h e = omega (arith, patterns_size-get ps i p h, ap pattern_size e)

fields_size-get : (fs : List (Datum × Pattern)) (i : ℕ) (f : Datum × Pattern) → i < length fs → pattern_size (get_or fs i f).1 ≤ fields_size (fields_of fs)
fields_size-get [] i f h = absurd (omega arith)
fields_size-get (x ∷ xs) zero f h = omega arith
fields_size-get (x ∷ xs) (suc i) f h = omega (arith, fields_size-get xs i f (omega arith))

pub fields_size-at : (fs : List (Datum × Pattern)) (i : ℕ) (f : Datum × Pattern) → i < length fs → f ≡ get_or fs i f → pattern_size f.1 ≤ fields_size (fields_of fs)
fields_size-at fs i f h e = omega (arith, fields_size-get fs i f h, ap (λ x. pattern_size x.1) e)

pub pattern_size-some : (p : Pattern) → 0 < pattern_size p
pattern_size-some (variable n) = omega arith
pattern_size-some anything = omega arith
pattern_size-some (literal d) = omega arith
pattern_size-some (tuple_of ps) = omega arith
pattern_size-some (cell_of p q) = omega arith
pattern_size-some (map_of fs) = omega arith

pub patterns_size-some : (ps : List Pattern) → 0 < length ps → 0 < patterns_size (patterns_of ps)
patterns_size-some [] h = absurd (omega arith)
patterns_size-some (p ∷ ps) h = omega arith

-- the size of a list is that of its elements and its tail
pub cells-size : (ps : List Pattern) (q : Pattern) → pattern_size (cells_of ps q) ≡ patterns_size (patterns_of ps) + pattern_size q
cells-size [] q = omega arith
cells-size (p ∷ ps) q = omega (arith, cells-size ps q)

-- a list is larger than its elements and its tail
pub cells-fall : (ps : List Pattern) (q p : Pattern) → cells_of ps q ≡ p → 0 < length ps → (patterns_size (patterns_of ps) < pattern_size p) × (pattern_size q < pattern_size p)
cells-fall [] q p is some = absurd (omega arith)
cells-fall (x ∷ ps) q p is some =
    let whole = cells-size (x ∷ ps) q in
    (omega (arith, whole, ap pattern_size is, pattern_size-some q), omega (arith, whole, ap pattern_size is))

-- a list's variables are those of its elements and of its tail
pub cells-variables : (ps : List Pattern) (q : Pattern) → pattern_variables (cells_of ps q) ≡ patterns_variables (patterns_of ps) ++ pattern_variables q
cells-variables [] q = refl
cells-variables (p ∷ ps) q =
    ap (λ l. pattern_variables p ++ l) (cells-variables ps q) ∙ sym (append_assoc (pattern_variables p) (patterns_variables (patterns_of ps)) (pattern_variables q))

-- appending the variables of the elements, and then of the tail, appends those of the list
pub collected : (ps xs : List Pattern) (q p : Pattern) (old mid new : List ℕ) → cells_of ps q ≡ p → xs ≡ ps → mid ≡ old ++ patterns_variables (patterns_of xs) → new ≡ mid ++ pattern_variables q → new ≡ old ++ pattern_variables p
collected ps xs q p old mid new is same elements last =
    last ∙ ap (λ l. l ++ pattern_variables q) elements
    ∙ append_assoc old (patterns_variables (patterns_of xs)) (pattern_variables q)
    ∙ ap (λ l. old ++ (patterns_variables (patterns_of l) ++ pattern_variables q)) same
    ∙ ap (λ l. old ++ l) (sym (cells-variables ps q))
    ∙ ap (λ r. old ++ pattern_variables r) is

pattern_nodes-some : (p : Pattern) → 0 < pattern_nodes p
pattern_nodes-some (variable n) = omega arith
pattern_nodes-some anything = omega arith
pattern_nodes-some (literal d) = omega arith
pattern_nodes-some (tuple_of ps) = omega arith
pattern_nodes-some (cell_of p q) = omega arith
pattern_nodes-some (map_of fs) = omega arith

-- without room for one node there is none for a pattern
pub no_room : (room : ℕ) (p : Pattern) → (1 ≤ room → ⊥) → room < pattern_nodes p
no_room zero p h = pattern_nodes-some p
no_room (suc room) p h = absurd (h (omega arith))

tail_nodes-no_list : (q : Pattern) → IsNoListPattern q → tail_nodes q ≡ pattern_nodes q
tail_nodes-no_list (variable n) h = refl
tail_nodes-no_list anything h = refl
tail_nodes-no_list (literal (integer z)) h = refl
tail_nodes-no_list (literal (atom cs)) h = refl
tail_nodes-no_list (literal (tuple ds)) h = refl
tail_nodes-no_list (literal (map es)) h = refl
tail_nodes-no_list (literal nil) h = absurd h
tail_nodes-no_list (literal (cons head tail)) h = refl
tail_nodes-no_list (literal (binary bs)) h = refl
tail_nodes-no_list (tuple_of ps) h = refl
tail_nodes-no_list (cell_of p q) h = absurd h
tail_nodes-no_list (map_of fs) h = refl

cells-tail_nodes : (ps : List Pattern) (q : Pattern) → tail_nodes (cells_of ps q) ≡ patterns_nodes (patterns_of ps) + tail_nodes q
cells-tail_nodes [] q = omega arith
cells-tail_nodes (p ∷ ps) q = omega (arith, cells-tail_nodes ps q)

-- a list has one node, those of its elements, and those of its tail if that is not []
pub cells-nodes : (ps xs : List Pattern) (q p : Pattern) → cells_of ps q ≡ p → 0 < length ps → xs ≡ ps → pattern_nodes p ≡ suc (patterns_nodes (patterns_of xs) + tail_nodes q)
cells-nodes [] xs q p is some same = absurd (omega arith)
cells-nodes (x ∷ ps) xs q p is some same =
    omega (arith, cells-tail_nodes ps q, ap pattern_nodes is, ap (λ l. patterns_nodes (patterns_of l)) same)

pub tail-nodes : {A : Type 0} (t : Option (Box Pattern A)) (b : Box Pattern A) (q : Pattern) → t ≡ Some b → q ≡ b.value → IsTailPattern t → tail_nodes (tail_pattern t) ≡ pattern_nodes q
tail-nodes {A} t b q e same h =
    let P : Option (Box Pattern A) → Type 0 = λ x. IsTailPattern x in
    let no_list : IsNoListPattern b.value = subst P e h in
    ap (λ x. tail_nodes (tail_pattern x)) e ∙ tail_nodes-no_list b.value no_list ∙ ap pattern_nodes (sym same)

-- nodes leave of some room what more nodes leave of that much more room
pub Leaves-more : (left : Option ℕ) (room nodes more whole total : ℕ) → room + more ≡ whole → total ≡ nodes + more → Leaves left room nodes → Leaves left whole total
Leaves-more None room nodes more whole total e f h = omega arith
Leaves-more (Some rest) room nodes more whole total e f h = omega arith

clauses-split : (cs : List Clause) (i : ℕ) (c : Clause) → i < length cs → c ≡ get_or cs i c → drop i cs ≡ c ∷ drop (i + 1) cs
clauses-split cs i c h e = drop-cons cs i c h ∙ ap (λ y. y ∷ drop (suc i) cs) (sym e) ∙ ap (λ j. c ∷ drop j cs) (sym (add-one i))

pub specification_nodes-step : (cs : List Clause) (i : ℕ) (c : Clause) → i < length cs → c ≡ get_or cs i c → specification_nodes (drop i cs) ≡ clause_nodes c + specification_nodes (drop (i + 1) cs)
specification_nodes-step cs i c h e = ap specification_nodes (clauses-split cs i c h e) ∙ sum_by-cons clause_nodes c (drop (i + 1) cs)

-- ---- expressions

-- a list expression is larger than its elements and its tail
pub new_cells-fall : (es : List Expression) (f e : Expression) → new_cells es f ≡ e → 0 < length es → (expressions_size (expressions_of es) < expression_size e) × (expression_size f < expression_size e)
new_cells-fall [] f e is some = absurd (omega arith)
new_cells-fall (x ∷ es) f e is some =
    let whole = new_cells-size (x ∷ es) f in
    (omega (arith, whole, ap expression_size is, size-some f), omega (arith, whole, ap expression_size is))

expression_nodes-some : (variables : ℕ) (e : Expression) → 0 < expression_nodes variables e
expression_nodes-some variables (bound n) = omega arith
expression_nodes-some variables object = omega arith
expression_nodes-some variables bindings = omega arith
expression_nodes-some variables (constant d) = omega arith
expression_nodes-some variables (quoted d) = omega arith
expression_nodes-some variables (call f es) = omega arith
expression_nodes-some variables (and_also es) = omega arith
expression_nodes-some variables (or_else es) = omega arith
expression_nodes-some variables (new_tuple es) = omega arith
expression_nodes-some variables (new_cell e f) = omega arith
expression_nodes-some variables (new_map ms) = omega arith

-- without room for one node there is none for an expression
pub no_room_expression : (variables room : ℕ) (e : Expression) → (1 ≤ room → ⊥) → room < expression_nodes variables e
no_room_expression variables zero e h = expression_nodes-some variables e
no_room_expression variables (suc room) e h = absurd (h (omega arith))

constant-nodes : (d : Datum) → IsNoListExpression (constant d) → literal_tail_nodes d ≡ 1
constant-nodes (integer z) h = refl
constant-nodes (atom cs) h = refl
constant-nodes (tuple ds) h = refl
constant-nodes (map es) h = refl
constant-nodes nil h = absurd h
constant-nodes (cons head tail) h = refl
constant-nodes (binary bs) h = refl

rest_nodes-no_list : (variables : ℕ) (f : Expression) → IsNoListExpression f → rest_nodes variables f ≡ expression_nodes variables f
rest_nodes-no_list variables (bound n) h = refl
rest_nodes-no_list variables object h = refl
rest_nodes-no_list variables bindings h = refl
rest_nodes-no_list variables (constant d) h = constant-nodes d h
rest_nodes-no_list variables (quoted d) h = refl
rest_nodes-no_list variables (call f es) h = refl
rest_nodes-no_list variables (and_also es) h = refl
rest_nodes-no_list variables (or_else es) h = refl
rest_nodes-no_list variables (new_tuple es) h = refl
rest_nodes-no_list variables (new_cell e f) h = absurd h
rest_nodes-no_list variables (new_map ms) h = refl

new_cells-rest_nodes : (variables : ℕ) (es : List Expression) (f : Expression) → rest_nodes variables (new_cells es f) ≡ expressions_nodes variables (expressions_of es) + rest_nodes variables f
new_cells-rest_nodes variables [] f = omega arith
new_cells-rest_nodes variables (e ∷ es) f = omega (arith, new_cells-rest_nodes variables es f)

-- a list expression has one node, those of its elements, and those of its tail if that is not []
pub new_cells-nodes : (variables : ℕ) (es xs : List Expression) (f e : Expression) → new_cells es f ≡ e → 0 < length es → xs ≡ es → expression_nodes variables e ≡ suc (expressions_nodes variables (expressions_of xs) + rest_nodes variables f)
new_cells-nodes variables [] xs f e is some same = absurd (omega arith)
new_cells-nodes variables (x ∷ es) xs f e is some same =
    omega (arith, new_cells-rest_nodes variables es f, ap (expression_nodes variables) is, ap (λ l. expressions_nodes variables (expressions_of l)) same)

pub rest-nodes : {A : Type 0} (variables : ℕ) (t : Option (Box Expression A)) (b : Box Expression A) (f : Expression) → t ≡ Some b → f ≡ b.value → IsTailExpression t → rest_nodes variables (tail_expression t) ≡ expression_nodes variables f
rest-nodes {A} variables t b f e same h =
    let P : Option (Box Expression A) → Type 0 = λ x. IsTailExpression x in
    let no_list : IsNoListExpression b.value = subst P e h in
    ap (λ x. rest_nodes variables (tail_expression x)) e ∙ rest_nodes-no_list variables b.value no_list ∙ ap (expression_nodes variables) (sym same)
