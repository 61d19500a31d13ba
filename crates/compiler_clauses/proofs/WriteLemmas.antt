-- What of a specification was put so far.
use Rattle.std.proofs.Common.{◌≡◌, ◌∙◌, ℕ, ◌+◌, ◌-◌, ◌<◌, ◌≤◌, Some, List, [], ◌∷◌, ◌++◌, length, get_or, slice_get, drop, refl, sym, ap, subst, arith, append_assoc}
use Rattle.std.specs.Prelude.{All}
use Rattle.std.proofs.lemmas.List.{drop_all}
use Rattle.std.proofs.lemmas.List.Elements.{All-get_or}
use Rattle.std.proofs.lemmas.List.Sums.{get_or-le-sum_by}
use Rattle.mcode.specs.Program.{most_slots}
use Rattle.mspec_syntax.specs.Expression.{Expression}
use Rattle.mspec_syntax.specs.Mode.Position.{by_itself}
use Rattle.mspec_syntax.specs.Rising.{rank_of}
use Rattle.mspec_syntax.specs.Sound.{IsSoundExpression, IsSoundClause}
use Rattle.mspec_syntax.specs.Specification.{Clause, Specification, IsWithinLimits, clause_nodes, clause_variables, specification_variables}
use Rattle.mspec_syntax.specs.declared.mode.Mode.{Mode}
use Rattle.mspec_syntax.proofs.RankLemmas.{rank-below}
use Rattle.mspec_syntax.proofs.RisingLemmas.{among-place}
use Rattle.compiler_assembly.specs.Line.{SourceLine, Block}
use Rattle.compiler_expressions.specs.Expressions.{Site, lines_at}
use Rattle.compiler_expressions.proofs.LineLemmas.{split_at}
use Rattle.compiler_clauses.specs.Clauses.{body_lines, site_of, clause_block, end_block, blocks_of}
use Rattle.compiler_clauses.specs.Writable.{AreAmong, IsWritableClause}
use Rattle.compiler_clauses.proofs.BodyLemmas.{answer_line, body_last}
use Rattle.compiler_clauses.proofs.VariableLemmas.{variables_inside}

-- ---- bodies

pub body_put : (site : Site) (es : List Expression) (e : Expression) (ls old : List SourceLine) → Some e ≡ slice_get es (length es - 1) → ls ≡ answer_line ∷ old → lines_at site 0 [] e by_itself ++ ls ≡ body_lines site es ++ old
body_put site es e ls old is put =
    let own = lines_at site 0 [] e by_itself in
    ap (λ l. own ++ l) put
    ∙ sym (append_assoc own (answer_line ∷ []) old)
    ∙ ap (λ l. l ++ old) (sym (body_last site es e is))

-- ---- clauses

-- the slot of a variable of a clause is below the limit
pub slot_below : (slots bound : List ℕ) (i : ℕ) → length slots ≤ most_slots → AreAmong bound slots → i < length bound → rank_of slots (get_or bound i 0) < most_slots
slot_below slots bound i few among below =
    let n = get_or bound i 0 in
    omega (arith, rank-below slots n (among n (among-place bound i n below refl)), few)

-- what the expressions of a clause require follows from the clause and its site
pub parts_sound : (site : Site) (vs : List ℕ) (c : Clause) (mode : Mode) (es fs : List Expression) → site ≡ site_of vs c mode → es ≡ fs → All (IsSoundExpression (clause_variables c)) fs → All (IsSoundExpression site.bound) es
parts_sound site vs c mode es fs is same sound = rw (is, same) sound

-- each clause of a specification can be written
pub clause_writable : (spec cs : Specification) (slots : List ℕ) (i : ℕ) (c : Clause) → slots ≡ specification_variables spec → cs ≡ spec → i < length cs → c ≡ get_or cs i c → All IsSoundClause spec → IsWithinLimits spec → IsWritableClause slots c
clause_writable spec cs slots i c named same below is sound limits =
    let vs = specification_variables spec in
    let within : i < length spec = rw same at below in
    let place : c ≡ get_or spec i c = is ∙ ap (λ l. get_or l i c) same in
    let here : IsWritableClause vs (get_or spec i c) = record {
      count = limits.variables;
      among = All-get_or (λ d. AreAmong (clause_variables d) vs) spec i c within (variables_inside spec);
      sound = All-get_or IsSoundClause spec i c within sound;
      nodes = omega (arith, get_or-le-sum_by clause_nodes spec i c within, limits.nodes);
    } in
    rw named (subst (IsWritableClause vs) (sym place) here)

-- one more block
pub blocks_step : (vs slots : List ℕ) (cs : Specification) (i : ℕ) (c : Clause) (block : Block) (bs now all : List Block) → i < length cs → c ≡ get_or cs i c → slots ≡ vs → block ≡ clause_block slots c → now ≡ bs ++ block ∷ [] → bs ++ blocks_of vs (drop i cs) ≡ all → now ++ blocks_of vs (drop (i + 1) cs) ≡ all
blocks_step vs slots cs i c block bs now all below is named made put so =
    let own : block ≡ clause_block vs c = made ∙ ap (λ l. clause_block l c) named in
    let rest = blocks_of vs (drop (i + 1) cs) in
    ap (λ l. l ++ rest) (put ∙ ap (λ b. bs ++ b ∷ []) own)
    ∙ append_assoc bs (clause_block vs c ∷ []) rest
    ∙ ap (λ l. bs ++ blocks_of vs l) (sym (split_at cs i c below is))
    ∙ so

-- the last block is the end
pub blocks_all : (vs : List ℕ) (cs : Specification) (i : ℕ) (block : Block) (bs now all : List Block) → length cs ≤ i → block ≡ end_block → now ≡ bs ++ block ∷ [] → bs ++ blocks_of vs (drop i cs) ≡ all → now ≡ all
blocks_all vs cs i block bs now all end made put so =
    put ∙ ap (λ b. bs ++ b ∷ []) made ∙ ap (λ l. bs ++ blocks_of vs l) (sym (drop_all i cs end)) ∙ so
