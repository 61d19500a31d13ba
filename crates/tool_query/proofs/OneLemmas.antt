-- The output is determined by the input.
use Rattle.std.proofs.Common.{◌≡◌, ℕ, ◌++◌, List, [], ◌∷◌, Option, Some, sym, ◌∙◌, ap, subst}
use Rattle.term_core.specs.Datum.{Datum}
use Rattle.term_core.specs.Datum.Datum.{integer, atom, tuple, map, nil, cons, binary}
use Rattle.term_text.specs.Laws.{SpellsOne}
use Rattle.term_text.specs.Text.{Spells}
use Rattle.mspec_reader.specs.Laws.{HasOneReading}
use Rattle.mspec_syntax.specs.Specification.{Specification}
use Rattle.mspec_meaning.specs.Laws.{HasOneMeaning}
use Rattle.compiler_clauses.specs.Clauses.{code_of}
use Rattle.code_writer.specs.File.{Spells as IsFile, file_bytes}
use Rattle.code_writer.specs.Laws.{OneCode}
use Rattle.budget.specs.Laws.{HasOneBudget}
use Rattle.budget.specs.Paths.{IsBudget}
use Rattle.verifier.specs.Laws.{DepthIsOne}
use Rattle.verifier.specs.Typing.{IsDepth}
use Rattle.tool_io.specs.Lines.{line}
use Rattle.tool_query.specs.Answers.{Report, report_line, AreLines}
use Rattle.tool_query.specs.Answers.Report.{answers, outcomes}
use Rattle.tool_query.specs.Code.{WritesFile, WritesVerdict, verdict}
use Rattle.tool_query.specs.Laws.{IsOne, OutputIsOne}
use Rattle.tool_query.specs.Query.{Query, Answers, IsRead, IsQuery}
use Rattle.tool_query.specs.Run.{Asks, WritesAnswers}

-- an input spells one list of terms
module _ (spells_one : SpellsOne) where
  -- an input has one list of terms
  pub terms_once : (Writes : List Datum → (old new : Option (List ℕ)) → Type 0)
      → ((terms : List Datum) (written a b : List ℕ) → Writes terms (Some written) (Some a) → Writes terms (Some written) (Some b) → a ≡ b) → IsOne Writes
  terms_once Writes once input written a b first again =
      let spelled = subst (λ i. Spells i first.2.0) (first.1 ∙ sym again.1) first.2.1.spelled in
      let same = spells_one again.0 first.2.0 again.2.0 spelled again.2.1.spelled in
      once again.2.0 written a b (subst (λ (ts : List Datum). Writes ts (Some written) (Some a)) same first.2.2) again.2.2

-- a term means one query
module _ (one_reading : HasOneReading) (one_code : OneCode) where
  pub meant_once : (d : Datum) (q r : Query) → (s : Specification) × (q ≡ Query.meant s) × IsRead d s → (s : Specification) × (r ≡ Query.meant s) × IsRead d s → q ≡ r
  meant_once d q r h k = h.1 ∙ ap Query.meant (one_reading d h.0 k.0 h.2.0 k.2.0) ∙ sym k.1

  pub query_once : (d : Datum) (q r : Query) → IsQuery d q → IsQuery d r → q ≡ r
  query_once (binary bytes) q r h k = h.1 ∙ ap Query.coded (one_code bytes h.0 k.0 h.2.0 k.2.0) ∙ sym k.1
  query_once (integer z) q r h k = meant_once (integer z) q r h k
  query_once (atom cs) q r h k = meant_once (atom cs) q r h k
  query_once (tuple ds) q r h k = meant_once (tuple ds) q r h k
  query_once (map es) q r h k = meant_once (map es) q r h k
  query_once nil q r h k = meant_once nil q r h k
  query_once (cons head tail) q r h k = meant_once (cons head tail) q r h k

module _ (spells_one : SpellsOne) (one_reading : HasOneReading) (one_meaning : HasOneMeaning) (one_code : OneCode) (one_budget : HasOneBudget) (one_depth : DepthIsOne) where
  asks_once : (w : Report) (d : Datum) (q r : Query) → Asks w d q → Asks w d r → q ≡ r
  asks_once (answers f) d q r h k = query_once one_reading one_code d q r h k
  asks_once (outcomes f) d q r h k = meant_once one_reading one_code d q r h k

  answer_once : (q : Query) (d : Datum) (a b : Option Datum) → Answers q d a → Answers q d b → a ≡ b
  answer_once (Query.meant s) d a b h k = one_meaning s d a b h k
  answer_once (Query.coded p) d a b h k = h ∙ sym k

  lines_once : (r : Report) (q : Query) (objects : List Datum) (a b : List ℕ) → AreLines r (Answers q) objects a → AreLines r (Answers q) objects b → a ≡ b
  lines_once r q [] a b first again = first ∙ sym again
  lines_once r q (d ∷ ds) a b first again =
      let same = answer_once q d first.0 again.0 first.2 again.2 in
      let rests = lines_once r q ds first.1 again.1 first.3 again.3 in
      first.4 ∙ ap (λ answer. report_line r answer ++ first.1) same ∙ ap (λ rest. report_line r again.0 ++ rest) rests ∙ sym again.4

  reports_once : (r : Report) (terms : List Datum) (written a b : List ℕ) → WritesAnswers r terms (Some written) (Some a) → WritesAnswers r terms (Some written) (Some b) → a ≡ b
  reports_once r terms written a b first again =
      let cells : (first.asked.first ∷ first.objects) ≡ (again.asked.first ∷ again.objects) = sym first.asked.whole ∙ again.asked.whole in
      let heads : first.asked.first ≡ again.asked.first = cc in
      let objects : first.objects ≡ again.objects = cc in
      let queries = asks_once r again.asked.first first.query again.query (subst (λ d. Asks r d first.query) heads first.asked.asks) again.asked.asks in
      let of_objects = subst (λ ds. AreLines r (Answers first.query) ds first.answered.out) objects first.answered.lines in
      let of_query = subst (λ q. AreLines r (Answers q) again.objects first.answered.out) queries of_objects in
      let outs = lines_once r again.query again.objects first.answered.out again.answered.out of_query again.answered.lines in
      first.answered.gained ∙ ap (λ out. written ++ out) outs ∙ sym again.answered.gained

  files_once : (terms : List Datum) (written a b : List ℕ) → WritesFile terms (Some written) (Some a) → WritesFile terms (Some written) (Some b) → a ≡ b
  files_once terms written a b first again =
      let cells : (first.first ∷ []) ≡ (again.first ∷ []) = sym first.alone ∙ again.alone in
      let heads : first.first ≡ again.first = cc in
      let same = one_reading again.first first.specification again.specification (subst (λ d. IsRead d first.specification) heads first.read).0 again.read.0 in
      let files = first.file.spells.spelling ∙ ap (λ s. file_bytes (code_of s)) same ∙ sym again.file.spells.spelling in
      first.gained ∙ ap (λ bytes. written ++ line (binary bytes)) files ∙ sym again.gained

  verdicts_once : (terms : List Datum) (written a b : List ℕ) → WritesVerdict terms (Some written) (Some a) → WritesVerdict terms (Some written) (Some b) → a ≡ b
  verdicts_once terms written a b first again =
      let cells : (binary first.bytes ∷ []) ≡ (binary again.bytes ∷ []) = sym first.alone ∙ again.alone in
      let same : first.bytes ≡ again.bytes = cc in
      let codes = one_code again.bytes first.code again.code (subst (λ bytes. IsFile bytes first.code) same first.loaded.0) again.loaded.0 in
      let budgets = one_budget again.code first.budget again.budget (subst (λ p. IsBudget p first.budget) codes first.budget_is) again.budget_is in
      let depths = one_depth again.code first.depth again.depth (subst (λ p. IsDepth p first.depth) codes first.depth_is) again.depth_is in
      first.gained ∙ ap (λ n. written ++ line (verdict n first.depth)) budgets ∙ ap (λ n. written ++ line (verdict again.budget n)) depths ∙ sym again.gained

  pub output_once : OutputIsOne
  output_once = record {
    reports = λ r. terms_once spells_one (WritesAnswers r) (reports_once r);
    files = terms_once spells_one WritesFile files_once;
    verdicts = terms_once spells_one WritesVerdict verdicts_once;
  }
