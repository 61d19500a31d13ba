-- The explanation of a query, put together of its parts.
use Rattle.std.proofs.Common.{◌≡◌, ◌∙◌, ◌⊎◌, inl, inr, ℕ, List, [], ◌∷◌, ◌++◌, Option, None, refl, sym, ap, subst}
use Rattle.std.specs.Io.KnownBytes.{Appends, Keeps}
use Rattle.term_core.specs.Datum.{Datum}
use Rattle.term_core.specs.Datum.Datum.{integer, atom, tuple, map, nil, cons, binary}
use Rattle.mcode.specs.Answer.{answer_of}
use Rattle.mcode.specs.Program.{Program}
use Rattle.mspec_syntax.specs.Specification.{Specification, specification_variables}
use Rattle.mspec_meaning.specs.Meaning.{Means}
use Rattle.compiler_clauses.specs.Clauses.{code_of}
use Rattle.walk_query.specs.Named.{named_by}
use Rattle.tool_io.specs.declared.fault.ToolFault.{ToolFault}
use Rattle.tool_io.specs.declared.fault.ToolFault.TheVariants as fault
use Rattle.tool_query.specs.Code.{IsNoBinary}
use Rattle.tool_query.specs.Query.{Query, IsRead, IsLoaded, IsQuery, IsNoQuery, IsUnloaded, IsNoSpecification}
use Rattle.tool_query.proofs.QueryLemmas.{asks_meant, asks_nothing}
use Rattle.tool_explain.specs.Explain.{CodeText, QueryText, Explains, WritesQuery, StopsQuery, StopsTerm, StopsExplanation}
use Rattle.tool_explain.specs.Passing.{StopsPassing}
use Rattle.tool_explain.specs.Plan.{plan_text}

-- ---- the text of a query

pub coded_text : (keypos : ℕ) (p : Program) (plan text code : List ℕ) → plan ≡ plan_text keypos None → CodeText [] p code → text ≡ plan ++ code → QueryText keypos (Query.coded p) text
coded_text keypos p plan text code plan_is code_is is =
    record { code = code; answers = λ object. refl; code_is = code_is; text_is = is ∙ ap (λ l. l ++ code) plan_is }

pub meant_text : (keypos : ℕ) (s : Specification) (p : Program) (vs plan text code : List ℕ) → p ≡ code_of s → ((object : Datum) → Means s object (answer_of p object))
    → vs ≡ specification_variables s → plan ≡ plan_text keypos (named_by keypos s) → CodeText vs p code → text ≡ plan ++ code → QueryText keypos (Query.meant s) text
meant_text keypos s p vs plan text code same answers variables plan_is code_is is = record {
  code = code;
  answers = subst (λ (q : Program). (object : Datum) → Means s object (answer_of q object)) same answers;
  code_is = subst (λ (q : Program). CodeText (specification_variables s) q code) same (subst (λ (ws : List ℕ). CodeText ws p code) variables code_is);
  text_is = is ∙ ap (λ l. l ++ code) plan_is;
}

-- ---- which query a term is

coded_explained : (keypos : ℕ) (d : Datum) (bytes text : List ℕ) → d ≡ binary bytes → (p : Program) → IsLoaded bytes p → QueryText keypos (Query.coded p) text → Explains keypos d text
coded_explained keypos d bytes text is p loaded h = (Query.coded p, subst (λ e. IsQuery e (Query.coded p)) (sym is) (p, refl, loaded), h)

pub coded_written : (keypos : ℕ) (d : Datum) (bytes : List ℕ) (old new : Option (List ℕ)) → d ≡ binary bytes → (p : Program) × IsLoaded bytes p × (text : List ℕ) × QueryText keypos (Query.coded p) text × Appends old new text → WritesQuery keypos d old new
coded_written keypos d bytes old new is (p, loaded, text, query, gained) = (text, coded_explained keypos d bytes text is p loaded query, gained)

pub meant_written : (keypos : ℕ) (d : Datum) (old new : Option (List ℕ)) → IsNoBinary d → (s : Specification) × IsRead d s × (text : List ℕ) × QueryText keypos (Query.meant s) text × Appends old new text → WritesQuery keypos d old new
meant_written keypos d old new other (s, read, text, query, gained) = (text, (Query.meant s, asks_meant d s other read, query), gained)

-- ---- early ends

-- memory ran out while the text of a query was written, or the writer failed
pub query_stops : (keypos : ℕ) (q : Query) (text : List ℕ) (old new : Option (List ℕ)) (f : ToolFault) → QueryText keypos q text → StopsPassing text old new f → StopsQuery keypos q old new f
query_stops keypos q text old new fault.Memory query stops = inr (text, query, stops)
query_stops keypos q text old new fault.WriteFailed query stops = tt
query_stops keypos q text old new (fault.Text f) query stops = absurd stops
query_stops keypos q text old new fault.BadInput query stops = absurd stops
query_stops keypos q text old new (fault.Specification f) query stops = absurd stops
query_stops keypos q text old new (fault.File f) query stops = absurd stops
query_stops keypos q text old new (fault.Code f b) query stops = absurd stops
query_stops keypos q text old new fault.ReadFailed query stops = absurd stops
query_stops keypos q text old new fault.TooSmall query stops = absurd stops
query_stops keypos q text old new fault.BadOptions query stops = absurd stops

pub coded_stops : (keypos : ℕ) (d : Datum) (bytes : List ℕ) (old new : Option (List ℕ)) (f : ToolFault) → d ≡ binary bytes
    → (IsUnloaded bytes f × Keeps old new) ⊎ ((p : Program) × IsLoaded bytes p × StopsQuery keypos (Query.coded p) old new f) → StopsTerm keypos d old new f
coded_stops keypos d bytes old new f is (inl h) = inl (subst (λ e. IsNoQuery e f) (sym is) h.0, h.1)
coded_stops keypos d bytes old new f is (inr (p, loaded, stops)) = inr (Query.coded p, subst (λ e. IsQuery e (Query.coded p)) (sym is) (p, refl, loaded), stops)

pub meant_stops : (keypos : ℕ) (d : Datum) (old new : Option (List ℕ)) (f : ToolFault) → IsNoBinary d
    → (IsNoSpecification d f × Keeps old new) ⊎ ((s : Specification) × IsRead d s × StopsQuery keypos (Query.meant s) old new f) → StopsTerm keypos d old new f
meant_stops keypos d old new f other (inl h) = inl (asks_nothing d f other h.0, h.1)
meant_stops keypos d old new f other (inr (s, read, stops)) = inr (Query.meant s, asks_meant d s other read, stops)

-- ---- a term that is no query

-- the number of terms is not why a term is no query
one_term : (d : Datum) → IsNoQuery d fault.BadInput → ⊥
one_term (integer z) h = h
one_term (atom cs) h = h
one_term (tuple ds) h = h
one_term (map es) h = h
one_term nil h = h
one_term (cons head tail) h = h
one_term (binary bs) h = h

unexplained : (keypos : ℕ) (terms : List Datum) (first : Datum) (old new : Option (List ℕ)) (f : ToolFault) → terms ≡ first ∷ [] → IsNoQuery first f → Keeps old new → StopsExplanation keypos terms old new f
unexplained keypos terms first old new fault.Memory is h keeps = inl keeps
unexplained keypos terms first old new fault.WriteFailed is h keeps = tt
unexplained keypos terms first old new fault.BadInput is h keeps = absurd (one_term first h)
unexplained keypos terms first old new (fault.Text f) is h keeps = (first, is, h, keeps)
unexplained keypos terms first old new (fault.Specification f) is h keeps = (first, is, h, keeps)
unexplained keypos terms first old new (fault.File f) is h keeps = (first, is, h, keeps)
unexplained keypos terms first old new (fault.Code f b) is h keeps = (first, is, h, keeps)
unexplained keypos terms first old new fault.ReadFailed is h keeps = (first, is, h, keeps)
unexplained keypos terms first old new fault.TooSmall is h keeps = (first, is, h, keeps)
unexplained keypos terms first old new fault.BadOptions is h keeps = (first, is, h, keeps)

explained_stops : (keypos : ℕ) (terms : List Datum) (first : Datum) (q : Query) (old new : Option (List ℕ)) (f : ToolFault) → terms ≡ first ∷ [] → IsQuery first q → StopsQuery keypos q old new f → StopsExplanation keypos terms old new f
explained_stops keypos terms first q old new fault.Memory is query (inl keeps) = inl keeps
explained_stops keypos terms first q old new fault.Memory is query (inr (text, whole, front)) = inr (first, is, text, (q, query, whole), front)
explained_stops keypos terms first q old new fault.WriteFailed is query stops = tt
explained_stops keypos terms first q old new (fault.Text f) is query stops = absurd stops
explained_stops keypos terms first q old new fault.BadInput is query stops = absurd stops
explained_stops keypos terms first q old new (fault.Specification f) is query stops = absurd stops
explained_stops keypos terms first q old new (fault.File f) is query stops = absurd stops
explained_stops keypos terms first q old new (fault.Code f b) is query stops = absurd stops
explained_stops keypos terms first q old new fault.ReadFailed is query stops = absurd stops
explained_stops keypos terms first q old new fault.TooSmall is query stops = absurd stops
explained_stops keypos terms first q old new fault.BadOptions is query stops = absurd stops

pub term_stops : (keypos : ℕ) (terms : List Datum) (first : Datum) (old new : Option (List ℕ)) (f : ToolFault) → terms ≡ first ∷ [] → StopsTerm keypos first old new f → StopsExplanation keypos terms old new f
term_stops keypos terms first old new f is (inl h) = unexplained keypos terms first old new f is h.0 h.1
term_stops keypos terms first old new f is (inr (q, query, stops)) = explained_stops keypos terms first q old new f is query stops
