-- A text that is rejected.
use Rattle.std.proofs.Common.{ℕ, inl, List}
use Rattle.term_text.specs.declared.fault.TextFault.{TextFault}
use Rattle.term_text.specs.declared.fault.TextFault.TheVariants as text
use Rattle.tool_io.specs.Terms.{IsUnspelled}
use Rattle.tool_io.specs.Wrapped.{of_text}
use Rattle.cutterash.specs.Calls.{IsNoTerm}

-- a text that spells no terms does not spell one term
pub no_terms : (input : List ℕ) (f : TextFault) → IsUnspelled input (of_text f) → IsNoTerm input (of_text f)
no_terms input text.Memory h = tt
no_terms input (text.TooDeep at) h = inl h
no_terms input (text.TooLong at) h = inl h
no_terms input (text.DuplicateKey at) h = inl h
no_terms input (text.Syntax at) h = inl h
no_terms input (text.BadUtf8 at) h = inl h
no_terms input (text.IntegerRange at) h = inl h
no_terms input (text.UnsupportedEscape at) h = inl h
