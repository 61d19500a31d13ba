pub mod BodyLemmas
pub mod CountLemmas
pub mod LabelLemmas
pub mod NodeLemmas
pub mod VariableLemmas
pub mod WriteLemmas
