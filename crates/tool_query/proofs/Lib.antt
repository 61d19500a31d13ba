pub mod TextLemmas
pub mod QueryLemmas
pub mod AnswerLemmas
pub mod RunLemmas
pub mod OneLemmas
