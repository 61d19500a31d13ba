pub mod PassLemmas
pub mod FaultLemmas
pub mod OnceLemmas
pub mod BodyLemmas
pub mod VerifiedLemmas
pub mod PushedLemmas
pub mod PlainLemmas
