pub mod ListingLemmas
pub mod PassingLemmas
pub mod ExplainLemmas
pub mod OneLemmas
