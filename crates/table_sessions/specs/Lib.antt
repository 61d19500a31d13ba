pub mod OpenedFact
pub mod Own
