pub mod KnownLemmas
pub mod HoldLemmas
pub mod ValueLemmas
pub mod MeaningLemmas
