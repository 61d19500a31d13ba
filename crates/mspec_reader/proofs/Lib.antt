pub mod GrammarLemmas
pub mod ReadingLemmas
