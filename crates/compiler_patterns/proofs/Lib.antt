pub mod WrittenLemmas
pub mod SpelledLemmas
pub mod FoundLemmas
pub mod WritableLemmas
pub mod WriteLemmas
