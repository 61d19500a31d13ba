pub mod SentLemmas
pub mod TableLemmas
