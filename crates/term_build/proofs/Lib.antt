pub mod ByKeyLemmas
pub mod MadeLemmas
pub mod RestLemmas
