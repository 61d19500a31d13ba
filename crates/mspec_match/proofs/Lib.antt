pub mod SlotLemmas
pub mod FitLemmas
pub mod MatchLemmas
pub mod OwnLemmas
