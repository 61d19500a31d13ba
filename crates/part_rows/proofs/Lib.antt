pub mod ObjectLemmas
pub mod DeadLemmas
pub mod ListedLemmas
