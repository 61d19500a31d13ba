pub mod TreeLemmas
pub mod LookLemmas
pub mod ShownLemmas
pub mod SendLemmas
