pub mod ShownLemmas
pub mod PlaceLemmas
pub mod PutLemmas
pub mod ExchangeLemmas
pub mod GatherLemmas
pub mod SendLemmas
