mod ReplyLemmas
pub mod TurnLemmas
mod LocalLemmas
mod FixLemmas
mod ObjectLemmas
mod OpeningLemmas
pub mod OpenedLemmas
mod SessionLemmas
mod LawLemmas
