pub mod KindLemmas
pub mod MembersLemmas
pub mod AskingLemmas
pub mod AnswersLemmas
pub mod ScanLemmas
mod SharesSent
