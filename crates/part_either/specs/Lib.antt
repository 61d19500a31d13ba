pub mod Either
pub mod EitherFacts
