pub mod SeenLemmas
pub mod EdgeLemmas
pub mod RunLemmas
pub mod WalkLemmas
pub mod AnswerLemmas
pub mod HandLemmas
pub mod StandLemmas
pub mod GoingLemmas
