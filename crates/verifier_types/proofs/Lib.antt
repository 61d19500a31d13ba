pub mod ShapeLemmas
pub mod CursorLemmas
pub mod KeyLemmas
pub mod FrameLemmas
pub mod LeavingLemmas
pub mod FaultLemmas
pub mod PassedLemmas
