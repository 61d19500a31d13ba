mod WorkedRows
pub mod NumberLemmas
pub mod StopLemmas
pub mod RowLemmas
pub mod LeafLemmas
pub mod LevelLemmas
pub mod RiseLemmas
pub mod InstructionLemmas
pub mod FrameLemmas
pub mod BodyLemmas
pub mod EndLemmas
pub mod HeaderLemmas
pub mod DecodeLemmas
pub mod RoutineLemmas
