pub mod PoolLemmas
pub mod InstructionLemmas
pub mod AssemblerLemmas
pub mod StandLemmas
