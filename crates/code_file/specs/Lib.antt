pub mod Due
pub mod Causes
pub mod Reads
pub mod FaultNumbers
pub mod Rising
pub mod Faults
pub mod Parts
