pub mod Failing
pub mod Plan
pub mod Sweeps
