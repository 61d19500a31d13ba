pub mod PathLemmas
pub mod PassLemmas
pub mod BodyLemmas
pub mod ForwardLemmas
