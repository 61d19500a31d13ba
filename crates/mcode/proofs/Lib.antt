pub mod RiseLemmas
pub mod KindLemmas
pub mod BodyLemmas
pub mod BuildLemmas
pub mod RunLemmas
