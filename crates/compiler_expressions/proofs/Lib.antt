pub mod KeyLemmas
pub mod LineLemmas
pub mod WriteLemmas
pub mod LengthLemmas
pub mod SoundLemmas
pub mod EndLemmas
pub mod ListedLemmas
mod TextLemmas
