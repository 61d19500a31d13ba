pub mod WordLemmas
pub mod PatternLemmas
pub mod RisingLemmas
pub mod ExpressionLemmas
pub mod ExpressionSizes
pub mod SizeLemmas
pub mod SoundLemmas
pub mod RankLemmas
mod NameLemmas
mod PlainLemmas
