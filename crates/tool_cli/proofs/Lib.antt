mod WorkedRows
mod PlaceRows
pub mod PlaceLemmas
pub mod CharacterLemmas
pub mod KindLemmas
pub mod NumberLemmas
pub mod KindReads
pub mod RuleLemmas
pub mod RowLemmas
pub mod FlagLemmas
pub mod OptionLemmas
pub mod FirstLemmas
pub mod WordsLemmas
pub mod ReadLemmas
pub mod WhyLemmas
pub mod EndLemmas
