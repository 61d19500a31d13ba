pub mod CharacterLemmas
pub mod Steps
pub mod Tokens
pub mod Words
pub mod Items
pub mod Shorter
pub mod Keys
pub mod Sound
pub mod Whole
pub mod Texts
pub mod Readers
pub mod Short
pub mod Within
pub mod Constructed
pub mod Publics
pub mod Written
pub mod ReadBack
pub mod Bytes
pub mod Ends
pub mod Blames
pub mod BlamesTerms
pub mod Stops
pub mod Meets
pub mod Nexts
pub mod AddedLemmas
mod ByteWords
mod QuotedRuns
mod Places
mod Stacks
