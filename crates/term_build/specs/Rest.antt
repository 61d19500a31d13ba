-- The rest of a list after some of its elements.
pub use Rattle.term_core.specs.Parts.{rest_of}
