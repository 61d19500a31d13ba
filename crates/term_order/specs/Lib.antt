pub mod Keys
pub mod Laws
pub use Rattle.term_core.specs.Datum
pub use Rattle.term_core.specs.Limits
pub use Rattle.term_core.specs.Order
pub use Rattle.term_core.specs.KeyHash
