pub use Rattle.part_hash.proofs.SendLemmas
pub use Rattle.tables.proofs.OpenedLemmas
