pub use Rattle.ets_error.specs.Kept
pub use Rattle.ets_error.specs.Numbers
pub use Rattle.ets_error.specs.declared.error.Error
pub use Rattle.term_core.specs.Datum
pub use Rattle.term_core.specs.Order
pub use Rattle.term_core.specs.KeyHash
pub use Rattle.term_text.specs.Text
pub use Rattle.term_text.specs.Canonical
pub use Rattle.mspec_syntax.specs.Grammar
pub use Rattle.mspec_meaning.specs.Meaning
pub use Rattle.mcode.specs.Answer
pub use Rattle.part_core.specs.Acts
pub use Rattle.part_core.specs.Legal
pub use Rattle.part_core.specs.Ops
pub use Rattle.part_core.specs.Settings
pub use Rattle.part_core.specs.declared.kind.TableKind
pub use Rattle.tables.specs.Calls as SessionCalls
pub use Rattle.tables.specs.OneThread
pub use Rattle.tables.specs.Opened
pub use Rattle.tables.specs.Options
pub use Rattle.tables.specs.Sessions
pub use Rattle.tables.specs.Turns
pub use Rattle.tables.specs.declared.options.Options as OptionsType
pub use Rattle.walks.specs.Alone
pub use Rattle.open_table.specs.Calls
pub use Rattle.open_table.specs.Parts
pub use Rattle.open_table.specs.Queries
pub use Rattle.open_table.specs.Shows
pub use Rattle.open_table.specs.Walks
pub use Rattle.walks.specs.Asked
pub use Rattle.walks.specs.OneThread as WalksOnOneThread
pub use Rattle.walks.specs.Pieces
pub use Rattle.walks.specs.Query
pub use Rattle.walks.specs.Sights
