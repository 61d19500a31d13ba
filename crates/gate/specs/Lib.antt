pub mod Views
pub mod Rule
pub mod Steps
pub mod Sessions
pub mod SessionFacts
