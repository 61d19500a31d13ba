pub mod NamedLemmas
pub mod KeyLemmas
pub mod WorkedKeys
pub mod OrderLemmas
pub mod PlanLemmas
