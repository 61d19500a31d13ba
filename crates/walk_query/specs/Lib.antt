pub mod Named
pub mod Laws
pub mod Plan
pub mod PlanFacts
