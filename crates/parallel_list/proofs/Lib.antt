pub mod Sent
mod RunLemmas
