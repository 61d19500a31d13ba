pub mod Spelling
pub mod File
pub mod Format
pub mod Formats
pub mod Opcodes
pub mod Laws
