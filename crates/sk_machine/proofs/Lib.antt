pub mod Soundness
pub mod Indexing
