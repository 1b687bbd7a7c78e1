pub mod Cuts
pub mod Spelled
pub mod EntryLaws
pub mod WorldLaws
