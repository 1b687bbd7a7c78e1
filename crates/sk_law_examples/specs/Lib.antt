pub mod Examples
pub mod Journals
pub mod Wrong
pub mod Unsafe
pub mod Acausal
pub mod Living
