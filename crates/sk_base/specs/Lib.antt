pub mod Ranges
pub mod Talk
pub mod Calls
pub mod Reading
pub mod Memory
pub mod MemoryNet
pub mod Statuses
