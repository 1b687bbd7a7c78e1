pub mod Orders
pub mod Places
pub mod Slices
pub mod Hearing
