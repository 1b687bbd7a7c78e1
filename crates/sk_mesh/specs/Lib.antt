pub mod Rings
pub mod Places
pub mod Pairs
pub mod Ends
pub mod Growth
