pub mod Meets
pub mod Once
pub mod Announced
pub mod Barrier
pub mod Safety
pub mod Heard
pub mod Refused
pub mod Sent
