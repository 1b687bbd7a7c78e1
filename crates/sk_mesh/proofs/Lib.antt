pub mod Beginnings
pub mod ByPlace
pub mod Writes
pub mod Besides
pub mod Growing
pub mod Growths
