pub mod Talks
pub mod Connection
