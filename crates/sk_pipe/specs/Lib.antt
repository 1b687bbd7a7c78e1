pub mod Pipe
pub mod Run
pub mod Laws
pub mod Examples
pub mod Hearing
pub mod Frames
pub mod Session
