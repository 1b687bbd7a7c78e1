pub mod Causes
pub mod Playing
pub mod Index
pub mod Sound
pub mod Machines
