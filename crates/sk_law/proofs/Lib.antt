mod Entries
mod Blocks
mod Filled
mod Going
mod Ends
mod Putting
mod Resting
pub mod Counting
pub mod Gots
pub mod Others
pub mod Bounds
pub mod Ties
pub mod TakingOut
pub mod Hearing
pub mod Starting
pub mod Readers
pub mod Serving
pub mod Keeping
