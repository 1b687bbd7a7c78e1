pub mod Kept
pub mod Lin
pub mod Answers
pub mod Table
