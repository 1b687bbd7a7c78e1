pub mod Names
pub mod Contents
pub mod Lines
pub mod Totals
pub mod Report
pub mod Groups
pub mod Got
pub mod Walks
