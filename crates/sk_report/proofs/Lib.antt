pub mod Getting
pub mod Taking
pub mod Walking
pub mod Telling
