pub mod Objects
pub mod Fitting
pub mod Words
pub mod Actions
pub mod Services
pub mod Written
