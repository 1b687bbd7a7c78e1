pub mod StateLaws
pub mod EdgeLaws
pub mod CourseLaws
pub mod ToldLaws
