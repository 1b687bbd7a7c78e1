pub mod KeptLaws
pub mod TableLaws
pub mod ValidLaws
pub mod AnswerLaws
pub mod SendLaws
pub mod OrderLaws
