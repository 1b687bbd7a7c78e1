pub mod StateLaws
pub mod LabelLaws
pub mod MessageLaws
