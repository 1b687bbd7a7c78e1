pub mod Members
pub mod TableLaws
pub mod EventLaws
pub mod MapLaws
pub mod KeptLaws
