pub mod PlaceLaws
pub mod MarkLaws
pub mod RisingLaws
