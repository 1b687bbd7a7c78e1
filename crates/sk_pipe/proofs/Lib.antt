pub mod CountLaws
pub mod FrameLaws
pub mod HearingLaws
pub mod GrowthLaws
pub mod TalkLaws
pub mod SessionLaws
pub mod Examples
