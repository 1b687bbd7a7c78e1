pub mod TalkLaws
pub mod FollowLaws
