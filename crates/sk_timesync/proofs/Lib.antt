pub mod PeerLaws
pub mod RuleLaws
pub mod CountLaws
pub mod LastLaws
