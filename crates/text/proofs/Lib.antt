pub mod LineLaws
pub mod FeedLaws
pub mod PrintLaws
pub mod RoundTrip
pub mod OneResult
pub mod Found
pub mod HearingLaws
