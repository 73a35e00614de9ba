pub mod ViewLemmas
pub mod ReadingLemmas
pub mod FrontLaws
pub mod Again
