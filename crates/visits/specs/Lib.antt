pub mod Visits
pub mod Answers
pub mod OneOf
