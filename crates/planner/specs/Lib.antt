pub mod Answers
pub mod Sittings
pub mod Stores
pub mod Reports
pub mod Accounts
