pub mod Bases
pub mod Accepting
pub mod Goings
pub mod Openings
pub mod Once
pub mod Reports
mod Accounts
