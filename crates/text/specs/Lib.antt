pub mod Words
pub mod Lists
pub mod Lines
pub mod Drafts
pub mod Texts
pub mod Laws
pub mod Accounts
