pub mod Calls
pub mod Along
pub mod Once
