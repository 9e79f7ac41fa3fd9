pub mod Words
pub mod Chosen
pub mod Printed
pub mod Reported
