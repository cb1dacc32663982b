pub mod Performs
pub mod Sessions
pub mod Prints
