pub mod Commands
pub mod Names
pub mod Numbers
pub mod Requests
pub mod Plain
