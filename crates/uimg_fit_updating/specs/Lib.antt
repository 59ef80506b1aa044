pub mod Reservations
pub mod Reading
pub mod Importing
pub mod Updating
