pub mod Der
pub mod Pem
pub mod Names
pub mod Trees
pub mod Keys
