pub mod Limbs
pub mod Octets
pub mod Rsavp1
pub mod Opening
pub mod Pkcs1
pub mod Mgf1
pub mod Pss
pub mod RSquared
