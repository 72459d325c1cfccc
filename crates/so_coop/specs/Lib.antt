pub mod Coops
pub mod Counts
pub mod Laws
