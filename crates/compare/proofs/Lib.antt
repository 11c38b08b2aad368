pub mod Differences
pub mod Places
pub mod Calls
pub mod Views
pub mod Laws
pub mod Worked
