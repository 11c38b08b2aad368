pub mod Lowest
pub mod Laws
pub mod Calls
pub mod Distinct
pub mod Worked
