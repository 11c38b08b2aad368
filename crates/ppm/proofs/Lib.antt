pub mod Tails
pub mod Gaps
pub mod Numbers
pub mod Headers
pub mod Calls
pub mod Laws
pub mod Worked
