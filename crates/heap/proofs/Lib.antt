pub mod Cases
pub mod Steps
pub mod Keeps
pub mod View
pub mod Order
pub mod Worked
