pub mod Walks
pub mod Calls
pub mod Views
pub mod Laws
pub mod Worked
