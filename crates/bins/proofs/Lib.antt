pub mod Boxes
pub mod Runs
pub mod Laws
pub mod Hits
pub mod Same
pub mod Occupied
pub mod Rows
