pub mod Range
pub mod Lists
pub mod Ends
pub mod Determined
pub mod Compare
pub mod Refusals
pub mod Exits
