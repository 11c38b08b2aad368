pub mod Grow
pub mod Rounding
pub mod Numbers
pub mod Cut
pub mod Loop
pub mod Product
pub mod Spreads
pub mod Tables
