pub mod EqualColours
