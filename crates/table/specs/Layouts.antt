-- The two layouts of a table (Rules, Layouts). Definitions only.
pub data Layout : Type 0 where
  Wide : Layout
  Narrow : Layout
