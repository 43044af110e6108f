-- The definitions of views, in the order in which to read them:
--   Shows          which value a view shows
--   Parts          the part of a value that each call answers
--   Elements       the elements of a list, one by one
--   Members        the members of a struct, a table or a union
--   Fields         the members of a struct, one by one
--   Numbers        the numbers that stand at a place
--   Views          what a view and an iterator are seen as
pub mod Parts
pub mod Shows
pub mod Elements
pub mod Views
pub mod Numbers
pub mod Members
pub mod Fields
pub mod Within
pub mod Trees
