-- The definitions of the terms of types, in the order in which to read them:
--   Numbers   the numbers of layouts
--   Counts    the number of elements of an array
--   Terms     the terms of types, aliases followed
-- NumberViews and TermViews are of the code alone: how it holds what these say.
pub mod Numbers
pub mod Counts
pub mod Terms
pub mod NumberViews
pub mod TermViews
