-- The definitions of types behind their aliases: Behind. The others are of the code alone: how it
-- holds what that says (BehindViews), what it finds on the way (Followed), and small types for worked
-- facts (AliasExamples).
-- The definitions of what constraints give, in the order in which to read them:
--   Items    the constraints of a type, each with its place in its list
--   Parts    what constraints give, nothing twice, and what holds where nothing is given
--   Gives    what each constraint of a type gives, and what all of them give
-- The others are of the code alone: how it holds what these say (ItemViews), and small constraints
-- for worked facts (Examples).
pub mod Items
pub mod ItemViews
pub mod Parts
pub mod Gives
pub mod Examples
pub mod Behind
pub mod BehindViews
pub mod Followed
pub mod AliasExamples
