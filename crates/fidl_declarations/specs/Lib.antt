-- The definitions of what stands in files, in the order in which to read them:
--   Sites        the one walk: types with what their places ask, layouts, results, attributes
--   Forms        the layouts and results that have a number, with their names
--   Keywords     where the keyword of a layout stands
-- The others are of the code alone: how it holds what these say (SiteViews, FormViews).
pub mod Sites
pub mod SiteViews
pub mod Forms
pub mod FormViews
pub mod Keywords
