-- The definitions of what names mean, in the order in which to read them:
--   Names          what files declare, by full name
--   Imports        which libraries a file sees, and under which names
--   FullNames      which declaration has which full name
--   Meanings       what a name may mean, and when it means just one thing
--   Paths          paths in plain data, and what the refusal of one says
--   Spots          the walk that finds types, numbers in arguments and layouts
--   MemberNames    where the names of members stand
--   Aliases        which kind a type's name wants, and what aliases resolve to
--   Places         where names stand in a declaration, and what each place wants
--   Constraints    what the names in constraints mean
--   Scopes         what is known of files whose rules were checked
--   Faults         the numbers, names and places of refusals
-- The others are of the code alone: the numbers by which it finds members (MemberNumbers), its maps
-- of names (NameMaps), the meanings that it keeps (KeptNames), and how it holds what these say
-- (PlaceViews, SpotViews, ReferenceViews, ScopeFacts, StoredFiles).
pub mod Names
pub mod NameMaps
pub mod Imports
pub mod FullNames
pub mod Meanings
pub mod Paths
pub mod Spots
pub mod SpotViews
pub mod MemberNames
pub mod Aliases
pub mod Places
pub mod PlaceViews
pub mod ReferenceViews
pub mod KeptNames
pub mod Faults
pub mod StoredFiles
pub mod Constraints
pub mod MemberNumbers
pub mod ScopeFacts
pub mod Scopes
