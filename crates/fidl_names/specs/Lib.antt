-- The rules of names, in the order in which to read them; what names mean is in fidl_named:
--   ImportRules    what is asked of the imports of a file
--   ImportCycles   libraries that import one another
--   MemberLists    the lists of members, whose names differ
--   OuterTypes     the types that a type names outside layouts
--   AliasCycles    aliases that lead back to themselves
--   Refusals       what the refusal of a file says
--   Resolved       when files are resolved, and what each refusal says of them
-- The others are of the code alone: its graph of aliases (AliasGraph), the numbers by which it finds
-- declarations (DeclarationNumbers), its maps of names (TakenNames), its rows of what aliases come
-- to (MeaningRows), and how it holds types (OuterViews).
pub mod TakenNames
pub mod ImportRules
pub mod ImportCycles
pub mod MemberLists
pub mod OuterTypes
pub mod OuterViews
pub mod AliasCycles
pub mod DeclarationNumbers
pub mod AliasGraph
pub mod MeaningRows
pub mod Refusals
pub mod Resolved
