-- What compiling sources means, in the order in which to read it:
--   Sources  the files of sources, when they are accepted, and what their table is
--   Stages   what each refusal says of the sources
--   Reports  what is reported of a refusal
pub mod Sources
pub mod Stages
pub mod Reports
