-- The definitions of methods, in the order in which to read them:
--   Texts        the texts that `@selector` may give
--   Selectors    the attribute `@selector`, and when it is wrong
--   Methods      what a method of a protocol is, where it may stand, its text and its ordinal
--   Rules        when the members of a protocol are proper, and what each refusal says
--   MethodViews  what methods of the code are as plain data, and the list that the code gives
pub mod Texts
pub mod Selectors
pub mod Methods
pub mod Rules
pub mod MethodViews
