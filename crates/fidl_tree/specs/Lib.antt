-- The definitions of trees, in the order in which to read them:
--   Syntax         a file as plain data: what its meaning depends on
--   Views          the plain data of a tree
--   Leaf           a word of a tree, with what the grammar asks of its text
--   Path, Value, Attribute, Constraint, Keyword, ValueMember, TypeConstructor, Protocol,
--   Declaration    the words of each production, in the order of the grammar
--   File           the words of a whole tree, and which trees are proper
--   Brackets       how many brackets may be open at once
--   Examples       small trees for worked facts
pub mod Leaf
pub mod Path
pub mod Value
pub mod Attribute
pub mod Constraint
pub mod Keyword
pub mod ValueMember
pub mod TypeConstructor
pub mod Protocol
pub mod Declaration
pub mod File
pub mod Brackets
pub mod Syntax
pub mod Views
pub mod Examples
