-- The rules of the numbers of bits and enums, in the order in which to read them:
--   Numbers  the numbers of members
--   ValueRules    when files keep the rules, and what each refusal says of them
-- The definitions of the rules of layouts, in the order in which to read them:
--   Ordinals     the ordinals of tables and unions
--   Strict       strict layouts that must have members
--   Profile      the attributes that the profile leaves out
--   Rules        when files keep the rules of layouts, and what each refusal says
pub mod Ordinals
pub mod Strict
pub mod Profile
pub mod Rules
pub mod Numbers
pub mod ValueRules
