-- The definitions of proper resource definitions, in the order in which to read them:
--   Kinds      types of uint32, and what the properties may be
--   Resources  when the resource definitions of files are proper, and what each refusal says
pub mod Kinds
pub mod Resources
