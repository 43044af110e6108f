-- What the rules of all files give, in the order in which to read them:
--   Marks       what makes each form a resource
--   Places      where a form is reported
--   Types       when the types of files keep all rules, and what checked files hold
--   Faults      what each refusal says
--   FaultNames  the numbers, names and places of refusals
pub mod Marks
pub mod Places
pub mod Types
pub mod Faults
pub mod FaultNames
