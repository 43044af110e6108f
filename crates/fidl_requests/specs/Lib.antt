-- The definitions of requests, in the order in which to read them:
--   Endings    how a service ends
--   Frame      the message and the handles of a whole frame
--   Carried    which bytes and handles are a message of what a method carries
--   Methods    which ordinals are those of a method with a request
--   Verdict    what a frame asks of a service
--   Samples    the tables and frames of the worked facts
pub mod Carried
pub mod Endings
pub mod Frame
pub mod Methods
pub mod Samples
pub mod Verdict
