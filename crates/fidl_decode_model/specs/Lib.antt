-- The definitions of decoding, in the order in which to read them:
--   State          a message, and where a value that stands in it leads
--   Envelopes      members in envelopes, and the rules that an envelope breaks by its numbers
--   Breaks         where a message breaks a rule of its type
--   Faults         what each refusal says of a message
--   Placed         where a value's bytes stand, found through the links
--   Readable       that no link hides what is read there, and none is missing
--   Links, Model   what links, and a decoded message, are seen as
--   Work           the least steps that decoding a value takes
-- What a decoder's loop rests on, which no reader of a contract needs:
--   Invariants     what a well-formed table gives the decoder
--   Fine           that it gives this in one way alone
--   Rows, Machine  what frames and turns read, and what they cost
--   Worth          what is read, where its values are of at most so much work
--   Frontier       where links can stand while a message is read
--   Samples        states and frames for examples
--   Steps          how many steps a call counts
pub mod State
pub mod Envelopes
pub mod Breaks
pub mod Faults
pub mod Placed
pub mod Readable
pub mod Links
pub mod Model
pub mod Work
pub mod Invariants
pub mod Fine
pub mod Rows
pub mod Worth
pub mod Frontier
pub mod Samples
pub mod Machine
pub mod Steps
