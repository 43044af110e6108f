-- The definitions of the service, in the order in which to read them:
--   Replying   what a frame of a verdict is answered, and what is then left of the script
--   Output     what a service writes for an input, and how it ends
--   Served     what a run has read and written
--   Requests   which request each reply answers
--   Faults     the numbers and names of the faults
--   Cursors    what is left of a script, by the place of each method's next reply
--   Turns      what one turn of a service does
--   Samples    the script of the worked facts
pub mod Replying
pub mod Output
pub mod Served
pub mod Requests
pub mod Faults
pub mod Cursors
pub mod Turns
pub mod Samples
