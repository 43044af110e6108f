-- The definitions of the commands over streams of frames, in the order in which to read them:
--   Running    what these commands answer to their arguments and files
--   Serving    what the command `serve` answers
--   Dumping    what the command `dump` answers
--   DumpRunning what `dump` answers to its arguments and files
pub mod Serving
pub mod Dumping
pub mod DumpRunning
pub mod Running
