-- What reading at one place rests on; what decoding means stands in fidl_decode_model:
--   Reading the message that a decoder reads
--   Ready   when it can go on
--   Body    the envelopes of a table's value
--   Structs the structs of which any bytes are a value
pub mod Reading
pub mod Ready
pub mod Body
pub mod Structs
