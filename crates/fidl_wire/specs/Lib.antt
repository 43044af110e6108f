-- The definitions of the wire format, in the order in which to read them:
--   Value          a value as plain data
--   Term           the types, as terms
--   Figure         sizes, alignments, nests and offsets
--   Typed          which values a type has
--   Encoding       how a value is encoded: inline, out of line, and its handles
--   Field          numbers at places of messages and tables
--   Marker         what markers say
--   Envelope       what envelopes say
--   Depth          how deep the objects of a value lie
--   Message        which messages encode a value
--   Standing       parts that stand in a message at a place
--   Text           a value as it is written
--   Views          the plain data of the code's trees
--   Samples        small types for worked messages and refusals
pub mod Value
pub mod Term
pub mod Figure
pub mod Typed
pub mod Encoding
pub mod Depth
pub mod Message
pub mod Text
pub mod Standing
pub mod Field
pub mod Marker
pub mod Envelope
pub mod Views
pub mod Samples
