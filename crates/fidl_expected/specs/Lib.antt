-- Expected   the words that are tried, and what is known of the one that was expected
pub mod Expected
