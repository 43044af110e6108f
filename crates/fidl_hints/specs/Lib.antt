-- What helps a user whose input is refused:
--   Snippets       the line of a place, and a caret under the place
--   Nearest        the distance of a word from a name, and the nearest of names
--   Explanations   what is said of a fault that is asked for
pub mod Snippets
pub mod Nearest
pub mod Explanations
