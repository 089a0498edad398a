-- What a claim about each member of a list says of the list, and lists of tests.
pub mod Every
pub mod Tests
