-- The calls of the C surface over plain numbers and lists, in the library's words.
pub mod Calls
