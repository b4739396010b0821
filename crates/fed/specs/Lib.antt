-- What holds of a fed run, whatever the file and however it is cut.
pub mod Holds
pub mod Known
