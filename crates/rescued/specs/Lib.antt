-- What holds of a rescue, whatever the file.
pub mod Holds
