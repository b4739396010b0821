-- Numbers and doubles at a place of a list of bytes.
pub mod BigEndian
