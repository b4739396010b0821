-- The run file's fields: their table, the state between two of them, and what a field's bytes must be.
pub mod Fields
