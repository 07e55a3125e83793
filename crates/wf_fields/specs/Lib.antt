-- The fields of tables, and the forms of their values.
pub mod Fields
