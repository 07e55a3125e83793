pub mod Fields
pub mod Doc
pub mod Json
pub mod Scan
pub mod Read
pub mod Path
pub mod formers
pub mod Text
