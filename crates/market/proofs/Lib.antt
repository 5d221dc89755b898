pub mod Bounds
pub mod Fields
