pub mod Slices
pub mod Tables
pub mod Refusals
pub mod Bytes
pub mod Encode
