pub mod Letter
pub mod Kinds
pub mod Faults
pub mod Exact
pub mod Written
pub mod Settled
