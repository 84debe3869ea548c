pub mod Row
pub mod Best
