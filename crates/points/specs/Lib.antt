pub mod Standing
pub mod Cursors
