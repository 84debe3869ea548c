pub mod Places
pub mod Promise
pub mod Market
pub mod Laws
pub mod ByPoints
pub mod Office
pub mod Cuts
pub mod Rounds
