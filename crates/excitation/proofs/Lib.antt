pub mod Periods
pub mod Mixes
pub mod Shifts
pub mod Outcomes
pub mod Laws
pub mod Determined
