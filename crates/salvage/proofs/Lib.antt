pub mod Returns
pub mod Results
pub mod Stands
pub mod Laws
pub mod Determined
