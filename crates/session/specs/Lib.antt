pub mod Listing
pub mod Feeding
pub mod Runs
pub mod Walking
