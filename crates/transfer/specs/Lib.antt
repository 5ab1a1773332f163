pub mod Contents
pub mod Orders
pub mod Exact
pub mod Lacks
pub mod Visits
