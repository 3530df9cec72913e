pub mod Packed
pub mod Links
pub mod Refusals
pub mod Results
pub mod StoredKinds
pub mod Fitting
pub mod Flags
