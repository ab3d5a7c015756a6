pub mod Complaint
pub mod Values
pub mod Options
pub mod CommandLine
pub mod Faults
