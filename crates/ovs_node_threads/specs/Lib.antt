pub mod Collecting
pub mod Epochs
pub mod Handing
pub mod Lines
pub mod Refusing
pub mod Reporting
