pub mod CommandFaults
pub mod CommandLines
pub mod CommandNames
pub mod OptionFaults
pub mod TaskAnswers
pub mod Addresses
