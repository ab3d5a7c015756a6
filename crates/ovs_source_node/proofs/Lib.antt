pub mod LastSteps
pub mod Reports
