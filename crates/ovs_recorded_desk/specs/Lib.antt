pub mod Answering
pub mod LedgerCalls
pub mod Steps
