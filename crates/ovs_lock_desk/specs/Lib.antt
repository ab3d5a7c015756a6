pub mod LockState
pub mod RelayLock
pub mod DueNames
pub mod PendingSteal
pub mod LockDesk
pub mod OwedMarks
pub mod UpwardTable
