pub mod LogCalls
pub mod LogValues
pub mod PageCalls
pub mod PageValues
pub mod PassCalls
pub mod PassValues
pub mod SealCalls
