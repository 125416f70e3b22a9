pub mod StandLaws
pub mod KnownLaws
pub mod CallLaws
pub mod LoadLaws
pub mod SealLaws
pub mod ReachLaws
pub mod PassSeals
