pub mod DrainLaws
pub mod Rising
pub mod TakenLaws
pub mod Places
