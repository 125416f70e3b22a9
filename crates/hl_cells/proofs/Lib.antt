pub mod CellLaws
pub mod EngineMoves
pub mod FiringLaws
pub mod HoldLaws
pub mod JobLaws
pub mod ShownPages
pub mod TakenRows
pub mod ToldLaws
