pub mod Flush
pub mod Unflushed
pub use Rattle.hl_model.specs.Snapshots
pub use Rattle.hl_lag.specs.Lag
pub use Rattle.hl_image.specs.Failures
pub use Rattle.hl_cells.specs.Engines
pub use Rattle.hl_cells.specs.Jobs
