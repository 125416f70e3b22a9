pub mod Lag
pub use Rattle.hl_model.specs.Snapshots
