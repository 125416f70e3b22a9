-- What a keeper stores of the offsets and the epochs, as each log does.
unfoldable pub use Rattle.hl_pass.specs.Stores.{moves_in, down_from, settled_in, stores_of}
pub use Rattle.hl_pass.specs.Stores.{if_settle, settled_by, with_told, IsAbove, IsSettled}
