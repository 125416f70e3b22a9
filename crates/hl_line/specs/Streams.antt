-- What a failed write to a stream leaves.
use Rattle.std.specs.Prelude.{ℕ, ◌≡◌, ◌<◌, Option, List, ◌++◌, length}
use Rattle.std.specs.Io.KnownBytes.{Appends}

-- known bytes grew by a beginning of this text, which ends before the text does
pub record BreaksOff (old new : Option (List ℕ)) (text : List ℕ) : Type 0 where
  pub written : List ℕ
  pub missing : List ℕ
  pub is_missing : 0 < length missing
  pub both : written ++ missing ≡ text
  pub grown : Appends old new written
