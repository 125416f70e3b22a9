-- the law
use Rattle.hl_images.proofs.CopyLaws.{answered_is_flushed}
use Rattle.hl_images.proofs.laws.answered_is_flushed.Goals as goal

pub returns : goal.returns
returns c = answered_is_flushed
