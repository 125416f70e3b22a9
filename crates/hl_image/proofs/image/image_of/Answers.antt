use Rattle.std.proofs.Common.{rules}
use Rattle.hl_image.proofs.image.image_of.Goals as goal

pub returns : goal.returns
returns c = search rules
