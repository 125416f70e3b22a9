-- the law
use Rattle.hl_laws.proofs.HeadlineLaws.{headline}
use Rattle.hl_laws.proofs.laws.headline.Goals as goal

pub returns : goal.returns
returns c = headline
