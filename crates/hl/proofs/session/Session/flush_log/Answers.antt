use Rattle.hl.proofs.FlushLaws.{pads_one, pads_then}
use Rattle.hl.proofs.session.Session.flush_log.Goals as goal

pub returns-clause-flushes : goal.returns-clause-flushes
returns-clause-flushes g c = record {
  told = c.snapshot.result;
  looked = c.snapshot.new.self;
  looks = (c.snapshot.ensures.met, c.snapshot.ensures.kept);
  flushes = c.flush.ensures.flushes;
  pads = pads_then c.args.self.now c.snapshot.new.self c.flush.new.self (pads_one c.args.self.now c.snapshot.new.self c.snapshot.ensures.did) c.flush.ensures.did;
}
