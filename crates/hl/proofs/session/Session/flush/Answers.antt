use Rattle.std.proofs.Common.{arith, ℕ, false, subst, refl, ap, sym, ◌∙◌, inl, inr}
use Rattle.hl_crew.proofs.GoesLaws.{followed_more}
use Rattle.hl_model.specs.Sizes.{Sizes}
use Rattle.hl_domain.specs.Domains.{DomainState}
use Rattle.hl.specs.declared.session.flush.Due.{Due}
use Rattle.hl.specs.Flushes.{due_at, DoesDue, FlushNext}
use Rattle.hl.specs.Sessions.{SessionState}
use Rattle.hl.proofs.FlushLaws.{pads_none, pads_one, pads_of_meets, pads_then, reached, told_range, going_below}
use Rattle.hl.proofs.session.Session.flush.Goals as goal

pub loop-init : goal.loop-init
loop-init g c = (refl, refl, refl, pads_none c.args.self.now c.args.self.now refl)

pub loop-preserved : goal.loop-preserved
loop-preserved g c =
    let before = c.loop.invariant in
    let kept = c.snapshot.ensures.kept in
    let helps = c.help_by.ensures in
    let size = c.page_size-page_size.ensures.value ∙ ap (λ (sizes : Sizes). sizes.page_size) c.params.ensures ∙ ap (λ (s : SessionState). s.log.sizes.page_size) c.self.view_is ∙ sym (ap (λ (l : DomainState). l.sizes.page_size) before.0) in (
      helps.1 ∙ c.do_due-asked.ensures.log ∙ ap (λ (s : SessionState). s.log) kept ∙ before.0,
      helps.2 ∙ c.do_due-asked.ensures.beside ∙ ap (λ (s : SessionState). s.beside) kept ∙ before.1,
      followed_more (FlushNext g.row.F.Denot g.F.Task.gives g.P.Promise.keeps c.args.address) c.loop.counter (false, c.args.self.now) (c.loop.asked, c.loop.self) (c.do_due-asked.result, c.help_by.new.self) before.2 (record {
        told = c.snapshot.result;
        looked = c.snapshot.new.self;
        looks = (c.snapshot.ensures.met, kept);
        going = sym c.in-None.ensures;
        did = c.do_due-asked.new.self;
        does = subst (λ (due : Due). DoesDue g.row.F.Denot due c.loop.asked c.do_due-asked.result c.snapshot.new.self c.do_due-asked.new.self) (c.at.ensures ∙ ap (λ (n : ℕ). due_at n c.snapshot.result.0.six c.args.address c.loop.asked) size) c.do_due-asked.ensures.does;
        help = c.help_by.result;
        helps = helps;
      }),
      pads_then c.args.self.now c.do_due-asked.new.self c.help_by.new.self
          (pads_then c.args.self.now c.snapshot.new.self c.do_due-asked.new.self (pads_then c.args.self.now c.loop.self c.snapshot.new.self before.3 (pads_one c.loop.self c.snapshot.new.self c.snapshot.ensures.did)) c.do_due-asked.ensures.did)
          (pads_of_meets c.do_due-asked.new.self c.help_by.new.self helps.3),
    )

-- a page ends below the greatest address
pub at-requires-clause-tail : goal.at-requires-clause-tail
at-requires-clause-tail g c =
    omega (arith, going_below c.snapshot.result.0.six c.args.address (sym c.in-None.ensures), (told_range g.row.F.Denot c.loop.self.log c.snapshot.result c.loop.self.pass.rider c.snapshot.new.self.pass.rider c.snapshot.ensures.met).0)

pub returns-in-Some-clause-did : goal.returns-in-Some-clause-did
returns-in-Some-clause-did g c = pads_then c.args.self.now c.loop.self c.snapshot.new.self c.loop.invariant.3 (pads_one c.loop.self c.snapshot.new.self c.snapshot.ensures.did)

pub returns-in-Some-answer-clause-did : goal.returns-in-Some-answer-clause-did
returns-in-Some-answer-clause-did g c = pads_then c.args.self.now c.loop.self c.snapshot-2.new.self c.loop.invariant.3 (pads_one c.loop.self c.snapshot-2.new.self c.snapshot-2.ensures.did)

pub returns-in-None-answer-clause-did : goal.returns-in-None-answer-clause-did
returns-in-None-answer-clause-did g c = pads_then c.args.self.now c.loop.self c.snapshot-2.new.self c.loop.invariant.3 (pads_one c.loop.self c.snapshot-2.new.self c.snapshot-2.ensures.did)
