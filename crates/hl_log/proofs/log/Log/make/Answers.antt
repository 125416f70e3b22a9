use Rattle.std.proofs.Common.{refl, ap, ◌∙◌}
use Rattle.hl_words.specs.Rows.{RowMasterState}
use Rattle.hl_log.specs.States.{LogState}
use Rattle.hl_log.proofs.StandLaws.{makes_told, makes_at, told_rises, log_after}
use Rattle.hl_log.proofs.log.Log.make.Goals as goal

pub tell-requires-clause-rises : goal.tell-requires-clause-rises
tell-requires-clause-rises c = told_rises (record { core = c.self.inside.core; stamps = c.self.inside.stamps; shared = c.self.inside.shared.value; master = c.self.inside.master }) _ c.args.step.now c.in_ok-reply.reply c.self.invariant c.in_ok-reply.ensures.made

pub invariant_of-self-2 : goal.invariant_of-self-2
invariant_of-self-2 c =
    log_after _ _ c.args.step.now _ c.self.invariant (makes_told _ _ c.args.step.now c.in_ok-reply.reply c.in_ok-reply.ensures.made (ap (λ (m : RowMasterState). m.offsets) c.tell.ensures)) refl (ap (λ (m : RowMasterState). m.table) c.tell.ensures) refl

pub returns-clause-made : goal.returns-clause-made
returns-clause-made c = record {
  made = makes_at _ _ _ c.args.step.now _ _ _ c.self.view_is refl refl (makes_told _ _ c.args.step.now c.in_ok-reply.reply c.in_ok-reply.ensures.made (ap (λ (m : RowMasterState). m.offsets) c.tell.ensures));
  shared = ap (λ (l : LogState). l.shared) c.self.view_is;
  stamps = ap (λ (l : LogState). l.stamps) c.self.view_is;
  left = ap (λ (m : RowMasterState). m.left) c.tell.ensures ∙ ap (λ (l : LogState). l.master.left) c.self.view_is;
}
