use Rattle.std.proofs.Common.{◌≡◌, ◌∙◌, [], ◌∷◌, ◌++◌, ap, arith, inl, length, true, false}
use Rattle.std.proofs.lemmas.Grind.{common_steps}
use Rattle.std.proofs.lemmas.Result.{err_from_is_err_and}
use Rattle.std.specs.Result.{is_ok}
use Rattle.hl_model.specs.declared.fault.Fault.TheVariants.{NoneSealed, Device}
use Rattle.hl_model.specs.declared.step.Step.TheVariants.{FlushTake}
use Rattle.hl_model.specs.Sizes.{Sizes}
use Rattle.hl_laws.proofs.WordLaws.{length-page_words}
use Rattle.hl_flush.proofs.EngineLaws.{TakesPage, take-refused, take-none, take-taken, taken-shown, done-ended, ends-flush, next_again}
use Rattle.hl_flush.proofs.flush.flush_one.Goals as goal

pub returns-in_err-page-clause-flushes : goal.returns-in_err-page-clause-flushes
returns-in_err-page-clause-flushes g c A before =
    let none : c.in_err-page.field-0.0 ≡ NoneSealed = take-refused g.P.Promise.keeps c.args.engine.now c.flush_take.new.self A c.in_err-page.field-0.0 (c.in_err-page.ensures.moved A before) in
    let p = err_from_is_err_and c.from_residual.result c.from_residual.ensures.1 in
    rw (p.1, p.2, none) (take-none g.P.Promise.keeps c.args.engine.now c.flush_take.new.self A c.in_err-page.field-0.0 (c.in_err-page.ensures.moved A before))

pub returns-in_err-page-clause-faults : goal.returns-in_err-page-clause-faults
returns-in_err-page-clause-faults g c =
    let stood = c.flush_take.ensures.valid in
    let p = err_from_is_err_and c.from_residual.result c.from_residual.ensures.1 in
    rw (p.1, p.2) (inl (take-refused g.P.Promise.keeps c.args.engine.now c.flush_take.new.self stood.0 c.in_err-page.field-0.0 (c.in_err-page.ensures.moved stood.0 stood.1)))

pub page_words-requires : goal.page_words-requires
page_words-requires g c =
    let stood = c.flush_take.ensures.valid in
    taken-shown stood.0 c.args.engine.now c.flush_take.new.self c.in_ok-page.page stood.1 (take-taken g.P.Promise.keeps c.args.engine.now c.flush_take.new.self stood.0 c.in_ok-page.page (c.in_ok-page.ensures.moved stood.0 stood.1))

pub image_of-requires : goal.image_of-requires
image_of-requires g c =
    let stood = c.flush_take.ensures.valid in
    let t : TakesPage stood.0 c.args.engine.now c.flush_take.new.self c.in_ok-page.page = take-taken g.P.Promise.keeps c.args.engine.now c.flush_take.new.self stood.0 c.in_ok-page.page (c.in_ok-page.ensures.moved stood.0 stood.1) in
    let sizes : Sizes = c.flush_take.new.self.core.sizes in
    let words : length c.page_words.result.now ≡ sizes.page_size = ap length (c.page_words.ensures (stood.0 ++ FlushTake ∷ []) t.standing) ∙ length-page_words sizes c.in_ok-page.page (stood.0 ++ FlushTake ∷ []) in
    let same : sizes.page_size ≡ c.args.engine.now.core.sizes.page_size = ap (λ s. s.page_size) t.sizes in
    omega (arith, c.requires, words, same)

pub returns-in_err-written-clause-flushes : goal.returns-in_err-written-clause-flushes
returns-in_err-written-clause-flushes g c A before =
    let old = c.args.engine.now in
    let new = c.flush_take.new.self in
    let t : TakesPage A old new c.in_ok-page.page = take-taken g.P.Promise.keeps c.args.engine.now c.flush_take.new.self A c.in_ok-page.page (c.in_ok-page.ensures.moved A before) in
    let p = err_from_is_err_and c.from_residual-in_err-written.result c.from_residual-in_err-written.ensures.1 in
    let device : c.in_err-written.field-0.0 ≡ Device = rw c.in_err-written.was at c.write_page-written.ensures.err in
    rw (p.1, p.2, device) (
      c.in_ok-page.page,
      ends-flush A old new c.in_ok-page.page before t false c.is_ok.result g.W.PageWriter.failed c.args.writer.now c.write_page-written.new.self c.page_words.result.now c.image_of.new.out c.flush_done.new.self
          (c.is_ok.ensures.value ∙ ap is_ok c.in_err-written.was) c.page_words.ensures c.image_of.ensures (rw c.in_err-written.was at c.write_page-written.ensures.left)
          (λ B stands. done-ended g.P.Promise.keeps new c.flush_done.new.self B c.in_ok-page.page c.is_ok.result _ (c.flush_done.ensures.moved B stands)),
      next_again A old new c.in_ok-page.page before t,
    )

pub returns-clause-flushes : goal.returns-clause-flushes
returns-clause-flushes g c A before =
    let old = c.args.engine.now in
    let new = c.flush_take.new.self in
    let t : TakesPage A old new c.in_ok-page.page = take-taken g.P.Promise.keeps c.args.engine.now c.flush_take.new.self A c.in_ok-page.page (c.in_ok-page.ensures.moved A before) in
    ends-flush A old new c.in_ok-page.page before t true c.is_ok.result g.W.PageWriter.wrote c.args.writer.now c.write_page-written.new.self c.page_words.result.now c.image_of.new.out c.flush_done.new.self
    (c.is_ok.ensures.value ∙ ap is_ok c.in_ok-written.was) c.page_words.ensures c.image_of.ensures (rw c.in_ok-written.was at c.write_page-written.ensures.ok)
    (λ B stands. done-ended g.P.Promise.keeps new c.flush_done.new.self B c.in_ok-page.page c.is_ok.result _ (c.flush_done.ensures.moved B stands))

pub returns-in_err-page-clause-one_counted : goal.returns-in_err-page-clause-one_counted
returns-in_err-page-clause-one_counted g c = grind (arith, common_steps)
