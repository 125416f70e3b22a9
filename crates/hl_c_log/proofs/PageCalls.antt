-- What the calls with a page come to.
use Rattle.std.proofs.Common.{◌≡◌, ℕ, Bool, cond, nat_eq, sym, ap, ◌∙◌, subst}
use Rattle.std.specs.Prelude.{Option, Some, None, Result, Ok}
use Rattle.hl_model.specs.declared.fault.Fault.{Fault}
use Rattle.hl_model.specs.declared.step.Reply.{Reply}
use Rattle.hl_model.specs.declared.step.Reply.TheVariants.{Page}
use Rattle.hl_model.specs.declared.step.Step.{Step}
use Rattle.hl_answers.specs.declared.outcome.Brief.{Brief}
use Rattle.hl_answers.specs.Outcomes.{outcome_of, brief_of}
use Rattle.hl_log.specs.Logs.{Stepped, Makes, DealsOne, one_dealt, IsBeside}
use Rattle.hl_log.specs.Taken.{Ends as Ended, taking, numbered, IsFresh}
use Rattle.hl_c_log.specs.Pages.{Ends, Gives, GivesOf}
use Rattle.hl_c_log.specs.Rows.{LogRow, PageRow}

-- a log and a page that were taken out; the work ended, and the log was put back
pub ends_by : (fault : LogRow.Denot → PageRow.Denot → Option Fault) (step : ℕ → Step) (v w : Option LogRow.Denot) (q r : Option PageRow.Denot)
    (old lent new : LogRow.Denot) (p lent_page : PageRow.Denot) (brief : Brief) (result : Result Reply Fault)
    → v ≡ Some old → q ≡ Some p → w ≡ Some new → r ≡ cond (nat_eq brief.number 0) None (Some p) → lent ≡ old → lent_page ≡ p
    → Ended lent (fault lent lent_page) (step lent_page.page) new result → brief ≡ brief_of (outcome_of result) → Ends fault step v q w r brief
ends_by fault step v w q r old lent new p lent_page brief result was had is left same same_page ends told =
    let here : Ended old (fault old p) (step p.page) new result =
    subst (λ (l : LogRow.Denot). Ended l (fault l p) (step p.page) new result) same (subst (λ (o : PageRow.Denot). Ended lent (fault lent o) (step o.page) new result) same_page ends) in
    subst (λ (u : Option LogRow.Denot). Ends fault step u q w r brief) (sym was)
    (subst (λ (u : Option PageRow.Denot). Ends fault step (Some old) u w r brief) (sym had)
    (new, is, left, here.beside, λ A stands. let e = here.ended A stands in record { told = told ∙ ap (λ (o : Result Reply Fault). brief_of (outcome_of o)) e.reply; sizes = e.sizes; standing = e.standing }))

-- a log dealt the rider of a page out, and then gave the page
pub given_of : (cleans : Bool) (old mid new : LogRow.Denot) (p q : PageRow.Denot) (number : ℕ) (brief : Brief) → DealsOne old mid → IsFresh old cleans p
    → Makes mid (taking p.cleans) new (Ok (Page number)) → IsBeside mid new → q ≡ numbered number p → brief ≡ brief_of (outcome_of (Ok (Page number))) → GivesOf cleans old new (Some q) brief
given_of cleans old mid new p q number brief deals fresh made beside is told =
    let step : taking p.cleans ≡ taking cleans = ap taking fresh.cleans_is in
    let here : Makes (one_dealt old) (taking cleans) new (Ok (Page number)) = subst (λ (l : LogRow.Denot). Makes l (taking cleans) new (Ok (Page number))) deals.log (subst (λ (s : Step). Makes mid s new (Ok (Page number))) step made) in
    let kept : IsBeside (one_dealt old) new = subst (λ (l : LogRow.Denot). IsBeside l new) deals.log beside in
    let page : IsFresh old cleans (numbered number p) = record {
      shared = fresh.shared;
      origin_is = fresh.origin_is;
      cleans_is = fresh.cleans_is;
      swept_is = fresh.swept_is;
      did_nothing = fresh.did_nothing;
    } in (
      deals.left,
      kept,
      subst (λ (o : PageRow.Denot). IsFresh old cleans o) (sym is) page,
      λ A at.
          let stepped : Stepped (one_dealt old) A (taking cleans) new (Ok (Page number)) = here A (record { standing = at.standing; stored = at.stored }) in record {
            told = told ∙ ap (λ (r : Result Reply Fault). brief_of (outcome_of r)) stepped.reply;
            accepted = ap (λ (b : Brief). b.number) told;
            sizes = stepped.sizes;
            standing = stepped.standing;
            page = ap (λ (o : PageRow.Denot). o.page) is ∙ sym (ap (λ (b : Brief). b.a) told);
          },
    )

-- a log that was taken out, gave a page or refused it, and was put back
pub gives_by : (cleans : Bool) (v w : Option LogRow.Denot) (q r : Option PageRow.Denot) (old lent new : LogRow.Denot) (brief : Brief)
    → v ≡ Some old → q ≡ None → w ≡ Some new → lent ≡ old → GivesOf cleans lent new r brief → Gives cleans v q w r brief
gives_by cleans v w q r old lent new brief was none is same gives = subst (λ (u : Option LogRow.Denot). Gives cleans u q w r brief) (sym was)
    (subst (λ (u : Option PageRow.Denot). Gives cleans (Some old) u w r brief) (sym none) (new, is, subst (λ (l : LogRow.Denot). GivesOf cleans l new r brief) same gives))
