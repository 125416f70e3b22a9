use Rattle.std.proofs.Common.{◌≡◌, ◌∙◌, ◌++◌, ◌∷◌, [], List, length, take, ap, ap₂, sym, subst, arith, rules}
use Rattle.std.specs.Prelude.{None, Ok}
use Rattle.std.proofs.Math.Seq.{take-append_seam}
use Rattle.hl_model.specs.declared.step.Step.{Step}
use Rattle.hl_model.specs.AfterReplies.{base_after, fault_after, fault_at, answer_at}
use Rattle.hl_plain.specs.Histories.{History, worded, answer_in, result_in, Answers}
use Rattle.hl_plain.specs.Kept.{history_of, present_by, IsAt, IsNear}
use Rattle.hl_plain.proofs.HistoryLaws.{IsHistory-push}
use Rattle.hl_plain.proofs.NearLaws.{present_by_is, IsAt-push, present_by-push, answer_by, told_is, Answers-accepted}
use Rattle.hl_plain.proofs.plain.Plain.make.Goals as goal

pub accept-reply-requires-clause-accepted : goal.accept-reply-requires-clause-accepted
accept-reply-requires-clause-accepted c =
    let h = history_of c.self.inside in
    let s = c.args.step.now in
    let none : c.fault_at.result ≡ None = search rules in
    let met : fault_after h.base h.steps s ≡ None = ap (λ (h : History). fault_after h.base h.steps s) c.self.view_is ∙ sym (ap (λ b. fault_at b s) c.present.ensures) ∙ sym c.fault_at.ensures ∙ none in
    ap (λ L. fault_at (present_by c.self.inside.near L) s) c.reserve.ensures.items
    ∙ ap (λ b. fault_at b s) (present_by_is h c.self.inside.near c.self.invariant.history c.self.invariant.at) ∙ met

pub invariant_of-self-2 : goal.invariant_of-self-2
invariant_of-self-2 c =
    let h = history_of c.self.inside in
    let s = c.args.step.now in
    let near = c.self.inside.near in
    let after = c.accept-reply.new.self in
    let k = c.self.invariant in
    let none : c.fault_at.result ≡ None = search rules in
    let met : fault_after h.base h.steps s ≡ None = ap (λ (h : History). fault_after h.base h.steps s) c.self.view_is ∙ sym (ap (λ b. fault_at b s) c.present.ensures) ∙ sym c.fault_at.ensures ∙ none in
    let M = c.accept-reply.new.steps.items in
    let grown : M ≡ h.steps ++ s ∷ [] = c.accept-reply.ensures.steps ∙ ap (λ L. L ++ s ∷ []) c.reserve.ensures.items in
    let read : c.deref-2.result.now ≡ M = c.deref-2.ensures.value in
    let at : IsAt h.base M after = IsAt-push h near after s M k.near.since_most k.at c.accept-reply.ensures.base c.accept-reply.ensures.since grown in
    let is : present_by after M ≡ base_after h.base M = present_by-push h near after s M k.history met k.near.since_most k.at c.accept-reply.ensures.base c.accept-reply.ensures.since grown in
    record {
      history = IsHistory-push h s M k.history met grown;
      at = subst (λ (L : List Step). IsAt h.base L c.keep_near.new.self) read
          (c.keep_near.ensures.at h.base (rw read is) (rw read at));
      near = subst (λ (L : List Step). IsNear L c.keep_near.new.self) read c.keep_near.ensures.near;
      few = omega (arith, ap length read, c.keep_near.ensures.few);
      steps_room = omega (arith, k.steps_room, c.reserve.ensures.room, c.accept-reply.ensures.room);
    }

pub returns-clause-answer : goal.returns-clause-answer
returns-clause-answer c =
    let h = history_of c.self.inside in
    let s = c.args.step.now in
    let near = c.self.inside.near in
    let after = c.accept-reply.new.self in
    let k = c.self.invariant in
    let none : c.fault_at.result ≡ None = search rules in
    let met : fault_after h.base h.steps s ≡ None = ap (λ (h : History). fault_after h.base h.steps s) c.self.view_is ∙ sym (ap (λ b. fault_at b s) c.present.ensures) ∙ sym c.fault_at.ensures ∙ none in
    let M = c.accept-reply.new.steps.items in
    let grown : M ≡ h.steps ++ s ∷ [] = c.accept-reply.ensures.steps ∙ ap (λ L. L ++ s ∷ []) c.reserve.ensures.items in
    let long : c.len-before.result ≡ length h.steps = omega (arith, c.len-before.ensures, ap length c.reserve.ensures.items, c.reserve.new.row.ok.0) in
    let listed : take c.len-before.result c.deref.result.now ≡ h.steps = ap₂ take long (c.deref.ensures.value ∙ grown) ∙ take-append_seam h.steps (s ∷ []) in
    let is : worded h.has_words h.steps s c.accept-reply.result ≡ answer_in h s
    = answer_by h near after s M c.accept-reply.result k.history met k.near.since_most k.at c.accept-reply.ensures.base c.accept-reply.ensures.since grown (c.accept-reply.ensures.reply ∙ ap (λ L. answer_at (present_by near L) (present_by after M) s) c.reserve.ensures.items) in
    let replied : Ok c.worded-reply.result ≡ result_in h s = told_is h s c.worded-reply.result met (c.worded-reply.ensures ∙ ap (λ L. worded h.has_words L s c.accept-reply.result) listed ∙ is) in
    subst (λ (v : History). Answers v s (Ok c.worded-reply.result) (record h { steps = M })) c.self.view_is (Answers-accepted h s M c.worded-reply.result met grown replied)

pub returns-clause-room : goal.returns-clause-room
returns-clause-room c = λ few.
    let h = history_of c.self.inside in
    let s = c.args.step.now in
    let near = c.self.inside.near in
    let after = c.accept-reply.new.self in
    let k = c.self.invariant in
    let none : c.fault_at.result ≡ None = search rules in
    let met : fault_after h.base h.steps s ≡ None = ap (λ (h : History). fault_after h.base h.steps s) c.self.view_is ∙ sym (ap (λ b. fault_at b s) c.present.ensures) ∙ sym c.fault_at.ensures ∙ none in
    let M = c.accept-reply.new.steps.items in
    let grown : M ≡ h.steps ++ s ∷ [] = c.accept-reply.ensures.steps ∙ ap (λ L. L ++ s ∷ []) c.reserve.ensures.items in
    let long : c.len-before.result ≡ length h.steps = omega (arith, c.len-before.ensures, ap length c.reserve.ensures.items, c.reserve.new.row.ok.0) in
    let listed : take c.len-before.result c.deref.result.now ≡ h.steps = ap₂ take long (c.deref.ensures.value ∙ grown) ∙ take-append_seam h.steps (s ∷ []) in
    let is : worded h.has_words h.steps s c.accept-reply.result ≡ answer_in h s
    = answer_by h near after s M c.accept-reply.result k.history met k.near.since_most k.at c.accept-reply.ensures.base c.accept-reply.ensures.since grown (c.accept-reply.ensures.reply ∙ ap (λ L. answer_at (present_by near L) (present_by after M) s) c.reserve.ensures.items) in
    let replied : Ok c.worded-reply.result ≡ result_in h s = told_is h s c.worded-reply.result met (c.worded-reply.ensures ∙ ap (λ L. worded h.has_words L s c.accept-reply.result) listed ∙ is) in
    replied ∙ ap (λ (v : History). result_in v s) c.self.view_is

pub returns-clause-valid : goal.returns-clause-valid
returns-clause-valid c =
    let h = history_of c.self.inside in
    let s = c.args.step.now in
    let k = c.self.invariant in
    let none : c.fault_at.result ≡ None = search rules in
    let met : fault_after h.base h.steps s ≡ None = ap (λ (h : History). fault_after h.base h.steps s) c.self.view_is ∙ sym (ap (λ b. fault_at b s) c.present.ensures) ∙ sym c.fault_at.ensures ∙ none in
    let M = c.accept-reply.new.steps.items in
    let grown : M ≡ h.steps ++ s ∷ [] = c.accept-reply.ensures.steps ∙ ap (λ L. L ++ s ∷ []) c.reserve.ensures.items in
    IsHistory-push h s M k.history met grown
