use Rattle.std.proofs.Common.{rules, [], sym, ap, ◌∙◌}
use Rattle.hl_words.specs.Rows.{RowMasterState}
use Rattle.hl_pass.proofs.StoreLaws.{stores-nil}
use Rattle.hl_log.proofs.log.Log.open.Goals as goal

pub invariant_of-result : goal.invariant_of-result
invariant_of-result c = record {
  stands = ([], record { standing = search rules; stored = ap (λ (m : RowMasterState). m.offsets) c.in_ok-words.ensures.master ∙ sym stores-nil });
  room = search rules;
  there = search rules;
  shape = search rules;
}

pub returns : goal.returns
returns c = (record { standing = search rules; stored = ap (λ (m : RowMasterState). m.offsets) c.in_ok-words.ensures.master ∙ sym stores-nil }, search rules, search rules, search rules, search rules, ap (λ (m : RowMasterState). m.left) c.in_ok-words.ensures.master)
