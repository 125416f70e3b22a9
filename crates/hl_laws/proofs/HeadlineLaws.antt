-- The headline holds of each accepted list.
use Rattle.std.proofs.Common.{ap, ◌∙◌, subst}
use Rattle.hl_model.specs.Replies.{IsAccepted}
use Rattle.hl_model.specs.Words.{word}
use Rattle.hl_laws.specs.Laws.{HeadlineHolds}
use Rattle.hl_laws.proofs.AcceptedLaws.{IsAccepted-front}
use Rattle.hl_laws.proofs.LawProofs.{takes_in_order, takes_rise, taken_after_all_moved_on}
use Rattle.hl_laws.proofs.BoundLaws.{views_are_bounded, writes_are_above_safe_read_only, places_are_on_one_page, places_are_apart}
use Rattle.hl_laws.proofs.ReuseLaws.{no_frame_is_reused_while_reached, taken_words_stay}

pub headline : HeadlineHolds
headline sizes A some acc = record {
  taken_in_order = takes_in_order sizes A acc;
  taken_once = takes_rise sizes A acc;
  taken_after_all_moved_on = λ X s Y Z t e. taken_after_all_moved_on sizes X s Y Z t (subst (IsAccepted sizes) e acc);
  written_above_safe_read_only = λ X t a v Y e. writes_are_above_safe_read_only sizes X t a v Y (subst (IsAccepted sizes) e acc);
  none_reaches_reused = λ X t n Y u e. no_frame_is_reused_while_reached sizes X t n Y u some (subst (IsAccepted sizes) e acc);
  views_bounded = λ X Y t e. views_are_bounded sizes X t (IsAccepted-front sizes X Y (subst (IsAccepted sizes) e acc));
  placed_on_one_page = λ X t n Y e. places_are_on_one_page sizes X t n Y some (subst (IsAccepted sizes) e acc);
  placed_apart = λ X t n Y u m Z e. places_are_apart sizes X t n Y u m Z some (subst (IsAccepted sizes) e acc);
  taken_words_stay = λ X Y a e h. ap (word a) e ∙ taken_words_stay sizes X Y a some (subst (IsAccepted sizes) e acc) h;
}
