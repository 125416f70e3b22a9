-- What unfolds so that the definitions compute on a list that is written out.
use Rattle.std.specs.Prelude.{⊤}
use Rattle.hl_model.specs.Lists.{until_last, gather_after, gather, unroll_after, unroll, greatest, last_given, least_or, greatest_below}
use Rattle.hl_model.specs.Epochs.{current_epoch, mark, is_protected, up_to_mark, epoch_of, slot_epoch, slot_epochs, safe_among, safe_epoch}
use Rattle.hl_model.specs.Actions.{bumps, takes, dones, actions, is_finished, pending, ever_taken, taken, is_taken, is_full, action_at}
use Rattle.hl_model.specs.Offsets.{read_only, head, tail}
use Rattle.hl_model.specs.Settled.{done_greatest}
use Rattle.hl_model.specs.Views.{since_mark, seen_read_only, seen_head, seen_tail}
use Rattle.hl_model.specs.Pages.{is_out, is_complete, next_page, marks, flushed_run}
use Rattle.hl_model.specs.Frames.{last_entered}
use Rattle.hl_model.specs.Words.{word, page_words}
use Rattle.hl_model.specs.Replies.{good_after, good, replies}
use Rattle.hl_model.specs.Bases.{slot_of, base_of}
use Rattle.hl_model.specs.AfterEpochs.{epoch_after, has_moved}
use Rattle.hl_model.specs.AfterOffsets.{read_only_after, head_after, tail_after}
use Rattle.hl_model.specs.AfterActions.{stored_after, waiting_after, ever_taken_after, taken_after, done_greatest_after, safe_read_only_after, closed_after}
use Rattle.hl_model.specs.AfterViews.{slot_after}
use Rattle.hl_model.specs.AfterPages.{is_complete_after, is_out_after, next_page_after, marks_after, flushed_run_after, last_entered_after}
use Rattle.hl_model.specs.AfterReplies.{base_after, good_past, good_from, replies_from}

unfoldable pub on_literals : ⊤
unfolding until_last gather_after gather unroll_after unroll greatest last_given least_or greatest_below current_epoch mark is_protected up_to_mark epoch_of slot_epoch slot_epochs safe_among safe_epoch bumps takes dones actions is_finished pending ever_taken taken is_taken is_full action_at read_only head tail done_greatest since_mark seen_read_only seen_head seen_tail is_out is_complete next_page marks flushed_run last_entered word page_words good_after good replies slot_of base_of epoch_after has_moved read_only_after head_after tail_after stored_after waiting_after ever_taken_after taken_after done_greatest_after safe_read_only_after closed_after slot_after is_complete_after is_out_after next_page_after marks_after flushed_run_after last_entered_after base_after good_past good_from replies_from
on_literals = tt
