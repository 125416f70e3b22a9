-- A slot's block says the same to every thread.
use denote.Param.Send.{IsSend}
use Rattle.hl_model.proofs.action.Tag.TheSendSync as tag
use Rattle.hl_counts.proofs.count_table.CountTable.TheSendSync as table
use Rattle.hl_core.proofs.state.Core.TheSendSync as core
use Rattle.hl_answers.proofs.Sent.{kept_keyless}
use Rattle.hl_c.specs.Slots.{DoorRow}
use Rattle.hl_c.specs.contracts.slot.Slot.{the_row}

door_sent : IsSend DoorRow
door_sent = core.the_send _ _ _ _ table.the_send tag.the_send

pub send : IsSend the_row
send = record { owned = λ s vs. ((λ vss. (tt, (tt, ((λ uss. (tt, ((λ wss. (tt, (tt, tt))), tt))), tt)))), kept_keyless DoorRow door_sent s.alloc s.at s.value); leaving = λ k d w. tt }
