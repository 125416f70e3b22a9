-- A slot's block says the same to every thread.
use denote.Param.Send.{IsSend}
use Rattle.hl_log.proofs.log.Log.TheSendSync as boxed
use Rattle.hl_answers.proofs.Sent.{kept_keyless}
use Rattle.hl_c_log.specs.Rows.{LogRow}
use Rattle.hl_c_log.specs.contracts.log_slot.LogSlot.{the_row}

pub send : IsSend the_row
send = record { owned = λ s vs. ((λ vss. (tt, (tt, ((λ uss. (tt, ((λ wss. (tt, (tt, tt))), tt))), tt)))), kept_keyless LogRow boxed.the_send s.alloc s.at s.value); leaving = λ k d w. tt }
