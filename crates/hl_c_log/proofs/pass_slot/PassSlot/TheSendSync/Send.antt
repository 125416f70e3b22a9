-- A slot's block says the same to every thread.
use denote.Param.Send.{IsSend}
use Rattle.hl_log.proofs.pass.Pass.TheSendSync as boxed
use Rattle.hl_answers.proofs.Sent.{kept_keyless}
use Rattle.hl_c_log.specs.Rows.{PassRow}
use Rattle.hl_c_log.specs.contracts.pass_slot.PassSlot.{the_row}

pub send : IsSend the_row
send = record { owned = λ s vs. ((λ vss. (tt, (tt, ((λ uss. (tt, ((λ wss. (tt, (tt, tt))), tt))), tt)))), kept_keyless PassRow boxed.the_send s.alloc s.at s.value); leaving = λ k d w. tt }
