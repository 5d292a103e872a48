-- A base owns nothing, so any thread may have it.
use denote.Param.Send.{IsSend, owning_send}
use Rattle.comp_journal.specs.contracts.base.Base.{the_row, the_type}

pub send : IsSend the_row
send = owning_send the_type tt (λ d. tt) (λ k x w. tt)
