-- A base owns nothing, so any thread may look at it.
use denote.Param.Send.{IsSync, part_keyless}
use Rattle.comp_journal.specs.contracts.base.Base.{the_row}
use Rattle.comp_journal.proofs.base.Base.TheSendSync.Send.{send}

pub sync : IsSync the_row
sync = record { shared = λ d b o κ q. part_keyless the_row send q d b o }
