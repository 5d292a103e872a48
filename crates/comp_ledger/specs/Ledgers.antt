-- Ledgers, and why `gather` is refused.
use Rattle.std.specs.Prelude.{ℕ, ◌+◌, ◌<◌, List, sum}
use Rattle.comp_ledger.specs.declared.ledger.Ledger.{Ledger}
use Rattle.comp_ledger.specs.declared.fault.LedgerFault.{LedgerFault}
use Rattle.comp_ledger.specs.declared.fault.LedgerFault.TheVariants.{OverCapacity, ShareMissing}
use Rattle.comp_ledger.specs.declared.share.Share.{Share}
use Rattle.comp_ledger.specs.Shares.{total_posted, IsLeastMissing, NoneMissing}

-- the words of live objects at the start
abbrev pub live_of : {L : Type 0} → Ledger L → ℕ
live_of ledger = ledger.live

-- the capacity: the most words that there may be
abbrev pub capacity_of : {L : Type 0} → Ledger L → ℕ
capacity_of ledger = ledger.live + ledger.room

-- how many shares were made
abbrev pub share_count : {L : Type 0} → Ledger L → ℕ
share_count ledger = ledger.shares

-- why `gather` is refused: all shares are there and the total would exceed the capacity, or a share is missing and this
-- is the least missing number
abbrev pub GatherRefused : {L : Type 0} → Ledger L → List (Share L) → List ℕ → LedgerFault → Type 0
GatherRefused ledger shares last OverCapacity =
    NoneMissing (share_count ledger) shares × (capacity_of ledger < live_of ledger + total_posted shares + sum last)
GatherRefused ledger shares last (ShareMissing k) = IsLeastMissing (share_count ledger) shares k
