-- Shares of a ledger.
use Rattle.std.specs.Prelude.{ℕ, List, map, sum_by}
use Rattle.heap_layout.specs.Numbered as numbered
use Rattle.comp_ledger.specs.declared.share.Share.{Share}

-- the share's number
abbrev pub number_of : {L : Type 0} → Share L → ℕ
number_of share = share.number

-- how many words were posted with this share
abbrev pub posted_of : {L : Type 0} → Share L → ℕ
posted_of share = share.posted

-- the numbers of the shares, in order
abbrev pub numbers_of : {L : Type 0} → List (Share L) → List ℕ
numbers_of {L} shares = map (λ (share : Share L). number_of share) shares

-- how many words were posted with all of these shares
abbrev pub total_posted : {L : Type 0} → List (Share L) → ℕ
total_posted {L} shares = sum_by (λ (share : Share L). posted_of share) shares

-- each number below `count` is the number of one of these shares
abbrev pub NoneMissing : {L : Type 0} → ℕ → List (Share L) → Type 0
NoneMissing count shares = numbered.HasAll number_of count shares

-- no share has the number k, which is below `count`, and some share has each number below k
abbrev pub IsLeastMissing : {L : Type 0} → ℕ → List (Share L) → ℕ → Type 0
IsLeastMissing count shares k = numbered.IsLeastMissing number_of count shares k
