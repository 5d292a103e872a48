-- What a call prints after what was printed before it.
use Rattle.std.proofs.Common.{◌≡◌, ℕ, List, ◌++◌, Option, Result, Ok, Err, OnOk, subst}
use Rattle.std.specs.Io.KnownBytes.{Appends, Keeps}
use Rattle.std.proofs.KnownBytes.{Appends-kept, Appends-trans}
use Rattle.command_io.specs.Printing.{CountsPrint}
use Rattle.command_io.specs.declared.refusal.CommandRefusal.{CommandRefusal}

pub printed_then : (a b c : Option (List ℕ)) (part more : List ℕ) (result : Result (Unit {0}) CommandRefusal) → Appends a b part → OnOk result (Appends b c more) → OnOk result (Appends a c (part ++ more))
printed_then a b c part more (Ok _) first next = Appends-trans a b c part more first next
printed_then a b c part more (Err refusal) first next = tt

-- no call of the output failed before it
pub counted_then : (before now after : ℕ) (result : Result (Unit {0}) CommandRefusal) → now ≡ before → CountsPrint now after result → CountsPrint before after result
counted_then before now after result same h = subst (λ (n : ℕ). CountsPrint n after result) same h

-- what a call printed stands while the next one keeps what was printed
pub printed_and_kept : (a b c : Option (List ℕ)) (part : List ℕ) (result : Result (Unit {0}) CommandRefusal) → Appends a b part → Keeps b c → OnOk result (Appends a c part)
printed_and_kept a b c part (Ok _) first kept = Appends-kept a b c part first kept
printed_and_kept a b c part (Err refusal) first kept = tt
