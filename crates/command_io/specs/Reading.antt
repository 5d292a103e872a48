-- How the failed calls of the reader of a file are counted.
use Rattle.std.specs.Prelude.{◌≡◌, ℕ, ◌+◌, MatchBool, Result, Ok, Err}
use Rattle.command_io.specs.Disk.{names_failure}
use Rattle.command_io.specs.declared.refusal.CommandRefusal.{CommandRefusal}
use Rattle.command_io.specs.declared.texts.Unread.{Unread}
use Rattle.command_io.specs.declared.texts.Unread.TheVariants as unread

-- one more call of the reader failed if a refusal names a failed call, and otherwise none
abbrev pub CountsRead : {T : Type 0} → ℕ → ℕ → Result T CommandRefusal → Type 0
CountsRead before after (Ok _) = after ≡ before
CountsRead before after (Err refusal) = MatchBool (names_failure refusal) (after ≡ before + 1) (after ≡ before)

-- one more call of the reader failed if the answer is `Failed`, and otherwise none
abbrev pub CountsUnread : {T : Type 0} → ℕ → ℕ → Result T Unread → Type 0
CountsUnread before after (Ok _) = after ≡ before
CountsUnread before after (Err unread.Failed) = after ≡ before + 1
CountsUnread before after (Err unread.OutOfMemory) = after ≡ before
