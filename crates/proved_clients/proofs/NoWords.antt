-- No words ask for nothing.
use Rattle.std.proofs.Common.{◌≡◌, ℕ, List, [], ◌∷◌, Option, arith, subst}
use Rattle.command_line.specs.AskedTasks.{Asks}
use Rattle.command_line.specs.declared.words.Task.{Task}
use Rattle.command_line.specs.declared.words.Task.TheVariants.{Plan, Word, Replay, Race, Compact, Audit, Next, Mark, Collect, Moved, Map, Help, Version, VersionLong}
use Rattle.commands.specs.Tasks.{HasAnswered}

-- an empty list begins with no element
not_empty : {A : Type 0} {x : A} {xs : List A} → [] ≡ x ∷ xs → ⊥
not_empty same = cc

-- no words ask for no task
unasked : (task : Task) → Asks [] task → ⊥
unasked (Plan image large) asks = not_empty asks.is_command.begin
unasked (Word image index large) asks = not_empty asks.is_command.begin
unasked (Replay run) asks = not_empty asks.is_command.begin
unasked (Race run) asks = not_empty asks.is_command.begin
unasked (Compact image dump n large) asks = not_empty asks.is_command.begin
unasked (Audit run) asks = not_empty asks.is_command.begin
unasked (Next run) asks = not_empty asks.is_command.begin
unasked (Mark image new n large) asks = not_empty asks.is_command.begin
unasked (Collect image new n large) asks = not_empty asks.is_command.begin
unasked (Moved image moved large) asks = not_empty asks.is_command.begin
unasked (Map run) asks = not_empty asks.is_command.begin
unasked (Help text) (none, (i, word, lt, at, is)) = omega (arith, lt)
unasked Version (none, (word, rest, same, first), short) = not_empty same
unasked VersionLong (none, long) = cc

-- so nothing is answered to a list of words that is empty
pub unanswered_if_empty : (words : List (List ℕ)) (before after : Option (List ℕ)) → words ≡ [] → HasAnswered words before after → ⊥
unanswered_if_empty words before after empty (task, asks, outcome, comes, done, printed) = unasked task (subst (λ list. Asks list task) empty asks)
