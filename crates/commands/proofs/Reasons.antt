-- Why words are refused, for files of which nothing is known.
use Rattle.std.proofs.Common.{◌≡◌, ◌⊎◌, ◌∙◌, ℕ, ◌+◌, Bool, true, false, MatchBool, List, Option, None, Some, Result, Ok, Err, IfErr, OnErr, inl, inr, refl, ap, subst, arith}
use Rattle.std.proofs.KnownBytes.{Appends-kept}
use Rattle.std.specs.Io.KnownBytes.{Appends, Keeps}
use Rattle.command_io.proofs.Written.{unflushed}
use Rattle.command_io.specs.Printing.{CountsPrint}
use Rattle.command_io.specs.Wording.{refusal_line}
use Rattle.command_io.specs.declared.refusal.CommandRefusal.TheVariants.{CannotPrint}
use Rattle.command_io.specs.Disk.{Disk, IsOfMaking, LeavesCounted, WritesBeginning, WritesWhole, names_failure}
use Rattle.command_io.specs.Memory.{unknown}
use Rattle.command_io.specs.PlacedFiles.{placing}
use Rattle.command_io.specs.declared.parts.Part.{Part}
use Rattle.command_io.specs.declared.parts.Placed.{Placed}
use Rattle.command_io.specs.declared.refusal.Output.{Output}
use Rattle.command_io.specs.declared.refusal.CommandRefusal.{CommandRefusal}
use Rattle.command_line.specs.declared.words.Task.{Task}
use Rattle.command_line.specs.declared.words.Task.TheVariants.{Plan, Word, Replay, Race, Compact, Audit, Next, Mark, Collect, Moved, Map, Help, Version, VersionLong}
use Rattle.commands.specs.Outcome.{IsKept, IsUndelivered, Outcome}
use Rattle.commands.specs.Tasks.{status_of, IsOutcomeOf, IsReason, IsUnanswered, RefusesInputs, RefusesTask, Reports, Says}
use Rattle.commands.specs.declared.running.Unanswered.{Unanswered}
use Rattle.commands.specs.declared.running.Unanswered.TheVariants.{Misused, Refused}

-- the line of a refusal was printed, and then flushed, or not
pub said_and_flushed : (old mid new : ℕ) (before between after : Option (List ℕ)) (refusal : CommandRefusal) (result : Result (Unit {0}) CommandRefusal) → Appends before between (refusal_line refusal) → mid ≡ old
    → Keeps between after → CountsPrint mid new result → OnErr result (result ≡ Err CannotPrint) → Says old new before after refusal
said_and_flushed old mid new before between after refusal (Ok _) printed same kept counts cause = inl (counts ∙ same, Appends-kept before between after (refusal_line refusal) printed kept)
said_and_flushed old mid new before between after refusal (Err other) printed same kept counts cause =
    let is : other ≡ CannotPrint = cc in
    let failed : new ≡ mid + 1 = subst (λ (r : CommandRefusal). CountsPrint {T = Unit {0}} mid new (Err r)) is counts in
    inr (failed ∙ ap (λ (n : ℕ). n + 1) same, unflushed before between after (refusal_line refusal) printed kept)

-- files of which nothing is known
abbrev no_files : Disk (Unit {0}) (Unit {0})
no_files = unknown

-- a refusal leaves of them what it may
left : (refusal : CommandRefusal) → LeavesCounted no_files tt tt refusal
left refusal = by (names_failure refusal)
  where
    by : (named : Bool) → MatchBool named (no_files.counts 1 tt) (let t : Unit {0} = tt in t ≡ t)
    by true = tt
    by false = refl

-- any file may be whole at any path
whole : (output : Output) (path bytes : List ℕ) → WritesWhole no_files output path bytes tt
whole output path bytes = record { made = tt; given = tt; written = record { inner = tt; failures = 0; flushed = true }; appended = tt; none_failed = refl; kept = tt }

-- a beginning of any file may be there
begun : (output : Output) (path bytes : List ℕ) → WritesBeginning no_files output path bytes tt
begun output path bytes = record { made = tt; given = tt; written = tt; appended = record { taken = 0; bytes = tt }; counted = tt }

-- any file that is made may be kept
kept : (path : List ℕ) (made : Option (Output × List ℕ)) → IsKept no_files path made tt tt
kept path None = refl
kept path (Some made) = whole made.0 path made.1

module _ {F W : Type 0} (failures : F → ℕ) (latest : F → Option Placed) (beside : W → Option Part) (files from to : F) where
  -- what is known of these files
  abbrev disk : Disk F W
  disk = placing failures latest beside files

  unmade : (output : Output) (path bytes : List ℕ) (refusal : CommandRefusal) → IsOfMaking disk output path bytes from to refusal → IsOfMaking no_files output path bytes tt tt refusal
  unmade output path bytes refusal (inl (is, barred, counted)) = inl (is, tt, tt)
  unmade output path bytes refusal (inr (inl (is, h))) = inr (inl (is, begun output path bytes))
  unmade output path bytes refusal (inr (inr (is, h))) = inr (inr (is, inl refl))

  undelivered : (path : List ℕ) (outcome : Outcome) (old new : ℕ) (before after : Option (List ℕ)) (refusal : CommandRefusal) → IsUndelivered disk path outcome from to old new before after refusal
      → IsUndelivered no_files path outcome tt tt old new before after refusal
  undelivered path outcome old new before after refusal (inl h) = inl (record { refused = h.refused; files = refl; calls = h.calls; printed = h.printed })
  undelivered path outcome old new before after refusal (inr (inl h)) = inr (inl (record { refused = h.refused; kept = kept path outcome.made; calls = h.calls; begun = h.begun }))
  undelivered path outcome old new before after refusal (inr (inr h)) =
      inr (inr (record { made = h.made; is = h.is; cause = unmade h.made.0 path h.made.1 refusal h.cause; calls = h.calls; printed = h.printed }))

  -- what is read of them is not known
  comes : (task : Task) (outcome : Outcome) → IsOutcomeOf disk task outcome → IsOutcomeOf no_files task outcome
  comes (Plan image large) outcome h = h
  comes (Word image index large) outcome h = h
  comes (Replay asked) outcome h = h
  comes (Race asked) outcome h = h
  comes (Compact image dump workers large) outcome h = h
  comes (Audit asked) outcome h = h
  comes (Next asked) outcome h = h
  comes (Mark image new workers large) outcome h = h
  comes (Collect image new workers large) outcome h = h
  comes (Moved image moved large) outcome h = h
  comes (Map asked) outcome h = h
  comes (Help text) outcome h = h
  comes Version outcome h = h
  comes VersionLong outcome h = h

  unread : (task : Task) (refusal : CommandRefusal) → RefusesInputs disk task refusal → RefusesInputs no_files task refusal
  unread (Plan image large) refusal h = h
  unread (Word image index large) refusal h = h
  unread (Replay asked) refusal h = h
  unread (Race asked) refusal h = h
  unread (Compact image dump workers large) refusal h = h
  unread (Audit asked) refusal h = h
  unread (Next asked) refusal h = h
  unread (Mark image new workers large) refusal h = h
  unread (Collect image new workers large) refusal h = h
  unread (Moved image moved large) refusal h = h
  unread (Map asked) refusal h = h
  unread (Help text) refusal h = h
  unread Version refusal h = h
  unread VersionLong refusal h = h

  refused : (old new : ℕ) (before after : Option (List ℕ)) (task : Task) (refusal : CommandRefusal) → RefusesTask disk from to old new before after task refusal → RefusesTask no_files tt tt old new before after task refusal
  refused old new before after task refusal (inl h) = inl (record { cause = unread task refusal h.cause; files = left refusal; calls = h.calls; printed = h.printed })
  refused old new before after task refusal (inr (outcome, h, late)) = inr (outcome, comes task outcome h, undelivered _ outcome old new before after refusal late)

  -- why a refused run was refused, and what it printed
  pub reason : (old new : ℕ) (before after : Option (List ℕ)) (words : List (List ℕ)) (said_old said_new : ℕ) (said_before said_after : Option (List ℕ)) (result : Result (Unit {0}) Unanswered)
      → old ≡ 0 → IfErr result (IsUnanswered disk from to old new before after words) → IfErr result (Reports said_old said_new said_before said_after) → status_of result ≡ 1
      → (refusal : CommandRefusal) × IsReason words before after refusal × Says said_old said_new said_before said_after refusal
  reason old new before after words said_old said_new said_before said_after (Ok _) none cause said one = absurd (omega (arith, one))
  reason old new before after words said_old said_new said_before said_after (Err (Misused error)) none cause said one = absurd (omega (arith, one))
  reason old new before after words said_old said_new said_before said_after (Err (Refused refusal)) none cause said one =
      (refusal, (new, subst (λ (n : ℕ). IsUnanswered no_files tt tt n new before after words (Refused refusal)) none (unanswered cause)), said)
    where
      unanswered : IsUnanswered disk from to old new before after words (Refused refusal) → IsUnanswered no_files tt tt old new before after words (Refused refusal)
      unanswered (inl (task, asks, h, counts)) = inl (task, asks, refused old new before after task refusal h, counts)
      unanswered (inr (is, touched)) = inr (is, record { files = refl; calls = touched.calls; text = touched.text })

  -- the same of words and of an output that are these under other names
  pub reason_of : (old new : ℕ) (a before after : Option (List ℕ)) (texts words : List (List ℕ)) (said_old said_new : ℕ) (said_before said_after : Option (List ℕ)) (result : Result (Unit {0}) Unanswered)
      → texts ≡ words → a ≡ before → old ≡ 0 → IfErr result (IsUnanswered disk from to old new a after texts) → IfErr result (Reports said_old said_new said_before said_after) → status_of result ≡ 1
      → (refusal : CommandRefusal) × IsReason words before after refusal × Says said_old said_new said_before said_after refusal
  reason_of old new a before after texts words said_old said_new said_before said_after result same_words same_before none cause said one =
      let found = reason old new a after texts said_old said_new said_before said_after result none cause said one in
      let of_output = subst (λ (known : Option (List ℕ)). IsReason texts known after found.0) same_before found.1 in
      (found.0, subst (λ (ws : List (List ℕ)). IsReason ws before after found.0) same_words of_output, found.2)
