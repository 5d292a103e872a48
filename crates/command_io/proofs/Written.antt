-- What a writer of a dump, of a new image, or of a picture, took.
use Rattle.std.proofs.Common.{◌≡◌, ℕ, List, Option, Result, Ok, Err, OnOk, length, inr, sym, subst, ◌∙◌, arith}
use Rattle.std.proofs.KnownBytes.{Appends-kept}
use Rattle.std.proofs.lemmas.List.{take_all}
use Rattle.std.specs.Io.KnownBytes.{Appends, Keeps}
use Rattle.heap_layout.specs.Counted.{failures_of, inner_of, one_more}
use Rattle.heap_layout.specs.declared.counted.Counted.{Counted}
use Rattle.comp_dump.specs.DumpReading.{CountsFailure}
use Rattle.heap_layout.specs.Writing.{AppendsSome}
use Rattle.comp_dump.specs.declared.fault.DumpFault.{DumpFault}
use Rattle.comp_dump.specs.declared.fault.DumpFault.TheVariants as dumps
use Rattle.command_io.specs.Disk.{Disk, IsUnkept, WritesBeginning, WritesWhole}
use Rattle.command_io.specs.FileCalls.{AfterCreating, IsOfCreating}
use Rattle.command_io.specs.KeptFiles.{FailsFlush, KeepsAll}
use Rattle.command_io.specs.declared.keeping.Unkept.{Unkept}
use Rattle.command_io.specs.declared.refusal.Output.{Output}
use Rattle.command_io.specs.declared.refusal.CommandRefusal.{CommandRefusal}
use Rattle.command_io.specs.declared.refusal.CommandRefusal.TheVariants.{Layout, Mutator, Sweep, Trace, Dump, Audit, Moved, Survey, CannotWrite, CannotOpen, CannotCreate, ReadFailed, CannotPrint, NoSuchWord, BadMarks, OutOfMemory, BadRoots}

-- if only the flush failed, all bytes were taken
pub unflushed : (a b c : Option (List ℕ)) (bytes : List ℕ) → Appends a b bytes → Keeps b c → AppendsSome a c bytes
unflushed a b c bytes taken kept = record {
  taken = length bytes;
  bytes = subst (Appends a c) (sym (take_all (length bytes) bytes (omega arith))) (Appends-kept a b c bytes taken kept);
}

-- one more than none
one_is : (old : ℕ) → old ≡ 0 → one_more old ≡ 1
one_is old none = omega (arith, none)

-- a file that cannot be created is no missing memory
differ : (output : Output) → CannotCreate output ≡ OutOfMemory → ⊥
differ output e = cc

-- a flushed writer whose file was kept
pub kept_all : {F W : Type 0} (disk : Disk F W) (contents : W → Option (List ℕ)) (output : Output) (path : List ℕ) (written flushed : Counted W) (to : F) (result : Result (Unit {0}) Unkept)
    → Keeps (contents (inner_of written)) (contents (inner_of flushed)) → failures_of flushed ≡ failures_of written → OnOk result (disk.puts output path flushed to) → OnOk result (KeepsAll disk contents output path written to)
kept_all disk contents output path written flushed to (Ok _) same none kept = record { flushed = flushed; same = same; none_failed = none; kept = kept }
kept_all disk contents output path written flushed to (Err cause) same none kept = tt

-- What some writer that a path gives took, if the count began around it. The files are `from` before, `between` once
-- the file was begun, and `to` at the end.
module _ {F W : Type 0} (disk : F → Disk F W) (contents : W → Option (List ℕ)) (from between to : F) (same : (w : W) → (disk from).contents w ≡ contents w) (output : Output) (path bytes : List ℕ)
    (made : W) (old new : Counted W) (given : (disk from).makes output path made) (inner : inner_of old ≡ made) (none : failures_of old ≡ 0) where
  -- what the writer's own contract says of what it took
  own : (P : Option (List ℕ) → Option (List ℕ) → Type 0) (last : W) → P (contents (inner_of old)) (contents last) → P ((disk from).contents made) ((disk from).contents last)
  own P last h = subst (λ (w : W). P ((disk from).contents w) ((disk from).contents last)) inner
      (subst (λ (known : Option (List ℕ)). P known ((disk from).contents last)) (sym (same (inner_of old)))
      (subst (λ (known : Option (List ℕ)). P (contents (inner_of old)) known) (sym (same last)) h))

  -- it took all, and all was kept
  pub whole : Appends (contents (inner_of old)) (contents (inner_of new)) bytes → failures_of new ≡ failures_of old → KeepsAll (disk between) contents output path new to
      → ((w : Counted W) → (disk between).puts output path w to → (disk from).puts output path w to) → WritesWhole (disk from) output path bytes to
  whole appended counts h puts = record {
    made = made;
    given = given;
    written = h.flushed;
    appended = own (λ before after. Appends before after bytes) (inner_of h.flushed) (Appends-kept (contents (inner_of old)) (contents (inner_of new)) (contents (inner_of h.flushed)) bytes appended h.same);
    none_failed = h.none_failed ∙ counts ∙ none;
    kept = puts h.flushed h.kept;
  }

  module _ (counted : (n : ℕ) → (disk between).counts n to → (disk from).counts n to) where
    -- one call of it failed
    pub one : (n : ℕ) → n ≡ 1 → (disk between).counts n to → (disk from).counts 1 to
    one n is h = counted 1 (subst (λ (m : ℕ). (disk between).counts m to) is h)

    -- it took a beginning
    pub beginning : AppendsSome (contents (inner_of old)) (contents (inner_of new)) bytes → failures_of new ≡ 1 → (disk between).counts (failures_of new) to → WritesBeginning (disk from) output path bytes to
    beginning appended is h = record {
      made = made;
      given = given;
      written = inner_of new;
      appended = own (λ before after. AppendsSome before after bytes) (inner_of new) appended;
      counted = one (failures_of new) is h;
    }

    -- it took all, and could not be flushed
    pub unflushed_all : Appends (contents (inner_of old)) (contents (inner_of new)) bytes → failures_of new ≡ failures_of old → FailsFlush (disk between) contents new to → WritesBeginning (disk from) output path bytes to
    unflushed_all appended counts h = record {
      made = made;
      given = given;
      written = h.failed;
      appended = own (λ before after. AppendsSome before after bytes) h.failed (unflushed (contents (inner_of old)) (contents (inner_of new)) (contents h.failed) bytes appended h.same);
      counted = one (one_more (failures_of new)) (one_is (failures_of new) (counts ∙ none)) h.counted;
    }

-- one failed call of a dump's writer
pub one_of_dump : (old new : ℕ) (fault : DumpFault) → fault ≡ dumps.Device → old ≡ 0 → CountsFailure {T = Unit {0}} old new (Err fault) → new ≡ 1
one_of_dump old new dumps.Device is none counts = omega (arith, none, counts)
one_of_dump old new dumps.Truncated is none counts = cc
one_of_dump old new dumps.TrailingBytes is none counts = cc
one_of_dump old new dumps.BadMagic is none counts = cc
one_of_dump old new dumps.BadField is none counts = cc
one_of_dump old new dumps.OutOfMemory is none counts = cc

-- one failed call of another writer
pub one_of : (old new : ℕ) → old ≡ 0 → new ≡ one_more old → new ≡ 1
one_of old new none counts = counts ∙ one_is old none

-- what follows from a file that cannot be created, and from missing memory, follows from each refusal to create the
-- file
pub created : {F W : Type 0} (disk : Disk F W) (output : Output) (path : List ℕ) (to : F) (P : CommandRefusal → Type 0) → (disk.bars output path → disk.counts 1 to → P (CannotCreate output)) → (disk.begins to → P OutOfMemory)
    → (refusal : CommandRefusal) → IsOfCreating output (disk.bars output path) refusal → AfterCreating disk to (Err refusal) → P refusal
created disk output path to P barred full (Layout fault) h after = absurd h
created disk output path to P barred full (Mutator refused) h after = absurd h
created disk output path to P barred full (Sweep fault) h after = absurd h
created disk output path to P barred full (Trace fault) h after = absurd h
created disk output path to P barred full (Dump fault) h after = absurd h
created disk output path to P barred full (Audit fault) h after = absurd h
created disk output path to P barred full (Moved fault) h after = absurd h
created disk output path to P barred full (Survey fault) h after = absurd h
created disk output path to P barred full (CannotWrite named) h after = absurd h
created disk output path to P barred full (CannotOpen input) h after = absurd h
created disk output path to P barred full (CannotCreate named) h after = subst (λ (o : Output). P (CannotCreate o)) (sym h.0) (barred h.1 after)
created disk output path to P barred full (ReadFailed input) h after = absurd h
created disk output path to P barred full CannotPrint h after = absurd h
created disk output path to P barred full (NoSuchWord index) h after = absurd h
created disk output path to P barred full (BadMarks line) h after = absurd h
created disk output path to P barred full (BadRoots line) h after = absurd h
created disk output path to P barred full OutOfMemory h after = full after

-- if memory ran out for a file, it was not kept
pub uncreated_kept : {F W : Type 0} (disk : Disk F W) (output : Output) (path : List ℕ) (from to : F) (refusal : CommandRefusal) → IsOfCreating output (disk.bars output path) refusal → AfterCreating disk to (Err refusal)
    → refusal ≡ OutOfMemory → IsUnkept disk from to
uncreated_kept disk output path from to = created disk output path to (λ refusal. refusal ≡ OutOfMemory → IsUnkept disk from to) (λ _ _ other. absurd (differ output other)) (λ begun _. inr begun)
