-- What is known of what is kept once a writer was flushed.
use Rattle.std.specs.Prelude.{◌≡◌, ℕ, List, Option}
use Rattle.std.specs.Io.KnownBytes.{Keeps}
use Rattle.heap_layout.specs.Counted.{failures_of, inner_of, one_more}
use Rattle.heap_layout.specs.declared.counted.Counted.{Counted}
use Rattle.command_io.specs.Disk.{Disk}
use Rattle.command_io.specs.declared.refusal.Output.{Output}
use Rattle.command_io.specs.declared.keeping.Unkept.{Unkept}
use Rattle.command_io.specs.declared.keeping.Unkept.TheVariants.{Device, OutOfMemory}

-- The writer was flushed: it holds what it had taken, and no call of it failed since. It was kept at the path, and
-- these are the files since.
pub record KeepsAll {F W : Type 0} (disk : Disk F W) (contents : W → Option (List ℕ)) (output : Output) (path : List ℕ) (written : Counted W) (to : F) : Type 0 where
  pub flushed : Counted W
  pub same : Keeps (contents (inner_of written)) (contents (inner_of flushed))
  pub none_failed : failures_of flushed ≡ failures_of written
  pub kept : disk.puts output path flushed to

-- The flush of the writer failed, or what it took could not be put at the path: it holds what it had taken. One more of
-- its calls failed, and the files counted them.
pub record FailsFlush {F W : Type 0} (disk : Disk F W) (contents : W → Option (List ℕ)) (written : Counted W) (to : F) : Type 0 where
  pub failed : W
  pub same : Keeps (contents (inner_of written)) (contents failed)
  pub counted : disk.counts (one_more (failures_of written)) to

-- What files leave that could not keep what a writer took, so many calls of which had failed: they are these since,
-- once these calls and one more are counted, as `counts` says; or memory ran out, and they are as they were.
abbrev pub LeavesUnkept : {F : Type 0} → F → F → ℕ → (ℕ → F → Type 0) → Unkept → Type 0
LeavesUnkept from to failures counts Device = counts (one_more failures) to
LeavesUnkept from to failures counts OutOfMemory = to ≡ from

-- why what a writer took was not kept: its flush or the keeping failed, or memory ran out, and then the files are as
-- they were
abbrev pub IsOfKeeping : {F W : Type 0} → Disk F W → (W → Option (List ℕ)) → Counted W → F → F → Unkept → Type 0
IsOfKeeping disk contents written from to Device = FailsFlush disk contents written to
IsOfKeeping disk contents written from to OutOfMemory = to ≡ from
