-- What a run over files in memory leaves there.
use Rattle.std.specs.Prelude.{◌≡◌, ◌⊎◌, List}
use Rattle.command_line.specs.declared.words.TraceRun.{TraceRun}
use Rattle.command_io.specs.Memory.{memory_disk, HasPut}
use Rattle.command_io.specs.declared.memory.MemoryFiles.{MemoryFiles}
use Rattle.comp_dump.specs.DumpEncoding.{dump_bytes}
use Rattle.comp_mutator.specs.Finished.{Finished}
use Rattle.comp_trace.specs.Heaps.{HasRunOver}
use Rattle.comp_trace.specs.declared.steps.shown.Shown.{Shown}
use Rattle.commands.specs.Inputs.{SomeTrace}
use Rattle.commands.specs.TraceTasks.{dumped_of, IsRacedHeap}

-- some run of the trace over the heap of the image, both at the paths that are asked for: its dump was put at its path,
-- and each other path has what it had
abbrev pub KeepsReplayed : MemoryFiles → TraceRun → MemoryFiles → Type 0
KeepsReplayed from asked to = SomeTrace (memory_disk from) asked.large asked.image.now asked.trace.now asked.mutators
    (λ lines heap. (shown : List Shown) × (f : Finished) × HasRunOver asked.mutators asked.fresh lines shown heap f × HasPut from asked.dump.now (dump_bytes (dumped_of asked.mutators asked.fresh f)) to)

-- the same of a race
abbrev pub KeepsRaced : MemoryFiles → TraceRun → MemoryFiles → Type 0
KeepsRaced from asked to = SomeTrace (memory_disk from) asked.large asked.image.now asked.trace.now asked.mutators
    (λ lines heap. (shown : List Shown) × (f : Finished) × IsRacedHeap asked.mutators asked.fresh lines shown f heap × HasPut from asked.dump.now (dump_bytes (dumped_of asked.mutators asked.fresh f)) to)

-- the dump was kept, or all files are as they were
abbrev pub KeptOrNot : Type 0 → MemoryFiles → MemoryFiles → Type 0
KeptOrNot kept from to = kept ⊎ (to ≡ from)
