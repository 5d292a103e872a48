use Rattle.std.proofs.Common.{◌≡◌}
use Rattle.command_io.specs.Memory.{bytes_at, bytes_in}
use Rattle.command_io.proofs.memory.MemoryFiles.bytes_at.Given as goal

-- the file is one of those that are left
abbrev pub invariant-loop-file : goal.invariant-loop-file
invariant-loop-file l = bytes_in l.file-iterator l.path ≡ bytes_at l.self l.path
