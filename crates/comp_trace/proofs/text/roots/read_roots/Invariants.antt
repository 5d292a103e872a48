use Rattle.std.proofs.Common.{◌≡◌, All, length, ◌+◌, ◌≤◌}
use Rattle.comp_trace.specs.Grammar.{parts}
use Rattle.comp_trace.specs.RootsText.{new_roots_from, new_roots_of, IsRootWithin}
use Rattle.comp_trace.proofs.Named.{behind}
use Rattle.comp_trace.proofs.text.roots.read_roots.Given as goal

-- the roots so far, and those of what is left
abbrev pub invariant-loop-rest : goal.invariant-loop-rest
invariant-loop-rest l = record {
  read : new_roots_of l.mutators l.text ≡ behind l.roots.items (new_roots_from l.mutators l.n (parts 10 l.rest));
  within : All (IsRootWithin l.mutators) l.roots.items;
  count : l.n + length l.rest ≤ length l.text + 1;
}

abbrev pub decreases-loop-rest : goal.decreases-loop-rest
decreases-loop-rest l = length l.rest
