use Rattle.std.proofs.Common.{◌≡◌, drop}
use Rattle.std.specs.List.{flat_map, enumerate_from}
use Rattle.heap_layout.specs.Bits.{leads}
use Rattle.heap_layout.specs.Values.{or_immediate}
use Rattle.heap_layout.specs.Faults.{unless, root_faults_by}
use Rattle.heap_layout.specs.declared.fault.LayoutFault.TheVariants.{BadRoot}
use Rattle.reachable_cycles.proofs.marking.check_roots.Given as goal

-- the remaining roots have the faults of all
abbrev pub invariant-loop-k : goal.invariant-loop-k
invariant-loop-k l = flat_map (λ root. unless (or_immediate l.edition (leads l.starts) root.1) (BadRoot root.0)) (enumerate_from l.k (drop l.k l.roots)) ≡ root_faults_by (or_immediate l.edition (leads l.starts)) l.roots
