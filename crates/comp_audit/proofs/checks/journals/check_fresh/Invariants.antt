use Rattle.std.proofs.Common.{◌≡◌, ◌≤◌, take, drop, length, vec_capacity, []}
use Rattle.comp_history.specs.Lawful.{kinds_in}
use Rattle.comp_audit.specs.Checks.{entry_faults}
use Rattle.comp_audit.specs.Noted.{setup_at}
use Rattle.comp_audit.proofs.checks.journals.check_fresh.Given as goal

-- the entries that are left have the faults of all, and the words are those of the others
abbrev pub invariant-loop-k : goal.invariant-loop-k
invariant-loop-k l =
    let u = setup_at l.setting in
    record {
      left : entry_faults u l.p l.k l.low (take l.k l.journal) (drop l.k l.journal) ≡ entry_faults u l.p 0 0 [] l.journal;
      kinds : kinds_in u.heap.edition (take l.k l.journal) ≡ l.kinds.items;
      few : length l.kinds.items ≤ 64;
      room : 64 ≤ vec_capacity l.kinds;
    }
