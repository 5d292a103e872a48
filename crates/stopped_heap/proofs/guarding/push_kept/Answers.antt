use Rattle.std.proofs.Common.{arith, rules}
use Rattle.std.proofs.lemmas.List.Elements.{filter_more}
use Rattle.std.proofs.lemmas.List.{append-nil, append_assoc, take_all}
use Rattle.heap_layout.specs.Heap.{is_value}
use Rattle.stopped_heap.proofs.guarding.push_kept.Goals as goal

pub loop-k-preserved : goal.loop-k-preserved
loop-k-preserved c =
    grind (arith, filter_more (is_value c.args.growing.now.edition c.args.growing.now.marks) c.args.guarded.now c.loop-k.k 0 (omega arith), append-nil, append_assoc)

pub returns : goal.returns
returns c = search (rules, take_all)
