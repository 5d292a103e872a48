use Rattle.std.proofs.Common.{◌^◌, ◌≤◌, List, ℕ, length, arith}
use Rattle.std.proofs.lemmas.List.{length-map}
use Rattle.comp_dump.specs.CellEnds.{lists as items_of}
use Rattle.comp_dump.specs.DumpEncoding.{builds_bytes}
use Rattle.comp_dump.proofs.Writings.{list_at, item_at}
use Rattle.file_handle.proofs.Lengths.{length-builds, length-more}
use Rattle.file_handle.proofs.sizes.builds_size.Goals as goal

pub overflow_mul-size : goal.overflow_mul-size
overflow_mul-size c =
    let item = c.list-item.result in
    let few = list_at (λ (l : List ℕ). length l ≤ 2 ^ 26) c.args.lists.now c.loop-list.list-index item item c.loop-list-test.true c.list-item.is c.requires.few in
    let ok = item.ok.0 in
    let long = c.len.ensures in
    record { fits = omega (arith, few, ok, long) }

pub overflow_add-size : goal.overflow_add-size
overflow_add-size c =
    let item = c.list-item.result in
    let few = list_at (λ (l : List ℕ). length l ≤ 2 ^ 26) c.args.lists.now c.loop-list.list-index item item c.loop-list-test.true c.list-item.is c.requires.few in
    let ok = item.ok.0 in
    let long = c.len.ensures in
    record { fits = omega (arith, few, ok, long) }

pub overflow_add-size-in-loop-list : goal.overflow_add-size-in-loop-list
overflow_add-size-in-loop-list c =
    let item = c.list-item.result in
    let few = list_at (λ (l : List ℕ). length l ≤ 2 ^ 26) c.args.lists.now c.loop-list.list-index item item c.loop-list-test.true c.list-item.is c.requires.few in
    let ok = item.ok.0 in
    let long = c.len.ensures in
    let before = c.loop-list.invariant.few in
    let some = c.requires.some in
    let inside = c.loop-list-test.true in
    record { fits = omega (arith, few, ok, long, before, some, inside) }

pub loop-list-preserved : goal.loop-list-preserved
loop-list-preserved c =
    let item = c.list-item.result in
    let lists = c.args.lists.now in
    let at = c.loop-list.list-index in
    let few = list_at (λ (l : List ℕ). length l ≤ 2 ^ 26) lists at item item c.loop-list-test.true c.list-item.is c.requires.few in
    let ok = item.ok.0 in
    let long = c.len.ensures in
    let before = c.loop-list.invariant in
    let one = length-builds item.items in
    let more = length-more builds_bytes (items_of lists) at item.items item.items (simp length-map (omega arith)) (item_at lists at item item c.list-item.is) in
    record {
      size = omega (arith, before.size, ok, long, one, more);
      few = omega (arith, before.few, few, ok, long);
    }
