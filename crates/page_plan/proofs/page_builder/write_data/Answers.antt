use Rattle.std.proofs.Common.{◌≡◌, ◌-◌, arith}
use Rattle.heap_layout.specs.Heap.{live, IsClosed}
use Rattle.page_plan.specs.Sliding.{slid_words}
use Rattle.page_plan.proofs.Objects.{slid-data}
use Rattle.page_plan.proofs.Pages.{written-copied}
use Rattle.page_plan.proofs.page_builder.write_data.Goals as goal

pub returns : goal.returns
returns c =
    let heap = c.args.plan.now in
    let cursor = c.args.cursor in
    let words : c.words-words.result.now ≡ heap.words = cc in
    let closed : IsClosed heap = rw c.heap.ensures at c.words-words.ensures.closed in
    let more = c.args.end - cursor.new_index in
    written-copied (slid_words (live heap)) c.args.begin cursor.new_index c.args.end c.args.page.now c.copy_in.new.self _ c.requires.written c.requires.begun c.requires.before
    (omega arith) c.copy_in.ensures.long c.copy_in.ensures.written c.copy_in.ensures.before c.copy_in.ensures.after
    (rw words (slid-data heap closed cursor.number cursor.within c.args.start cursor.new_index more c.requires.known c.requires.start ((c.requires.at (omega arith)).at c.requires.known) c.requires.inside (c.requires.others (omega arith))))
