use Rattle.std.proofs.Common.{ap, arith, length}
use Rattle.heap_layout.proofs.Bounds.{fresh_pages_most, pages_most}
use Rattle.heap_map.proofs.frame.dumped_pages.Goals as goal

pub returns-clause-few : goal.returns-clause-few
returns-clause-few c =
    let counts = c.live_words.ensures.stored.counts in
    let edition = c.args.dump.now.edition in
    let same = ap length c.pages.ensures in
    (omega (arith, same, counts.few_pages, pages_most edition, fresh_pages_most edition), omega (arith, counts.few_fresh, fresh_pages_most edition))
