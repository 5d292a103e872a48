use Rattle.std.proofs.Common.{rules, arith}
use Rattle.std.proofs.lemmas.Result.{err_from_is_err_and}
use Rattle.heap_layout.specs.Encoding.{eight_bytes}
use Rattle.heap_layout.proofs.Writings.{items_more, some_within}
use Rattle.heap_layout.proofs.writing.write_words.Goals as goal

pub returns-in_err-write_some_words-clause-writes : goal.returns-in_err-write_some_words-clause-writes
returns-in_err-write_some_words-clause-writes g c =
    let p = err_from_is_err_and c.from_residual.result c.from_residual.ensures.1 in
    rw p.1 (some_within eight_bytes _ _ _ c.loop-written.written _ c.args.words.now c.loop-written.invariant.appended c.in_err-write_some_words.ensures.writes)

pub loop-written-preserved : goal.loop-written-preserved
loop-written-preserved g c = record {
  within = search rules;
  appended = items_more eight_bytes _ _ _ c.loop-written.written c.min-some.result c.args.words.now c.loop-written.invariant.appended c.in_ok-write_some_words.ensures.writes;
  none_failed = omega (arith, c.in_ok-write_some_words.ensures.counts, c.loop-written.invariant.none_failed);
}
