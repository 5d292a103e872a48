use Rattle.std.proofs.Common.{refl, arith}
use Rattle.rest_marks.proofs.Bounding.{bit-inside}
use Rattle.rest_marks.proofs.Covered.{blocks-run, blocks-only}
use Rattle.rest_marks.proofs.rounds.mark_by_threads.Goals as goal

pub returns-clause-marked : goal.returns-clause-marked
returns-clause-marked g c =
    let edition = c.args.edition in
    let words = c.args.words.now in
    let heads = c.reach.new.heads in
    let bits = c.fill_by_threads.new.bits in
    let are = c.if-not-are_all_kept.ensures refl in
    let live = c.fill_by_threads.ensures.live in
    record {
      reached = c.if-not-reach.ensures.reached refl;
      led = c.in_default.ensures.all;
      kept = λ i set. are.kept i (omega arith) (bit-inside heads i set) set;
      run = λ i j set of.
          let placed = (are.kept i (omega arith) (bit-inside heads i set) set).placed in
          blocks-run edition words heads bits live i j set of (omega (arith, of.1, placed.within, c.requires.room, c.requires.long, c.reach.ensures.length, c.fill_by_threads.ensures.length));
      only = blocks-only edition words heads bits live;
      apart = λ i j one two order. are.apart i (omega arith) (bit-inside heads i one) one j order two;
    }
