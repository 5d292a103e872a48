use Rattle.std.proofs.Common.{arith}
use Rattle.clap.specs.Words.{found_of}
use Rattle.command_line.proofs.RunCounts.{fresh_number, fresh_within, mutators_number, mutators_within}
use Rattle.command_line.proofs.words.trace_run.Goals as goal

pub count_of-requires : goal.count_of-requires
count_of-requires c = mutators_number (found_of c.args.found.now) c.requires.fits_mutators

pub count_of-requires-2 : goal.count_of-requires-2
count_of-requires-2 c = fresh_number (found_of c.args.found.now) c.requires.fits_fresh

pub overflow_cast-result : goal.overflow_cast-result
overflow_cast-result c = omega (arith, (mutators_within (found_of c.args.found.now) c.requires.fits_mutators c.count_of.result c.count_of.ensures).1)

pub overflow_cast-result-2 : goal.overflow_cast-result-2
overflow_cast-result-2 c = omega (arith, fresh_within (found_of c.args.found.now) c.requires.fits_fresh c.count_of-2.result c.count_of-2.ensures)

pub returns-clause-run : goal.returns-clause-run
returns-clause-run c = record {
  image_is = c.text_of.ensures;
  trace_is = c.text_of-2.ensures;
  dump_is = c.text_of-3.ensures;
  mutators_are = c.count_of.ensures;
  fresh_are = c.count_of-2.ensures;
  large_is = c.is_large.ensures;
}

pub returns-clause-counts : goal.returns-clause-counts
returns-clause-counts c =
    let count = mutators_within (found_of c.args.found.now) c.requires.fits_mutators c.count_of.result c.count_of.ensures in
    (count, fresh_within (found_of c.args.found.now) c.requires.fits_fresh c.count_of-2.result c.count_of-2.ensures)
