use Rattle.std.proofs.Common.{◌∙◌, sym}
use Rattle.test_dumps.proofs.dumped_runs.expect_run_of.Goals as goal

pub expect_calls-requires : goal.expect_calls-requires
expect_calls-requires g c = record { of = rw c.deref_mut.ensures.value (rw c.expect-space.ensures at c.flip-flipped.ensures.of) }

pub expect_finish-requires-clause-whole : goal.expect_finish-requires-clause-whole
expect_finish-requires-clause-whole g c κs within =
    (rw c.expect-space.ensures at c.flip-flipped.ensures.mutators) ∙ (sym c.requires.count ∙ c.requires.parts)

pub expect_finish-requires-clause-mutators : goal.expect_finish-requires-clause-mutators
expect_finish-requires-clause-mutators g c κs within = rw c.expect-space.ensures at c.flip-flipped.ensures.mutators

pub expect_finish-requires-clause-fresh : goal.expect_finish-requires-clause-fresh
expect_finish-requires-clause-fresh g c κs within = rw c.expect-space.ensures at c.flip-flipped.ensures.fresh
