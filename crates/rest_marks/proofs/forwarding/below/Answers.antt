use Rattle.std.proofs.Common.{◌/◌, get_or, ◌∙◌, arith}
use Rattle.std.proofs.lemmas.List.{get_or_default}
use Rattle.mark_tables.proofs.NewPlaces.{below-few, counted-below}
use Rattle.rest_marks.proofs.forwarding.below.Goals as goal

pub overflow_add-counts : goal.overflow_add-counts
overflow_add-counts c =
    let bits = c.args.bits.now in
    let counts = c.args.counts.now in
    let offsets = c.requires.offsets in
    let at = c.args.i / 64 in
    let counted = counted-below bits counts offsets c.args.i c.requires.known (get_or bits at 0) (get_or counts at 0) (get_or_default bits at 0 _ (omega (arith, c.requires.known))) (get_or_default counts at 0 _ (omega (arith, c.requires.known, offsets.long))) in
    omega (arith, counted, below-few bits c.args.i c.requires.known, offsets.few)

pub returns-clause-below : goal.returns-clause-below
returns-clause-below c =
    let bits = c.args.bits.now in
    let counts = c.args.counts.now in
    let offsets = c.requires.offsets in
    let at = c.args.i / 64 in
    let counted = counted-below bits counts offsets c.args.i c.requires.known (get_or bits at 0) (get_or counts at 0) (get_or_default bits at 0 _ (omega (arith, c.requires.known))) (get_or_default counts at 0 _ (omega (arith, c.requires.known, offsets.long))) in
    c.from.ensures ∙ counted

pub returns-clause-few : goal.returns-clause-few
returns-clause-few c =
    let bits = c.args.bits.now in
    omega (arith, returns-clause-below c, below-few bits c.args.i c.requires.known, c.requires.offsets.few)
