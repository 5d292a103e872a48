use Rattle.std.proofs.Common.{get_or, arith}
use Rattle.std.proofs.lemmas.List.Elements.{All-get_or}
use Rattle.rest_marks.specs.Reached.{IsReachedFrom}
use Rattle.rest_marks.proofs.Reaching.{reached-inside}
use Rattle.rest_marks.proofs.lookups.found_by.Goals as goal

pub shape-shape-requires-clause-inside : goal.shape-shape-requires-clause-inside
shape-shape-requires-clause-inside c =
    let edition = c.args.edition in
    let words = c.args.words.now in
    let roots = c.args.roots.now in
    let objects = c.args.objects.now in
    let k = c.loop-k.k in
    reached-inside edition words roots (get_or objects k 0) (All-get_or (IsReachedFrom edition words roots) objects k 0 (omega arith) c.requires.objects)
