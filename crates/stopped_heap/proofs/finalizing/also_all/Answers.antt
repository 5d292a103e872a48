use Rattle.std.proofs.Common.{◌≤◌, ℕ, List, ◌++◌, length, refl, sym, subst, ◌∙◌, arith}
use Rattle.std.proofs.lemmas.List.{append-nil, take_all}
use Rattle.rest_marks.specs.Reached.{AreReached}
use Rattle.stopped_heap.proofs.finalizing.also_all.Goals as goal

pub loop-next-init : goal.loop-next-init
loop-next-init c = record {
  grown = λ roots before. subst (λ (xs : List ℕ). AreReached c.args.edition c.args.words.now xs c.args.growing.marks) (sym (append-nil roots)) before;
  words = c.requires.words;
  edition = c.requires.edition;
  room = refl;
  within = omega arith;
}

pub returns-in-Err-clause-fault : goal.returns-in-Err-clause-fault
returns-in-Err-clause-fault c = λ roots before. c.in-Err.ensures.fault roots (c.loop-next.invariant.grown roots before)

pub loop-next-preserved : goal.loop-next-preserved
loop-next-preserved c = record {
  grown = λ roots before. c.in-Ok.ensures.grown roots (c.loop-next.invariant.grown roots before);
  words = c.in-Ok.ensures.words;
  edition = c.in-Ok.ensures.edition;
  room = c.in-Ok.ensures.room ∙ c.loop-next.invariant.room;
  within = omega (arith, c.min-end.ensures);
}

pub returns-clause-grown : goal.returns-clause-grown
returns-clause-grown c = λ roots before.
    let more = c.args.more.now in
    let all : length more ≤ c.loop-next.next = omega (arith, c.loop-next-test.false) in
    subst (λ (xs : List ℕ). AreReached c.args.edition c.args.words.now (roots ++ xs) c.loop-next.growing.marks) (take_all c.loop-next.next more all)
    (c.loop-next.invariant.grown roots before)
