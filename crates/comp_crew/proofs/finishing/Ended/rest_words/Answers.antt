use Rattle.std.proofs.Common.{ℕ, ◌*◌, [], length, map, ap, subst, ◌∙◌, arith}
use Rattle.std.specs.List.{range_with_len}
use Rattle.heap_layout.specs.Heap.{Heap}
use Rattle.comp_cycles.specs.Ends.{setup_in, AreMoved}
use Rattle.comp_cycles.specs.Finishes.{journals_of, pages_of}
use Rattle.comp_cycles.specs.NextHeap.{next_word}
use Rattle.comp_cycles.proofs.MovedWords.{words_are}
use Rattle.comp_cycles.proofs.Refusals.{few_pages}
use Rattle.comp_crew.specs.Finishing.{heap_of}
use Rattle.comp_crew.proofs.finishing.Ended.rest_words.Goals as goal

pub moved_words-requires-clause-few : goal.moved_words-requires-clause-few
moved_words-requires-clause-few c =
    let e = c.args.self.now in
    let few = few_pages (heap_of e) e.finished [] [] c.requires.end in
    omega (arith, few)

pub returns : goal.returns
returns c =
    let e = c.args.self.now in
    let f = e.finished in
    let u = setup_in (heap_of e) f in
    let field = c.in_ok-words.field-0 in
    let moved = subst (λ (h : Heap). AreMoved (setup_in h f) (journals_of f) (64 * length (pages_of f)) field.words.items field.starts.items) c.deref.ensures c.in_ok-words.ensures.moved in
    words_are u (journals_of f) (64 * length (pages_of f)) field.words.items field.starts.items moved
    ∙ ap (λ (n : ℕ). map (next_word u (journals_of f)) (range_with_len 0 (64 * n))) c.requires.end.finished.pages.count
