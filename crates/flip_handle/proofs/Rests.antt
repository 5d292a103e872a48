-- The lengths of the words and roots that come to rest.
use Rattle.std.proofs.Common.{◌≡◌, ℕ, ◌*◌, length, sym, ap, ◌∙◌}
use Rattle.std.specs.List.{range_with_len}
use Rattle.std.proofs.lemmas.List.{length-map}
use Rattle.comp_cycles.specs.Finishes.{edition_in, journals_of, pages_of, roots_of}
use Rattle.comp_cycles.specs.NextHeap.{lowered, next_word}
use Rattle.comp_cycles.proofs.Naming.{row_long}
use Rattle.comp_crew.specs.Finishing.{finished_of, rest_words, setup_at_end, IsEnded}
use Rattle.comp_crew.specs.Setup.{pages}
use Rattle.comp_crew.specs.declared.finishing.Ended.{Ended as End}
use Rattle.flip_handle.specs.Settling.{rest_roots}

-- 64 words for each page
pub words_long : (e : End) → IsEnded e → length (rest_words e) ≡ 64 * length (pages_of (finished_of e))
words_long e h =
    let u = setup_at_end e in
    length-map (range_with_len 0 (64 * pages u)) (next_word u (journals_of (finished_of e))) ∙ row_long 0 (64 * pages u) ∙ ap (λ (n : ℕ). 64 * n) (sym h.end.finished.pages.count)

-- all roots
pub roots_long : (e : End) → length (rest_roots e) ≡ length (roots_of (finished_of e))
roots_long e = length-map (roots_of (finished_of e)) (lowered (edition_in (finished_of e)))
