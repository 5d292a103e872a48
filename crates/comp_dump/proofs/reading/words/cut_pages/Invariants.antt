use Rattle.std.proofs.Common.{◌≡◌, ℕ, Some, map}
use Rattle.std.specs.List.{range_with_len}
use Rattle.comp_dump.specs.WordsEncoding.{page_of_words}
use Rattle.comp_dump.proofs.reading.words.cut_pages.Given as goal

abbrev pub invariant-loop-p : goal.invariant-loop-p
invariant-loop-p l = l.pages ≡ map (λ (q : ℕ). Some (page_of_words l.words q)) (range_with_len 0 l.p)
