-- A finished cycle comes to rest.
use Rattle.std.specs.Prelude.{◌≡◌, ℕ, ◌<◌, ◌≤◌, ◌++◌, ◌⊎◌, List, drop, length, map}
use Rattle.comp_crew.specs.Finishes.{edition_in, roots_of}
use Rattle.comp_crew.specs.Finishing.{finished_of, rest_words}
use Rattle.comp_crew.specs.NextHeap.{lowered}
use Rattle.comp_crew.specs.declared.finishing.Ended.{Ended as End}
use Rattle.handle_base.specs.Answers.{bare, done, two}
use Rattle.handle_base.specs.Statuses.{out_of_memory, too_short}
use Rattle.handle_base.specs.declared.answer.Answer.{Answer}

-- the roots of a finished heap, as addresses of the heap at rest
abbrev pub rest_roots : End → List ℕ
rest_roots e = map (lowered (edition_in (finished_of e))) (roots_of (finished_of e))

-- this list stands at the front of the buffer
abbrev pub StandsIn : List ℕ → List ℕ → List ℕ → Type 0
StandsIn list before after = (length list ≤ length before) × (after ≡ list ++ drop (length list) before)

-- The words of all pages and all roots stand at the front of their buffers, as words and roots of the next heap, and
-- the answer has the number of words. Or both buffers are as they were: one of them is too short, the answer has the
-- length that it lacks, and says which; or there is no memory, though both are long enough.
abbrev pub RestsAt : List ℕ → List ℕ → List ℕ → List ℕ → End → Answer → Type 0
RestsAt words new_words roots new_roots e a =
    (StandsIn (rest_words e) words new_words × StandsIn (rest_roots e) roots new_roots × (a ≡ done (length (rest_words e))))
    ⊎ ((new_words ≡ words) × (new_roots ≡ roots)
    × (((length words < length (rest_words e)) × (a ≡ two too_short (length (rest_words e)) 0))
    ⊎ ((length (rest_words e) ≤ length words) × (length roots < length (rest_roots e)) × (a ≡ two too_short (length (rest_roots e)) 1))
    ⊎ ((length (rest_words e) ≤ length words) × (length (rest_roots e) ≤ length roots) × (a ≡ bare out_of_memory 0))))
