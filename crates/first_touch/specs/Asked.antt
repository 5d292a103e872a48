-- What slides, page by page.
use Rattle.std.specs.Prelude.{ℕ, suc, zero, ◌+◌, ◌-◌, ◌*◌, ◌<◌, ◌≤◌, min, List, [], ◌++◌, take, drop, length}
use Rattle.rest_marks.specs.Places.{Found, words_now, IsSlideFault}
use Rattle.rest_marks.specs.declared.fault.SlideFault.{SlideFault}

-- what was found, the words of the heap, and how many words a page has; the last page may have fewer
pub record Asked : Type 0 where
  pub found : Found
  pub words : List ℕ
  pub size : ℕ

-- how many words page k has
abbrev pub page_len : Asked → ℕ → ℕ
page_len asked k = min asked.size (length asked.found.indices - k * asked.size)

-- the words that slide there
abbrev pub slid_page : Asked → ℕ → List ℕ
slid_page asked k = take (page_len asked k) (drop (k * asked.size) (words_now asked.found asked.words))

-- why these words do not slide there
abbrev pub IsPageFault : Asked → ℕ → SlideFault → Type 0
IsPageFault asked k fault = IsSlideFault asked.found asked.words (k * asked.size) (page_len asked k) fault

-- n pages from page k on, joined
abbrev pub joined_pages : Asked → ℕ → ℕ → List ℕ
joined_pages asked k zero = []
joined_pages asked k (suc n) = slid_page asked k ++ joined_pages asked (k + 1) n

-- so many words lie in so many pages of so many words, of which the last may have fewer: in them are all words, and in
-- each of them is one
pub record IsCut (live size pages : ℕ) : Type 0 where
  pub some : 0 < size
  pub all : live ≤ pages * size
  pub each : (k : ℕ) → k < pages → k * size < live

-- what slides lies in so many pages
abbrev pub IsCutIn : Asked → ℕ → Type 0
IsCutIn asked pages = IsCut (length asked.found.indices) asked.size pages
