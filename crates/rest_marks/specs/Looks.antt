-- A marking of a heap while its threads go on: objects are looked at one by one, each as it is then.
use Rattle.std.specs.Prelude.{◌≡◌, ℕ, zero, suc, ◌+◌, ◌<◌, true, List, [], ◌∷◌, fold, take, drop, length, slice_index, slice_index_or}
use Rattle.heap_layout.specs.declared.edition.Edition.{Edition}
use Rattle.heap_layout.specs.Bits.{bit}
use Rattle.heap_layout.specs.Header.{header_of, refs_of, weak_of, size_of}
use Rattle.heap_layout.specs.Heap.{header_at, object_at}
use Rattle.reachability.specs.Queue.{after_word}
use Rattle.rest_marks.specs.Marks.{AllKept}
use Rattle.rest_marks.specs.Meeting.{IsDone}
use Rattle.rest_marks.specs.Reached.{is_below, IsWordOf}

-- What a marking has met so far: the objects, in the order in which they were met; how many of them, from the first on,
-- were looked at; and the bits of the first words of all of them, and of all words of those that were looked at.
-- `count` are the words of the heap.
pub record Looking : Type 0 where
  pub edition : Edition
  pub count : ℕ
  pub met : List ℕ
  pub looked : ℕ
  pub heads : List ℕ
  pub bits : List ℕ

-- the objects that were met, and behind them those of `count` words to which these words lead and that were not met, in
-- the order in which they are met
abbrev pub met_by : ℕ → List ℕ → List ℕ → List ℕ
met_by count met words = fold (after_word (is_below count)) met words

-- These are the words of the object at index i, from its first one on, as far as they were handed in.
abbrev pub IsAt : List ℕ → ℕ → List ℕ → Type 0
IsAt words i run = (k : ℕ) → k < length run → slice_index words (i + k) ≡ slice_index run k

-- As they are in these words, the first `looked` of the objects that were met lie within the words, share none, and all
-- their bits are set, and no others; their references lead to objects that were met, and their weak words to words.
pub record AreLookedAt (edition : Edition) (words met : List ℕ) (looked : ℕ) (heads bits : List ℕ) : Type 0 where
  pub done : (k : ℕ) → k < looked → IsDone edition words bits (slice_index met k)
  pub only : (j : ℕ) → bit bits j ≡ true → (k : ℕ) × (k < looked) × IsWordOf edition words (slice_index met k) j
  pub apart : (k l n : ℕ) → k < l → l < looked → IsWordOf edition words (slice_index met k) n → IsWordOf edition words (slice_index met l) n → ⊥
  pub closed : (k : ℕ) → k < looked → AllKept edition heads (object_at edition words (slice_index met k)).references

-- so it is of all objects that the marking looked at
abbrev pub AreLooked : Looking → List ℕ → Type 0
AreLooked looking words = AreLookedAt looking.edition words looking.met looking.looked looking.heads looking.bits

-- The object at index i is as long in both words, and has the same references and weak words.
pub record IsSameAt (edition : Edition) (before now : List ℕ) (i : ℕ) : Type 0 where
  pub size : size_of (header_at edition before i) ≡ size_of (header_at edition now i)
  pub references : (object_at edition before i).references ≡ (object_at edition now i).references
  pub weak : (object_at edition before i).weak ≡ (object_at edition now i).weak

-- Of the objects that were looked at, all but the one at index i are the same in both words, and that one is as long.
pub record AreSameBut (edition : Edition) (before now met : List ℕ) (looked i : ℕ) : Type 0 where
  pub others : (k : ℕ) → k < looked → (slice_index met k ≡ i → ⊥) → IsSameAt edition before now (slice_index met k)
  pub long : (k : ℕ) → k < looked → slice_index met k ≡ i → size_of (header_at edition before i) ≡ size_of (header_at edition now i)

-- all objects that were looked at are the same in both words: where nobody wrote since, or to data words alone
abbrev pub AreSame : Looking → List ℕ → List ℕ → Type 0
AreSame looking before now = (k : ℕ) → k < looking.looked → IsSameAt looking.edition before now (slice_index looking.met k)

-- ---- rows

-- how many words the row of an object has whose header is this word: the header, the references and the weak words
abbrev pub row_size : Edition → ℕ → ℕ
row_size edition word = 1 + refs_of (header_of edition word) + weak_of (header_of edition word)

-- the words cut into rows, not more than `fuel` of them
abbrev pub rows_from : Edition → ℕ → List ℕ → List (List ℕ)
rows_from edition zero words = []
rows_from edition (suc fuel) [] = []
rows_from edition (suc fuel) (word ∷ words) =
    take (row_size edition word) (word ∷ words) ∷ rows_from edition fuel (drop (row_size edition word) (word ∷ words))

-- the words cut into rows, each as long as its header says; the last one is shorter if fewer words are left
abbrev pub rows_of : Edition → List ℕ → List (List ℕ)
rows_of edition words = rows_from edition (length words) words

-- the objects that were met after those to which the references of each row lead
abbrev pub met_by_rows : Edition → ℕ → List ℕ → List (List ℕ) → List ℕ
met_by_rows edition count met rows = fold (λ met row. met_by count met (object_at edition row 0).references) met rows

-- these rows are in order those of the objects that were met, from number `first` on
abbrev pub AreRowsAt : List ℕ → List ℕ → ℕ → List (List ℕ) → Type 0
AreRowsAt words met first rows = (k : ℕ) → k < length rows → IsAt words (slice_index met (first + k)) (slice_index_or rows k [])
