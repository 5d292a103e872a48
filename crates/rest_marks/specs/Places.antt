-- What a survey found, kept without the words: they may be others now.
use Rattle.std.specs.Prelude.{◌≡◌, ◌≢◌, ℕ, ◌+◌, ◌-◌, ◌^◌, ◌<◌, ◌≤◌, ◌==◌, false, nat_le, nat_lt, cond, List, ◌∷◌, ◌++◌, fold, length, map, slice_index}
use Rattle.heap_layout.specs.declared.edition.Edition.{Edition}
use Rattle.heap_layout.specs.Header.{refs_of, size_of}
use Rattle.heap_layout.specs.Heap.{Heap, Object, header_at, object_at, live, is_target, is_value, IsValue}
use Rattle.heap_layout.specs.Values.{is_immediate}
use Rattle.mark_tables.specs.MarkBitmap.{set_bits}
use Rattle.mark_tables.specs.LiveWords.{live_below, live_indices}
use Rattle.rest_marks.specs.Reached.{IsSound}
use Rattle.rest_marks.specs.Surveys.{marks_of, AreTables}
use Rattle.rest_marks.specs.declared.fault.SlideFault.{SlideFault}
use Rattle.rest_marks.specs.declared.fault.SlideFault.TheVariants.{NoSuchPart, OtherCount, Changed, Unmarked}

-- of how many words which are the first words of live objects, and which are words of live objects, by their indices,
-- rising; and for a survey of how many words the tables have room
pub record Found : Type 0 where
  pub edition : Edition
  pub count : ℕ
  pub marks : List ℕ
  pub indices : List ℕ
  pub room : ℕ

-- the heap is one of which this was found
pub record IsFoundOf (found : Found) (heap : Heap) : Type 0 where
  pub edition : heap.edition ≡ found.edition
  pub count : length heap.words ≡ found.count
  pub marks : heap.marks ≡ found.marks
  pub indices : found.indices ≡ live_indices (live heap)
  pub sound : IsSound heap

-- where a word leads after the collection: an immediate stays, the address of a live object becomes the one that it has
-- then, and any other word becomes null
abbrev pub led_by : Found → ℕ → ℕ
led_by found word =
    cond (is_immediate found.edition word) word
    (cond (word == 0) 0 (cond (is_target found.marks word) (2 ^ 32 + live_below found.indices (word - 2 ^ 32)) 0))

-- the words of an object after the collection, if its references and weak words lead there
abbrev pub led_words : (ℕ → ℕ) → Object → List ℕ
led_words led object = object.header.word ∷ (map led object.references ++ map led object.weak ++ object.data_words)

-- the index of the object to which word i belongs: the last mark that is not above it
abbrev pub owner : List ℕ → ℕ → ℕ
owner marks i = fold (λ last mark. cond (nat_le mark i) mark last) 0 marks

-- word i after the collection, as its object is in these words now
abbrev pub word_now : Found → List ℕ → ℕ → ℕ
word_now found words i = slice_index (led_words (led_by found) (object_at found.edition words (owner found.marks i))) (i - owner found.marks i)

-- what slides: each live word, as its object is now
abbrev pub words_now : Found → List ℕ → List ℕ
words_now found words = map (word_now found words) found.indices

-- where the k-th live object slides to: behind the live words below it; the number of all live words, if there are no
-- more objects
abbrev pub place_of : Found → ℕ → ℕ
place_of found k = cond (nat_lt k (length found.marks)) (live_below found.indices (slice_index found.marks k)) (length found.indices)

-- how many words it had when it was found
abbrev pub size_found : Found → ℕ → ℕ
size_found found k = place_of found (k + 1) - place_of found k

-- a word of the k-th live object slides into the part from word `first` on
abbrev pub HasWordIn : Found → ℕ → ℕ → ℕ → Type 0
HasWordIn found k first count = (n : ℕ) × (first ≤ n) × (n < first + count) × (place_of found k ≤ n) × (n < place_of found (k + 1))

-- word i is a reference of its object as that is now
abbrev pub IsReferenceNow : Found → List ℕ → ℕ → Type 0
IsReferenceNow found words i =
    (owner found.marks i < i) × (i ≤ owner found.marks i + refs_of (header_at found.edition words (owner found.marks i)))

-- The objects that have a word in the part from word `first` on have as many words now as when they were found, and
-- their references there lead to live objects, or are null or immediates.
pub record IsAsFound (found : Found) (words : List ℕ) (first count : ℕ) : Type 0 where
  pub sized : (k n : ℕ) → k < length found.marks → first ≤ n → n < first + count → place_of found k ≤ n → n < place_of found (k + 1)
      → size_of (header_at found.edition words (slice_index found.marks k)) ≡ size_found found k
  pub marked : (n : ℕ) → first ≤ n → n < first + count → IsReferenceNow found words (slice_index found.indices n)
      → IsValue found.edition found.marks (slice_index words (slice_index found.indices n))

-- the part from word `first` on ends within the live words, and there are as many words as were surveyed
abbrev pub IsPartOf : Found → List ℕ → ℕ → ℕ → Type 0
IsPartOf found words first count = (first + count ≤ length found.indices) × (length words ≡ found.count)

-- Why a part is not filled: it ends behind the live words; or it does not, and there are not as many words as were
-- surveyed; or there are, and an object that has a word in the part was changed, or a reference in the part leads to no
-- live object.
abbrev pub IsSlideFault : Found → List ℕ → ℕ → ℕ → SlideFault → Type 0
IsSlideFault found words first count NoSuchPart = length found.indices < first + count
IsSlideFault found words first count OtherCount = (first + count ≤ length found.indices) × (length words ≢ found.count)
IsSlideFault found words first count (Changed i) =
    IsPartOf found words first count × (k : ℕ) × (k < length found.marks) × (i ≡ slice_index found.marks k) × HasWordIn found k first count
    × (size_of (header_at found.edition words i) ≢ size_found found k)
IsSlideFault found words first count (Unmarked i) =
    IsPartOf found words first count × (n : ℕ) × (first ≤ n) × (n < first + count) × (i ≡ slice_index found.indices n) × IsReferenceNow found words i
    × (is_value found.edition found.marks (slice_index words i) ≡ false)

-- what the tables of a survey of so many words say
abbrev pub found_in : Edition → ℕ → List ℕ → List ℕ → ℕ → Found
found_in edition count heads bits room = record { edition = edition; count = count; marks = marks_of heads; indices = set_bits bits; room = room }

-- they are the tables of a survey of so many words
abbrev pub AreTablesOf : Edition → ℕ → List ℕ → List ℕ → List ℕ → Type 0
AreTablesOf edition count heads bits counts = (words : List ℕ) × (length words ≡ count) × AreTables edition words heads bits counts
