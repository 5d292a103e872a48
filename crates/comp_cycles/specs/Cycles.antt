-- Cycles that follow one another, and their one history.
use Rattle.std.specs.Prelude.{◌≡◌, ℕ, ◌+◌, ◌*◌, ◌<◌, ◌≤◌, false, slice_index, List, [], ◌∷◌, ◌++◌, All, length, map, zip, unwrap_or, Option, Some, None}
use Rattle.std.specs.List.{range_with_len}
use Rattle.heap_layout.specs.Header.{size_of}
use Rattle.heap_layout.specs.Values.{is_immediate}
use Rattle.heap_layout.specs.declared.edition.Edition.{Edition}
use Rattle.heap_layout.specs.Heap.{Heap, live}
use Rattle.page_plan.specs.Sliding.{forward, to_address}
use Rattle.comp_journal.specs.Journal.{replayed}
use Rattle.comp_journal.specs.declared.entry.Entry.{Entry}
use Rattle.comp_history.specs.Setup.{Setup, address, base_of, pages}
use Rattle.comp_history.specs.Lists.{on, StartsWith}
use Rattle.comp_history.specs.Locks.{Journals}
use Rattle.comp_history.specs.Merged.{history, CanMerge}
use Rattle.comp_history.specs.Objects.{LeadsToObject}
use Rattle.comp_history.specs.OneThread.{first_heap, header_in, result_of, HasStart}
use Rattle.comp_cycles.specs.Forwarded.{AreForwarded}
use Rattle.comp_cycles.specs.Stable.{StableHeap, Step, Roots, Keeps, IsLife, lived}
use Rattle.comp_cycles.specs.NumberedHeaps.{Names, names_in, number_at, pointers_of, numbered_word, made_at, numbered, first_numbers, first_numbered, AreNumbered, IsNumberedAs}
use Rattle.comp_cycles.specs.NextHeap.{next_heap, next_faults}

-- A cycle: its setup with the heap that was compacted, the journals at the end, and the to-space addresses to which the
-- roots of that heap lead. At the end two lists are handed in for the next heap: its roots, as to-space addresses, and
-- its marks. If no roots are handed in, the roots stay.
pub record Cycle : Type 0 where
  pub setup : Setup
  pub journals : Journals
  pub roots : List ℕ
  pub new_roots : Option (List ℕ)
  pub marks : List ℕ

-- the entries of the cycle, merged
abbrev pub entries_of : Cycle → List (ℕ × Entry)
entries_of c = history c.setup c.journals

-- the roots of the next heap, as to-space addresses
abbrev pub roots_after : Cycle → List ℕ
roots_after c = unwrap_or c.new_roots c.roots

-- the heap with which the next cycle begins
abbrev pub heap_after : Cycle → Heap
heap_after c = next_heap c.setup c.journals (roots_after c) c.marks

-- how many object numbers have been given out after the cycle
abbrev pub given_after : Cycle → ℕ → ℕ
given_after c given = given + length (made_at (entries_of c))

-- the to-space addresses of the cycle's objects, with their numbers: objects that slid keep theirs, and each new object
-- gets the next one
abbrev pub names_of : Cycle → List ℕ → ℕ → Names
names_of c numbers given =
    let made = made_at (entries_of c) in
    record { edition = c.setup.heap.edition; numbers = zip ((first_heap c.setup).starts ++ made) (numbers ++ range_with_len (given + 1) (length made)) }

-- the numbers of the objects marked at the end, by rising address
abbrev pub numbers_after : Cycle → List ℕ → ℕ → List ℕ
numbers_after c numbers given = map (λ i. number_at (names_of c numbers given) (to_address i)) c.marks

-- these steps, after one that makes the objects at these addresses the roots, if roots are handed in
abbrev pub rooted : Names → Option (List ℕ) → List Step → List Step
rooted names None steps = steps
rooted names (Some roots) steps = Roots (map (number_at names) roots) ∷ steps

-- the story of the cycle in object numbers: what was written, then where the roots lead if they change, and then what
-- is kept
abbrev pub story_of : Cycle → List ℕ → ℕ → List Step
story_of c numbers given =
    numbered (names_of c numbers given) (first_heap c.setup) (entries_of c)
    ++ rooted (names_of c numbers given) c.new_roots (Keeps (numbers_after c numbers given) ∷ [])

-- roots that are handed in at the end of a cycle are null, or the starts of objects that slid or were made
abbrev pub MayBeRoots : Setup → Journals → Option (List ℕ) → Type 0
MayBeRoots u journals None = Unit {0}
MayBeRoots u journals (Some roots) = All (LeadsToObject u journals) roots

-- This is a cycle of this heap, and it can be followed by another.
pub record IsCycleOf (heap : Heap) (c : Cycle) : Type 0 where
  pub heap_is : c.setup.heap ≡ heap
  pub merges : CanMerge c.setup c.journals
  -- the roots of the cycle are the heap's roots, forwarded
  pub roots : AreForwarded c.setup.heap c.roots
  pub new_roots : MayBeRoots c.setup c.journals c.new_roots
  -- the next heap has no fault, so its marks are accepted
  pub accepted : next_faults c.setup c.journals (heap_after c) ≡ []

-- What was seen of page p, in object numbers, is the state of the objects in the stable heap at one point between two
-- entries.
pub record IsSeen (c : Cycle) (names : Names) (stable : StableHeap) (p : ℕ) (seen : List Entry) : Type 0 where
  pub before : List (ℕ × Entry)
  pub rest : List (ℕ × Entry)
  pub parts : entries_of c ≡ before ++ rest
  -- the entries before the point that are on the page are those that were seen
  pub seen_is : on p before ≡ seen
  -- each word that the seen entries make of the page, if it is a word of an object, is that object's word
  pub words : (a at offset : ℕ) → HasStart (result_of (first_heap c.setup) before) a → at < size_of (header_in (result_of (first_heap c.setup) before) a)
      → offset < 64 → a + at ≡ address p offset
      → slice_index ((lived stable (numbered names (first_heap c.setup) before)).words (number_at names a)) at
      ≡ numbered_word names (pointers_of (header_in (result_of (first_heap c.setup) before) a)) at (slice_index (replayed (base_of c.setup p) seen) offset)

-- No number up to this one is an immediate. In editions one to three that is always so, in edition four below 2^63.
abbrev pub AreApart : Edition → ℕ → Type 0
AreApart edition n = (k : ℕ) → k ≤ n → is_immediate edition k ≡ false

-- no to-space address of the cycle is an immediate
abbrev pub IsLow : Cycle → Type 0
IsLow c = AreApart c.setup.heap.edition (to_address (64 * pages c.setup))

-- The writing of a cycle, in the life of a heap whose objects never move. `stable` is that heap when the cycle begins.
pub record WritesLife (c : Cycle) (numbers : List ℕ) (stable : StableHeap) : Type 0 where
  -- the entries, in one order, are steps that may be made there
  pub life : IsLife stable (numbered (names_of c numbers stable.given) (first_heap c.setup) (entries_of c))
  -- at each point between two entries the objects are the same in both heaps
  pub points : (before rest : List (ℕ × Entry)) → entries_of c ≡ before ++ rest
      → AreNumbered (names_of c numbers stable.given) (result_of (first_heap c.setup) before) (lived stable (numbered (names_of c numbers stable.given) (first_heap c.setup) before))
  -- each read of the cycle is a read of the stable heap
  pub seen : (p : ℕ) (seen : List Entry) → p < pages c.setup → StartsWith (c.journals p) seen → IsSeen c (names_of c numbers stable.given) stable p seen

-- The same, if addresses are no immediates.
abbrev pub IsWriting : Cycle → List ℕ → StableHeap → Type 0
IsWriting c numbers stable = IsLow c → WritesLife c numbers stable

-- The cycle is a chapter of that life.
pub record TellsChapter (c : Cycle) (numbers : List ℕ) (stable : StableHeap) : Type 0 where
  pub writing : WritesLife c numbers stable
  -- the whole story may be lived there: what was written, the change of the roots, and then what is kept
  pub life : IsLife stable (story_of c numbers stable.given)
  -- after the story, the kept objects have the words that they have in the next heap, and the roots lead to the same
  -- objects
  pub kept : IsNumberedAs (heap_after c) (numbers_after c numbers stable.given) (lived stable (story_of c numbers stable.given))
  pub given : (lived stable (story_of c numbers stable.given)).given ≡ given_after c stable.given
  -- if no roots were handed in, each root leads to the same object as before
  pub roots : c.new_roots ≡ None
      → map (number_at (names_in (heap_after c) (numbers_after c numbers stable.given))) (heap_after c).roots ≡ map (number_at (names_in c.setup.heap numbers)) c.setup.heap.roots
  -- if roots were handed in, each root of the next heap leads to the object at the address that was handed in
  pub new_roots : (roots : List ℕ) → c.new_roots ≡ Some roots
      → map (number_at (names_in (heap_after c) (numbers_after c numbers stable.given))) (heap_after c).roots ≡ map (number_at (names_of c numbers stable.given)) roots

-- The same, if object numbers are no immediates.
abbrev pub IsChapter : Cycle → List ℕ → StableHeap → Type 0
IsChapter c numbers stable = AreApart c.setup.heap.edition (given_after c stable.given) → TellsChapter c numbers stable

-- Forwarding keeps the order of addresses. So it never maps two addresses to one.
abbrev pub IsRising : Heap → Type 0
IsRising heap = (a b x y : ℕ) → 0 < a → a < b → forward (live heap) a ≡ Some x → forward (live heap) b ≡ Some y → x < y

-- these cycles follow one another, from the one heap to the last
abbrev pub Follow : Heap → List Cycle → Heap → Type 0
Follow heap [] last = last ≡ heap
Follow heap (c ∷ cs) last = IsCycleOf heap c × Follow (heap_after c) cs last

-- the stories of the cycles, one after the other
abbrev pub story : List Cycle → List ℕ → ℕ → List Step
story [] numbers given = []
story (c ∷ cs) numbers given = story_of c numbers given ++ story cs (numbers_after c numbers given) (given_after c given)

-- the numbers of the objects that are kept after the last cycle
abbrev pub numbers_left : List Cycle → List ℕ → ℕ → List ℕ
numbers_left [] numbers given = numbers
numbers_left (c ∷ cs) numbers given = numbers_left cs (numbers_after c numbers given) (given_after c given)

-- how many object numbers have been given out after the last cycle
abbrev pub given_left : List Cycle → ℕ → ℕ
given_left [] given = given
given_left (c ∷ cs) given = given_left cs (given_after c given)

-- each cycle is a chapter
abbrev pub AreChapters : List Cycle → List ℕ → StableHeap → Type 0
AreChapters [] numbers stable = Unit {0}
AreChapters (c ∷ cs) numbers stable =
    TellsChapter c numbers stable × IsRising c.setup.heap
    × AreChapters cs (numbers_after c numbers stable.given) (lived stable (story_of c numbers stable.given))

-- The cycles from the one heap to the last are one life of a heap whose objects never move.
pub record LivesOnce (heap : Heap) (cycles : List Cycle) (last : Heap) : Type 0 where
  pub life : IsLife (first_numbered heap) (story cycles (first_numbers heap) (length heap.marks))
  pub result : IsNumberedAs last (numbers_left cycles (first_numbers heap) (length heap.marks)) (lived (first_numbered heap) (story cycles (first_numbers heap) (length heap.marks)))
  pub chapters : AreChapters cycles (first_numbers heap) (first_numbered heap)

-- The same, if object numbers are no immediates.
abbrev pub IsOneLife : Heap → List Cycle → Heap → Type 0
IsOneLife heap cycles last = AreApart heap.edition (given_left cycles (length heap.marks)) → LivesOnce heap cycles last
