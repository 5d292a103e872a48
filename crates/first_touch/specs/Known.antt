-- What threads know of pages. Each page has an atomic word: 0 while the page waits, 1 while a thread has it, and 2 when
-- it is home.
use Rattle.std.specs.Prelude.{◌≡◌, ◌≢◌, ℕ, ◌<◌, Bool, true, false, List, slice_index}
use mathlib.Core.Option.{some}
use lib.ListN.{get_elem?}

-- what one thread knows: that it has the page `page`, if `stand` is 1, or that this page is home, if it is 2; and that
-- all pages below `below` are home
pub record Known : Type 0 where
  pub page : ℕ
  pub stand : ℕ
  pub below : ℕ

-- who has page k, or knows that it is home; who knows nothing, if stand is 0
abbrev pub known_at : ℕ → ℕ → Known
known_at k stand = record { page = k; stand = stand; below = 0 }

-- the word that a thread found or wrote last, of which page that is, and whether the thread put the page back at that
-- step; another thread may have changed the word since
pub record Met : Type 0 where
  pub page : ℕ
  pub word : ℕ
  pub put_back : Bool

abbrev pub met_at : ℕ → ℕ → Met
met_at k word = record { page = k; word = word; put_back = false }

-- who put page k back, which it had, and found or wrote this word at that step
abbrev pub put_back_at : ℕ → ℕ → Met
put_back_at k word = record { page = k; word = word; put_back = true }

-- what a thread knows is so
abbrev pub Stands : List ℕ → Known → Type 0
Stands words v = (v.stand ≢ 0 → slice_index words v.page ≡ v.stand) × ((j : ℕ) → j < v.below → slice_index words j ≡ 2)

module _ {V : Type 0} (known : V → Known) where
  -- a thread knows that page k is home
  abbrev pub IsKnownHome : List V → ℕ → Type 0
  IsKnownHome views k =
      (id : ℕ) × (v : V) × (get_elem? views id ≡ some v) × ((known v).stand ≡ 2) × ((known v).page ≡ k)

  -- What each thread knows is so, no two threads have one page, and a word is 2 only if a thread knows that the page is
  -- home. A thread comes to know it only by finding 2, or by publishing the page; so no other step writes 2.
  pub record AreKnown (words : List ℕ) (views : List V) : Type 0 where
    pub stands : (id : ℕ) (v : V) → get_elem? views id ≡ some v → Stands words (known v)
    pub once : (id other : ℕ) (v w : V) → get_elem? views id ≡ some v → get_elem? views other ≡ some w
        → (known v).stand ≡ 1 → (known w).stand ≡ 1 → (known v).page ≡ (known w).page → id ≡ other
    pub home : (k : ℕ) → slice_index words k ≡ 2 → IsKnownHome views k
