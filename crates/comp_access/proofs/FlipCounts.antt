-- The counts of a flip, and its pages.
use Rattle.std.proofs.Common.{◌≡◌, ◌↔◌, ℕ, ◌+◌, ◌*◌, ◌/◌, ◌<◌, ◌≤◌, Result, Ok, Err, IsErrOf, inl, inr, arith}
use Rattle.std.specs.Result.{IsErrAnd}
use Rattle.heap_layout.specs.declared.edition.Edition.{Edition}
use Rattle.heap_layout.specs.Limits.{most_fresh_pages}
use Rattle.comp_access.specs.Hands.{AreBadCounts}

-- A flip of n mutators and these fresh pages that answers `bad` exactly for bad counts, and another fault if memory
-- runs out.
module _ (edition : Edition) (n fresh : ℕ) {E : Type 0} (bad : E) where
  module _ {T : Type 0} where
    other_counts : (r : Result T E) → (AreBadCounts edition n fresh → ⊥) → (r ≡ Err bad → ⊥) → IsErrOf r bad ↔ AreBadCounts edition n fresh
    other_counts r good apart = ((λ told. absurd (apart told)), (λ counts. absurd (good counts)))

  module _ (some : 1 ≤ n) (few : n ≤ 64) (few_fresh : fresh ≤ most_fresh_pages edition) where
    good : AreBadCounts edition n fresh → ⊥
    good (inl none) = omega arith
    good (inr (inl many)) = omega arith
    good (inr (inr many)) = omega arith

    module _ {T : Type 0} where
      -- good counts are not refused as bad if the heap is flipped
      pub flipped_counts : (x : T) → IsErrOf (Ok x) bad ↔ AreBadCounts edition n fresh
      flipped_counts x = other_counts (Ok x) good (λ e. cc)

      -- good counts are not refused as bad if memory runs out
      pub grown_counts : (other : E) → (other ≡ bad → ⊥) → (r : Result T E) → IsErrAnd r (λ fault. fault ≡ other) → IsErrOf r bad ↔ AreBadCounts edition n fresh
      grown_counts other apart (Ok x) h = absurd h
      grown_counts other apart (Err fault) h = other_counts (Err fault) good (λ e. apart (let same : other ≡ bad = cc in same))

pub pages_are : {pages compacted fresh here there : ℕ} → pages ≡ compacted + fresh → here ≡ compacted → there ≡ fresh → pages ≡ here + there
pages_are e f h = omega arith

-- the number of words of all pages fits 64 bits
pub words_fit : (pages compacted fresh : ℕ) → pages ≡ compacted + fresh → compacted ≤ 1073741824 → fresh ≤ 1048576 → 64 * pages < 18446744073709551616
words_fit pages compacted fresh e few few_fresh = omega arith

-- the live words are at most the words of all pages
pub live_fit : (words live pages compacted fresh : ℕ) → words ≡ live → pages ≡ compacted + fresh → compacted ≡ (live + 63) / 64 → words ≤ 64 * pages
live_fit words live pages compacted fresh e all slid = omega arith
