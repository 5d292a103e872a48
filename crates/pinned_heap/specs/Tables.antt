-- The tables of a slide around objects that stay.
use Rattle.std.specs.Prelude.{◌≡◌, ℕ, zero, suc, ◌+◌, ◌-◌, ◌*◌, ◌^◌, ◌≤◌, ◌<◌, ◌==◌, ◌&&◌, Bool, cond, not, List, length, slice_index, if◌then◌else◌}
use Rattle.heap_layout.specs.declared.edition.Edition.{Edition}
use Rattle.heap_layout.specs.Bits.{bit}
use Rattle.heap_layout.specs.Heap.{from_address}
use Rattle.heap_layout.specs.Values.{is_immediate}
use Rattle.reachability.specs.Queue.{is_address}

-- where the live words below index i end when they have slid, of those that do not stay each behind the one before
abbrev pub end_below : (ℕ → Bool) → (ℕ → Bool) → ℕ → ℕ
end_below live staying zero = 0
end_below live staying (suc i) = cond (staying i) i (end_below live staying i) + (if live i then 1 else 0)

-- where word i goes, if it is live
abbrev pub place_at : (ℕ → Bool) → (ℕ → Bool) → ℕ → ℕ
place_at live staying i = cond (staying i) i (end_below live staying i)

-- the same by bits: those of live words, and those of the first words of objects that stay
abbrev pub place_by : List ℕ → List ℕ → ℕ → ℕ
place_by bits stays i = place_at (bit bits) (bit stays) i

-- for each block of bits where the words of the blocks before it end
pub record AreBases (bits stays bases : List ℕ) : Type 0 where
  pub few : length bits ≤ 2 ^ 25
  pub same : length stays ≡ length bits
  pub long : length bases ≡ length bits
  pub low : (i : ℕ) → end_below (bit bits) (bit stays) i ≤ i
  pub each : (b : ℕ) → b < length bits → slice_index bases b ≡ end_below (bit bits) (bit stays) (64 * b)

-- where a reference to a live object leads
abbrev pub led_to_place : Edition → List ℕ → List ℕ → ℕ → ℕ
led_to_place edition bits stays reference =
    cond (is_immediate edition reference) reference (cond (reference == 0) 0 (from_address (place_by bits stays (reference - 2 ^ 32))))

-- where any word leads: null, if it is not the address of a live object, which `heads` says
abbrev pub kept_at_place : Edition → List ℕ → List ℕ → List ℕ → ℕ → ℕ
kept_at_place edition heads bits stays word =
    cond (is_immediate edition word) word (cond (is_address (bit heads) word) (from_address (place_by bits stays (word - 2 ^ 32))) 0)

-- whether a word is the address of a live object, which `heads` says; an immediate never is
abbrev pub is_pin : Edition → List ℕ → ℕ → Bool
is_pin edition heads word = not (is_immediate edition word) && is_address (bit heads) word
