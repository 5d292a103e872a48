-- The bits of the front of a bit set, and of what it becomes.
use Rattle.std.proofs.Common.{◌≡◌, ℕ, ◌*◌, ◌/◌, ◌%◌, ◌<◌, ◌≤◌, ◌++◌, ◌==◌, List, length, take, ap, ◌∙◌, arith}
use Rattle.std.proofs.lemmas.List.{get_or-take, get_or_append_left}
use Rattle.std.specs.Int.{bit_at}
use Rattle.heap_layout.specs.Bits.{bit}
use Rattle.young_heap.specs.Young.{AreKeptBelow}

-- those of the first n blocks
pub bit-take : (n : ℕ) (bits : List ℕ) (i : ℕ) → i < 64 * n → bit (take n bits) i ≡ bit bits i
bit-take n bits i lt = ap (λ (block : ℕ). bit_at block (i % 64) == 1) (get_or-take n bits (i / 64) 0 (omega (arith, lt)))

pub bit-left : (bits rest : List ℕ) (i : ℕ) → i < 64 * length bits → bit (bits ++ rest) i ≡ bit bits i
bit-left bits rest i lt = ap (λ (block : ℕ). bit_at block (i % 64) == 1) (get_or_append_left bits rest 0 (i / 64) (omega (arith, lt)))

-- what stays of the front stays of the whole
pub kept-front : (old n : ℕ) (bits after : List ℕ) → old ≤ 64 * n → AreKeptBelow old (take n bits) after → AreKeptBelow old bits after
kept-front old n bits after le kept i lt = kept i lt ∙ bit-take n bits i (omega (arith, lt, le))

-- and with the rest behind it
pub kept-left : (old : ℕ) (bits rest : List ℕ) → old ≤ 64 * length bits → AreKeptBelow old bits (bits ++ rest)
kept-left old bits rest le i lt = bit-left bits rest i (omega (arith, lt, le))
