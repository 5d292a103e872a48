-- Where a word goes, by the masks of its block.
use Rattle.std.proofs.Common.{◌≡◌, ℕ, suc, ◌+◌, ◌-◌, ◌*◌, ◌/◌, ◌%◌, ◌^◌, ◌<◌, w64, List, get_or, bit_and, count_ones, sym, ap, ◌∙◌, arith}
use Rattle.std.specs.Int.{leading_zeros}
use Rattle.std.proofs.lemmas.Nat.{and_mask, one_shl}
use Rattle.std.proofs.lemmas.Nat.Bits.{ones_shr}
use Rattle.heap_layout.specs.Bits.{bit}
use Rattle.pinned_heap.specs.Tables.{end_below, place_by}
use Rattle.pinned_heap.proofs.Ends.{place-plain, place-stay}

-- the bits below bit k
low-mask : (n k : ℕ) → k < 64 → bit_and n (1 * 2 ^ k % 18446744073709551616 - 1) ≡ n % 2 ^ k
low-mask n k lt = ap (λ (m : ℕ). bit_and n (m - 1)) (one_shl k 64 lt) ∙ and_mask n k

-- and bit k too
upto-mask : (n k : ℕ) → k < 64 → bit_and n (18446744073709551615 / 2 ^ (63 - k)) ≡ n % 2 ^ suc k
upto-mask n k lt =
    let more : 64 - (63 - k) ≡ suc k = omega (arith, lt) in
    let mask : 18446744073709551615 / 2 ^ (63 - k) ≡ 2 ^ suc k - 1 = ones_shr 64 (63 - k) (omega arith) ∙ ap (λ (m : ℕ). 2 ^ m - 1) more in
    ap (bit_and n) mask ∙ and_mask n (suc k)

module _ (bits stays : List ℕ) (i : ℕ) where
  abbrev low : ℕ
  low = bit_and (get_or bits (i / 64) 0) (1 * 2 ^ (i % 64) % 18446744073709551616 - 1)

  abbrev upto : ℕ
  upto = bit_and (get_or stays (i / 64) 0) (18446744073709551615 / 2 ^ (63 - i % 64))

  split : i ≡ 64 * (i / 64) + i % 64
  split = omega arith

  low-is : low ≡ get_or bits (i / 64) 0 % 2 ^ (i % 64)
  low-is = low-mask (get_or bits (i / 64) 0) (i % 64) (omega arith)

  upto-is : upto ≡ get_or stays (i / 64) 0 % 2 ^ suc (i % 64)
  upto-is = upto-mask (get_or stays (i / 64) 0) (i % 64) (omega arith)

  -- if nothing stays up to the word in its block
  pub masked-plain : upto ≡ 0 → place_by bits stays i ≡ end_below (bit bits) (bit stays) (64 * (i / 64)) + count_ones low
  masked-plain empty =
      ap (place_by bits stays) split ∙ place-plain bits stays (i / 64) (i % 64) (omega arith) (sym upto-is ∙ empty)
      ∙ ap (λ (n : ℕ). end_below (bit bits) (bit stays) (64 * (i / 64)) + count_ones n) (sym low-is)

  -- if something does
  pub masked-stay : 0 < upto → upto < 2 ^ 64 → place_by bits stays i ≡ 64 * (i / 64) + (63 - leading_zeros w64 upto) + count_ones (low / 2 ^ (63 - leading_zeros w64 upto))
  masked-stay some small =
      let place = place-stay bits stays (i / 64) (i % 64) (omega arith) (omega (arith, some, upto-is)) (omega (arith, small, upto-is)) in
      ap (place_by bits stays) split ∙ place
      ∙ ap (λ (n : ℕ). 64 * (i / 64) + (63 - leading_zeros w64 n) + count_ones (get_or bits (i / 64) 0 % 2 ^ (i % 64) / 2 ^ (63 - leading_zeros w64 n))) (sym upto-is)
      ∙ ap (λ (n : ℕ). 64 * (i / 64) + (63 - leading_zeros w64 upto) + count_ones (n / 2 ^ (63 - leading_zeros w64 upto))) (sym low-is)
