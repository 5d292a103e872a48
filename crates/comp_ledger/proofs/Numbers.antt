-- The numbers of shares.
use Rattle.std.proofs.Common.{◌≡◌, ℕ, zero, suc, ◌+◌, ◌-◌, ◌<◌, ◌≤◌, List, [], ◌∷◌, ◌++◌, length, sum, take, get_or, Contains, ap, ◌∙◌, ⊎_elim, arith}
use Rattle.std.proofs.lemmas.Bool.{cases_lt}
use Rattle.std.proofs.lemmas.List.{length-map, map-append}
use Rattle.std.proofs.lemmas.List.Sums.{sum_by_more, sum_by_more_le}
use Rattle.std.specs.List.{range_with_len}
use Rattle.heap_layout.specs.Numbered.{HasNumber}
use Rattle.heap_layout.proofs.Indexed.{at_below, at_map, read_at}
use Rattle.comp_ledger.specs.Shares.{number_of, numbers_of, posted_of, total_posted, NoneMissing}
use Rattle.comp_ledger.specs.declared.share.Share.{Share}
use Rattle.comp_ledger.proofs.Counting.{enough}

module _ {L : Type 0} where
  pub numbers_of-push : (xs : List (Share L)) (x : Share L) → numbers_of (xs ++ x ∷ []) ≡ numbers_of xs ++ number_of x ∷ []
  numbers_of-push xs x = map-append number_of xs (x ∷ [])

  -- the number of a share of the list
  has_number : (xs : List (Share L)) (n : ℕ) → HasNumber number_of xs n → Contains (numbers_of xs) n
  has_number xs n h =
      let at = at_map number_of xs h.1.0 h.0 h.1.1 in
      (h.1.0, at_below (numbers_of xs) h.1.0 _ at, read_at (numbers_of xs) h.1.0 _ n at ∙ h.2)

  -- if none of n shares is missing, the list has at least n shares
  pub as_many : (n : ℕ) (xs : List (Share L)) → NoneMissing n xs → n ≤ length xs
  as_many n xs all = let long = length-map xs number_of in let many = enough n (numbers_of xs) (λ k lt. has_number xs k (all k lt)) in omega (arith, long, many)

  -- if no share is missing, the merged parts are exactly `whole`
  pub all_parts : (parts whole : ℕ) (xs : List (Share L)) → NoneMissing whole xs → 1 ≤ whole → parts ≡ length xs → (1 < parts → parts ≤ whole) → parts ≡ whole
  all_parts parts whole xs all some are few =
      let many = as_many whole xs all in
      ⊎_elim
      (λ (lt : 1 < parts). let z = few lt in let r : parts ≡ whole = omega (arith, z, many, are) in r)
      (λ (le : parts ≤ 1). let r : parts ≡ whole = omega (arith, le, many, some, are) in r)
      (cases_lt 1 parts)

module _ {L : Type 0} (room left : ℕ) (xs : List (Share L)) (i : ℕ) (share : Share L) (inside : i < length xs) (is : share ≡ get_or xs i share) (so_far : left + total_posted (take i xs) ≡ room) where
  -- if more words were posted with a share than are left, all words posted exceed the room, whatever is added
  pub past_room : (more : ℕ) → left < posted_of share → room < total_posted xs + more
  past_room more over =
      let all = sum_by_more_le (λ (s : Share L). posted_of s) xs i share inside in
      let same = ap (λ (s : Share L). posted_of s) is in
      omega (arith, all, same, so_far, over)

  -- what is left after a share, and the words posted up to it, add up to the room
  pub left_behind : posted_of share ≤ left → (left - posted_of share) + total_posted (take (i + 1) xs) ≡ room
  left_behind fits =
      let next = sum_by_more (λ (s : Share L). posted_of s) xs i share inside in
      let same = ap (λ (s : Share L). posted_of s) is in
      omega (arith, next, same, so_far, fits)

-- if the next of the last words does not fit what is left, all words exceed the room
pub past_left : (room left posted so_far : ℕ) (last : List ℕ) (i : ℕ) → i < length last → left + posted ≡ room → so_far ≡ sum (take i last) → left - so_far < get_or last i 0
    → room < posted + sum last
past_left room left posted so_far last i inside whole is over = let all = sum_by_more_le (λ (n : ℕ). n) last i 0 inside in omega (arith, all, whole, is, over)

-- the sum of the first i + 1 last words
pub sum_next : (so_far : ℕ) (last : List ℕ) (i : ℕ) → i < length last → so_far ≡ sum (take i last) → so_far + get_or last i 0 ≡ sum (take (i + 1) last)
sum_next so_far last i inside is = let next = sum_by_more (λ (n : ℕ). n) last i 0 inside in omega (arith, next, is)

range_with_len-push : (a n : ℕ) → range_with_len a (n + 1) ≡ range_with_len a n ++ (a + n) ∷ []
range_with_len-push a zero = ap (λ (k : ℕ). k ∷ []) (let z : a ≡ a + 0 = omega arith in z)
range_with_len-push a (suc n) =
    let one : suc n + 1 ≡ suc (n + 1) = omega arith in
    ap (range_with_len a) one ∙ ap (λ (l : List ℕ). a ∷ l) (range_with_len-push (a + 1) n ∙ ap (λ (k : ℕ). range_with_len (a + 1) n ++ k ∷ []) (let z : a + 1 + n ≡ a + suc n = omega arith in z))

-- the numbers below n + 1 are those below n, and then n
pub below-push : (n : ℕ) → range_with_len 0 (n + 1) ≡ range_with_len 0 n ++ n ∷ []
below-push n = range_with_len-push 0 n ∙ ap (λ (k : ℕ). range_with_len 0 n ++ k ∷ []) (let z : 0 + n ≡ n = omega arith in z)
