-- The indices of the bits that are set.
use Rattle.std.proofs.Common.{◌≡◌, ℕ, zero, suc, ◌+◌, ◌*◌, ◌/◌, ◌%◌, ◌<◌, ◌≤◌, ◌==◌, Bool, true, false, not, cond, eqb, List, [], ◌∷◌, ◌++◌, inl, inr, length, get_or, filter, Contains, append-nil, sym, ap, subst, ◌∙◌, arith}
use Rattle.std.specs.Int.{bit_at}
use Rattle.std.specs.List.{range_with_len}
use Rattle.std.specs.List.Sorted.{IsStrictlyIncreasing}
use Rattle.std.proofs.lemmas.Bool.{eqb-true, and_from, and_parts, cases_lt, both_ways}
use Rattle.std.proofs.lemmas.List.{get_or_past}
use Rattle.std.proofs.lemmas.List.Elements.{filter-append, filter_passes, All-contains}
use Rattle.std.proofs.lemmas.List.FromFn.{length-range_with_len, get_or-range_with_len}
use Rattle.std.proofs.lemmas.List.Kept.{IsStrictlyIncreasing-filter}
use Rattle.std.proofs.lemmas.Map.Views.{any-filter_same, Contains-from_any}
use Rattle.std.proofs.lemmas.Nat.Bits.{bit_at-zero}
use Rattle.heap_layout.specs.declared.edition.Edition.{Edition}
use Rattle.heap_layout.specs.Bits.{bit}
use Rattle.reachability.specs.Queue.{has, is_met, met_below}
use Rattle.reachability.specs.Reachable.{AreReachable, IsReachable}
use Rattle.reachability.proofs.Starts.{starts-within}
use Rattle.reachability.proofs.Queues.{has-at}
use Rattle.reachability.proofs.Marking.{reachable-start, queue-exists}

-- a range with one number more
range-next : (a n : ℕ) → range_with_len a (suc n) ≡ range_with_len a n ++ (a + n) ∷ []
range-next a zero =
    let same : a ≡ a + 0 = omega arith in
    ap (λ (x : ℕ). x ∷ []) same
range-next a (suc n) =
    let same : a + 1 + n ≡ a + suc n = omega arith in
    ap (λ (xs : List ℕ). a ∷ xs) (range-next (a + 1) n ∙ ap (λ (x : ℕ). range_with_len (a + 1) n ++ x ∷ []) same)

-- one index more that passes the test
pub indices-more : (test : ℕ → Bool) (n : ℕ) → test n ≡ true → filter test (range_with_len 0 (n + 1)) ≡ filter test (range_with_len 0 n) ++ n ∷ []
indices-more test n passes =
    let one : n + 1 ≡ suc n = omega arith in
    let here : 0 + n ≡ n = omega arith in
    ap (λ (m : ℕ). filter test (range_with_len 0 m)) one ∙ ap (filter test) (range-next 0 n) ∙ filter-append test (range_with_len 0 n) ((0 + n) ∷ [])
    ∙ ap (λ (m : ℕ). filter test (range_with_len 0 n) ++ filter test (m ∷ [])) here
    ∙ ap (λ (b : Bool). filter test (range_with_len 0 n) ++ cond b (n ∷ []) []) passes

-- one index more that fails it
pub indices-same : (test : ℕ → Bool) (n : ℕ) → test n ≡ false → filter test (range_with_len 0 (n + 1)) ≡ filter test (range_with_len 0 n)
indices-same test n fails =
    let one : n + 1 ≡ suc n = omega arith in
    let here : 0 + n ≡ n = omega arith in
    ap (λ (m : ℕ). filter test (range_with_len 0 m)) one ∙ ap (filter test) (range-next 0 n) ∙ filter-append test (range_with_len 0 n) ((0 + n) ∷ [])
    ∙ ap (λ (m : ℕ). filter test (range_with_len 0 n) ++ filter test (m ∷ [])) here
    ∙ ap (λ (b : Bool). filter test (range_with_len 0 n) ++ cond b (n ∷ []) []) fails ∙ append-nil (filter test (range_with_len 0 n))

-- indices that all fail it change nothing
pub indices-gap : (test : ℕ → Bool) (n k : ℕ) → ((j : ℕ) → j < k → test (n + j) ≡ false) → filter test (range_with_len 0 (n + k)) ≡ filter test (range_with_len 0 n)
indices-gap test n zero fail =
    let none : n + 0 ≡ n = omega arith in
    ap (λ (m : ℕ). filter test (range_with_len 0 m)) none
indices-gap test n (suc k) fail =
    let last : n + suc k ≡ n + k + 1 = omega arith in
    ap (λ (m : ℕ). filter test (range_with_len 0 m)) last ∙ indices-same test (n + k) (fail k (omega arith))
    ∙ indices-gap test n k (λ j below. fail j (omega arith))

-- a range rises
range-rises : (n : ℕ) → IsStrictlyIncreasing (range_with_len 0 n)
range-rises n k within =
    let inside : k + 1 < n = omega (arith, length-range_with_len 0 n) in
    omega (arith, get_or-range_with_len 0 n k 0 (omega arith), get_or-range_with_len 0 n (k + 1) 0 inside)

-- no bit is set after the blocks
pub bit-past : (bits : List ℕ) (j : ℕ) → 64 * length bits ≤ j → bit bits j ≡ false
bit-past bits j past =
    ap (λ (n : ℕ). bit_at n (j % 64) == 1) (get_or_past bits (j / 64) 0 (omega (arith, past))) ∙ ap (λ (n : ℕ). n == 1) (bit_at-zero (j % 64))

-- an index that passes the test is in the list
pub index-there : (test : ℕ → Bool) (n i : ℕ) → i < n → test i ≡ true → Contains (filter test (range_with_len 0 n)) i
index-there test n i inside passes =
    let long : i < length (range_with_len 0 n) = omega (arith, length-range_with_len 0 n) in
    let at : get_or (range_with_len 0 n) i 0 ≡ i = get_or-range_with_len 0 n i 0 inside ∙ omega arith in
    let there : has (range_with_len 0 n) i ≡ true = subst (λ (j : ℕ). has (range_with_len 0 n) j ≡ true) at (has-at (range_with_len 0 n) i long) in
    let kept = any-filter_same (eqb i) test (test i) (λ k same. ap test (sym (eqb-true i k same))) (range_with_len 0 n) in
    Contains-from_any (λ x y q. eqb-true x y q) i (filter test (range_with_len 0 n)) (kept ∙ and_from (test i) _ passes there)

-- if the objects that the roots reach pass a test, and no other index does, the indices that pass are the marks
pub tested-reachable : (edition : Edition) (words roots : List ℕ) (test : ℕ → Bool) (n : ℕ) → ((i : ℕ) → test i ≡ true → i < n)
    → ((i : ℕ) → test i ≡ true → IsReachable edition words roots i) → ((i : ℕ) → IsReachable edition words roots i → test i ≡ true)
    → AreReachable edition words roots (filter test (range_with_len 0 n))
tested-reachable edition words roots test n inside reached all =
    let row = range_with_len 0 n in
    record {
      rising = IsStrictlyIncreasing-filter test row (range-rises n);
      reachable = λ i there. reached i (All-contains (λ (x : ℕ). test x ≡ true) (filter test row) i (filter_passes test row) there);
      all = λ i reaches. index-there test n i (inside i (all i reaches)) (all i reaches);
    }

-- if the objects that were met are those that the roots reach, their indices are the marks
pub indices-reachable : (edition : Edition) (words roots row unmet marks : List ℕ) → marks ≡ met_below row unmet (64 * length row)
    → ((i : ℕ) → is_met row unmet i ≡ true → IsReachable edition words roots i) → ((i : ℕ) → IsReachable edition words roots i → is_met row unmet i ≡ true)
    → AreReachable edition words roots marks
indices-reachable edition words roots row unmet marks are reached all =
    let n = 64 * length row in
    let inside : (i : ℕ) → is_met row unmet i ≡ true → i < n =
    λ i is. elim (cases_lt i n) [ inl lt ↦ lt | inr past ↦ absurd (both_ways _ (bit-past row i past) (and_parts (bit row i) (not (bit unmet i)) is).0) ] in
    rw are (tested-reachable edition words roots (is_met row unmet) n inside reached all)

-- there are such marks
pub marks-exist : (edition : Edition) (words roots : List ℕ) → (marks : List ℕ) × AreReachable edition words roots marks
marks-exist edition words roots =
    let found = queue-exists edition words roots in
    let test = has found.0 in
    let inside : (i : ℕ) → test i ≡ true → i < length words = λ i passes.
    (let within = starts-within edition 0 0 words i (reachable-start edition words roots i (found.1.reachable i passes)) in omega arith) in
    (filter test (range_with_len 0 (length words)), tested-reachable edition words roots test (length words) inside found.1.reachable found.1.all)
