-- The bits of the marked objects, and how many are set before one of them.
use Rattle.std.proofs.Common.{◌≡◌, ◌≢◌, ℕ, zero, suc, ◌+◌, ◌-◌, ◌*◌, ◌/◌, ◌^◌, ◌<◌, ◌≤◌, ◌&&◌, ◌%◌, min, bit_and, count_ones, subst, Bool, true, false, cond, ltb, List, [], ◌∷◌, ◌++◌, length, get_or, take, replicate, refl, sym, ap, ◌∙◌, append_assoc, ⊎_elim, arith, length-append}
use Rattle.std.proofs.lemmas.Bool.{cases_lt, both_ways, eq-eqb, le-ltb}
use Rattle.std.proofs.lemmas.List.{get_or_append_left, get_or_push, length_push, get_or-append_right, length-replicate, take_more, take_all}
use Rattle.std.proofs.lemmas.List.Folds.{list_any_at}
use Rattle.heap_layout.specs.Bits.{bit}
use Rattle.heap_layout.specs.Heap.{Heap, IsClosed}
use Rattle.heap_layout.proofs.Bounds.{words_most}
use Rattle.mark_tables.specs.MarkBitmap.{passing, set_bits, AreOffsets}
use Rattle.mark_tables.specs.LiveWords.{is_live}
use Rattle.mark_tables.proofs.Counting.{passing-block}
use Rattle.mark_tables.proofs.NewPlaces.{counted-below}
use Rattle.mark_tables.proofs.Passing.{passing-below, passing-few, passing-same, passing-gap, passing-has}
use Rattle.mark_tables.proofs.Runs.{zeros-bit}
use Rattle.comp_cycles.proofs.Targets.{marks_rise}

-- ---- one number more passes

module _ (p q : ℕ → Bool) (m n : ℕ) (lt : m < n) (same : (j : ℕ) → j < m → q j ≡ p j) (here : q m ≡ true) (none : (j : ℕ) → m ≤ j → p j ≡ false) (above : (j : ℕ) → m < j → q j ≡ false) where
  pub passing-one : passing q n ≡ passing p n ++ m ∷ []
  passing-one =
      let d = n - suc m in
      let at : n ≡ suc m + d = omega (arith, lt) in
      let e = n - m in
      let at_too : m + e ≡ n = omega (arith, lt) in
      ap (passing q) at
      ∙ passing-gap q (suc m) d (λ j le below. above j (omega (arith, le)))
      ∙ ap (λ (b : Bool). passing q m ++ cond b (m ∷ []) []) here
      ∙ ap (λ (xs : List ℕ). xs ++ m ∷ []) (passing-same p q m same ∙ sym (passing-gap p m e (λ j le below. none j le)) ∙ ap (passing p) at_too)

-- ---- the rank of a number that passes

passing-after : (p : ℕ → Bool) (i d : ℕ) → p i ≡ true → (rest : List ℕ) × (passing p (i + suc d) ≡ passing p i ++ i ∷ rest)
passing-after p i zero here = ([], ap (passing p) (let z : i + suc zero ≡ suc i = omega arith in z) ∙ ap (λ (b : Bool). passing p i ++ cond b (i ∷ []) []) here)
passing-after p i (suc d) here =
    let (rest, is) = passing-after p i d here in
    let last = cond (p (i + suc d)) ((i + suc d) ∷ []) [] in
    (rest ++ last, ap (passing p) (let z : i + suc (suc d) ≡ suc (i + suc d) = omega arith in z) ∙ ap (λ (xs : List ℕ). xs ++ last) is ∙ append_assoc (passing p i) (i ∷ rest) last)

pub record IsRanked (list : List ℕ) (k i : ℕ) : Type 0 where
  pub inside : k < length list
  pub there : get_or list k 0 ≡ i

pub ranked : (p : ℕ → Bool) (i n : ℕ) → i < n → p i ≡ true → IsRanked (passing p n) (length (passing p i)) i
ranked p i n lt here =
    let d = n - suc i in
    let at : n ≡ i + suc d = omega (arith, lt) in
    let (rest, is) = passing-after p i d here in
    let whole : passing p n ≡ passing p i ++ i ∷ rest = ap (passing p) at ∙ is in
    let zero_is : length (passing p i) - length (passing p i) ≡ 0 = omega arith in
    record {
      inside = let long = ap length whole in omega (arith, long, length-append (passing p i) (i ∷ rest));
      there =
          ap (λ (xs : List ℕ). get_or xs (length (passing p i)) 0) whole
          ∙ get_or-append_right (passing p i) (i ∷ rest) (length (passing p i)) (length (passing p i)) 0 refl (omega arith)
          ∙ ap (λ (k : ℕ). get_or (i ∷ rest) k 0) zero_is;
    }

-- a number that does not pass is not among those that pass
pub unranked : (p : ℕ → Bool) (n i k : ℕ) → (ltb i n && p i) ≡ false → k < length (passing p n) → get_or (passing p n) k 0 ≢ i
unranked p n i k none lt e =
    both_ways (is_live (passing p n) i) (passing-has p n i ∙ none) (list_any_at _ (passing p n) k 0 lt (eq-eqb _ _ e))

-- ---- the bits, one mark after the other

-- the bits of the first k marks are set
pub record AreSetTo (heap : Heap) (bits : List ℕ) (k : ℕ) : Type 0 where
  pub long : length bits ≡ (length heap.words + 63) / 64
  pub marks : set_bits bits ≡ take k heap.marks
  pub clear : (j : ℕ) → ((i : ℕ) → i < k → get_or heap.marks i 0 < j) → bit bits j ≡ false

module _ (heap : Heap) where
  pub set-none : (n : ℕ) → n ≡ (length heap.words + 63) / 64 → AreSetTo heap (replicate n 0) 0
  set-none n is =
      let long : length {A = ℕ} (replicate n 0) ≡ n = length-replicate {A = ℕ} n 0 in
      record {
        long = long ∙ is;
        marks =
            let many = 64 * length {A = ℕ} (replicate n 0) in
            ap (passing (bit (replicate n 0))) (let z : many ≡ 0 + many = omega arith in z) ∙ passing-gap (bit (replicate n 0)) 0 many (λ j le lt. zeros-bit n j);
        clear = λ j all. zeros-bit n j;
      }

  module _ (closed : IsClosed heap) (k : ℕ) (lt : k < length heap.marks) where
    pub set-room : (bits : List ℕ) → AreSetTo heap bits k → get_or heap.marks k 0 < 64 * length bits
    set-room bits are = omega (arith, are.long, (closed.placed k 0 lt).within)

    pub set-next : (old new : List ℕ) → AreSetTo heap old k → length new ≡ length old → bit new (get_or heap.marks k 0) ≡ true
        → ((j : ℕ) → j ≢ get_or heap.marks k 0 → bit new j ≡ bit old j) → AreSetTo heap new (k + 1)
    set-next old new are long here others =
        let m = get_or heap.marks k 0 in
        let before : (i : ℕ) → i < k → get_or heap.marks i 0 < m = λ i below. marks_rise heap closed i k below lt in
        let one = passing-one (bit old) (bit new) m (64 * length old) (set-room old are) (λ j below. others j (λ e. omega (arith, below, e))) here
        (λ j le. are.clear j (λ i below. omega (arith, before i below, le)))
        (λ j less. others j (λ e. omega (arith, less, e)) ∙ are.clear j (λ i below. omega (arith, before i below, less))) in
        record {
          long = long ∙ are.long;
          marks = ap (λ (n : ℕ). passing (bit new) (64 * n)) long ∙ one ∙ ap (λ (xs : List ℕ). xs ++ m ∷ []) are.marks ∙ sym (take_more heap.marks k 0 lt);
          clear = λ j all. others j (λ e. let low = all k (omega arith) in omega (arith, low, e)) ∙ are.clear j (λ i below. all i (omega (arith, below)));
        }

  pub set-all : (bits : List ℕ) (k : ℕ) → AreSetTo heap bits k → length heap.marks ≤ k → set_bits bits ≡ heap.marks
  set-all bits k are all = are.marks ∙ take_all k heap.marks all

  pub few-blocks : (bits : List ℕ) (k : ℕ) → IsClosed heap → AreSetTo heap bits k → length bits ≤ 2 ^ 25
  few-blocks bits k closed are = omega (arith, are.long, closed.few_words, words_most heap.edition)

-- ---- the counts, one block after the other

-- the counts before the first b blocks, and that of these
pub record AreCountsTo (bits below : List ℕ) (total b : ℕ) : Type 0 where
  pub long : length below ≡ b
  pub before : (j : ℕ) → j < b → get_or below j 0 ≡ length (passing (bit bits) (64 * j))
  pub all : total ≡ length (passing (bit bits) (64 * b))

module _ (bits : List ℕ) (b : ℕ) (lt : b < length bits) (fits : get_or bits b 0 < 2 ^ 64) where
  -- the count before the next block
  block-count : length (passing (bit bits) (64 * (b + 1))) ≡ length (passing (bit bits) (64 * b)) + count_ones (get_or bits b 0)
  block-count =
      let whole : get_or bits b 0 % 2 ^ 64 ≡ get_or bits b 0 = omega (arith, fits) in
      ap (λ (n : ℕ). length (passing (bit bits) n)) (let z : 64 * (b + 1) ≡ 64 * b + 64 = omega arith in z)
      ∙ passing-block bits b 64 (omega arith) ∙ ap (λ (x : ℕ). length (passing (bit bits) (64 * b)) + count_ones x) whole

  module _ (below : List ℕ) (total : ℕ) (are : AreCountsTo bits below total b) where
    pub counts-few : total + count_ones (get_or bits b 0) ≤ 64 * (b + 1)
    counts-few = omega (arith, are.all, block-count, passing-few (bit bits) (64 * (b + 1)))

    pub counts-next : AreCountsTo bits (below ++ total ∷ []) (total + count_ones (get_or bits b 0)) (b + 1)
    counts-next = record {
      long = length_push below total ∙ ap (λ (n : ℕ). n + 1) are.long;
      before = λ j less. ⊎_elim
          (λ (low : j < b). get_or_append_left below (total ∷ []) 0 j (omega (arith, low, are.long)) ∙ are.before j low)
          (λ (le : b ≤ j).
          let same : j ≡ b = omega (arith, less, le) in
          ap (λ (n : ℕ). get_or (below ++ total ∷ []) n 0) same ∙ get_or_push below total 0 b are.long ∙ are.all ∙ ap (λ (n : ℕ). length (passing (bit bits) (64 * n))) (sym same))
          (cases_lt j b);
      all = ap (λ (n : ℕ). n + count_ones (get_or bits b 0)) are.all ∙ sym block-count;
    }

-- the counts of all blocks, with that of all bits behind them
pub counts-all : (bits below : List ℕ) (total b : ℕ) → length bits ≤ 2 ^ 25 → length bits ≡ b → AreCountsTo bits below total b → AreOffsets bits (below ++ total ∷ [])
counts-all bits below total b few is are = record {
  few = few;
  long = length_push below total ∙ omega (arith, are.long, is);
  before = λ j le. ⊎_elim
      (λ (low : j < b). get_or_append_left below (total ∷ []) 0 j (omega (arith, low, are.long)) ∙ are.before j low)
      (λ (ge : b ≤ j).
      let same : j ≡ b = omega (arith, le, ge, is) in
      ap (λ (n : ℕ). get_or (below ++ total ∷ []) n 0) same ∙ get_or_push below total 0 b are.long ∙ are.all ∙ ap (λ (n : ℕ). length (passing (bit bits) (64 * n))) (sym same))
      (cases_lt j b);
}

-- ---- the number of a marked object, by the bits and the counts

pub number_found : (bits below : List ℕ) → AreOffsets bits below → (i : ℕ) → i < 64 * length bits → bit bits i ≡ true
    → (block offset : ℕ) → block ≡ get_or bits (i / 64) block → offset ≡ get_or below (i / 64) offset
    → IsRanked (set_bits bits) (offset + count_ones (bit_and block (1 * 2 ^ (i % 64) % 18446744073709551616 - 1))) i
number_found bits below are i within here block offset read_block read_offset =
    let least : min i (64 * length bits) ≡ i = omega (arith, within) in
    let counted = counted-below bits below are i within block offset read_block read_offset ∙ passing-below (bit bits) (64 * length bits) i ∙ ap (λ (n : ℕ). length (passing (bit bits) n)) least in
    subst (λ (k : ℕ). IsRanked (set_bits bits) k i) (sym counted) (ranked (bit bits) i (64 * length bits) within here)

-- the number is small
pub number_small : (bits : List ℕ) (k i : ℕ) → IsRanked (set_bits bits) k i → k < 64 * length bits
number_small bits k i is = omega (arith, is.inside, passing-few (bit bits) (64 * length bits))

-- an index past the bits, or whose bit is not set
pub out_of_range : (p : ℕ → Bool) (n i : ℕ) → n ≤ i → (ltb i n && p i) ≡ false
out_of_range p n i le = ap (λ (b : Bool). b && p i) (le-ltb i n le)

pub not_set : (p : ℕ → Bool) (n i : ℕ) → p i ≡ false → (ltb i n && p i) ≡ false
not_set p n i none = ap (λ (b : Bool). ltb i n && b) none ∙ elim (ltb i n) as (λ b. (b && false) ≡ false) [ true ↦ refl | false ↦ refl ]

-- the number that the index answers, in the list of the marks
pub number_there : (bits below list : List ℕ) → set_bits bits ≡ list → AreOffsets bits below → (i : ℕ) → i < 64 * length bits → bit bits i ≡ true
    → (block offset : ℕ) → block ≡ get_or bits (i / 64) block → offset ≡ get_or below (i / 64) offset
    → IsRanked list (offset + count_ones (bit_and block (1 * 2 ^ (i % 64) % 18446744073709551616 - 1))) i
number_there bits below list same are i within here block offset read_block read_offset =
    subst (λ (xs : List ℕ). IsRanked xs (offset + count_ones (bit_and block (1 * 2 ^ (i % 64) % 18446744073709551616 - 1))) i) same (number_found bits below are i within here block offset read_block read_offset)

-- no mark is at such an index
pub none_there : (bits list : List ℕ) → set_bits bits ≡ list → (i : ℕ) → (ltb i (64 * length bits) && bit bits i) ≡ false → (k : ℕ) → k < length list → get_or list k 0 ≢ i
none_there bits list same i none = subst (λ (xs : List ℕ). (k : ℕ) → k < length xs → get_or xs k 0 ≢ i) same (λ k. unranked (bit bits) (64 * length bits) i k none)
