-- How many objects start up to a slid word, and so which object has the word: by the object-start bits.
use Rattle.std.proofs.Common.{◌≡◌, ℕ, zero, suc, ◌+◌, ◌-◌, ◌*◌, ◌/◌, ◌%◌, ◌^◌, ◌<◌, ◌≤◌, Bool, true, false, cond, Option, Some, None, List, [], ◌∷◌, ◌++◌, length, get_or, take, count_ones, refl, sym, ap, subst, ◌∙◌, inl, inr, ⊎_elim, arith, length-append}
use Rattle.std.proofs.lemmas.Bool.{cases_Bool, cases_lt, cases_order, false≢true}
use Rattle.std.specs.Option.{is_some}
use Rattle.std.proofs.lemmas.List.{get_or_append_left, get_or-append_right}
use Rattle.std.proofs.lemmas.List.Sums.{sum_by-take-le}
use Rattle.std.proofs.lemmas.Nat.{ones_le_self}
use Rattle.heap_layout.specs.Bits.{bit}
use Rattle.heap_layout.specs.Header.{Head}
use Rattle.heap_layout.specs.Heap.{Object}
use Rattle.mark_tables.specs.MarkBitmap.{passing}
use Rattle.mark_tables.proofs.Counting.{passing-block, ones-halves}
use Rattle.mark_tables.proofs.Passing.{passing-gap, passing-few}
use Rattle.page_plan.specs.Planned.{AreFirst, AreStarts, Covers}
use Rattle.page_plan.specs.Sliding.{live_words, size, shape_at}
use Rattle.page_plan.proofs.Covering.{live_words-cons}
use Rattle.page_plan.proofs.References.{address-is, address-only}

-- more objects have no fewer words
words-rise : (objects : List Object) (j k : ℕ) → j ≤ k → live_words (take j objects) ≤ live_words (take k objects)
words-rise objects zero k le = omega arith
words-rise objects (suc j) zero le = absurd (omega (arith, le))
words-rise [] (suc j) (suc k) le = omega arith
words-rise (object ∷ objects) (suc j) (suc k) le =
    omega (arith, live_words-cons object (take j objects), live_words-cons object (take k objects), words-rise objects j k (omega (arith, le)))

-- each object has a word
own-words : (objects : List Object) (k : ℕ) → k < length objects → live_words (take k objects) < live_words (take (k + 1) objects)
own-words [] k lt = absurd (omega (arith, lt))
own-words (object ∷ objects) zero lt = omega (arith, live_words-cons object [])
own-words (object ∷ objects) (suc k) lt =
    let one : suc k + 1 ≡ suc (k + 1) = omega arith in
    rw one (omega (arith, live_words-cons object (take k objects), live_words-cons object (take (k + 1) objects), own-words objects k (omega (arith, lt))))

-- an object starts among the live words
pub start-within : (objects : List Object) (k : ℕ) → k < length objects → live_words (take k objects) < live_words objects
start-within objects k lt = omega (arith, own-words objects k lt, sum_by-take-le size objects (k + 1))

-- an object has its own first word
pub start-covers : (objects : List Object) (k : ℕ) → k < length objects → Covers objects (live_words (take k objects)) k
start-covers objects k lt = record { known = lt; begun = omega arith; ends = own-words objects k lt }

-- each live word belongs to an object
pub covered : (objects : List Object) (n : ℕ) → n < live_words objects → (k : ℕ) × Covers objects n k
covered [] n lt = absurd (omega (arith, lt))
covered (object ∷ objects) n lt =
    let all = live_words-cons object objects in
    ⊎_elim
    (λ (here : n < size object). (0, record { known = omega arith; begun = omega arith; ends = omega (arith, here, live_words-cons object []) }))
    (λ (le : size object ≤ n).
    let (k, others) = covered objects (n - size object) (omega (arith, all, lt, le)) in
    let one : suc k + 1 ≡ suc (k + 1) = omega arith in (
      suc k,
      record {
        known = omega (arith, others.known);
        begun = omega (arith, others.begun, live_words-cons object (take k objects), le);
        ends = rw one (omega (arith, others.ends, live_words-cons object (take (k + 1) objects), le));
      },
    ))
    (cases_lt n (size object))

-- each live word belongs to one object only
pub one-covers : (objects : List Object) (n j k : ℕ) → Covers objects n j → Covers objects n k → j ≡ k
one-covers objects n j k a b =
    elim (cases_order j k) [
      | inl same ↦ same
      | inr (inl lt) ↦ absurd (omega (arith, a.ends, b.begun, words-rise objects (j + 1) k (omega (arith, lt))))
      | inr (inr gt) ↦ absurd (omega (arith, b.ends, a.begun, words-rise objects (k + 1) j (omega (arith, gt))))
    ]

-- one number more that passes a test
passed : (p : ℕ → Bool) (n : ℕ) → p n ≡ true → length (passing p (suc n)) ≡ length (passing p n) + 1
passed p n holds = ap (λ (b : Bool). length (passing p n ++ cond b (n ∷ []) [])) holds ∙ length-append (passing p n) (n ∷ [])

-- how many objects start up to the first word of a page
pub until-first : (bits : List ℕ) (p : ℕ) → length (passing (bit bits) (64 * p + 1)) ≡ length (passing (bit bits) (64 * p)) + get_or bits p 0 % 2
until-first bits p =
    let block = get_or bits p 0 in
    let none : block / 2 % 2 ^ 0 ≡ 0 = omega arith in
    let no_bits : count_ones 0 ≡ 0 = omega (arith, ones_le_self 0) in
    omega (arith, passing-block bits p 1 (omega arith), ones-halves block 0, no_bits, ap count_ones none)

module _ (objects : List Object) (bits : List ℕ) (are : AreStarts objects bits) where
  -- no object starts at the other words of an object
  no-start : (n k j : ℕ) → Covers objects n k → live_words (take k objects) < j → j ≤ n → bit bits j ≡ false
  no-start n k j covers above le =
      elim (cases_Bool (bit bits j)) [
        | inl holds ↦
            let s = are.only j holds in
            elim (cases_lt k s.0) [
              | inl lt ↦ absurd (omega (arith, words-rise objects (k + 1) s.0 (omega (arith, lt)), s.2, covers.ends, le))
              | inr more ↦ absurd (omega (arith, words-rise objects s.0 k more, s.2, above))
            ]
        | inr fails ↦ fails
      ]

  -- the number of objects that start up to a word is 1 more than the number of its object, if that holds for the
  -- objects before
  started-from : (n k : ℕ) → Covers objects n k → length (passing (bit bits) (live_words (take k objects))) ≡ k → length (passing (bit bits) (suc n)) ≡ suc k
  started-from n k covers before =
      let start = live_words (take k objects) in
      let behind : suc start + (n - start) ≡ suc n = omega (arith, covers.begun) in
      ap (λ (m : ℕ). length (passing (bit bits) m)) (sym behind)
      ∙ ap length (passing-gap (bit bits) (suc start) (n - start) (λ j low high. no-start n k j covers (omega (arith, low)) (omega (arith, high, covers.begun))))
      ∙ passed (bit bits) start (are.there k covers.known)
      ∙ omega (arith, before)

  started : (n k : ℕ) → Covers objects n k → length (passing (bit bits) (suc n)) ≡ suc k
  started n zero covers = started-from n zero covers refl
  started n (suc k) covers =
      let start = live_words (take (suc k) objects) in
      let one : k + 1 ≡ suc k = omega arith in
      let own : live_words (take k objects) < start = rw one at (own-words objects k (omega (arith, covers.known))) in
      let ends : start - 1 < live_words (take (k + 1) objects) = rw one (omega (arith, own)) in
      let last = started (start - 1) k (record { known = omega (arith, covers.known); begun = omega (arith, own); ends = ends }) in
      let e : suc (start - 1) ≡ start = omega (arith, own) in
      started-from n (suc k) covers (ap (λ (m : ℕ). length (passing (bit bits) m)) (sym e) ∙ last)

  -- the object of a word: the object of the first word of its page, and one more for each start after that word
  pub number-found : (n f k : ℕ) → Covers objects (64 * (n / 64)) f → Covers objects n k → f + count_ones (get_or bits (n / 64) 0 / 2 % 2 ^ (n % 64)) ≡ k
  number-found n f k first covers =
      let p = n / 64 in
      let o = n % 64 in
      let block = get_or bits p 0 in
      let begin : 64 * p + 1 ≡ suc (64 * p) = omega arith in
      let there : 64 * p + suc o ≡ suc n = omega arith in
      let of_first : length (passing (bit bits) (64 * p + 1)) ≡ suc f = rw begin (started (64 * p) f first) in
      let of_new_index : length (passing (bit bits) (64 * p + suc o)) ≡ suc k = rw there (started n k covers) in
      omega (
        arith,
        of_first,
        of_new_index,
        until-first bits p,
        passing-block bits p (suc o) (omega arith),
        ones-halves block o,
      )

-- the numbers of the objects that have the first words of the first p pages; `before` objects start before page p
pub record AreFirstTo (bits : List ℕ) (p before : ℕ) (firsts : List ℕ) : Type 0 where
  pub long : length firsts ≡ p
  pub count : before ≡ length (passing (bit bits) (64 * p))
  pub each : (q : ℕ) → q < p → get_or firsts q 0 ≡ length (passing (bit bits) (64 * q + 1)) - 1

-- before the first page
pub firsts-none : (bits : List ℕ) → AreFirstTo bits 0 0 []
firsts-none bits = record { long = refl; count = refl; each = λ q lt. absurd (omega (arith, lt)) }

-- they are few
pub before-few : (bits : List ℕ) (p : ℕ) → length (passing (bit bits) (64 * p)) ≤ 64 * p
before-few bits p = passing-few (bit bits) (64 * p)

-- one page more
pub firsts-next : (bits firsts : List ℕ) (p before block first : ℕ) → AreFirstTo bits p before firsts → block < 2 ^ 64 → block ≡ get_or bits p 0
    → first ≡ before + block % 2 - 1 → AreFirstTo bits (p + 1) (before + count_ones block) (firsts ++ first ∷ [])
firsts-next bits firsts p before block first are small here told =
    let whole : get_or bits p 0 % 2 ^ 64 ≡ block = omega (arith, small, here) in
    let next : 64 * (p + 1) ≡ 64 * p + 64 = omega arith in
    let low : get_or bits p 0 % 2 ≡ block % 2 = ap (λ (n : ℕ). n % 2) (sym here) in
    record {
      long = omega (arith, length-append firsts (first ∷ []), are.long);
      count = omega (arith, are.count, passing-block bits p 64 (omega arith), ap count_ones whole) ∙ ap (λ (n : ℕ). length (passing (bit bits) n)) (sym next);
      each = λ q lt. elim (cases_lt q p) [
        | inl old ↦ get_or_append_left firsts (first ∷ []) 0 q (omega (arith, old, are.long)) ∙ are.each q old
        | inr last ↦
            let same : q ≡ p = omega (arith, lt, last) in
            let there : get_or (firsts ++ first ∷ []) p 0 ≡ first = get_or-append_right firsts (first ∷ []) p p 0 are.long (omega arith) ∙ ap (λ (n : ℕ). get_or (first ∷ []) n 0) (let e : p - p ≡ 0 = omega arith in e) in
            ap (λ (n : ℕ). get_or (firsts ++ first ∷ []) n 0) same ∙ there
            ∙ omega (arith, told, are.count, until-first bits p, low)
            ∙ ap (λ (n : ℕ). length (passing (bit bits) (64 * n + 1)) - 1) (sym same)
      ];
    }

-- all pages
pub firsts-all : (bits firsts : List ℕ) (p before : ℕ) → length bits ≤ p → AreFirstTo bits p before firsts → p ≤ length bits
    → (objects : List Object) → AreStarts objects bits → AreFirst objects firsts
firsts-all bits firsts p before all are within objects starts = record {
  long = omega (arith, are.long, starts.long, all, within);
  each = λ q lt.
      let (k, covers) = covered objects (64 * q) (omega (arith, lt, are.long, all, within, starts.long)) in
      let begin : 64 * q + 1 ≡ suc (64 * q) = omega arith in
      let up_to : length (passing (bit bits) (64 * q + 1)) ≡ suc k = rw begin (started objects bits starts (64 * q) k covers) in
      let number : get_or firsts q 0 ≡ k = omega (arith, are.each q (omega (arith, lt, are.long)), up_to) in
      subst (λ (n : ℕ). Covers objects (64 * q) n) (sym number) covers;
}

-- if is_some holds, there is a value
value_of : (found : Option Head) → is_some found ≡ true → (header : Head) × (found ≡ Some header)
value_of None some = absurd (false≢true some)
value_of (Some header) some = (header, refl)

-- the start bit of a word says whether an object starts there
pub start-told : (objects : List Object) (bits : List ℕ) → AreStarts objects bits → (new_index address : ℕ) → address ≡ 2 ^ 33 + new_index → bit bits new_index ≡ is_some (shape_at objects address)
start-told objects bits are new_index address at =
    elim (shape_at objects address) as (λ found. shape_at objects address ≡ found → bit bits new_index ≡ is_some found) [
      | None ↦ λ none. elim (cases_Bool (bit bits new_index)) [
        | inl holds ↦
            let s = are.only new_index holds in
            let there = address-is objects s.0 s.1 in
            let e : address ≡ 2 ^ 33 + live_words (take s.0 objects) = omega (arith, at, s.2) in
            let told : None ≡ Some there.0 = sym none ∙ ap (shape_at objects) e ∙ there.1 in
            absurd (cc)
        | inr fails ↦ fails
      ]
      | Some header ↦ λ is.
          let only = address-only objects address (header, is) in
          let e : new_index ≡ live_words (take only.0 objects) = omega (arith, at, only.2) in
          ap (bit bits) e ∙ are.there only.0 only.1
    ] refl

-- if an object starts at an address, the address is that of a live word
pub start-live : (objects : List Object) (address : ℕ) → is_some (shape_at objects address) ≡ true → (2 ^ 33 ≤ address) × (address - 2 ^ 33 < live_words objects)
start-live objects address some =
    let is = value_of (shape_at objects address) some in
    let only = address-only objects address is in
    (omega (arith, only.2), omega (arith, only.2, start-within objects only.0 only.1))

-- if an object starts at an address, it is the object that has the word there
pub start-at : (objects : List Object) (address number : ℕ) → is_some (shape_at objects address) ≡ true → Covers objects (address - 2 ^ 33) number
    → address ≡ 2 ^ 33 + live_words (take number objects)
start-at objects address number some covers =
    let only = address-only objects address (value_of (shape_at objects address) some) in
    let first : live_words (take only.0 objects) ≡ address - 2 ^ 33 = omega (arith, only.2) in
    let own : Covers objects (address - 2 ^ 33) only.0 = subst (λ (n : ℕ). Covers objects n only.0) first (start-covers objects only.0 only.1) in
    let same = one-covers objects (address - 2 ^ 33) only.0 number own covers in
    omega (arith, only.2, ap (λ (n : ℕ). live_words (take n objects)) same)
