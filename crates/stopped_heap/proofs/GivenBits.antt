-- Bits that the caller set are those of the live words of some heap.
use Rattle.std.proofs.Common.{◌≡◌, ℕ, zero, suc, ◌+◌, ◌-◌, ◌*◌, ◌/◌, ◌^◌, ◌<◌, ◌≤◌, ◌==◌, Bool, true, false, cond, List, [], length, get_or, drop, map, inl, inr, refl, sym, ap, subst, ◌∙◌, arith, length-take}
use Rattle.std.specs.Prelude.{if◌then◌else◌}
use Rattle.std.specs.List.{range_with_len}
use Rattle.std.proofs.lemmas.Bool.{cases_Bool, cases_lt, both_ways}
use Rattle.std.proofs.lemmas.List.{length-map}
use Rattle.std.proofs.lemmas.List.FromFn.{length-range_with_len, get_or-map-range_with_len}
use Rattle.heap_layout.specs.declared.edition.Edition.{Edition}
use Rattle.heap_layout.specs.declared.edition.Edition.TheVariants.{One, Two, Three, Four}
use Rattle.heap_layout.specs.declared.header.Form.TheVariants.{Mixed, ManyReferences, ManyData, ManyWeak}
use Rattle.heap_layout.specs.Bits.{bit}
use Rattle.heap_layout.specs.Header.{header_of, refs_in, data_in, weak_in, refs_of, weak_of, size_of}
use Rattle.heap_layout.specs.Heap.{Heap, header_at}
use Rattle.heap_layout.specs.Limits.{most_words, most_roots, most_object_words}
use Rattle.mark_tables.specs.MarkBitmap.{AreOffsets}
use Rattle.rest_marks.specs.Given.{AreRuns}
use Rattle.rest_marks.specs.Marks.{AllKept, IsKept}
use Rattle.rest_marks.specs.Meeting.{AreApart}
use Rattle.rest_marks.specs.Places.{found_in, AreTablesOf, IsFoundOf}
use Rattle.rest_marks.specs.Reached.{IsWordOf}
use Rattle.rest_marks.specs.Surveys.{told}
use Rattle.rest_marks.proofs.Lent.{told-sound, told-indices}

-- the header of an object of data words alone
record IsPlain (edition : Edition) (word rest : ℕ) : Type 0 where
  refs : refs_of (header_of edition word) ≡ 0
  weak : weak_of (header_of edition word) ≡ 0
  size : size_of (header_of edition word) ≡ 1 + rest

plain-long : (edition : Edition) (rest : ℕ) → most_words edition ≤ most_object_words edition → rest < 2 ^ 31 → IsPlain edition (2 ^ 63 + rest) rest
plain-long One rest long few = absurd (omega (arith, long))
plain-long Two rest long few = absurd (omega (arith, long))
plain-long Three rest long few =
    let word = 2 ^ 63 + rest in
    let top : word / 2 ^ 62 ≡ 2 = omega (arith, few) in
    let refs : refs_of (header_of Three word) ≡ 0 =
    ap (λ (n : ℕ). refs_in (if n == 0 then Mixed else (if n == 1 then ManyReferences else (if n == 2 then ManyData else ManyWeak))) word) top ∙ omega (arith, few) in
    let weak : weak_of (header_of Three word) ≡ 0 =
    ap (λ (n : ℕ). weak_in (if n == 0 then Mixed else (if n == 1 then ManyReferences else (if n == 2 then ManyData else ManyWeak))) word) top in
    let plain_data : data_in (if word / 2 ^ 62 == 0 then Mixed else (if word / 2 ^ 62 == 1 then ManyReferences else (if word / 2 ^ 62 == 2 then ManyData else ManyWeak))) word ≡ rest =
    ap (λ (n : ℕ). data_in (if n == 0 then Mixed else (if n == 1 then ManyReferences else (if n == 2 then ManyData else ManyWeak))) word) top ∙ omega (arith, few) in
    record { refs = refs; weak = weak; size = omega (arith, refs, weak, plain_data) }
plain-long Four rest long few =
    let word = 2 ^ 63 + rest in
    let top : word / 2 ^ 62 ≡ 2 = omega (arith, few) in
    let refs : refs_of (header_of Four word) ≡ 0 =
    ap (λ (n : ℕ). refs_in (if n == 0 then Mixed else (if n == 1 then ManyReferences else (if n == 2 then ManyData else ManyWeak))) word) top ∙ omega (arith, few) in
    let weak : weak_of (header_of Four word) ≡ 0 =
    ap (λ (n : ℕ). weak_in (if n == 0 then Mixed else (if n == 1 then ManyReferences else (if n == 2 then ManyData else ManyWeak))) word) top in
    let plain_data : data_in (if word / 2 ^ 62 == 0 then Mixed else (if word / 2 ^ 62 == 1 then ManyReferences else (if word / 2 ^ 62 == 2 then ManyData else ManyWeak))) word ≡ rest =
    ap (λ (n : ℕ). data_in (if n == 0 then Mixed else (if n == 1 then ManyReferences else (if n == 2 then ManyData else ManyWeak))) word) top ∙ omega (arith, few) in
    record { refs = refs; weak = weak; size = omega (arith, refs, weak, plain_data) }

few-of : (edition : Edition) → most_words edition ≤ 2 ^ 31
few-of One = omega arith
few-of Two = omega arith
few-of Three = omega arith
few-of Four = omega arith

module _ (count : ℕ) (heads bits : List ℕ) (runs : AreRuns count heads bits) where
  -- whether the word behind word i is a live word of the same object
  abbrev goes : ℕ → Bool
  goes i = cond (bit heads (i + 1)) false (bit bits (i + 1))

  -- how many live words of the same object are behind word i, at most n
  abbrev rest : ℕ → ℕ → ℕ
  rest zero i = 0
  rest (suc n) i = cond (cond (bit heads (i + 1)) false (bit bits (i + 1))) (suc (rest n (i + 1))) 0

  at-last : (i : ℕ) → rest zero i ≡ 0
  at-last i = refl

  one-more : (n i : ℕ) → goes i ≡ true → rest (suc n) i ≡ suc (rest n (i + 1))
  one-more n i goes_on = ap (λ (b : Bool). cond b (suc (rest n (i + 1))) 0) goes_on

  no-more : (n i : ℕ) → goes i ≡ false → rest (suc n) i ≡ 0
  no-more n i ends_there = ap (λ (b : Bool). cond b (suc (rest n (i + 1))) 0) ends_there

  goes-parts : (i : ℕ) → goes i ≡ true → (bit heads (i + 1) ≡ false) × (bit bits (i + 1) ≡ true)
  goes-parts i goes_on = elim (cases_Bool (bit heads (i + 1))) [
    | inl head ↦ absurd (both_ways (goes i) (ap (λ (b : Bool). cond b false (bit bits (i + 1))) head) goes_on)
    | inr ends_there ↦ (ends_there, sym (ap (λ (b : Bool). cond b false (bit bits (i + 1))) ends_there) ∙ goes_on)
  ]

  -- these words are live
  live-on : (n i k : ℕ) → bit bits i ≡ true → k ≤ rest n i → bit bits (i + k) ≡ true
  live-on zero i k here le = (let e : i ≡ i + k = omega (arith, le, at-last i) in subst (λ (m : ℕ). bit bits m ≡ true) e here)
  live-on (suc n) i zero here le = (let e : i ≡ i + zero = omega arith in subst (λ (m : ℕ). bit bits m ≡ true) e here)
  live-on (suc n) i (suc k) here le = elim (cases_Bool (goes i)) [
    | inl goes_on ↦
        let e : i + 1 + k ≡ i + suc k = omega arith in
        subst (λ (m : ℕ). bit bits m ≡ true) e (live-on n (i + 1) k (goes-parts i goes_on).1 (omega (arith, le, one-more n i goes_on)))
    | inr ends_there ↦ absurd (omega (arith, le, no-more n i ends_there))
  ]

  -- and none of them begins an object
  no-head : (n i k : ℕ) → k < rest n i → bit heads (i + 1 + k) ≡ false
  no-head zero i k lt = absurd (omega (arith, lt, at-last i))
  no-head (suc n) i zero lt = elim (cases_Bool (goes i)) [
    | inl goes_on ↦ (let e : i + 1 ≡ i + 1 + zero = omega arith in subst (λ (m : ℕ). bit heads m ≡ false) e (goes-parts i goes_on).0)
    | inr ends_there ↦ absurd (omega (arith, lt, no-more n i ends_there))
  ]
  no-head (suc n) i (suc k) lt = elim (cases_Bool (goes i)) [
    | inl goes_on ↦
        let e : i + 1 + 1 + k ≡ i + 1 + suc k = omega arith in
        subst (λ (m : ℕ). bit heads m ≡ false) e (no-head n (i + 1) k (omega (arith, lt, one-more n i goes_on)))
    | inr ends_there ↦ absurd (omega (arith, lt, no-more n i ends_there))
  ]

  -- the object ends there
  stops : (n i : ℕ) → rest n i < n → goes (i + rest n i) ≡ false
  stops zero i lt = absurd (omega (arith, lt))
  stops (suc n) i lt = elim (cases_Bool (goes i)) [
    | inl goes_on ↦
        let e : i + 1 + rest n (i + 1) ≡ i + rest (suc n) i = omega (arith, one-more n i goes_on) in
        subst (λ (m : ℕ). goes m ≡ false) e (stops n (i + 1) (omega (arith, lt, one-more n i goes_on)))
    | inr ends_there ↦ (let e : i ≡ i + rest (suc n) i = omega (arith, no-more n i ends_there) in subst (λ (m : ℕ). goes m ≡ false) e ends_there)
  ]

  -- all within the words
  ends : (i : ℕ) → bit bits i ≡ true → i + rest count i < count
  ends i here = runs.inside (i + rest count i) (live-on count i (rest count i) here (omega arith))

  -- a live word belongs to an object
  owned : (j : ℕ) → bit bits j ≡ true → (i : ℕ) × (bit heads i ≡ true) × (i ≤ j) × (j < i + 1 + rest count i)
  owned zero set = (0, runs.first set, omega arith, omega arith)
  owned (suc j) set =
      let next : suc j ≡ j + 1 = omega arith in
      let here : bit bits (j + 1) ≡ true = subst (λ (m : ℕ). bit bits m ≡ true) next set in
      elim (cases_Bool (bit heads (j + 1))) [
        | inl head ↦ (j + 1, head, omega arith, omega arith)
        | inr ends_there ↦ elim (runs.begun j here) [
          | inl head ↦ absurd (both_ways (bit heads (j + 1)) ends_there head)
          | inr before ↦
              let at = owned j before in
              elim (cases_lt (j + 1) (at.0 + 1 + rest count at.0)) [
                | inl inside ↦ (at.0, at.1, omega (arith, at.2), omega (arith, inside))
                | inr past ↦
                    let end = ends at.0 (runs.live at.0 at.1) in
                    let e : at.0 + rest count at.0 ≡ j = omega (arith, past, at.3) in
                    let no_more : goes j ≡ false = subst (λ (m : ℕ). goes m ≡ false) e (stops count at.0 (omega (arith, end))) in
                    let more : goes j ≡ true = ap (λ (b : Bool). cond b false (bit bits (j + 1))) ends_there ∙ here in
                    absurd (both_ways (goes j) no_more more)
              ]
        ]
      ]

  -- objects do not overlap
  lie-apart : (i j : ℕ) → bit heads j ≡ true → i < j → i + 1 + rest count i ≤ j
  lie-apart i j head lt = elim (cases_lt j (i + 1 + rest count i)) [
    | inl inside ↦
        let k = j - i - 1 in
        let e : i + 1 + k ≡ j = omega (arith, lt) in
        absurd (both_ways (bit heads j) (subst (λ (m : ℕ). bit heads m ≡ false) e (no-head count i k (omega (arith, e, inside)))) head)
    | inr le ↦ le
  ]

  -- ---- words that have these objects, each of data words alone

  abbrev word : ℕ → ℕ
  word i = cond (bit heads i) (2 ^ 63 + rest count i) 0

  abbrev words : List ℕ
  words = map word (range_with_len 0 count)

  many : length words ≡ count
  many = length-map (range_with_len 0 count) word ∙ length-range_with_len 0 count

  module _ (edition : Edition) (few : count ≤ most_words edition) (long : most_words edition ≤ most_object_words edition) where
    plain-at : (i : ℕ) → bit heads i ≡ true → IsPlain edition (get_or words i 0) (rest count i)
    plain-at i head =
        let end = ends i (runs.live i head) in
        let lt : i < count = omega (arith, end) in
        let here : get_or words i 0 ≡ 2 ^ 63 + rest count i =
        get_or-map-range_with_len word 0 count i i 0 lt (omega arith) ∙ ap (λ (b : Bool). cond b (2 ^ 63 + rest count i) 0) head in
        subst (λ (w : ℕ). IsPlain edition w (rest count i)) (sym here) (plain-long edition (rest count i) long (omega (arith, end, few, few-of edition)))

    kept : (i : ℕ) → bit heads i ≡ true → IsKept edition words heads i
    kept i head =
        let plain = plain-at i head in
        let end = ends i (runs.live i head) in
        record {
          placed = record { within = omega (arith, plain.size, end, many); short = omega (arith, plain.size, end, few, long) };
          references = λ k lt. absurd (omega (arith, lt, plain.refs, length-take (refs_of (header_at edition words i)) (drop (i + 1) words)));
          weak = λ k lt. absurd (omega (arith, lt, plain.weak, length-take (weak_of (header_at edition words i)) (drop (i + 1 + refs_of (header_at edition words i)) words)));
        }

    apart : AreApart edition words heads
    apart i j head other lt = omega (arith, (plain-at i head).size, lie-apart i j other lt)

    run : (i j : ℕ) → bit heads i ≡ true → IsWordOf edition words i j → bit bits j ≡ true
    run i j head of =
        let k = j - i in
        let e : i + k ≡ j = omega (arith, of.0) in
        subst (λ (m : ℕ). bit bits m ≡ true) e (live-on count i k (runs.live i head) (omega (arith, e, of.1, (plain-at i head).size)))

    only : (j : ℕ) → bit bits j ≡ true → (i : ℕ) × (bit heads i ≡ true) × IsWordOf edition words i j
    only j set =
        let at = owned j set in
        (at.0, at.1, (at.2, omega (arith, at.3, (plain-at at.0 at.1).size)))

    no_roots : AllKept edition heads []
    no_roots k lt = absurd (omega (arith, lt))

    pub tables-there : (counts : List ℕ) → length heads ≡ length bits → count ≤ 64 * length bits → AreOffsets bits counts → AreTablesOf edition count heads bits counts
    tables-there counts same room offsets =
        let few_words : length words ≤ most_words edition = omega (arith, few, many) in
        let few_roots : length {A = ℕ} [] ≤ most_roots edition = omega arith in (
          words,
          many,
          record {
            sound = told-sound edition words [] heads bits few_words few_roots no_roots kept apart;
            indices = told-indices edition words [] heads bits few_words few_roots no_roots kept apart run only (omega (arith, many, room));
            offsets = offsets;
            same = same;
          },
        )

-- what the tables say is found of some heap
pub tables-found : (edition : Edition) (count : ℕ) (heads bits counts : List ℕ) (room : ℕ) → AreTablesOf edition count heads bits counts
    → (heap : Heap) × IsFoundOf (found_in edition count heads bits room) heap
tables-found edition count heads bits counts room are =
    (told edition are.0 heads, record { edition = refl; count = are.1; marks = refl; indices = are.2.indices; sound = are.2.sound })
