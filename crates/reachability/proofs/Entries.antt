-- Walks over parts of a row, from an entry.
use Rattle.std.proofs.Common.{◌≡◌, ◌≢◌, ℕ, ◌+◌, ◌-◌, ◌*◌, ◌/◌, ◌%◌, ◌<◌, ◌≤◌, ◌==◌, ◌&&◌, ◌||◌, Bool, true, false, eqb, ltb, List, [], ◌++◌, inl, inr, Option, Some, None, IfSome, length, get_or, drop, refl, sym, ap, subst, ◌∙◌, arith}
use Rattle.std.specs.List.{flat_map}
use Rattle.std.specs.Int.{bit_at}
use Rattle.std.proofs.lemmas.Bool.{lt-ltb, le-ltb, cases_lt, cases_order, or_left, and_left, and_right, and_from, eq-eqb, ne_eqb}
use Rattle.std.proofs.lemmas.List.{get_or_append_left, get_or-append-add}
use Rattle.heap_layout.specs.declared.edition.Edition.{Edition}
use Rattle.heap_layout.specs.Header.{size_of}
use Rattle.heap_layout.specs.Bits.{bit}
use Rattle.heap_layout.specs.Heap.{header_at, starts, starts_at, is_start, IsPlaced}
use Rattle.heap_layout.specs.Faults.{object_faults}
use Rattle.heap_layout.proofs.Rows.{faults-behind, none-before, starts_at-head, starts_at-step, starts_at-past}
use Rattle.reachability.proofs.Indices.{bit-past}
use Rattle.reachability.specs.Walks.{IsWalkedFrom, IsRowOf}

-- before the first object
pub entered : (edition : Edition) (words : List ℕ) (base : ℕ) (bits : List ℕ) (entry : ℕ) → base ≤ entry → entry ≤ length words → ((j : ℕ) → bit bits j ≡ false) → IsWalkedFrom edition words base bits entry entry
entered edition words base bits entry from within none = record {
  from = from;
  above = omega arith;
  within = within;
  faults = refl;
  same = λ k above. refl;
  below = λ j. none j ∙ sym (elim (cases_lt (base + j) entry) [
    | inl before ↦ and_right (ltb (base + j) entry) _ (none-before edition entry 0 (drop entry words) (base + j) before)
    | inr behind ↦ and_left (ltb (base + j) entry) _ (le-ltb (base + j) entry behind)
  ]);
}

-- the row from an object on, after it
behind : (edition : Edition) (words : List ℕ) (start k : ℕ) → IsPlaced edition words start → start < k
    → is_start (starts_at edition words start) k ≡ is_start (starts_at edition words (start + size_of (header_at edition words start))) k
behind edition words start k placed above =
    let next = starts_at edition words (start + size_of (header_at edition words start)) in
    ap (λ (row : List ℕ). is_start row k) (starts_at-step edition words start placed.within) ∙ ap (λ (test : Bool). test || is_start next k) (ne_eqb start k (λ q. omega arith))

-- one object more
pub entered-next : (edition : Edition) (words : List ℕ) (base : ℕ) (old new : List ℕ) (entry start next at : ℕ) → IsWalkedFrom edition words base old entry start → start < length words → IsPlaced edition words start
    → base + at ≡ start → bit new at ≡ true → ((j : ℕ) → j ≢ at → bit new j ≡ bit old j) → next ≡ start + size_of (header_at edition words start)
    → IsWalkedFrom edition words base new entry next
entered-next edition words base old new entry start next at walked lt placed place here others ends =
    let row = starts_at edition words entry in
    let first : is_start row start ≡ true =
    walked.same start (omega arith) ∙ ap (λ (r : List ℕ). is_start r start) (starts_at-head edition words start lt) ∙ or_left (eqb start start) _ (eq-eqb start start refl) in
    let is_at : base + at ≡ start = place in
    let below : (j : ℕ) → bit new j ≡ (ltb (base + j) next && is_start row (base + j)) = λ j.
    elim (cases_order (base + j) start) [
      | inl same ↦
          let j_is : j ≡ at = omega (arith, same, place) in
          ap (bit new) j_is ∙ here
          ∙ sym (and_from (ltb (base + j) next) (is_start row (base + j)) (lt-ltb (base + j) next (omega (arith, same, ends))) (ap (is_start row) same ∙ first))
      | inr (inl less) ↦
          others j (λ q. omega (arith, q, less, place)) ∙ walked.below j
          ∙ ap (λ (b : Bool). b && is_start row (base + j)) (lt-ltb (base + j) start less ∙ sym (lt-ltb (base + j) next (omega (arith, ends, less))))
      | inr (inr more) ↦
          others j (λ q. omega (arith, q, more, place)) ∙ walked.below j ∙ and_left (ltb (base + j) start) _ (le-ltb (base + j) start (omega (arith, more)))
          ∙ sym (elim (cases_lt (base + j) next) [
            | inl inside ↦ and_right (ltb (base + j) next) _ (walked.same (base + j) (omega (arith, more)) ∙ behind edition words start (base + j) placed more
                ∙ none-before edition (start + size_of (header_at edition words start)) 0 _ (base + j) (omega (arith, ends, inside)))
            | inr after ↦ and_left (ltb (base + j) next) _ (le-ltb (base + j) next after)
          ])
    ] in
    record {
      from = walked.from;
      above = let up = walked.above in omega (arith, ends);
      within = omega (arith, placed.within, ends);
      faults = rw ends (faults-behind edition words start placed ∙ walked.faults);
      same = λ k above. rw ends (walked.same k (omega (arith, ends, above)) ∙ behind edition words start k placed (omega (arith, ends, above)));
      below = below;
    }

-- a test that holds adds nothing
and-true : (a b : Bool) → a ≡ true → (a && b) ≡ b
and-true true b is = refl
and-true false b is = absurd (let no : false ≡ true = is in cc)

-- the bits of two lists of blocks, one behind the other
bit-front : (xs ys : List ℕ) (j : ℕ) → j < 64 * length xs → bit (xs ++ ys) j ≡ bit xs j
bit-front xs ys j inside = ap (λ (n : ℕ). bit_at n (j % 64) == 1) (get_or_append_left xs ys 0 (j / 64) (omega arith))

bit-back : (xs ys : List ℕ) (j : ℕ) → bit (xs ++ ys) (64 * length xs + j) ≡ bit ys j
bit-back xs ys j =
    let block : (64 * length xs + j) / 64 ≡ length xs + j / 64 = omega arith in
    let place : (64 * length xs + j) % 64 ≡ j % 64 = omega arith in
    ap (λ (n : ℕ). bit_at (get_or (xs ++ ys) n 0) ((64 * length xs + j) % 64) == 1) block
    ∙ ap (λ (n : ℕ). bit_at (get_or (xs ++ ys) (length xs + j / 64) 0) n == 1) place
    ∙ ap (λ (n : ℕ). bit_at n (j % 64) == 1) (get_or-append-add xs ys (j / 64) 0)

-- the bits of a row
plain : (edition : Edition) (words row : List ℕ) (end : ℕ) → IsRowOf edition words row end → (j : ℕ) → bit row j ≡ (ltb j end && is_start (starts edition words) j)
plain edition words row end of j =
    let same : 0 + j ≡ j = omega arith in
    of.below j ∙ ap (λ (n : ℕ). ltb n end && is_start (starts edition words) n) same

-- a part behind a row
pub joined : (edition : Edition) (words row bits : List ℕ) (entry end : ℕ) → IsRowOf edition words row entry → IsWalkedFrom edition words (64 * length row) bits entry end
    → IsRowOf edition words (row ++ bits) end
joined edition words row bits entry end of part =
    let base = 64 * length row in
    let all = starts_at edition words 0 in
    let from = part.from in
    let up = part.above in
    let below : (j : ℕ) → bit (row ++ bits) j ≡ (ltb j end && is_start all j) = λ j.
    elim (cases_lt j base) [
      | inl front ↦
          bit-front row bits j front ∙ plain edition words row entry of j
          ∙ ap (λ (b : Bool). b && is_start all j) (lt-ltb j entry (omega (arith, front, from)) ∙ sym (lt-ltb j end (omega (arith, front, from, up))))
      | inr back ↦
          let k = j - base in
          let is : base + k ≡ j = omega (arith, back) in
          let at : bit (row ++ bits) j ≡ (ltb j end && is_start (starts_at edition words entry) j) =
          ap (bit (row ++ bits)) (sym is) ∙ bit-back row bits k ∙ part.below k ∙ ap (λ (n : ℕ). ltb n end && is_start (starts_at edition words entry) n) is in
          at ∙ ap (λ (b : Bool). ltb j end && b) (elim (cases_lt j entry) [
            | inl before ↦
                none-before edition entry 0 (drop entry words) j before
                ∙ sym (sym (and-true (ltb j entry) (is_start all j) (lt-ltb j entry before)) ∙ sym (plain edition words row entry of j) ∙ bit-past row j back)
            | inr after ↦ sym (of.same j after)
          ])
    ] in
    record {
      from = omega arith;
      above = omega arith;
      within = part.within;
      faults = part.faults ∙ of.faults;
      same = λ k above. of.same k (omega (arith, up, above)) ∙ part.same k above;
      below = λ j. let same : j ≡ 0 + j = omega arith in below j ∙ ap (λ (n : ℕ). ltb n end && is_start all n) same;
    }

-- the row of all words
pub row-all : (edition : Edition) (words row : List ℕ) (end : ℕ) → IsRowOf edition words row end → length words ≤ end → (i : ℕ) → bit row i ≡ is_start (starts edition words) i
row-all edition words row end of past i =
    plain edition words row end of i ∙ elim (cases_lt i end) [
      | inl inside ↦ and-true (ltb i end) (is_start (starts edition words) i) (lt-ltb i end inside)
      | inr outside ↦ and_left (ltb i end) _ (le-ltb i end outside) ∙ sym (of.same i outside ∙ ap (λ (r : List ℕ). is_start r i) (starts_at-past edition words end past))
    ]

pub row-sound : (edition : Edition) (words row : List ℕ) (end : ℕ) → IsRowOf edition words row end → length words ≤ end → flat_map (object_faults edition words) (starts edition words) ≡ []
row-sound edition words row end of past = sym of.faults ∙ ap (flat_map (object_faults edition words)) (starts_at-past edition words end past)

-- the row with a part behind it, if no object in the part has a fault
pub part-joined : (edition : Edition) (words row bits new : List ℕ) (base from entry : ℕ) (end : Option ℕ) → IsRowOf edition words row entry → IfSome end (IsWalkedFrom edition words base bits from)
    → base ≡ 64 * length row → from ≡ entry → new ≡ row ++ bits → IfSome end (IsRowOf edition words new)
part-joined edition words row bits new base from entry None of walked base_is from_is new_is = tt
part-joined edition words row bits new base from entry (Some end) of walked base_is from_is new_is =
    rw new_is (joined edition words row bits entry end of
    (subst (λ (b : ℕ). IsWalkedFrom edition words b bits entry end) base_is (subst (λ (f : ℕ). IsWalkedFrom edition words base bits f end) from_is walked)))
