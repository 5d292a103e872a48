-- A part of the words, as far as its live objects are slid.
use Rattle.std.proofs.Common.{◌≡◌, ℕ, suc, ◌+◌, ◌-◌, ◌*◌, ◌^◌, ◌<◌, ◌≤◌, ◌⊎◌, ◌==◌, ◌||◌, Bool, true, false, cond, ltb, List, length, get_or, inl, inr, refl, sym, ap, subst, ◌∙◌, arith}
use Rattle.std.specs.List.{list_any}
use Rattle.std.proofs.lemmas.Bool.{cases_eq, cases_lt, both_ways, eq-eqb, ne_eqb, lt-ltb, le-ltb, false_from_ne_true}
use Rattle.heap_layout.specs.declared.edition.Edition.{Edition}
use Rattle.heap_layout.specs.declared.edition.Edition.TheVariants.{One, Two, Three, Four}
use Rattle.heap_layout.specs.Bits.{bit}
use Rattle.heap_layout.specs.Header.{header_of, refs_of, weak_of, size_of}
use Rattle.heap_layout.specs.Heap.{from_address, header_at, IsPlaced, IsValue}
use Rattle.heap_layout.specs.Values.{is_immediate}
use Rattle.heap_layout.proofs.Values.{value-cases}
use Rattle.page_plan.proofs.Marks.{has-address}
use Rattle.rest_marks.specs.Surveys.{marks_of}
use Rattle.rest_marks.proofs.Bounding.{bit-inside}
use Rattle.rest_marks.proofs.Heads.{mark-set}
use Rattle.pinned_heap.specs.Around.{IsFilled}
use Rattle.pinned_heap.specs.Parts.{led_word, run_in, AreObjectsSlid, ArePartTables, IsObjectSlid, IsPartSlid, IsRunFilled}
use Rattle.pinned_heap.specs.Tables.{end_below, kept_at_place, led_to_place, place_by}
use Rattle.pinned_heap.specs.declared.run.Run.{Run}
use Rattle.pinned_heap.proofs.Linking.{end-gap, end-run, same-kept}

-- ---- one run, and one object

-- a run stays filled while its words stay, also where they begin at another index
filled-kept : (edition : Edition) (words new : List ℕ) (run other : Run) → run.start < run.end → other.end - other.start ≡ run.end - run.start
    → ((i : ℕ) → i < run.end - run.start → get_or new (other.start + i) 0 ≡ get_or words (run.start + i) 0) → IsFilled edition words run → IsFilled edition new other
filled-kept One words new run other some long same is = λ i from lt.
    let n = i - other.start in
    let there : i ≡ other.start + n = omega (arith, from) in
    ap (λ (m : ℕ). get_or new m 0) there ∙ same n (omega (arith, from, lt, long)) ∙ is (run.start + n) (omega arith) (omega (arith, from, lt, long))
filled-kept Two words new run other some long same is = λ i from lt.
    let n = i - other.start in
    let there : i ≡ other.start + n = omega (arith, from) in
    ap (λ (m : ℕ). get_or new m 0) there ∙ same n (omega (arith, from, lt, long)) ∙ is (run.start + n) (omega arith) (omega (arith, from, lt, long))
filled-kept Three words new run other some long same is =
    let a : other.start ≡ other.start + 0 = omega arith in
    let b : run.start + 0 ≡ run.start = omega arith in
    let c : 2 ^ 63 + (run.end - run.start - 1) ≡ 2 ^ 63 + (other.end - other.start - 1) = ap (λ (n : ℕ). 2 ^ 63 + (n - 1)) (sym long) in
    ap (λ (m : ℕ). get_or new m 0) a ∙ same 0 (omega (arith, some)) ∙ ap (λ (m : ℕ). get_or words m 0) b ∙ is ∙ c
filled-kept Four words new run other some long same is =
    let a : other.start ≡ other.start + 0 = omega arith in
    let b : run.start + 0 ≡ run.start = omega arith in
    let c : 2 ^ 63 + (run.end - run.start - 1) ≡ 2 ^ 63 + (other.end - other.start - 1) = ap (λ (n : ℕ). 2 ^ 63 + (n - 1)) (sym long) in
    ap (λ (m : ℕ). get_or new m 0) a ∙ same 0 (omega (arith, some)) ∙ ap (λ (m : ℕ). get_or words m 0) b ∙ is ∙ c

-- What is slid in a part is slid in the words around it, which begin at word `low`, the part `by` words behind that.
module _ (edition : Edition) (heads bits stays : List ℕ) (low by : ℕ) (part new old all : List ℕ) (place above : ℕ)
    (room : by + place ≤ above)
    (was : (k : ℕ) → k < length part → get_or old (by + k) 0 ≡ get_or part k 0)
    (same : (k : ℕ) → k < place → get_or all (by + k) 0 ≡ get_or new k 0) where
  pub object-kept : (i : ℕ) → low + by ≤ i → i < low + by + length part → IsPlaced edition part (i - (low + by))
      → IsObjectSlid edition heads bits stays (low + by) part place new i → IsObjectSlid edition heads bits stays low old above all i
  object-kept i from inside placed is =
      let n = i - (low + by) in
      let at : i - low ≡ by + n = omega (arith, from) in
      let header : get_or old (i - low) 0 ≡ get_or part n 0 = ap (λ (m : ℕ). get_or old m 0) at ∙ was n (omega (arith, from, inside)) in
      let own : size_of (header_at edition old (i - low)) ≡ size_of (header_at edition part n) = ap (λ (w : ℕ). size_of (header_of edition w)) header in
      let to = place_by bits stays i in
      record {
        above = omega (arith, is.above);
        under = omega (arith, is.under, own, room);
        made = λ j lt.
            let few : j < size_of (header_at edition part n) = omega (arith, lt, own) in
            let there : to - low + j ≡ by + (to - (low + by) + j) = omega (arith, is.above) in
            let here : i - low + j ≡ by + (n + j) = omega (arith, from) in
            let word : get_or old (i - low + j) 0 ≡ get_or part (n + j) 0 = ap (λ (m : ℕ). get_or old m 0) here ∙ was (n + j) (omega (arith, few, placed.within)) in
            ap (λ (m : ℕ). get_or all m 0) there
            ∙ same (to - (low + by) + j) (omega (arith, is.above, is.under, few))
            ∙ is.made j few
            ∙ ap (λ (h : ℕ). led_word edition (kept_at_place edition heads bits stays) h j (get_or part (n + j) 0)) (sym header)
            ∙ ap (led_word edition (kept_at_place edition heads bits stays) (get_or old (i - low) 0) j) (sym word);
      }

  pub run-kept : (i : ℕ) → end_below (bit bits) (bit stays) i < i → IsRunFilled edition bits stays (low + by) place new i → IsRunFilled edition bits stays low above all i
  run-kept i some is =
      let start = end_below (bit bits) (bit stays) i in
      record {
        above = omega (arith, is.above);
        under = omega (arith, is.under, room);
        filled = filled-kept edition new all (run_in bits stays (low + by) i) (run_in bits stays low i) (omega (arith, some, is.above)) (omega (arith, some, is.above))
            (λ k lt.
            let there : start - low + k ≡ by + (start - (low + by) + k) = omega (arith, is.above) in
            ap (λ (m : ℕ). get_or all m 0) there ∙ same (start - (low + by) + k) (omega (arith, is.above, is.under, lt)))
            is.filled;
      }

-- ---- what is slid so far

-- The objects before index `next` are slid, and end at word `place` of the part. From there on the words are as they
-- were.
pub record IsSlidTo (edition : Edition) (heads bits stays : List ℕ) (low : ℕ) (old : List ℕ) (next place : ℕ) (words : List ℕ) : Type 0 where
  pub from : low ≤ next
  pub down : low + place ≤ next
  pub within : next ≤ low + length old
  pub first : next ≡ low → place ≡ 0
  pub at : low < next → end_below (bit bits) (bit stays) next ≡ low + place
  pub ends : (i : ℕ) → low ≤ i → i < next → bit heads i ≡ true → i + size_of (header_at edition old (i - low)) ≤ next
  pub objects : (i : ℕ) → low ≤ i → i < next → bit heads i ≡ true → IsObjectSlid edition heads bits stays low old place words i
  pub filled : (i : ℕ) → low < i → i < next → bit stays i ≡ true → end_below (bit bits) (bit stays) i < i → IsRunFilled edition bits stays low place words i
  pub rest : (k : ℕ) → place ≤ k → get_or words k 0 ≡ get_or old k 0
  pub long : length words ≡ length old

-- The same, and the run before the next object, which starts at index `start` and goes to word `place` of the part, is
-- filled.
pub record IsBegun (edition : Edition) (heads bits stays : List ℕ) (low : ℕ) (old : List ℕ) (start place : ℕ) (words : List ℕ) : Type 0 where
  pub from : low ≤ start
  pub known : start < low + length old
  pub head : bit heads start ≡ true
  pub goes : place_by bits stays start ≡ low + place
  pub down : low + place ≤ start
  pub ends : (i : ℕ) → low ≤ i → i < start → bit heads i ≡ true → i + size_of (header_at edition old (i - low)) ≤ start
  pub objects : (i : ℕ) → low ≤ i → i < start → bit heads i ≡ true → IsObjectSlid edition heads bits stays low old place words i
  pub filled : (i : ℕ) → low < i → i ≤ start → bit stays i ≡ true → end_below (bit bits) (bit stays) i < i → IsRunFilled edition bits stays low place words i
  pub rest : (k : ℕ) → place ≤ k → get_or words k 0 ≡ get_or old k 0
  pub long : length words ≡ length old

-- What was made of an object of this shape, which moved from word `start` to word `place` of the part.
pub record IsLed (edition : Edition) (heads bits stays : List ℕ) (start place refs weak size : ℕ) (words new : List ℕ) : Type 0 where
  pub header : get_or new place 0 ≡ get_or words start 0
  pub references : (k : ℕ) → k < refs → get_or new (place + 1 + k) 0 ≡ led_to_place edition bits stays (get_or words (start + 1 + k) 0)
  pub weak_words : (k : ℕ) → k < weak → get_or new (place + 1 + refs + k) 0 ≡ kept_at_place edition heads bits stays (get_or words (start + 1 + refs + k) 0)
  pub data_words : (k : ℕ) → 1 + refs + weak ≤ k → k < size → get_or new (place + k) 0 ≡ get_or words (start + k) 0

-- the next place is between the end of the words that are taken and the object
between : (stay : Bool) (start place : ℕ) → place ≤ start → (place ≤ cond stay start place) × (cond stay start place ≤ start)
between true start place down = (down, omega arith)
between false start place down = (omega arith, down)

place-shift : (stay : Bool) (low start place : ℕ) → low ≤ start → cond stay start (low + place) ≡ low + cond stay (start - low) place
place-shift true low start place from = omega (arith, from)
place-shift false low start place from = refl

-- a reference to a live object leads to a word that has a bit
target-known : (edition : Edition) (heads : List ℕ) (word : ℕ) → IsValue edition (marks_of heads) word → is_immediate edition word ≡ false → 0 < length heads → word - 2 ^ 32 < 64 * length heads
target-known edition heads word value plain some = elim (value-cases edition (marks_of heads) word value) [
  | inl immediate ↦ absurd (both_ways (is_immediate edition word) plain immediate)
  | inr target ↦ elim (cases_eq word 0) [
    | inl zero_word ↦ omega (arith, zero_word, some)
    | inr other ↦
        let any : list_any (λ mark. from_address mark == word) (marks_of heads) ≡ true =
        sym (ap (λ (b : Bool). b || list_any (λ mark. from_address mark == word) (marks_of heads)) (ne_eqb word 0 other)) ∙ target in
        let at = has-address edition heads (marks_of heads) word 0 any in
        let inside = bit-inside heads (get_or (marks_of heads) at.number 0) (mark-set heads at.number at.known) in
        omega (arith, at.here, inside)
  ]
]

module _ (edition : Edition) (heads bits stays : List ℕ) (low : ℕ) (old : List ℕ) (tables : ArePartTables edition heads bits stays low old) where
  abbrev ended : ℕ → ℕ
  ended i = end_below (bit bits) (bit stays) i

  abbrev size_at : ℕ → ℕ
  size_at i = size_of (header_at edition old (i - low))

  abbrev high : ℕ
  high = low + length old

  none-before : (k : ℕ) → 0 + k ≡ k
  none-before k = omega arith

  -- what is slid stays so while the words below `place` stay
  object-stays : (place above : ℕ) (words new : List ℕ) → place ≤ above → ((k : ℕ) → k < place → get_or new k 0 ≡ get_or words k 0) → (i : ℕ) → low ≤ i → i < high → bit heads i ≡ true
      → IsObjectSlid edition heads bits stays low old place words i → IsObjectSlid edition heads bits stays low old above new i
  object-stays place above words new room same i from inside head is =
      let none : low + 0 ≡ low = omega arith in
      object-kept edition heads bits stays low 0 old words old new place above (omega (arith, room)) (λ k lt. ap (λ (n : ℕ). get_or old n 0) (none-before k))
      (λ k lt. ap (λ (n : ℕ). get_or new n 0) (none-before k) ∙ same k lt) i (omega (arith, from)) (omega (arith, inside))
      (subst (λ (n : ℕ). IsPlaced edition old (i - n)) (sym none) (tables.placed i from inside head))
      (subst (λ (n : ℕ). IsObjectSlid edition heads bits stays n old place words i) (sym none) is)

  run-stays : (place above : ℕ) (words new : List ℕ) → place ≤ above → ((k : ℕ) → k < place → get_or new k 0 ≡ get_or words k 0) → (i : ℕ) → ended i < i
      → IsRunFilled edition bits stays low place words i → IsRunFilled edition bits stays low above new i
  run-stays place above words new room same i some is =
      let none : low + 0 ≡ low = omega arith in
      run-kept edition heads bits stays low 0 old words old new place above (omega (arith, room)) (λ k lt. ap (λ (n : ℕ). get_or old n 0) (none-before k))
      (λ k lt. ap (λ (n : ℕ). get_or new n 0) (none-before k) ∙ same k lt) i some
      (subst (λ (n : ℕ). IsRunFilled edition bits stays n place words i) (sym none) is)

  -- before the first object
  pub slid-first : IsSlidTo edition heads bits stays low old low 0 old
  slid-first = record {
    from = omega arith;
    down = omega arith;
    within = omega arith;
    first = λ _. refl;
    at = λ lt. absurd (omega (arith, lt));
    ends = λ i from lt head. absurd (omega (arith, from, lt));
    objects = λ i from lt head. absurd (omega (arith, from, lt));
    filled = λ i from lt stays some. absurd (omega (arith, from, lt));
    rest = λ k le. refl;
    long = refl;
  }

  module _ (next place : ℕ) (words : List ℕ) (is : IsSlidTo edition heads bits stays low old next place words)
      (start : ℕ) (from : next ≤ start) (none : (j : ℕ) → next ≤ j → j < start → bit heads j ≡ false) (inside : start ≤ low + length old) where
    -- no word up to the next object is live
    quiet : (j : ℕ) → next ≤ j → j < start → (bit bits j ≡ false) × (bit stays j ≡ false)
    quiet j le lt = (
      false_from_ne_true (bit bits j) (λ set.
          let at = tables.owned j (omega (arith, le, is.from)) (omega (arith, lt, inside)) set in
          elim (cases_lt at.0 next) [
            | inl before ↦ (let end = is.ends at.0 at.1 before at.3 in omega (arith, end, at.4, le))
            | inr here ↦ both_ways (bit heads at.0) (none at.0 here (omega (arith, at.2, lt))) at.3
          ]),
      false_from_ne_true (bit stays j) (λ set. both_ways (bit heads j) (none j le lt) (tables.still j set)),
    )

    gap : ended start ≡ ended next
    gap =
        let whole : next + (start - next) ≡ start = omega (arith, from) in
        ap ended (sym whole) ∙ end-gap (bit bits) (bit stays) next (start - next) (λ j le lt. quiet j le (omega (arith, lt, whole)))

    -- so the live words below it end where those that are slid do, unless it is the first one of the part, and stays
    reach : (ended start ≡ low + place) ⊎ ((bit stays start ≡ true) × (start ≡ low))
    reach = elim (cases_lt low next) [
      | inl past ↦ inl (gap ∙ is.at past)
      | inr le ↦
          let begins : next ≡ low = omega (arith, le, is.from) in
          elim tables.first [
            | inl zero_low ↦ inl (
                let zero_next : next ≡ 0 = omega (arith, begins, zero_low) in
                let sum : 0 ≡ low + place = omega (arith, zero_low, is.first begins) in
                gap ∙ ap ended zero_next ∙ sum)
            | inr stay ↦ elim (cases_lt low start) [
              | inl past ↦ absurd (both_ways (bit heads low) (none low (omega (arith, le)) past) (tables.still low stay.0))
              | inr low_start ↦
                  let same : start ≡ low = omega (arith, low_start, from, is.from) in
                  inr (ap (bit stays) same ∙ stay.0, same)
            ]
          ]
    ]

    -- where it goes
    goes : place_by bits stays start ≡ low + cond (bit stays start) (start - low) place
    goes = elim reach [
      | inl end ↦ ap (cond (bit stays start) start) end ∙ place-shift (bit stays start) low start place (omega (arith, from, is.from))
      | inr stay ↦
          let back : start ≡ low + (start - low) = omega (arith, from, is.from) in
          ap (λ (b : Bool). cond b start (ended start)) stay.0 ∙ back ∙ ap (λ (b : Bool). low + cond b (start - low) place) (sym stay.0)
    ]

    -- the run before it is filled
    pub slid-begun : (to : ℕ) (new : List ℕ) → start < low + length old → bit heads start ≡ true → to ≡ cond (bit stays start) (start - low) place
        → (place < to → IsFilled edition new (record { start = place; end = to }))
        → ((k : ℕ) → k < place → get_or new k 0 ≡ get_or words k 0) → ((k : ℕ) → to ≤ k → get_or new k 0 ≡ get_or words k 0) → length new ≡ length words
        → IsBegun edition heads bits stays low old start to new
    slid-begun to new known head chosen filled before behind long =
        let bounds = between (bit stays start) (start - low) place (omega (arith, is.down, from)) in
        let up : place ≤ to = omega (arith, bounds.0, chosen) in
        record {
          from = omega (arith, is.from, from);
          known = known;
          head = head;
          goes = goes ∙ ap (λ (n : ℕ). low + n) (sym chosen);
          down = omega (arith, bounds.1, chosen, is.from, from);
          ends = λ i le lt set. elim (cases_lt i next) [
            | inl earlier ↦ (let end = is.ends i le earlier set in omega (arith, end, from))
            | inr later ↦ absurd (both_ways (bit heads i) (none i later lt) set)
          ];
          objects = λ i le lt set. elim (cases_lt i next) [
            | inl earlier ↦ object-stays place to words new up before i le (omega (arith, lt, inside)) set (is.objects i le earlier set)
            | inr later ↦ absurd (both_ways (bit heads i) (none i later lt) set)
          ];
          filled = λ i past le set some. elim (cases_lt i next) [
            | inl earlier ↦ run-stays place to words new up before i some (is.filled i past earlier set some)
            | inr later ↦ elim (cases_lt i start) [
              | inl lt ↦ absurd (both_ways (bit heads i) (none i later lt) (tables.still i set))
              | inr last ↦
                  let same : start ≡ i = omega (arith, le, last) in
                  let here : bit stays start ≡ true = ap (bit stays) same ∙ set in
                  let there : to ≡ start - low = chosen ∙ ap (λ (b : Bool). cond b (start - low) place) here in
                  elim reach [
                    | inl end ↦
                        let begins : place ≡ ended i - low = omega (arith, end, ap ended same) in
                        let stops : to ≡ i - low = omega (arith, there, same) in
                        let free : place < to = omega (arith, begins, stops, some, past, end, ap ended same) in
                        record {
                          above = omega (arith, end, ap ended same);
                          under = omega (arith, stops, past);
                          filled = subst (λ (n : ℕ). IsFilled edition new (record { start = ended i - low; end = n })) stops
                              (subst (λ (n : ℕ). IsFilled edition new (record { start = n; end = to })) begins (filled free));
                        }
                    | inr stay ↦ absurd (omega (arith, stay.1, same, past))
                  ]
            ]
          ];
          rest = λ k le. behind k le ∙ is.rest k (omega (arith, le, up));
          long = long ∙ is.long;
        }

  -- there is no object more
  pub slid-all : (next place : ℕ) (words : List ℕ) → IsSlidTo edition heads bits stays low old next place words
      → ((j : ℕ) → next ≤ j → j < low + length old → bit heads j ≡ false) → AreObjectsSlid edition heads bits stays low old place words
  slid-all next place words is none = record {
    long = is.long;
    fit = omega (arith, is.down, is.within);
    at = elim (reach next place words is high is.within none (omega arith)) [
      | inl end ↦ end
      | inr stay ↦ elim tables.first [
        | inl zero_low ↦ (
            let empty : high ≡ 0 = omega (arith, stay.1, zero_low) in
            let sum : 0 ≡ low + place = omega (arith, zero_low, stay.1, is.down, is.within) in
            ap ended empty ∙ sum)
        | inr some ↦ absurd (omega (arith, stay.1, some.1))
      ]
    ];
    objects = λ i le lt set. elim (cases_lt i next) [
      | inl earlier ↦ is.objects i le earlier set
      | inr later ↦ absurd (both_ways (bit heads i) (none i later lt) set)
    ];
    filled = λ i past lt set some. elim (cases_lt i next) [
      | inl earlier ↦ is.filled i past earlier set some
      | inr later ↦ absurd (both_ways (bit heads i) (none i later lt) (tables.still i set))
    ];
    behind = is.rest;
  }

  module _ (start place : ℕ) (words : List ℕ) (is : IsBegun edition heads bits stays low old start place words) where
    abbrev at : ℕ
    at = start - low

    same-header : get_or words at 0 ≡ get_or old at 0
    same-header = is.rest at (omega (arith, is.down))

    placed : IsPlaced edition old at
    placed = tables.placed start is.from is.known is.head

    -- the object ends within the part
    pub begun-within : start - low + size_of (header_at edition words (start - low)) ≤ length words
    begun-within = omega (arith, placed.within, is.long, ap (λ (w : ℕ). size_of (header_of edition w)) same-header)

    value : (k : ℕ) → k < refs_of (header_at edition old at) → IsValue edition (marks_of heads) (get_or words (at + 1 + k) 0)
    value k lower =
        let there : at + 1 + k ≡ at + (1 + k) = omega arith in
        let word : get_or words (at + 1 + k) 0 ≡ get_or old (at + (1 + k)) 0 = is.rest (at + 1 + k) (omega (arith, is.down)) ∙ ap (λ (n : ℕ). get_or old n 0) there in
        subst (IsValue edition (marks_of heads)) (sym word) (tables.values start (1 + k) is.from is.known is.head (omega arith) (omega (arith, lower)))

    -- and its references lead to words that have bits
    pub begun-known : (k : ℕ) → k < refs_of (header_at edition words (start - low)) → is_immediate edition (get_or words (start - low + 1 + k) 0) ≡ false
        → get_or words (start - low + 1 + k) 0 - 2 ^ 32 < 64 * length bits
    begun-known k lower plain =
        let inside = bit-inside heads start is.head in
        let few : k < refs_of (header_at edition old at) = omega (arith, lower, ap (λ (w : ℕ). refs_of (header_of edition w)) same-header) in
        let known = target-known edition heads _ (value k few) plain (omega (arith, inside)) in
        omega (arith, known, tables.same)

    abbrev keep : ℕ → ℕ
    keep word = kept_at_place edition heads bits stays word

    abbrev made : ℕ → ℕ → ℕ
    made j word = led_word edition keep (get_or old at 0) j word

    made-field : (j word : ℕ) → 0 < j → j ≤ refs_of (header_at edition old at) + weak_of (header_at edition old at) → made j word ≡ keep word
    made-field j word some le =
        let n = refs_of (header_at edition old at) + weak_of (header_at edition old at) in
        ap (λ (b : Bool). cond b word (cond (ltb n j) word (keep word))) (ne_eqb j 0 (λ none. omega (arith, none, some)))
        ∙ ap (λ (b : Bool). cond b word (keep word)) (le-ltb n j le)

    made-data : (j word : ℕ) → refs_of (header_at edition old at) + weak_of (header_at edition old at) < j → made j word ≡ word
    made-data j word past =
        let n = refs_of (header_at edition old at) + weak_of (header_at edition old at) in
        ap (λ (b : Bool). cond b word (cond (ltb n j) word (keep word))) (ne_eqb j 0 (λ none. omega (arith, none, past)))
        ∙ ap (λ (b : Bool). cond b word (keep word)) (lt-ltb n j past)

    -- word j of the object is what the definition says
    word-made : (refs weak count : ℕ) (new : List ℕ) → refs ≡ refs_of (header_at edition old at) → weak ≡ weak_of (header_at edition old at)
        → IsLed edition heads bits stays at place refs weak count words new
        → (j : ℕ) → j < count → get_or new (place + j) 0 ≡ made j (get_or old (at + j) 0)
    word-made refs weak count new refs_are weak_are done j lt =
        let same : get_or words (at + j) 0 ≡ get_or old (at + j) 0 = is.rest (at + j) (omega (arith, is.down)) in
        elim (cases_eq j 0) [
          | inl first ↦
              let here : place + j ≡ place = omega (arith, first) in
              let back : at ≡ at + j = omega (arith, first) in
              ap (λ (n : ℕ). get_or new n 0) here ∙ done.header ∙ ap (λ (n : ℕ). get_or words n 0) back ∙ same
              ∙ sym (ap (λ (b : Bool). cond b (get_or old (at + j) 0) (cond (ltb (refs_of (header_at edition old at) + weak_of (header_at edition old at)) j) (get_or old (at + j) 0) (keep (get_or old (at + j) 0))))
              (eq-eqb j 0 first))
          | inr some ↦ elim (cases_lt j (1 + refs)) [
            | inl reference ↦
                let k = j - 1 in
                let to : place + j ≡ place + 1 + k = omega (arith, some) in
                let from : at + 1 + k ≡ at + j = omega (arith, some) in
                let is_value = value k (omega (arith, refs_are, reference, some)) in
                ap (λ (n : ℕ). get_or new n 0) to
                ∙ done.references k (omega (arith, some, reference))
                ∙ same-kept edition heads bits stays _ is_value
                ∙ ap (λ (n : ℕ). keep (get_or words n 0)) from
                ∙ ap keep same
                ∙ sym (made-field j (get_or old (at + j) 0) (omega (arith, some)) (omega (arith, reference, refs_are)))
            | inr behind ↦ elim (cases_lt j (1 + refs + weak)) [
              | inl weak_word ↦
                  let k = j - 1 - refs in
                  let to : place + j ≡ place + 1 + refs + k = omega (arith, behind) in
                  let from : at + 1 + refs + k ≡ at + j = omega (arith, behind) in
                  ap (λ (n : ℕ). get_or new n 0) to
                  ∙ done.weak_words k (omega (arith, behind, weak_word))
                  ∙ ap (λ (n : ℕ). keep (get_or words n 0)) from
                  ∙ ap keep same
                  ∙ sym (made-field j (get_or old (at + j) 0) (omega (arith, some)) (omega (arith, weak_word, refs_are, weak_are)))
              | inr data_word ↦
                  done.data_words j data_word lt ∙ same ∙ sym (made-data j (get_or old (at + j) 0) (omega (arith, data_word, refs_are, weak_are)))
            ]
          ]
        ]

    -- one object more
    pub begun-moved : (refs weak count : ℕ) (new : List ℕ)
        → refs ≡ refs_of (header_at edition words (start - low)) → weak ≡ weak_of (header_at edition words (start - low)) → count ≡ size_of (header_at edition words (start - low))
        → IsLed edition heads bits stays (start - low) place refs weak count words new
        → ((k : ℕ) → k < place → get_or new k 0 ≡ get_or words k 0) → ((k : ℕ) → place + count ≤ k → get_or new k 0 ≡ get_or words k 0) → length new ≡ length words
        → IsSlidTo edition heads bits stays low old (start + count) (place + count) new
    begun-moved refs weak count new refs_are weak_are counted done before behind long =
        let refs_were = refs_are ∙ ap (λ (w : ℕ). refs_of (header_of edition w)) same-header in
        let weak_were = weak_are ∙ ap (λ (w : ℕ). weak_of (header_of edition w)) same-header in
        let size_was : count ≡ size_at start = counted ∙ ap (λ (w : ℕ). size_of (header_of edition w)) same-header in
        let n = count - 1 in
        let own : count ≡ suc n = omega (arith, size_was) in
        let run = end-run (bit bits) (bit stays) start n
        (λ j le lt. tables.run start j is.from is.known is.head le (omega (arith, lt, own, size_was)))
        (λ j past lt. false_from_ne_true (bit stays j) (λ set.
        both_ways (bit heads j) (tables.apart start j is.from is.known is.head past (omega (arith, lt, own, size_was))) (tables.still j set))) in
        let ends_there : ended (start + count) ≡ low + (place + count) = ap (λ (m : ℕ). ended (start + m)) own ∙ run ∙ omega (arith, is.goes, own) in
        let here : IsObjectSlid edition heads bits stays low old (place + count) new start = record {
          above = omega (arith, is.goes);
          under = omega (arith, is.goes, size_was);
          made = λ j lt.
              let there : place_by bits stays start - low + j ≡ place + j = omega (arith, is.goes) in
              ap (λ (m : ℕ). get_or new m 0) there ∙ word-made refs weak count new refs_were weak_were done j (omega (arith, lt, size_was));
        } in
        record {
          from = omega (arith, is.from);
          down = omega (arith, is.down);
          within = omega (arith, placed.within, size_was, is.from);
          first = λ same. absurd (omega (arith, same, own, is.from));
          at = λ _. ends_there;
          ends = λ i le lt set. elim (cases_lt i start) [
            | inl earlier ↦ (let end = is.ends i le earlier set in omega (arith, end))
            | inr later ↦ elim (cases_lt start i) [
              | inl past ↦ absurd (both_ways (bit heads i) (tables.apart start i is.from is.known is.head past (omega (arith, lt, size_was))) set)
              | inr last ↦ (let same : i ≡ start = omega (arith, later, last) in omega (arith, same, size_was, ap size_at same))
            ]
          ];
          objects = λ i le lt set. elim (cases_lt i start) [
            | inl earlier ↦ object-stays place (place + count) words new (omega arith) before i le (omega (arith, earlier, is.known)) set (is.objects i le earlier set)
            | inr later ↦ elim (cases_lt start i) [
              | inl past ↦ absurd (both_ways (bit heads i) (tables.apart start i is.from is.known is.head past (omega (arith, lt, size_was))) set)
              | inr last ↦ (let same : start ≡ i = omega (arith, later, last) in subst (IsObjectSlid edition heads bits stays low old (place + count) new) same here)
            ]
          ];
          filled = λ i past lt set some. elim (cases_lt start i) [
            | inl behind_start ↦ absurd (both_ways (bit heads i) (tables.apart start i is.from is.known is.head behind_start (omega (arith, lt, size_was))) (tables.still i set))
            | inr le ↦ run-stays place (place + count) words new (omega arith) before i some (is.filled i past le set some)
          ];
          rest = λ k le. behind k le ∙ is.rest k (omega (arith, le));
          long = long ∙ is.long;
        }

  -- ---- the run that ends where the part does

  pub part-slid : (place : ℕ) (words new : List ℕ) → AreObjectsSlid edition heads bits stays low old place words → length new ≡ length words
      → ((k : ℕ) → k < place → get_or new k 0 ≡ get_or words k 0)
      → (bit stays (low + length old) ≡ true → place < length old → IsFilled edition new (record { start = place; end = length old }))
      → (bit stays (low + length old) ≡ false → new ≡ words)
      → IsPartSlid edition heads bits stays low old new
  part-slid place words new is long before filled none = record {
    long = long ∙ is.long;
    objects = λ i le lt set. object-stays place (length old) words new is.fit before i le lt set (is.objects i le lt set);
    filled = λ i past le set some. elim (cases_lt i high) [
      | inl earlier ↦ run-stays place (length old) words new is.fit before i some (is.filled i past earlier set some)
      | inr last ↦
          let same : high ≡ i = omega (arith, le, last) in
          let begins : place ≡ ended i - low = omega (arith, is.at, ap ended same) in
          let stops : length old ≡ i - low = omega (arith, same) in
          let free : place < length old = omega (arith, begins, stops, some, is.at, ap ended same) in
          record {
            above = omega (arith, is.at, ap ended same);
            under = omega (arith, same);
            filled = subst (λ (n : ℕ). IsFilled edition new (record { start = ended i - low; end = n })) stops
                (subst (λ (n : ℕ). IsFilled edition new (record { start = n; end = length old })) begins (filled (ap (bit stays) same ∙ set) free));
          }
    ];
    behind = λ unset k le. ap (λ (xs : List ℕ). get_or xs k 0) (none unset) ∙ is.behind k (omega (arith, le, is.at));
  }
