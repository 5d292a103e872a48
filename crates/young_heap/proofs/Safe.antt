-- The slide above the old objects stays within the words, whatever these are.
use Rattle.std.proofs.Common.{◌≡◌, ℕ, ◌+◌, ◌-◌, ◌*◌, ◌^◌, ◌<◌, ◌≤◌, ◌==◌, ◌||◌, true, false, leb, ltb, min, List, length, get_or, take, drop, inl, inr, sym, ap, subst, ◌∙◌, arith, length-append, length-drop}
use Rattle.std.proofs.lemmas.Bool.{both_ways, cases_Bool, cases_lt, cases_order, or_cases, and_parts, ltb-true, eqb-true}
use Rattle.std.proofs.lemmas.List.{get_or-take, get_or-drop, length-take-le}
use Rattle.std.proofs.lemmas.List.FromFn.{length-range_with_len}
use Rattle.std.specs.List.{range_with_len}
use Rattle.heap_layout.specs.declared.edition.Edition.{Edition}
use Rattle.heap_layout.specs.Bits.{bit}
use Rattle.heap_layout.specs.Header.{header_of, refs_of, size_of}
use Rattle.heap_layout.specs.Heap.{header_at, object_at}
use Rattle.heap_layout.specs.Values.{is_immediate}
use Rattle.mark_tables.specs.MarkBitmap.{passing, set_bits, AreOffsets}
use Rattle.mark_tables.specs.LiveWords.{live_below}
use Rattle.mark_tables.proofs.NewPlaces.{below-all}
use Rattle.mark_tables.proofs.Passing.{passing-all, passing-below, passing-few, passing-gap}
use Rattle.reachability.specs.Queue.{has, is_address}
use Rattle.reachability.proofs.Queues.{place-of}
use Rattle.rest_marks.specs.Reached.{IsWordOf}
use Rattle.rest_marks.proofs.Counts.{passing-more}
use Rattle.young_heap.specs.Young.{is_led, may_lead, AreFieldsBelow, AreYoungTables, IsDoneAbove}
use Rattle.young_heap.proofs.Staying.{ones-below}

-- how many bits are set below a bit
counted : (bits : List ℕ) (i : ℕ) → i ≤ 64 * length bits → live_below (set_bits bits) i ≡ length (passing (bit bits) i)
counted bits i within =
    let least : min i (64 * length bits) ≡ i = omega (arith, within) in
    passing-below (bit bits) (64 * length bits) i ∙ ap (λ (n : ℕ). length (passing (bit bits) n)) least

-- as many below another bit, if none is set between them
counted-gap : (bits : List ℕ) (a b : ℕ) → a ≤ b → b ≤ 64 * length bits → ((j : ℕ) → a ≤ j → j < b → bit bits j ≡ false)
    → live_below (set_bits bits) b ≡ live_below (set_bits bits) a
counted-gap bits a b le within none =
    let k = b - a in
    let at : a + k ≡ b = omega (arith, le) in
    let gap : length (passing (bit bits) b) ≡ length (passing (bit bits) a) =
    ap (λ (n : ℕ). length (passing (bit bits) n)) (sym at) ∙ ap length (passing-gap (bit bits) a k (λ j from lt. none j from (omega (arith, lt, at)))) in
    counted bits b within ∙ gap ∙ sym (counted bits a (omega (arith, le, within)))

-- and more by as many as are set there, if all are
pub counted-run : (bits : List ℕ) (a k : ℕ) → a + k ≤ 64 * length bits → ((j : ℕ) → a ≤ j → j < a + k → bit bits j ≡ true)
    → live_below (set_bits bits) (a + k) ≡ live_below (set_bits bits) a + k
counted-run bits a k within all =
    let run = ap length (passing-all (bit bits) a k all) in
    let both = length-append (passing (bit bits) a) (range_with_len a k) in
    omega (arith, counted bits (a + k) within, run, both, length-range_with_len a k, counted bits a (omega (arith, within)))

-- how many bits are set, if all below are, and none behind the words
pub live-between : (bits : List ℕ) (old count live : ℕ) → old ≤ count → count ≤ 64 * length bits → ((j : ℕ) → j < old → bit bits j ≡ true)
    → ((j : ℕ) → old ≤ j → bit bits j ≡ true → j < count) → live ≡ length (passing (bit bits) (64 * length bits)) → (old ≤ live) × (live ≤ count)
live-between bits old count live within room ones inside counted_is =
    let all = 64 * length bits in
    let k = all - count in
    let m = count - old in
    let end : count + k ≡ all = omega (arith, room) in
    let middle : old + m ≡ count = omega (arith, within) in
    let none : (j : ℕ) → count ≤ j → j < count + k → bit bits j ≡ false = λ j from lt. elim (cases_Bool (bit bits j)) [
      | inr unset ↦ unset
      | inl set ↦ absurd (let low = inside j (omega (arith, from, within)) set in omega (arith, low, from))
    ] in
    let same : length (passing (bit bits) all) ≡ length (passing (bit bits) count) =
    ap (λ (n : ℕ). length (passing (bit bits) n)) (sym end) ∙ ap length (passing-gap (bit bits) count k none) in
    let few = passing-few (bit bits) count in
    let first = ones-below (bit bits) old ones in
    let more = passing-more (bit bits) old m in
    let at = ap (λ (n : ℕ). length (passing (bit bits) n)) middle in
    (omega (arith, counted_is, same, first, more, at), omega (arith, counted_is, same, few))

-- where a word that is led is looked up
pub led-known : (edition : Edition) (starts : List ℕ) (old count n word : ℕ) → is_led edition starts old count word ≡ true → count ≤ 64 * n → 0 < n
    → is_immediate edition word ≡ false → word - 2 ^ 32 < 64 * n
led-known edition starts old count n word led room some plain =
    elim (or_cases (is_immediate edition word) ((word == 0) || is_address (may_lead starts old count) word) led) [
      | inl immediate ↦ absurd (both_ways (is_immediate edition word) plain immediate)
      | inr other ↦ elim (or_cases (word == 0) (is_address (may_lead starts old count) word) other) [
        | inl null ↦ (let zero_word = eqb-true word 0 null in omega (arith, zero_word, some))
        | inr address ↦
            let i = word - 2 ^ 32 in
            let parts = and_parts (leb (2 ^ 32) word) (may_lead starts old count i) address in
            let at = and_parts (ltb i count) (leb old i || bit starts i) parts.1 in
            omega (arith, ltb-true i count at.0, room)
      ]
    ]

-- Between two objects: the objects above that start before index `next` end there, and as many words are slid as are
-- live below it. From index `place` on the words are as they were.
pub record IsAt (edition : Edition) (before : List ℕ) (old : ℕ) (heads bits : List ℕ) (place next : ℕ) (words : List ℕ) : Type 0 where
  pub above : old ≤ next
  pub up : old ≤ place
  pub inside : next ≤ length before
  pub at : place ≡ live_below (set_bits bits) next
  pub ends : (i : ℕ) → old ≤ i → bit heads i ≡ true → i < next → i + size_of (header_at edition before i) ≤ next
  pub rest : (k : ℕ) → place ≤ k → get_or words k 0 ≡ get_or before k 0
  pub long : length words ≡ length before

-- the next object, which does not move up
pub record IsSafe (edition : Edition) (old : ℕ) (heads bits : List ℕ) (place : ℕ) (words : List ℕ) (start : ℕ) : Type 0 where
  pub head : bit heads start ≡ true
  pub above : old ≤ start
  pub down : place ≤ start
  pub at : place ≡ live_below (set_bits bits) start
  pub within : start + size_of (header_at edition words start) ≤ length words
  pub known : (k : ℕ) → k < refs_of (header_at edition words start) → is_immediate edition (get_or words (start + 1 + k) 0) ≡ false
      → get_or words (start + 1 + k) 0 - 2 ^ 32 < 64 * length bits

-- no field is above
pub no-field-above : (old : ℕ) (fields : List ℕ) → AreFieldsBelow old fields → (k : ℕ) → old ≤ k → has fields k ≡ false
no-field-above old fields are k above = elim (cases_Bool (has fields k)) [
  | inr none ↦ none
  | inl there ↦ absurd (
      let at = place-of fields k there in
      let low = are.below at.0 0 at.1 in
      omega (arith, low, at.2, above))
]

-- the references of an object above that was marked
pub young-led : (edition : Edition) (starts : List ℕ) (old : ℕ) (words bits : List ℕ) (i f : ℕ) → IsDoneAbove edition starts old words bits i → 1 ≤ f
    → f ≤ refs_of (header_at edition words i) → is_led edition starts old (length words) (get_or words (i + f) 0) ≡ true
young-led edition starts old words bits i f done positive few =
    let refs = refs_of (header_at edition words i) in
    let k = f - 1 in
    let behind = drop (i + 1) words in
    let fits = done.placed.within in
    let long : length (take refs behind) ≡ refs = length-take-le refs behind (omega (arith, length-drop (i + 1) words, fits)) in
    let inside : k < length (object_at edition words i).references = omega (arith, long, positive, few) in
    let place : i + 1 + k ≡ i + f = omega (arith, positive) in
    let word : get_or (object_at edition words i).references k 0 ≡ get_or words (i + f) 0 =
    get_or-take refs behind k 0 (omega (arith, positive, few)) ∙ get_or-drop (i + 1) words k 0 ∙ ap (λ (n : ℕ). get_or words n 0) place in
    subst (λ (w : ℕ). is_led edition starts old (length words) w ≡ true) word (done.references k inside)

-- what marking leaves, whatever the words below are
pub young-marked : (edition : Edition) (words starts : List ℕ) (old : ℕ) (heads bits counts : List ℕ) → old ≤ length words → length words ≤ 2 ^ 31
    → ((i : ℕ) → old ≤ i → bit heads i ≡ true → IsDoneAbove edition starts old words bits i)
    → ((j : ℕ) → old ≤ j → bit bits j ≡ true → (i : ℕ) × (old ≤ i) × (bit heads i ≡ true) × IsWordOf edition words i j)
    → ((i j : ℕ) → old ≤ i → bit heads i ≡ true → bit heads j ≡ true → i < j → i + size_of (header_at edition words i) ≤ j)
    → ((j : ℕ) → j < old → bit bits j ≡ true) → AreOffsets bits counts → length heads ≡ length bits → length words ≤ 64 * length bits
    → AreYoungTables edition words old heads bits counts
young-marked edition words starts old heads bits counts within few done only apart ones offsets same room = record {
  within = within;
  few = few;
  placed = λ i up set. (done i up set).placed;
  led = λ i f up set from to.
      let is = done i up set in
      let fits = is.placed.within in
      led-known edition starts old (length words) (length bits) (get_or words (i + f) 0) (young-led edition starts old words bits i f is from to) room (omega (arith, fits, room));
  run = λ i j up set of. (done i up set).run j of;
  only = only;
  apart = apart;
  ones = ones;
  offsets = offsets;
  same = same;
  room = room;
}

module _ (edition : Edition) (before : List ℕ) (old : ℕ) (heads bits counts : List ℕ) (tables : AreYoungTables edition before old heads bits counts) where
  abbrev below : ℕ → ℕ
  below i = live_below (set_bits bits) i

  -- at first
  pub at-first : (words : List ℕ) → ((k : ℕ) → old ≤ k → get_or words k 0 ≡ get_or before k 0) → length words ≡ length before → IsAt edition before old heads bits old old words
  at-first words rest long = record {
    above = omega arith;
    up = omega arith;
    inside = tables.within;
    at = sym (counted bits old (omega (arith, tables.within, tables.room)) ∙ ones-below (bit bits) old tables.ones);
    ends = λ i from set lt. absurd (omega (arith, from, lt));
    rest = rest;
    long = long;
  }

  -- no live word is before the next object
  none-between : (place next : ℕ) (words : List ℕ) → IsAt edition before old heads bits place next words → (start : ℕ) → ((j : ℕ) → next ≤ j → j < start → bit heads j ≡ false)
      → (j : ℕ) → next ≤ j → j < start → bit bits j ≡ false
  none-between place next words is start none j from lt = elim (cases_Bool (bit bits j)) [
    | inr unset ↦ unset
    | inl set ↦ absurd (
        let at = tables.only j (omega (arith, is.above, from)) set in
        let i = at.0 in
        elim (cases_lt i next) [
          | inl earlier ↦ (let ends = is.ends i at.1 at.2 earlier in omega (arith, ends, at.3.1, from))
          | inr later ↦ both_ways (bit heads i) (none i later (omega (arith, at.3.0, lt))) at.2
        ])
  ]

  -- words are left to slide, so index `next` is one of a word
  pub next-inside : (place next : ℕ) (words : List ℕ) → IsAt edition before old heads bits place next words → place < length (set_bits bits) → next < 64 * length bits
  next-inside place next words is lt = elim (cases_lt next (64 * length bits)) [
    | inl inside ↦ inside
    | inr past ↦ absurd (omega (arith, below-all bits next past, is.at, lt))
  ]

  pub safe-next : (place next : ℕ) (words : List ℕ) → IsAt edition before old heads bits place next words → place < length (set_bits bits) → (start : ℕ) → next ≤ start
      → ((j : ℕ) → next ≤ j → j < start → bit heads j ≡ false) → (start < 64 * length heads → bit heads start ≡ true) → IsSafe edition old heads bits place words start
  safe-next place next words is lt start from none here =
      let gap = none-between place next words is start none in
      let all = 64 * length bits in
      let inside : start < all = elim (cases_lt start all) [
        | inl less ↦ less
        | inr past ↦ absurd (
            let same = counted-gap bits next all (omega (arith, next-inside place next words is lt)) (omega arith) (λ j low high. gap j low (omega (arith, high, past))) in
            omega (arith, same, below-all bits all (omega arith), is.at, lt))
      ] in
      let set = here (omega (arith, inside, tables.same)) in
      let up : old ≤ start = omega (arith, is.above, from) in
      let placed = tables.placed start up set in
      let same = counted-gap bits next start from (omega (arith, inside)) gap in
      let at : place ≡ below start = is.at ∙ sym same in
      let few = passing-few (bit bits) start in
      let down : place ≤ start = omega (arith, at, counted bits start (omega (arith, inside)), few) in
      let header = is.rest start down in
      record {
        head = set;
        above = up;
        down = down;
        at = at;
        within = omega (arith, placed.within, is.long, ap (λ (w : ℕ). size_of (header_of edition w)) header);
        known = λ k lower.
            let few_refs : 1 + k ≤ refs_of (header_at edition before start) = omega (arith, lower, ap (λ (w : ℕ). refs_of (header_of edition w)) header) in
            let sum : start + 1 + k ≡ start + (1 + k) = omega arith in
            let word : get_or words (start + 1 + k) 0 ≡ get_or before (start + (1 + k)) 0 =
            is.rest (start + 1 + k) (omega (arith, down)) ∙ ap (λ (n : ℕ). get_or before n 0) sum in
            subst (λ (w : ℕ). is_immediate edition w ≡ false → w - 2 ^ 32 < 64 * length bits) (sym word) (tables.led start (1 + k) up set (omega arith) few_refs);
      }

  -- one object more
  pub at-next : (place next : ℕ) (words : List ℕ) → IsAt edition before old heads bits place next words → (start size : ℕ) (new : List ℕ) → IsSafe edition old heads bits place words start → next ≤ start
      → ((j : ℕ) → next ≤ j → j < start → bit heads j ≡ false) → size ≡ size_of (header_at edition words start)
      → ((k : ℕ) → place + size ≤ k → get_or new k 0 ≡ get_or words k 0) → length new ≡ length words → IsAt edition before old heads bits (place + size) (start + size) new
  at-next place next words is start size new safe from none sized behind long =
      let header = is.rest start safe.down in
      let size_was : size ≡ size_of (header_at edition before start) = sized ∙ ap (λ (w : ℕ). size_of (header_of edition w)) header in
      let placed = tables.placed start safe.above safe.head in
      let ends : start + size ≤ 64 * length bits = omega (arith, placed.within, size_was, tables.room) in
      let run = counted-run bits start size ends (λ j low high. tables.run start j safe.above safe.head (low, omega (arith, high, size_was))) in
      record {
        above = omega (arith, safe.above);
        up = omega (arith, is.up);
        inside = omega (arith, placed.within, size_was);
        at = omega (arith, run, safe.at);
        ends = λ i up set lt. elim (cases_order i start) [
          | inl same ↦ (let own = ap (λ (n : ℕ). size_of (header_at edition before n)) same in omega (arith, same, own, size_was))
          | inr (inl less) ↦ elim (cases_lt i next) [
            | inl earlier ↦ (let done = is.ends i up set earlier in omega (arith, done, from))
            | inr later ↦ absurd (both_ways (bit heads i) (none i later less) set)
          ]
          | inr (inr more) ↦ absurd (let apart = tables.apart start i safe.above safe.head set more in omega (arith, apart, size_was, lt))
        ];
        rest = λ k le. behind k le ∙ is.rest k (omega (arith, le));
        long = long ∙ is.long;
      }
