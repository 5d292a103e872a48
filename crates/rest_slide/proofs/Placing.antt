-- Where live objects slide, by the indices of their words.
use Rattle.std.proofs.Common.{◌≡◌, ℕ, zero, suc, ◌+◌, ◌-◌, ◌^◌, ◌<◌, ◌≤◌, ◌==◌, ◌||◌, Bool, false, cond, leb, List, [], ◌∷◌, length, fold, get_or, take, map, inl, inr, refl, sym, ap, subst, ◌∙◌, arith}
use Rattle.std.proofs.lemmas.Bool.{cases_lt, cases_eq, lt-ltb, le-ltb, le-leb, lt-leb, ne_eqb}
use Rattle.std.proofs.lemmas.List.{length-map, take-take, get_or-map as read_map}
use Rattle.std.proofs.lemmas.List.Concat.{get_or-flat_map}
use Rattle.std.proofs.lemmas.List.FromFn.{length-range_with_len, get_or-range_with_len}
use Rattle.std.proofs.lemmas.List.Sums.{sum_by-take-le}
use Rattle.heap_layout.specs.declared.edition.Edition.{Edition}
use Rattle.heap_layout.specs.Bits.{bit, leads}
use Rattle.heap_layout.specs.Header.{size_of}
use Rattle.heap_layout.specs.Heap.{Heap, Object, header_at, object_at, live, is_target, is_value}
use Rattle.heap_layout.specs.Values.{is_immediate, or_immediate}
use Rattle.mark_tables.specs.MarkBitmap.{set_bits}
use Rattle.mark_tables.specs.LiveWords.{indices_of, live_indices, live_below}
use Rattle.page_plan.specs.Sliding.{size, live_words}
use Rattle.page_plan.proofs.Marks.{length-live}
use Rattle.page_plan.proofs.Objects.{live-at, live_words-next, live_words-all}
use Rattle.reachability.specs.Queue.{is_address}
use Rattle.rest_marks.specs.Looking.{kept_by}
use Rattle.rest_marks.specs.Places.{Found, found_in, led_by, led_words, owner, place_of, size_found, word_now, words_now}
use Rattle.rest_marks.specs.Reached.{IsSound}
use Rattle.rest_marks.specs.Surveys.{marks_of, told, AreTables}
use Rattle.rest_marks.proofs.BitsBelow.{mark-new_index}
use Rattle.rest_marks.proofs.Heads.{heads-lead, marks-above, marks-apart}

-- ---- the last mark that is not above an index

abbrev step : ℕ → ℕ → ℕ → ℕ
step i last mark = cond (leb mark i) mark last

owned-none : (marks : List ℕ) (last i : ℕ) → ((l : ℕ) → l < length marks → i < get_or marks l 0) → fold (step i) last marks ≡ last
owned-none [] last i above = refl
owned-none (mark ∷ marks) last i above =
    ap (λ (b : Bool). fold (step i) (cond b mark last) marks) (lt-leb mark i (above 0 (omega arith)))
    ∙ owned-none marks last i (λ l lt. above (suc l) (omega (arith, lt)))

owned-by : (marks : List ℕ) (last i k : ℕ) → k < length marks → ((l : ℕ) → l ≤ k → get_or marks l 0 ≤ i) → ((l : ℕ) → k < l → l < length marks → i < get_or marks l 0)
    → fold (step i) last marks ≡ get_or marks k 0
owned-by [] last i k lt below above = absurd (omega (arith, lt))
owned-by (mark ∷ marks) last i zero lt below above =
    ap (λ (b : Bool). fold (step i) (cond b mark last) marks) (le-leb mark i (below 0 (omega arith)))
    ∙ owned-none marks mark i (λ l within. above (suc l) (omega arith) (omega (arith, within)))
owned-by (mark ∷ marks) last i (suc k) lt below above =
    ap (λ (b : Bool). fold (step i) (cond b mark last) marks) (le-leb mark i (below 0 (omega arith)))
    ∙ owned-by marks mark i k (omega (arith, lt)) (λ l le. below (suc l) (omega (arith, le))) (λ l more within. above (suc l) (omega (arith, more)) (omega (arith, within)))

-- ---- a heap, and what is found of it

abbrev pub found_of : Heap → ℕ → Found
found_of heap room = record { edition = heap.edition; count = length heap.words; marks = heap.marks; indices = live_indices (live heap); room = room }

-- more objects have no fewer words
pub places-rise : (objects : List Object) (a b : ℕ) → a ≤ b → live_words (take a objects) ≤ live_words (take b objects)
places-rise objects a b le =
    let first = ap live_words (take-take a b objects le) in
    omega (arith, first, sum_by-take-le size (take b objects) a)

module _ (heap : Heap) (sound : IsSound heap) (room : ℕ) where
  abbrev mark : ℕ → ℕ
  mark k = get_or heap.marks k 0

  abbrev size_at : ℕ → ℕ
  size_at k = size_of (header_at heap.edition heap.words (mark k))

  abbrev starts : ℕ → ℕ
  starts k = live_words (take k (live heap))

  many : length (live heap) ≡ length heap.marks
  many = length-map heap.marks (object_at heap.edition heap.words)

  -- an object slides behind all objects before it
  pub place-is : (k : ℕ) → place_of (found_of heap room) k ≡ starts k
  place-is k =
      let below = live_below (live_indices (live heap)) (mark k) in
      let all = length (live_indices (live heap)) in
      elim (cases_lt k (length heap.marks)) [
        | inl lt ↦ ap (λ (b : Bool). cond b below all) (lt-ltb k (length heap.marks) lt) ∙ mark-new_index heap sound k lt (live_indices (live heap)) refl (mark k) refl
        | inr le ↦ ap (λ (b : Bool). cond b below all) (le-ltb k (length heap.marks) le) ∙ length-live (live heap) ∙ sym (live_words-all heap.edition heap.words heap.marks k le)
      ]

  pub starts-next : (k : ℕ) → k < length heap.marks → starts (k + 1) ≡ starts k + size_at k
  starts-next k lt = live_words-next heap.edition heap.words heap.marks k lt

  -- so its size is what was found
  pub size-is : (k : ℕ) → k < length heap.marks → size_found (found_of heap room) k ≡ size_at k
  size-is k lt = omega (arith, place-is k, place-is (k + 1), starts-next k lt)

  -- a live word slides to the place of its object
  pub index-is : (k f : ℕ) → k < length heap.marks → f < size_at k → get_or (live_indices (live heap)) (starts k + f) 0 ≡ mark k + f
  index-is k f lt inside =
      let objects = live heap in
      let first = object_at heap.edition heap.words 0 in
      let object = live-at heap.edition heap.words heap.marks k in
      ap (λ (n : ℕ). get_or (live_indices objects) (n + f) 0) (sym (length-live (take k objects)))
      ∙ get_or-flat_map indices_of objects k f first 0 (omega (arith, lt, many))
      (subst (λ (o : Object). f < length (indices_of o)) (sym object) (omega (arith, length-range_with_len (mark k) (size_at k), inside)))
      ∙ ap (λ (o : Object). get_or (indices_of o) f 0) object
      ∙ get_or-range_with_len (mark k) (size_at k) f 0 inside

  -- and belongs to it
  pub owner-is : (k f : ℕ) → k < length heap.marks → f < size_at k → owner heap.marks (mark k + f) ≡ mark k
  owner-is k f lt inside =
      owned-by heap.marks 0 (mark k + f) k lt
      (λ l le. elim (cases_lt l k) [
        | inl less ↦ (let rises = marks-above heap sound l k less lt in omega (arith, rises))
        | inr same ↦ (let e : l ≡ k = omega (arith, le, same) in omega (arith, ap mark e))
      ])
      (λ l more within. (let apart = marks-apart heap sound k l more within in omega (arith, apart, inside)))

  -- a slid word is that of its object
  pub word-is : (words : List ℕ) (k f : ℕ) → k < length heap.marks → f < size_at k
      → get_or (words_now (found_of heap room) words) (starts k + f) 0 ≡ get_or (led_words (led_by (found_of heap room)) (object_at heap.edition words (mark k))) f 0
  word-is words k f lt inside =
      let found = found_of heap room in
      let indices = live_indices (live heap) in
      let known : starts k + f < length indices = omega (arith, length-live (live heap), starts-next k lt, sum_by-take-le size (live heap) (k + 1), inside) in
      let back : mark k + f - mark k ≡ f = omega arith in
      read_map (word_now found words) indices (starts k + f) 0 0 known
      ∙ ap (word_now found words) (index-is k f lt inside)
      ∙ ap (λ (m : ℕ). get_or (led_words (led_by found) (object_at heap.edition words m)) (mark k + f - m) 0) (owner-is k f lt inside)
      ∙ ap (λ (n : ℕ). get_or (led_words (led_by found) (object_at heap.edition words (mark k))) n 0) back

-- ---- by the tables

-- where a word leads, by the bits
pub kept-led : (edition : Edition) (heads indices : List ℕ) (count room word : ℕ)
    → kept_by edition heads indices word ≡ led_by (record { edition = edition; count = count; marks = marks_of heads; indices = indices; room = room }) word
kept-led edition heads indices count room word =
    let to = 2 ^ 32 + live_below indices (word - 2 ^ 32) in
    let test = ap (λ (t : ℕ → Bool). t word) (heads-lead heads) in
    let inner : cond (is_address (bit heads) word) to 0 ≡ cond (word == 0) 0 (cond (is_target (marks_of heads) word) to 0) =
    elim (cases_eq word 0) [
      | inl null ↦
          let none : leb (2 ^ 32) word ≡ false = lt-leb (2 ^ 32) word (omega (arith, null)) in
          let unset : is_address (bit heads) word ≡ false = grind (arith, none) in
          ap (λ (b : Bool). cond b to 0) unset ∙ sym (ap (λ (w : ℕ). cond (w == 0) 0 (cond (is_target (marks_of heads) word) to 0)) null)
      | inr other ↦
          let plain = ne_eqb word 0 other in
          let same : is_address (bit heads) word ≡ is_target (marks_of heads) word = ap (λ (b : Bool). b || is_address (bit heads) word) (sym plain) ∙ test in
          ap (λ (b : Bool). cond b to 0) same ∙ sym (ap (λ (b : Bool). cond b 0 (cond (is_target (marks_of heads) word) to 0)) plain)
    ] in
    ap (λ (n : ℕ). cond (is_immediate edition word) word n) inner

-- what the tables say is found of any heap whose tables they are
pub found-same : (edition : Edition) (words heads bits counts : List ℕ) (count room : ℕ) → length words ≡ count → AreTables edition words heads bits counts
    → found_of (told edition words heads) room ≡ found_in edition count heads bits room
found-same edition words heads bits counts count room counted tables =
    ap (λ (n : ℕ). record { edition = edition; count = n; marks = marks_of heads; indices = live_indices (live (told edition words heads)); room = room }) counted
    ∙ ap (λ (xs : List ℕ). record { edition = edition; count = count; marks = marks_of heads; indices = xs; room = room }) (sym tables.indices)

-- ---- what is seen of tables that were lent

pub found-seen : (edition : Edition) (lent_heads heads lent_bits bits : List ℕ) (seen count room : ℕ) (found : Found) → seen ≡ count → lent_heads ≡ heads → lent_bits ≡ bits
    → found_in edition count heads bits room ≡ found → found_in edition seen lent_heads lent_bits room ≡ found
found-seen edition lent_heads heads lent_bits bits seen count room found counted same_heads same_bits view =
    ap (λ (n : ℕ). found_in edition n lent_heads lent_bits room) counted
    ∙ ap (λ (hs : List ℕ). found_in edition count hs lent_bits room) same_heads
    ∙ ap (λ (bs : List ℕ). found_in edition count heads bs room) same_bits ∙ view

pub value-found : (edition : Edition) (lent heads bits : List ℕ) (count room : ℕ) (found : Found) (word : ℕ) → lent ≡ heads → found_in edition count heads bits room ≡ found
    → or_immediate edition (leads lent) word ≡ is_value found.edition found.marks word
value-found edition lent heads bits count room found word same view =
    ap (λ (xs : List ℕ). or_immediate edition (leads xs) word) same
    ∙ ap (λ (test : ℕ → Bool). or_immediate edition test word) (heads-lead heads)
    ∙ ap (λ (f : Found). is_value f.edition f.marks word) view

led-all-by : (edition : Edition) (heads indices : List ℕ) (count room : ℕ) (xs : List ℕ)
    → map (kept_by edition heads indices) xs ≡ map (led_by (record { edition = edition; count = count; marks = marks_of heads; indices = indices; room = room })) xs
led-all-by edition heads indices count room [] = refl
led-all-by edition heads indices count room (x ∷ xs) =
    let led = led_by (record { edition = edition; count = count; marks = marks_of heads; indices = indices; room = room }) in
    ap (λ (y : ℕ). y ∷ map (kept_by edition heads indices) xs) (kept-led edition heads indices count room x)
    ∙ ap (λ (ys : List ℕ). led x ∷ ys) (led-all-by edition heads indices count room xs)

pub led-seen : (edition : Edition) (lent_heads heads lent_bits bits : List ℕ) (count room : ℕ) (found : Found) (xs : List ℕ) → lent_heads ≡ heads → lent_bits ≡ bits
    → found_in edition count heads bits room ≡ found → map (kept_by edition lent_heads (set_bits lent_bits)) xs ≡ map (led_by found) xs
led-seen edition lent_heads heads lent_bits bits count room found xs same_heads same_bits view =
    ap (λ (hs : List ℕ). map (kept_by edition hs (set_bits lent_bits)) xs) same_heads
    ∙ ap (λ (bs : List ℕ). map (kept_by edition heads (set_bits bs)) xs) same_bits
    ∙ led-all-by edition heads (set_bits bits) count room xs
    ∙ ap (λ (f : Found). map (led_by f) xs) view
