-- The list of the runs of free words.
use Rattle.std.proofs.Common.{◌≡◌, ℕ, zero, suc, ◌+◌, ◌-◌, ◌*◌, ◌<◌, ◌≤◌, ◌==◌, Bool, true, false, cond, List, [], ◌∷◌, ◌++◌, length, get_or, take, inl, inr, refl, sym, ap, ◌∙◌, arith, append_assoc}
use Rattle.std.proofs.lemmas.Bool.{cases_lt, eq-eqb, ne_eqb}
use Rattle.std.proofs.lemmas.List.{append-nil, length-map, take_all}
use Rattle.heap_layout.specs.declared.edition.Edition.{Edition}
use Rattle.heap_layout.specs.Bits.{bit}
use Rattle.heap_layout.specs.Header.{size_of}
use Rattle.heap_layout.specs.Heap.{Object, header_at, object_at, live}
use Rattle.mark_tables.specs.LiveWords.{size}
use Rattle.rest_marks.specs.Surveys.{marks_of, told, AreTables}
use Rattle.rest_marks.proofs.Heads.{marks-above}
use Rattle.pinned_heap.specs.Around.{end_from, runs_from}
use Rattle.pinned_heap.specs.Listing.{run_to, runs_below}
use Rattle.pinned_heap.specs.Tables.{end_below}
use Rattle.pinned_heap.specs.declared.run.Run.{Run}
use Rattle.pinned_heap.proofs.Linking.{ahead, between, end-inside, link-end, object-is, still}

-- among n words none of which stays there is no end of a run
pub runs-gap : (live staying : ℕ → Bool) (a n : ℕ) → ((j : ℕ) → a ≤ j → j < a + n → staying j ≡ false) → runs_below live staying (a + n) ≡ runs_below live staying a
runs-gap live staying a zero none = let e : a + 0 ≡ a = omega arith in ap (runs_below live staying) e
runs-gap live staying a (suc n) none =
    let e : a + suc n ≡ suc (a + n) = omega arith in
    ap (runs_below live staying) e
    ∙ ap (λ (b : Bool). runs_below live staying (a + n) ++ cond b (run_to live staying (a + n)) []) (none (a + n) (omega arith) (omega arith))
    ∙ append-nil (runs_below live staying (a + n))
    ∙ runs-gap live staying a n (λ j le lt. none j le (omega (arith, lt)))

-- up to a later index
pub runs-up : (live staying : ℕ → Bool) (a b : ℕ) → a ≤ b → ((j : ℕ) → a ≤ j → j < b → staying j ≡ false) → runs_below live staying b ≡ runs_below live staying a
runs-up live staying a b le none =
    let whole : a + (b - a) ≡ b = omega (arith, le) in
    ap (runs_below live staying) (sym whole) ∙ runs-gap live staying a (b - a) (λ j from lt. none j from (omega (arith, lt, whole)))

-- a word that stays: a run ends there
pub runs-some : (live staying : ℕ → Bool) (end start : ℕ) → staying end ≡ true → start ≡ end_below live staying end → start < end
    → runs_below live staying (end + 1) ≡ runs_below live staying end ++ record { start = start; end = end } ∷ []
runs-some live staying end start stays at lt =
    let e : end + 1 ≡ suc end = omega arith in
    let other : (end_below live staying end == end) ≡ false = ne_eqb (end_below live staying end) end (λ same. omega (arith, same, at, lt)) in
    ap (runs_below live staying) e
    ∙ ap (λ (b : Bool). runs_below live staying end ++ cond b (run_to live staying end) []) stays
    ∙ ap (λ (b : Bool). runs_below live staying end ++ cond b [] (record { start = end_below live staying end; end = end } ∷ [])) other
    ∙ ap (λ (n : ℕ). runs_below live staying end ++ record { start = n; end = end } ∷ []) (sym at)

-- or none, if there are no free words before it
pub runs-none : (live staying : ℕ → Bool) (end : ℕ) → staying end ≡ true → end_below live staying end ≡ end → runs_below live staying (end + 1) ≡ runs_below live staying end
runs-none live staying end stays at =
    let e : end + 1 ≡ suc end = omega arith in
    ap (runs_below live staying) e
    ∙ ap (λ (b : Bool). runs_below live staying end ++ cond b (run_to live staying end) []) stays
    ∙ ap (λ (b : Bool). runs_below live staying end ++ cond b [] (record { start = end_below live staying end; end = end } ∷ [])) (eq-eqb (end_below live staying end) end at)
    ∙ append-nil (runs_below live staying end)

-- ---- of objects

-- the run before an object, if the words up to `next` are taken
abbrev run_at : (ℕ → Bool) → ℕ → Object → List Run
run_at staying next object =
    let start = cond (staying object.index) object.index next in
    cond (next == start) [] (record { start = next; end = start } ∷ [])

runs-cons : (staying : ℕ → Bool) (next : ℕ) (object : Object) (objects : List Object)
    → runs_from staying next (object ∷ objects) ≡ run_at staying next object ++ runs_from staying (cond (staying object.index) object.index next + size object) objects
runs-cons staying next object objects =
    let start = cond (staying object.index) object.index next in
    let rest = runs_from staying (start + size object) objects in
    let run : Run = record { start = next; end = start } in
    elim (next == start) as (λ b. cond b rest (run ∷ rest) ≡ cond b [] (run ∷ []) ++ rest) [ true ↦ refl | false ↦ refl ]

-- one object more
runs-more : (staying : ℕ → Bool) (next : ℕ) (objects : List Object) (k : ℕ) (d : Object) → k < length objects
    → runs_from staying next (take (k + 1) objects) ≡ runs_from staying next (take k objects) ++ run_at staying (end_from staying next (take k objects)) (get_or objects k d)
runs-more staying next [] k d lt = absurd (omega (arith, lt))
runs-more staying next (object ∷ objects) zero d lt = runs-cons staying next object [] ∙ append-nil (run_at staying next object)
runs-more staying next (object ∷ objects) (suc k) d lt =
    let one : suc k + 1 ≡ suc (k + 1) = omega arith in
    let after = cond (staying object.index) object.index next + size object in
    let rest = runs-more staying after objects k d (omega (arith, lt)) in
    let before = take k objects in
    ap (λ (n : ℕ). runs_from staying next (take n (object ∷ objects))) one
    ∙ runs-cons staying next object (take (k + 1) objects)
    ∙ ap (λ (xs : List Run). run_at staying next object ++ xs) rest
    ∙ sym (append_assoc (run_at staying next object) (runs_from staying after before) (run_at staying (end_from staying after before) (get_or objects k d)))
    ∙ ap (λ (xs : List Run). xs ++ run_at staying (end_from staying after before) (get_or objects k d)) (sym (runs-cons staying next object before))

-- the run before a word, by the tables and by the list of the objects
abbrev run_between : ℕ → ℕ → List Run
run_between start end = cond (start == end) [] (record { start = start; end = end } ∷ [])

abbrev run_within : Bool → ℕ → ℕ → List Run
run_within stays start end = cond stays (run_between start end) []

run-same : (stays : Bool) (end at : ℕ) → run_within stays end at ≡ run_between end (cond stays at end)
run-same true end at = refl
run-same false end at = let run : Run = record { start = end; end = end } in sym (ap (λ (b : Bool). cond b [] (run ∷ [])) (eq-eqb end end refl))

module _ (edition : Edition) (words heads bits counts stays : List ℕ) (tables : AreTables edition words heads bits counts)
    (objects-stay : (i : ℕ) → bit stays i ≡ true → bit heads i ≡ true) where
  abbrev objects : List Object
  objects = live (told edition words heads)

  abbrev mark : ℕ → ℕ
  mark k = get_or (marks_of heads) k 0

  abbrev size_at : ℕ → ℕ
  size_at k = size_of (header_at edition words (mark k))

  abbrev listed : ℕ → List Run
  listed i = runs_below (bit bits) (bit stays) i

  abbrev first : Object
  first = object_at edition words 0

  many : length objects ≡ length (marks_of heads)
  many = length-map (marks_of heads) (object_at edition words)

  -- behind the first word of an object
  behind : (k : ℕ) → k < length (marks_of heads) → listed (mark k) ≡ runs_from (bit stays) 0 (take k objects)
      → listed (suc (mark k)) ≡ runs_from (bit stays) 0 (take (k + 1) objects)
  behind k known before =
      let end = end_below (bit bits) (bit stays) (mark k) in
      let at = link-end edition words heads bits counts stays tables objects-stay k known in
      let object = object-is edition words heads bits counts stays tables objects-stay k in
      let more = runs-more (bit stays) 0 objects k first (omega (arith, known, many)) in
      ap (λ (xs : List Run). xs ++ cond (bit stays (mark k)) (run_to (bit bits) (bit stays) (mark k)) []) before
      ∙ ap (λ (xs : List Run). runs_from (bit stays) 0 (take k objects) ++ xs) (run-same (bit stays (mark k)) end (mark k))
      ∙ ap (λ (n : ℕ). runs_from (bit stays) 0 (take k objects) ++ run_at (bit stays) n (object_at edition words (mark k))) at
      ∙ ap (λ (o : Object). runs_from (bit stays) 0 (take k objects) ++ run_at (bit stays) (end_from (bit stays) 0 (take k objects)) o) (sym object)
      ∙ sym more

  -- no word stays behind that and before the next object
  quiet : (k j : ℕ) → k < length (marks_of heads) → suc (mark k) ≤ j → (suc k < length (marks_of heads) → j < mark (suc k)) → bit stays j ≡ false
  quiet k j known above next = elim (cases_lt j (mark k + size_at k)) [
    | inl inside ↦ still edition words heads bits counts stays tables objects-stay k j known (omega (arith, above)) inside
    | inr past ↦ (between edition words heads bits counts stays tables objects-stay k j known past next).1
  ]

  -- the runs before an object
  runs-at : (k : ℕ) → k < length (marks_of heads) → listed (mark k) ≡ runs_from (bit stays) 0 (take k objects)
  runs-at zero known = runs-up (bit bits) (bit stays) 0 (mark 0) (omega arith) (λ j le lt. (ahead edition words heads bits counts stays tables objects-stay j (λ some. omega (arith, lt))).1)
  runs-at (suc k) known =
      let low : k < length (marks_of heads) = omega (arith, known) in
      let one : k + 1 ≡ suc k = omega arith in
      let rise = marks-above (told edition words heads) tables.sound k (suc k) (omega arith) known in
      runs-up (bit bits) (bit stays) (suc (mark k)) (mark (suc k)) (omega (arith, rise)) (λ j le lt. quiet k j low le (λ more. omega (arith, lt)))
      ∙ behind k low (runs-at k low)
      ∙ ap (λ (n : ℕ). runs_from (bit stays) 0 (take n objects)) one

  runs-by : (n : ℕ) → length (marks_of heads) ≡ n → listed (64 * length bits) ≡ runs_from (bit stays) 0 objects
  runs-by zero none =
      let all : take 0 objects ≡ objects = take_all 0 objects (omega (arith, none, many)) in
      runs-up (bit bits) (bit stays) 0 (64 * length bits) (omega arith) (λ j le lt. (ahead edition words heads bits counts stays tables objects-stay j (λ some. absurd (omega (arith, some, none)))).1)
      ∙ ap (runs_from (bit stays) 0) all
  runs-by (suc k) count =
      let known : k < length (marks_of heads) = omega (arith, count) in
      let inside = end-inside edition words heads bits counts stays tables objects-stay k known in
      let all : take (k + 1) objects ≡ objects = take_all (k + 1) objects (omega (arith, count, many)) in
      runs-up (bit bits) (bit stays) (suc (mark k)) (64 * length bits) (omega (arith, inside)) (λ j le lt. quiet k j known le (λ more. absurd (omega (arith, more, count))))
      ∙ behind k known (runs-at k known)
      ∙ ap (runs_from (bit stays) 0) all

  -- all runs
  pub link-runs : runs_below (bit bits) (bit stays) (64 * length bits) ≡ runs_from (bit stays) 0 (live (told edition words heads))
  link-runs = runs-by (length (marks_of heads)) refl
