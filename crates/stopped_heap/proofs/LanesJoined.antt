-- Lanes that give objects, take them, and are joined.
use Rattle.std.proofs.Common.{◌≡◌, ℕ, ◌+◌, ◌-◌, ◌^◌, ◌<◌, ◌≤◌, ◌==◌, ◌||◌, Bool, true, false, cond, leb, List, [], ◌∷◌, ◌++◌, length, get_or, take, drop, append_assoc, inl, inr, refl, sym, ap, subst, ◌∙◌, arith, length-append, length-take, length-drop}
use Rattle.std.specs.List.{IsDistinct}
use Rattle.std.proofs.lemmas.Bool.{both_ways, cases_Bool, cases_eq, cases_lt, eq-eqb, ne_eqb, or_cases, or_left, or_right, and_parts, and_from}
use Rattle.std.proofs.lemmas.List.{get_or_append_left, get_or-append_right, get_or_default, get_or-take, get_or-drop, take-append-drop, drop_more}
use Rattle.std.proofs.lemmas.List.Folds.{list_any-append}
use Rattle.std.proofs.lemmas.Map.Keys.{apart_from_distinct, IsDistinct-from_apart}
use Rattle.heap_layout.specs.declared.edition.Edition.{Edition}
use Rattle.heap_layout.specs.Bits.{bit, leads}
use Rattle.heap_layout.specs.Heap.{object_at}
use Rattle.heap_layout.specs.Values.{is_immediate}
use Rattle.reachability.specs.Queue.{has, is_address}
use Rattle.reachability.proofs.Queues.{has-at, place-of}
use Rattle.rest_marks.specs.LaneParts.{joined_met, met_at, with_one, AreBoth, AreDisjoint}
use Rattle.rest_marks.specs.Looks.{AreLookedAt}
use Rattle.rest_marks.specs.Marks.{AllKept}
use Rattle.rest_marks.specs.Meeting.{AreMet, AreOnce, IsDone}
use Rattle.rest_marks.specs.Reached.{IsWordOf}

-- ---- what a queue has

has-both : (xs ys : List ℕ) (i : ℕ) → has (xs ++ ys) i ≡ (has xs i || has ys i)
has-both xs ys i = list_any-append (λ j. i == j) xs ys

pub has-split : (n : ℕ) (xs : List ℕ) (i : ℕ) → has xs i ≡ (has (take n xs) i || has (drop n xs) i)
has-split n xs i = ap (λ (ys : List ℕ). has ys i) (sym (take-append-drop n xs)) ∙ has-both (take n xs) (drop n xs) i

in-take : (n : ℕ) (xs : List ℕ) (i : ℕ) → has (take n xs) i ≡ true → has xs i ≡ true
in-take n xs i there = has-split n xs i ∙ or_left (has (take n xs) i) (has (drop n xs) i) there

in-drop : (n : ℕ) (xs : List ℕ) (i : ℕ) → has (drop n xs) i ≡ true → has xs i ≡ true
in-drop n xs i there = has-split n xs i ∙ or_right (has (take n xs) i) (has (drop n xs) i) there

apart-at : (xs : List ℕ) (k l : ℕ) → IsDistinct (λ i j. i == j) xs → k < l → l < length xs → get_or xs k 0 ≡ get_or xs l 0 → ⊥
apart-at xs k l once lt within same =
    both_ways (get_or xs k 0 == get_or xs l 0) (apart_from_distinct (λ i j. i == j) xs k l 0 once lt within) (eq-eqb (get_or xs k 0) (get_or xs l 0) same)

distinct-from : (xs : List ℕ) → ((k l : ℕ) → k < l → l < length xs → get_or xs k 0 ≡ get_or xs l 0 → ⊥) → IsDistinct (λ i j. i == j) xs
distinct-from xs all = IsDistinct-from_apart (λ i j. i == j) xs (λ k l d lt within.
    ne_eqb (get_or xs k d) (get_or xs l d) (λ same.
    let below : k < length xs = omega (arith, lt, within) in
    all k l lt within (get_or_default xs k 0 d below ∙ same ∙ sym (get_or_default xs l 0 d within))))

-- different objects of two queues that share none
once-append : (count : ℕ) (xs ys : List ℕ) → AreOnce count xs → AreOnce count ys → ((i : ℕ) → has xs i ≡ true → has ys i ≡ true → ⊥) → AreOnce count (xs ++ ys)
once-append count xs ys one two apart = record {
  once = distinct-from (xs ++ ys) (λ k l lt within same.
      let long = length-append xs ys in
      elim (cases_lt l (length xs)) [
        | inl near ↦
            let near_too : k < length xs = omega (arith, lt, near) in
            apart-at xs k l one.once lt near (sym (get_or_append_left xs ys 0 k near_too) ∙ same ∙ get_or_append_left xs ys 0 l near)
        | inr far ↦
            let at_l : get_or (xs ++ ys) l 0 ≡ get_or ys (l - length xs) 0 = get_or-append_right xs ys (length xs) l 0 refl far in
            let inside : l - length xs < length ys = omega (arith, within, long, far) in
            elim (cases_lt k (length xs)) [
              | inl near ↦
                  let is : get_or ys (l - length xs) 0 ≡ get_or xs k 0 = sym at_l ∙ sym same ∙ get_or_append_left xs ys 0 k near in
                  apart (get_or xs k 0) (has-at xs k near) (subst (λ (i : ℕ). has ys i ≡ true) is (has-at ys (l - length xs) inside))
              | inr far_too ↦
                  let at_k : get_or (xs ++ ys) k 0 ≡ get_or ys (k - length xs) 0 = get_or-append_right xs ys (length xs) k 0 refl far_too in
                  apart-at ys (k - length xs) (l - length xs) two.once (omega (arith, lt, far_too)) inside (sym at_k ∙ same ∙ at_l)
            ]
      ]);
  within = λ i there. elim (or_cases (has xs i) (has ys i) (sym (has-both xs ys i) ∙ there)) [
    | inl first ↦ one.within i first
    | inr second ↦ two.within i second
  ];
}

pub once-take : (count n : ℕ) (xs : List ℕ) → AreOnce count xs → AreOnce count (take n xs)
once-take count n xs are = record {
  once = distinct-from (take n xs) (λ k l lt within same.
      let long = length-take n xs in
      let low : k < n = omega (arith, lt, within, long) in
      let high : l < n = omega (arith, within, long) in
      apart-at xs k l are.once lt (omega (arith, within, long)) (sym (get_or-take n xs k 0 low) ∙ same ∙ get_or-take n xs l 0 high));
  within = λ i there. are.within i (in-take n xs i there);
}

once-drop : (count n : ℕ) (xs : List ℕ) → AreOnce count xs → AreOnce count (drop n xs)
once-drop count n xs are = record {
  once = distinct-from (drop n xs) (λ k l lt within same.
      let long = length-drop n xs in
      apart-at xs (n + k) (n + l) are.once (omega (arith, lt)) (omega (arith, within, long)) (sym (get_or-drop n xs k 0) ∙ same ∙ get_or-drop n xs l 0));
  within = λ i there. are.within i (in-drop n xs i there);
}

-- no object is in both parts of a queue
split-apart : (count n : ℕ) (xs : List ℕ) → AreOnce count xs → (i : ℕ) → has (take n xs) i ≡ true → has (drop n xs) i ≡ true → ⊥
split-apart count n xs are i first second =
    let one = place-of (take n xs) i first in
    let two = place-of (drop n xs) i second in
    let low : one.0 < n = omega (arith, one.1, length-take n xs) in
    apart-at xs one.0 (n + two.0) are.once (omega (arith, low)) (omega (arith, two.1, length-drop n xs))
    (sym (get_or-take n xs one.0 0 low) ∙ one.2 ∙ sym two.2 ∙ get_or-drop n xs two.0 0)

-- ---- the objects of a queue that are given

-- the bits of the first `keep`, and of those from number k on
abbrev pub AreCleared : ℕ → List ℕ → ℕ → List ℕ → Type 0
AreCleared keep queue k heads = (i : ℕ) → bit heads i ≡ (has (take keep queue) i || has (drop k queue) i)

pub cleared-first : (keep : ℕ) (queue heads : List ℕ) → AreMet queue heads → AreCleared keep queue keep heads
cleared-first keep queue heads met i = met i ∙ has-split keep queue i

has-rest : (queue : List ℕ) (k i : ℕ) → k < length queue → has (drop k queue) i ≡ ((i == get_or queue k 0) || has (drop (k + 1) queue) i)
has-rest queue k i lt = ap (λ (xs : List ℕ). has xs i) (drop_more queue k 0 lt)

pub cleared-next : (count keep : ℕ) (queue : List ℕ) (k : ℕ) (old heads : List ℕ) → AreOnce count queue → keep ≤ k → k < length queue → AreCleared keep queue k old
    → bit heads (get_or queue k 0) ≡ false → ((j : ℕ) → (j ≡ get_or queue k 0 → ⊥) → bit heads j ≡ bit old j) → AreCleared keep queue (k + 1) heads
cleared-next count keep queue k old heads once le lt are here others i =
    let x = get_or queue k 0 in
    elim (cases_eq i x) [
      | inl same ↦
          let none_before : (has (take keep queue) x ≡ true) → ⊥ = λ there.
          (let one = place-of (take keep queue) x there in
          let low : one.0 < keep = omega (arith, one.1, length-take keep queue) in
          apart-at queue one.0 k once.once (omega (arith, low, le)) lt (sym (get_or-take keep queue one.0 0 low) ∙ one.2)) in
          let none_after : (has (drop (k + 1) queue) x ≡ true) → ⊥ = λ there.
          (let two = place-of (drop (k + 1) queue) x there in
          apart-at queue k (k + 1 + two.0) once.once (omega arith) (omega (arith, two.1, length-drop (k + 1) queue)) (sym two.2 ∙ get_or-drop (k + 1) queue two.0 0)) in
          let off : (has (take keep queue) x || has (drop (k + 1) queue) x) ≡ false = elim (cases_Bool (has (take keep queue) x || has (drop (k + 1) queue) x)) [
            | inl on ↦ elim (or_cases (has (take keep queue) x) (has (drop (k + 1) queue) x) on) [ inl a ↦ absurd (none_before a) | inr b ↦ absurd (none_after b) ]
            | inr none ↦ none
          ] in
          subst (λ (n : ℕ). bit heads n ≡ (has (take keep queue) n || has (drop (k + 1) queue) n)) (sym same) (here ∙ sym off)
      | inr other ↦
          others i other ∙ are i
          ∙ ap (λ (b : Bool). has (take keep queue) i || b) (has-rest queue k i lt ∙ ap (λ (b : Bool). b || has (drop (k + 1) queue) i) (ne_eqb i x other))
    ]

or-none : (b : Bool) → (b || false) ≡ b
or-none true = refl
or-none false = refl

pub cleared-all : (keep : ℕ) (queue : List ℕ) (k : ℕ) (heads : List ℕ) → drop k queue ≡ [] → AreCleared keep queue k heads → AreMet (take keep queue) heads
cleared-all keep queue k heads none are i =
    are i ∙ ap (λ (xs : List ℕ). has (take keep queue) i || has xs i) none ∙ or-none (has (take keep queue) i)

-- ---- objects that are taken

one-stay : (met : List ℕ) (i k : ℕ) (b : Bool) → k < length met → (k < length (cond b met (met ++ i ∷ []))) × (get_or (cond b met (met ++ i ∷ [])) k 0 ≡ get_or met k 0)
one-stay met i k true lt = (lt, refl)
one-stay met i k false lt = (omega (arith, lt, length-append met (i ∷ [])), get_or_append_left met (i ∷ []) 0 k lt)

pub at-stay : (met indices : List ℕ) (k : ℕ) → k < length met → (k < length (met_at met indices)) × (get_or (met_at met indices) k 0 ≡ get_or met k 0)
at-stay met [] k lt = (lt, refl)
at-stay met (i ∷ indices) k lt =
    let one = one-stay met i k (has met i) lt in
    let all = at-stay (with_one met i) indices k one.0 in
    (all.0, all.1 ∙ one.1)

pub at-next : (old queue new indices : List ℕ) (k : ℕ) → k < length indices → new ≡ with_one queue (get_or indices k 0)
    → met_at queue (drop k indices) ≡ met_at old indices → met_at new (drop (k + 1) indices) ≡ met_at old indices
at-next old queue new indices k lt is all =
    ap (λ (xs : List ℕ). met_at xs (drop (k + 1) indices)) is ∙ sym (ap (met_at queue) (drop_more indices k 0 lt)) ∙ all

-- ---- what was looked at

kept-wider : (e : Edition) (known more refs : List ℕ) → ((i : ℕ) → bit known i ≡ true → bit more i ≡ true) → AllKept e known refs → AllKept e more refs
kept-wider e known more refs all kept k lt =
    let word = get_or refs k 0 in
    elim (or_cases (is_immediate e word) (leads known word) (kept k lt)) [
      | inl immediate ↦ or_left (is_immediate e word) (leads more word) immediate
      | inr to ↦ or_right (is_immediate e word) (leads more word) (elim (or_cases (word == 0) (is_address (bit known) word) to) [
        | inl null ↦ or_left (word == 0) (is_address (bit more) word) null
        | inr address ↦
            let parts = and_parts (leb (2 ^ 32) word) (bit known (word - 2 ^ 32)) address in
            or_right (word == 0) (is_address (bit more) word) (and_from (leb (2 ^ 32) word) (bit more (word - 2 ^ 32)) parts.0 (all (word - 2 ^ 32) parts.1))
      ])
    ]

-- the objects that were looked at are in their places, and as many or more are known
pub looked-wider : (e : Edition) (words old met : List ℕ) (looked : ℕ) (known more bits : List ℕ) → ((k : ℕ) → k < looked → get_or met k 0 ≡ get_or old k 0)
    → ((i : ℕ) → bit known i ≡ true → bit more i ≡ true) → AreLookedAt e words old looked known bits → AreLookedAt e words met looked more bits
looked-wider e words old met looked known more bits same all are = record {
  done = λ k lt. subst (IsDone e words bits) (sym (same k lt)) (are.done k lt);
  only = λ j set. (let at = are.only j set in (at.0, at.1, subst (λ (n : ℕ). IsWordOf e words n j) (sym (same at.0 at.1)) at.2));
  apart = λ k l n order lt one two.
      let low : k < looked = omega (arith, order, lt) in
      are.apart k l n order lt (subst (λ (m : ℕ). IsWordOf e words m n) (same k low) one) (subst (λ (m : ℕ). IsWordOf e words m n) (same l lt) two);
  closed = λ k lt. subst (λ (n : ℕ). AllKept e more (object_at e words n).references) (sym (same k lt))
      (kept-wider e known more (object_at e words (get_or old k 0)).references all (are.closed k lt));
}

-- ---- two lanes together

or-mixed : (x y z w : Bool) → (x || (y || (z || w))) ≡ ((x || z) || (y || w))
or-mixed true y z w = refl
or-mixed false true true w = refl
or-mixed false true false w = refl
or-mixed false false true w = refl
or-mixed false false false w = refl

module _ (a : List ℕ) (n : ℕ) (b : List ℕ) (m : ℕ) where
  joined-is : joined_met a n b m ≡ take n a ++ (take m b ++ (drop n a ++ drop m b))
  joined-is = append_assoc (take n a ++ take m b) (drop n a) (drop m b) ∙ append_assoc (take n a) (take m b) (drop n a ++ drop m b)

  joined-has : (i : ℕ) → has (joined_met a n b m) i ≡ (has a i || has b i)
  joined-has i =
      let ta = has (take n a) i in
      let tb = has (take m b) i in
      let da = has (drop n a) i in
      let db = has (drop m b) i in
      ap (λ (xs : List ℕ). has xs i) joined-is
      ∙ has-both (take n a) (take m b ++ (drop n a ++ drop m b)) i
      ∙ ap (λ (x : Bool). ta || x) (has-both (take m b) (drop n a ++ drop m b) i)
      ∙ ap (λ (x : Bool). ta || (tb || x)) (has-both (drop n a) (drop m b) i)
      ∙ or-mixed ta tb da db
      ∙ ap (λ (x : Bool). x || (tb || db)) (sym (has-split n a i))
      ∙ ap (λ (x : Bool). has a i || x) (sym (has-split m b i))

  pub joined-are-met : (one two both : List ℕ) → AreMet a one → AreMet b two → AreBoth one two both → AreMet (joined_met a n b m) both
  joined-are-met one two both met_a met_b are i =
      are i ∙ ap (λ (x : Bool). x || bit two i) (met_a i) ∙ ap (λ (x : Bool). has a i || x) (met_b i) ∙ sym (joined-has i)

  pub joined-once : (count : ℕ) → AreOnce count a → AreOnce count b → ((i : ℕ) → has a i ≡ true → has b i ≡ true → ⊥) → AreOnce count (joined_met a n b m)
  joined-once count one two apart =
      let da_db = once-append count (drop n a) (drop m b) (once-drop count n a one) (once-drop count m b two)
      (λ i first second. apart i (in-drop n a i first) (in-drop m b i second)) in
      let tb_rest = once-append count (take m b) (drop n a ++ drop m b) (once-take count m b two) da_db
      (λ i first second. elim (or_cases (has (drop n a) i) (has (drop m b) i) (sym (has-both (drop n a) (drop m b) i) ∙ second)) [
        | inl of_a ↦ apart i (in-drop n a i of_a) (in-take m b i first)
        | inr of_b ↦ split-apart count m b two i first of_b
      ]) in
      subst (AreOnce count) (sym joined-is) (once-append count (take n a) (take m b ++ (drop n a ++ drop m b)) (once-take count n a one) tb_rest
      (λ i first second. elim (or_cases (has (take m b) i) (has (drop n a ++ drop m b) i) (sym (has-both (take m b) (drop n a ++ drop m b) i) ∙ second)) [
        | inl of_b ↦ apart i (in-take n a i first) (in-take m b i of_b)
        | inr rest ↦ elim (or_cases (has (drop n a) i) (has (drop m b) i) (sym (has-both (drop n a) (drop m b) i) ∙ rest)) [
          | inl of_a ↦ split-apart count n a one i first of_a
          | inr of_b ↦ apart i (in-take n a i first) (in-drop m b i of_b)
        ]
      ]))

  module _ (inside_a : n ≤ length a) (inside_b : m ≤ length b) where
    first-at : (k : ℕ) → k < n → get_or (joined_met a n b m) k 0 ≡ get_or a k 0
    first-at k lt =
        ap (λ (xs : List ℕ). get_or xs k 0) joined-is
        ∙ get_or_append_left (take n a) (take m b ++ (drop n a ++ drop m b)) 0 k (omega (arith, lt, inside_a, length-take n a)) ∙ get_or-take n a k 0 lt

    second-at : (k : ℕ) → n ≤ k → k < n + m → get_or (joined_met a n b m) k 0 ≡ get_or b (k - n) 0
    second-at k le lt =
        let long : length (take n a) ≡ n = omega (arith, inside_a, length-take n a) in
        let low : k - n < m = omega (arith, le, lt) in
        ap (λ (xs : List ℕ). get_or xs k 0) joined-is
        ∙ get_or-append_right (take n a) (take m b ++ (drop n a ++ drop m b)) n k 0 long le
        ∙ get_or_append_left (take m b) (drop n a ++ drop m b) 0 (k - n) (omega (arith, low, inside_b, length-take m b)) ∙ get_or-take m b (k - n) 0 low

    pub joined-long : n + m ≤ length (joined_met a n b m)
    joined-long =
        omega (arith, inside_a, inside_b, ap (λ (xs : List ℕ). length xs) joined-is, length-take n a, length-take m b, length-append (take n a) (take m b ++ (drop n a ++ drop m b)), length-append (take m b) (drop n a ++ drop m b))

    module _ (e : Edition) (words known_a known_b known bits_a bits_b bits : List ℕ) (one : AreLookedAt e words a n known_a bits_a) (two : AreLookedAt e words b m known_b bits_b)
        (apart : AreDisjoint bits_a bits_b) (both : AreBoth bits_a bits_b bits) (knows : AreBoth known_a known_b known) where
      at : ℕ → ℕ
      at k = get_or (joined_met a n b m) k 0

      done-more : (old : List ℕ) (i : ℕ) → ((j : ℕ) → bit old j ≡ true → bit bits j ≡ true) → IsDone e words old i → IsDone e words bits i
      done-more old i more is = record { placed = is.placed; run = λ j of. more j (is.run j of); references = is.references; weak = is.weak }

      more_a : (j : ℕ) → bit bits_a j ≡ true → bit bits j ≡ true
      more_a j set = both j ∙ or_left (bit bits_a j) (bit bits_b j) set

      more_b : (j : ℕ) → bit bits_b j ≡ true → bit bits j ≡ true
      more_b j set = both j ∙ or_right (bit bits_a j) (bit bits_b j) set

      word : (i j x : ℕ) → i ≡ j → IsWordOf e words i x → IsWordOf e words j x
      word i j x same of = subst (λ (k : ℕ). IsWordOf e words k x) same of

      pub joined-looked : AreLookedAt e words (joined_met a n b m) (n + m) known bits
      joined-looked = record {
        done = λ k lt. elim (cases_lt k n) [
          | inl near ↦ subst (IsDone e words bits) (sym (first-at k near)) (done-more bits_a (get_or a k 0) more_a (one.done k near))
          | inr far ↦
              let low : k - n < m = omega (arith, lt, far) in
              subst (IsDone e words bits) (sym (second-at k far lt)) (done-more bits_b (get_or b (k - n) 0) more_b (two.done (k - n) low))
        ];
        only = λ j set. elim (or_cases (bit bits_a j) (bit bits_b j) (sym (both j) ∙ set)) [
          | inl of_a ↦
              let place = one.only j of_a in
              let lt : place.0 < n + m = omega (arith, place.1) in
              (place.0, lt, word (get_or a place.0 0) (get_or (joined_met a n b m) place.0 0) j (sym (first-at place.0 place.1)) place.2)
          | inr of_b ↦
              let place = two.only j of_b in
              let lt : n + place.0 < n + m = omega (arith, place.1) in
              let back : n + place.0 - n ≡ place.0 = omega arith in
              let here : get_or (joined_met a n b m) (n + place.0) 0 ≡ get_or b place.0 0 = second-at (n + place.0) (omega arith) lt ∙ ap (λ (k : ℕ). get_or b k 0) back in
              (n + place.0, lt, word (get_or b place.0 0) (get_or (joined_met a n b m) (n + place.0) 0) j (sym here) place.2)
        ];
        apart = λ k l x order lt in_k in_l. elim (cases_lt l n) [
          | inl near ↦
              let near_too : k < n = omega (arith, order, near) in
              one.apart k l x order near (word (get_or (joined_met a n b m) k 0) (get_or a k 0) x (first-at k near_too) in_k)
              (word (get_or (joined_met a n b m) l 0) (get_or a l 0) x (first-at l near) in_l)
          | inr far ↦
              let low : l - n < m = omega (arith, lt, far) in
              let of_b = word (get_or (joined_met a n b m) l 0) (get_or b (l - n) 0) x (second-at l far lt) in_l in
              elim (cases_lt k n) [
                | inl near ↦
                    let of_a = word (get_or (joined_met a n b m) k 0) (get_or a k 0) x (first-at k near) in_k in
                    both_ways (bit bits_b x) (apart x ((one.done k near).run x of_a)) ((two.done (l - n) low).run x of_b)
                | inr far_too ↦
                    let lt_too : k < n + m = omega (arith, order, lt) in
                    two.apart (k - n) (l - n) x (omega (arith, order, far_too)) low
                    (word (get_or (joined_met a n b m) k 0) (get_or b (k - n) 0) x (second-at k far_too lt_too) in_k) of_b
              ]
        ];
        closed = λ k lt. elim (cases_lt k n) [
          | inl near ↦
              subst (λ (i : ℕ). AllKept e known (object_at e words i).references) (sym (first-at k near))
              (kept-wider e known_a known (object_at e words (get_or a k 0)).references (λ i set. knows i ∙ or_left (bit known_a i) (bit known_b i) set) (one.closed k near))
          | inr far ↦
              let low : k - n < m = omega (arith, lt, far) in
              subst (λ (i : ℕ). AllKept e known (object_at e words i).references) (sym (second-at k far lt))
              (kept-wider e known_b known (object_at e words (get_or b (k - n) 0)).references (λ i set. knows i ∙ or_right (bit known_a i) (bit known_b i) set) (two.closed (k - n) low))
        ];
      }
