-- All that one thread writes into its heap, in object numbers, is a life of the stable heap.
use Rattle.std.proofs.Common.{◌≡◌, ℕ, zero, suc, ◌+◌, ◌-◌, ◌<◌, ◌≤◌, true, false, cond, List, [], ◌∷◌, ◌++◌, length, get_or, zip, refl, sym, ap, ap₂, ◌∙◌, ⊎_elim, subst, arith, append_assoc, length-append}
use Rattle.std.proofs.lemmas.Bool.{cases_lt, both_ways}
use Rattle.std.proofs.lemmas.List.{get_or_append_left, get_or-append_right, get_or_push}
use Rattle.std.specs.List.{range_with_len}
use Rattle.heap_layout.specs.Header.{header_of, size_of}
use Rattle.heap_layout.specs.Kinds.{refers, count_of, first_of}
use Rattle.heap_layout.specs.declared.kind.Kind.{Kind}
use Rattle.heap_layout.specs.declared.kind.Kind.TheVariants.{Header, Reference, Weak, Data}
use Rattle.comp_journal.specs.declared.entry.Entry.{Entry}
use Rattle.heap_layout.specs.Values.{is_immediate}
use Rattle.comp_history.specs.Lists.{but, look}
use Rattle.page_plan.proofs.Shapes.{field-inside}
use Rattle.comp_history.specs.OneThread.{OneThreadHeap, HasStart, IsFree, IsFieldIn, IsNullOrStart, MayWrite, IsLegal, header_in, address_of, after, result_of}
use Rattle.comp_cycles.specs.Stable.{StableHeap, Step, Writes, IsNullOrAmong, MayStep, with_word, stepped, IsLife, lived}
use Rattle.comp_cycles.specs.NumberedHeaps.{Names, number_at, owner, numbered_value, write_of, step_of, numbered, made_by, made_at}
use Rattle.comp_cycles.proofs.Naming.{at_name}
use Rattle.comp_cycles.proofs.Living.{owner_is, field_above, refers_below, numbered_field, number_is, header_is, may_refer, written, made, wrote, Agrees}

-- the words after a new header are 0
abbrev pub AreZeros : OneThreadHeap → Kind → ℕ → ℕ → Type 0
AreZeros heap k a value = k ≡ Header → (i : ℕ) → 1 ≤ i → i < size_of (header_of heap.edition value) → heap.word (a + i) ≡ 0

-- at each entry that makes an object, the words after the new header are 0
abbrev pub InZeros : OneThreadHeap → List (ℕ × Entry) → Type 0
InZeros heap [] = Unit {0}
InZeros heap (x ∷ xs) = AreZeros heap x.1.kind (address_of x) x.1.value × InZeros (after heap x) xs

-- The names are those of the objects that exist, and then those of the objects that will be made at these addresses,
-- with the next numbers.
pub record Ordered (names : Names) (heap : OneThreadHeap) (given : ℕ) (later : List ℕ) : Type 0 where
  pub keys : List ℕ
  pub numbers : List ℕ
  pub long : length keys ≡ length numbers
  pub is : names.numbers ≡ zip (keys ++ later) (numbers ++ range_with_len (given + 1) (length later))
  pub starts : (i : ℕ) → i < length keys → HasStart heap (get_or keys i 0)
  -- no new object starts at an address that is an immediate
  pub low : (i : ℕ) → i < length later → is_immediate names.edition (get_or later i 0) ≡ false

-- how many numbers have been given out after a word of this kind was written
abbrev pub given_by : Kind → ℕ → ℕ
given_by Header given = given + 1
given_by Reference given = given
given_by Weak given = given
given_by Data given = given

-- the next new object has the next number
next_number : (names : Names) (heap : OneThreadHeap) (given a size : ℕ) (later : List ℕ) → 1 ≤ size → IsFree heap a size → Ordered names heap given (a ∷ later) → number_at names a ≡ given + 1
next_number names heap given a size later some free o =
    let keys = o.keys in
    let numbers = o.numbers in
    let others = range_with_len (given + 1 + 1) (length later) in
    let long : length (keys ++ a ∷ later) ≡ length (numbers ++ (given + 1) ∷ others) =
    length-append keys (a ∷ later) ∙ ap₂ (λ x y. x + y) o.long (ap suc (sym (row_is (given + 1 + 1) (length later)))) ∙ sym (length-append numbers ((given + 1) ∷ others)) in
    let new : get_or (keys ++ a ∷ later) (length keys) 0 ≡ a = get_or-append_right keys (a ∷ later) (length keys) (length keys) 0 refl (omega arith) ∙ ap (λ i. get_or (a ∷ later) i 0) (let z : length keys - length keys ≡ 0 = omega arith in z) in
    number_is names a (o.low 0 (omega arith)) ∙ ap (λ l. look 0 l a) o.is
    ∙ at_name (keys ++ a ∷ later) (numbers ++ (given + 1) ∷ others) (length keys) a (omega (arith, length-append keys (a ∷ later))) long new
    (λ i lt e.
    let s = o.starts i lt in
    let read : get_or keys i 0 ≡ a = sym (get_or_append_left keys (a ∷ later) 0 i lt) ∙ e in
    ⊎_elim
    (λ (below : get_or keys i 0 + size_of (header_in heap (get_or keys i 0)) ≤ a). omega (arith, below, read))
    (λ (above : a + size ≤ get_or keys i 0). omega (arith, above, read, some))
    (free (get_or keys i 0) s))
    ∙ get_or-append_right numbers ((given + 1) ∷ others) (length numbers) (length keys) 0 refl (omega (arith, o.long))
    ∙ ap (λ i. get_or ((given + 1) ∷ others) i 0) (let long_is = o.long in let z : length keys - length numbers ≡ 0 = omega arith in z)
  where
    row_is : (low n : ℕ) → length (range_with_len low n) ≡ n
    row_is low zero = refl
    row_is low (suc n) = ap suc (row_is (low + 1) n)

-- an object starts at an equal address
start_at : (heap : OneThreadHeap) (a b : ℕ) → a ≡ b → HasStart heap a → HasStart heap b
start_at heap a b e s = subst (HasStart heap) e s

-- the names of the objects that exist after a word was written
ordered_next : (names : Names) (heap : OneThreadHeap) (given a value : ℕ) (later : List ℕ) (k : Kind) → Ordered names heap given (made_by k a later) → Ordered names (wrote heap k a value) (given_by k given) later
ordered_next names heap given a value later Header o = record {
  keys = o.keys ++ a ∷ [];
  numbers = o.numbers ++ (given + 1) ∷ [];
  long = length-append o.keys (a ∷ []) ∙ ap (λ n. n + 1) o.long ∙ sym (length-append o.numbers ((given + 1) ∷ []));
  is = o.is ∙ ap₂ zip (sym (append_assoc o.keys (a ∷ []) later)) (sym (append_assoc o.numbers ((given + 1) ∷ []) (range_with_len (given + 1 + 1) (length later))));
  starts = λ i lt. ⊎_elim
      (λ (old : i < length o.keys).
      let s = o.starts i old in
      start_at (wrote heap Header a value) (get_or o.keys i 0) (get_or (o.keys ++ a ∷ []) i 0) (sym (get_or_append_left o.keys (a ∷ []) 0 i old)) (suc s.0, s.1))
      (λ (new : length o.keys ≤ i).
      let last : i ≡ length o.keys = omega (arith, lt, new, length-append o.keys (a ∷ [])) in
      start_at (wrote heap Header a value) a (get_or (o.keys ++ a ∷ []) i 0) (sym (ap (λ j. get_or (o.keys ++ a ∷ []) j 0) last ∙ get_or_push o.keys a 0 (length o.keys) refl)) (zero, refl))
      (cases_lt i (length o.keys));
  low = λ i lt. o.low (suc i) (omega (arith, lt));
}
ordered_next names heap given a value later Reference o = record { keys = o.keys; numbers = o.numbers; long = o.long; is = o.is; starts = o.starts; low = o.low }
ordered_next names heap given a value later Weak o = record { keys = o.keys; numbers = o.numbers; long = o.long; is = o.is; starts = o.starts; low = o.low }
ordered_next names heap given a value later Data o = record { keys = o.keys; numbers = o.numbers; long = o.long; is = o.is; starts = o.starts; low = o.low }

-- What one step does.
pub record Went (names : Names) (heap : OneThreadHeap) (stable : StableHeap) (step : Step) (given : ℕ) : Type 0 where
  pub may : MayStep stable step
  pub agrees : Agrees names heap (stepped stable step)
  pub given_is : (stepped stable step).given ≡ given

-- the heap after one word was written, if no object is made
abbrev with_field : OneThreadHeap → ℕ → ℕ → OneThreadHeap
with_field heap a value = record { edition = heap.edition; word = but heap.word a value; starts = heap.starts }

-- writing a field, if one thread may do it, is one step
field_goes : (names : Names) (heap : OneThreadHeap) (stable : StableHeap) (k : Kind) (a value : ℕ) → Agrees names heap stable → number_at names 0 ≡ 0
    → IsFieldIn heap k a → (refers k ≡ true → IsNullOrStart heap value)
    → Went names (with_field heap a value) stable (write_of names heap k a value) stable.given
field_goes names heap stable k a value h null r may =
    let n = number_at names r.object in
    let header = header_in heap r.object in
    let head = header_is names heap stable h r.object r.there in
    let place = first_of k header + r.field in
    let low : 1 ≤ place = field_above k header r.field r.inside in
    let high : place < size_of header = field-inside k header r.field r.inside in
    let found : owner (header_in heap) heap.starts a ≡ r.object =
    owner_is (header_in heap) heap.starts r.object a r.there.0 r.there.1 (λ x y j l at_x at_y below. h.apart x y (j, at_x) (l, at_y) below) (omega (arith, r.at)) (omega (arith, r.at, high)) in
    let field : a - (r.object + first_of k header) ≡ r.field = omega (arith, r.at) in
    let numbered_as = numbered_value names k value in
    let is : Writes k n r.field numbered_as ≡ write_of names heap k a value =
    sym (ap (λ x. Writes k (number_at names x) (a - (x + first_of k (header_in heap x))) numbered_as) found ∙ ap (λ f. Writes k n f numbered_as) field) in
    let here : r.object + place ≡ a = omega (arith, r.at) in
    let w = numbered_field names k header r.field value r.inside in
    let done = written names heap stable h r.object place value r.there low high (λ le. may (refers_below k header r.field r.inside le)) in
    subst (λ step. Went names (with_field heap a value) stable step stable.given) is (record {
      may = (
        h.numbered.there r.object r.there,
        subst (λ x. r.field < count_of k x) (sym head) r.inside,
        λ yes. subst (λ b. IsNullOrAmong stable.edition stable.there (cond b (number_at names value) value)) (sym yes) (may_refer names heap stable h value null (may yes)),
      );
      agrees = subst (λ x. Agrees names (with_field heap a value) (with_word stable n (first_of k x + r.field) numbered_as)) (sym head)
          (subst (λ x. Agrees names (with_field heap x value) (with_word stable n place numbered_as)) here
          (subst (λ x. Agrees names (with_field heap (r.object + place) value) (with_word stable n place x)) w done));
      given_is = refl;
    })

-- writing a word, if one thread may do it, is one step
goes : (names : Names) (heap : OneThreadHeap) (stable : StableHeap) (k : Kind) (a value : ℕ) (later : List ℕ) → Agrees names heap stable → number_at names 0 ≡ 0
    → Ordered names heap stable.given (made_by k a later) → MayWrite heap k a value → AreZeros heap k a value
    → Went names (wrote heap k a value) stable (step_of names heap k a value) (given_by k stable.given)
goes names heap stable Header a value later h null o free zeros =
    let size = size_of (header_of heap.edition value) in
    record { may = tt; agrees = made names heap stable h a value free (next_number names heap stable.given a size later (omega arith) free o) null (zeros refl); given_is = refl }
goes names heap stable Reference a value later h null o may zeros = field_goes names heap stable Reference a value h null may.0 (λ _. may.1)
goes names heap stable Weak a value later h null o may zeros = field_goes names heap stable Weak a value h null may.0 (λ _. may.1)
goes names heap stable Data a value later h null o may zeros = field_goes names heap stable Data a value h null may (λ yes. absurd (both_ways false refl yes))

-- ---- all steps

-- the addresses at which the entries make objects, and then these addresses
abbrev pub made_then : List (ℕ × Entry) → List ℕ → List ℕ
made_then [] later = later
made_then (x ∷ xs) later = made_by x.1.kind (address_of x) (made_then xs later)

pub made_all : (xs : List (ℕ × Entry)) → made_then xs [] ≡ made_at xs
made_all [] = refl
made_all (x ∷ xs) = ap (made_by x.1.kind (address_of x)) (made_all xs)

pub made_parts : (xs ys : List (ℕ × Entry)) (later : List ℕ) → made_then (xs ++ ys) later ≡ made_then xs (made_then ys later)
made_parts [] ys later = refl
made_parts (x ∷ xs) ys later = ap (made_by x.1.kind (address_of x)) (made_parts xs ys later)

-- What all the entries do.
pub record Lives (names : Names) (heap : OneThreadHeap) (stable : StableHeap) (xs : List (ℕ × Entry)) : Type 0 where
  pub life : IsLife stable (numbered names heap xs)
  pub agrees : Agrees names (result_of heap xs) (lived stable (numbered names heap xs))

pub lives : (names : Names) → number_at names 0 ≡ 0 → (xs : List (ℕ × Entry)) (heap : OneThreadHeap) (stable : StableHeap) (later : List ℕ) → Agrees names heap stable
    → Ordered names heap stable.given (made_then xs later) → IsLegal heap xs → InZeros heap xs → Lives names heap stable xs
lives names null [] heap stable later h o legal zeros = record { life = tt; agrees = h }
lives names null (x ∷ xs) heap stable later h o legal zeros =
    let e = x.1 in
    let step = step_of names heap e.kind (address_of x) e.value in
    let one = goes names heap stable e.kind (address_of x) e.value (made_then xs later) h null o legal.0 zeros.0 in
    let next : Ordered names (after heap x) (stepped stable step).given (made_then xs later) =
    subst (λ n. Ordered names (after heap x) n (made_then xs later)) (sym one.given_is) (ordered_next names heap stable.given (address_of x) e.value (made_then xs later) e.kind o) in
    let rest = lives names null xs (after heap x) (stepped stable step) later one.agrees next legal.1 zeros.1 in
    record { life = (one.may, rest.life); agrees = rest.agrees }

-- how many numbers have been given out after a step
given_stepped : (names : Names) (heap : OneThreadHeap) (stable : StableHeap) (k : Kind) (a value : ℕ) (later : List ℕ) → (stepped stable (step_of names heap k a value)).given + length later ≡ stable.given + length (made_by k a later)
given_stepped names heap stable Header a value later = omega arith
given_stepped names heap stable Reference a value later = refl
given_stepped names heap stable Weak a value later = refl
given_stepped names heap stable Data a value later = refl

pub given_lived : (names : Names) (xs : List (ℕ × Entry)) (heap : OneThreadHeap) (stable : StableHeap) → (lived stable (numbered names heap xs)).given ≡ stable.given + length (made_at xs)
given_lived names [] heap stable = let z : stable.given ≡ stable.given + 0 = omega arith in z
given_lived names (x ∷ xs) heap stable =
    let step = step_of names heap x.1.kind (address_of x) x.1.value in
    given_lived names xs (after heap x) (stepped stable step) ∙ given_stepped names heap stable x.1.kind (address_of x) x.1.value (made_at xs)

-- no step of an entry changes the roots
roots_stepped : (names : Names) (heap : OneThreadHeap) (stable : StableHeap) (k : Kind) (a value : ℕ) → (stepped stable (step_of names heap k a value)).roots ≡ stable.roots
roots_stepped names heap stable Header a value = refl
roots_stepped names heap stable Reference a value = refl
roots_stepped names heap stable Weak a value = refl
roots_stepped names heap stable Data a value = refl

pub roots_lived : (names : Names) (xs : List (ℕ × Entry)) (heap : OneThreadHeap) (stable : StableHeap) → (lived stable (numbered names heap xs)).roots ≡ stable.roots
roots_lived names [] heap stable = refl
roots_lived names (x ∷ xs) heap stable =
    roots_lived names xs (after heap x) (stepped stable (step_of names heap x.1.kind (address_of x) x.1.value)) ∙ roots_stepped names heap stable x.1.kind (address_of x) x.1.value

-- ---- prefixes

pub legal_front : (heap : OneThreadHeap) (xs ys : List (ℕ × Entry)) → IsLegal heap (xs ++ ys) → IsLegal heap xs
legal_front heap [] ys h = tt
legal_front heap (x ∷ xs) ys h = (h.0, legal_front (after heap x) xs ys h.1)

pub zeros_front : (heap : OneThreadHeap) (xs ys : List (ℕ × Entry)) → InZeros heap (xs ++ ys) → InZeros heap xs
zeros_front heap [] ys h = tt
zeros_front heap (x ∷ xs) ys h = (h.0, zeros_front (after heap x) xs ys h.1)

-- a life, continued by a second one
pub life_parts : (heap : StableHeap) (xs ys : List Step) → IsLife heap xs → IsLife (lived heap xs) ys → IsLife heap (xs ++ ys)
life_parts heap [] ys h t = t
life_parts heap (x ∷ xs) ys h t = (h.0, life_parts (stepped heap x) xs ys h.1 t)

pub lived_parts : (heap : StableHeap) (xs ys : List Step) → lived heap (xs ++ ys) ≡ lived (lived heap xs) ys
lived_parts heap [] ys = refl
lived_parts heap (x ∷ xs) ys = lived_parts (stepped heap x) xs ys
