-- At the end of a cycle, the kept objects are the objects of the next heap, and the roots are its roots.
use Rattle.std.proofs.Common.{◌≡◌, ℕ, zero, suc, ◌+◌, ◌-◌, ◌*◌, ◌^◌, ◌<◌, ◌≤◌, ◌||◌, Bool, true, false, cond, eqb, ◌==◌, Some, List, [], ◌∷◌, All, length, get_or, map, refl, sym, ap, ap₂, ◌∙◌, inl, inr, ⊎_elim, subst, arith}
use Rattle.std.specs.List.{list_any}
use Rattle.std.proofs.lemmas.Bool.{cases_lt, cases_Bool, both_ways, or_right}
use Rattle.std.proofs.lemmas.List.{length-map, get_or-map}
use Rattle.std.proofs.lemmas.Grind.{same_number_lists}
use mathlib.Core.Option.{some}
use lib.ListN.{get_elem?}
use Rattle.heap_layout.specs.Header.{Head, header_of, refs_of, size_of}
use Rattle.heap_layout.specs.Kinds.{count_of, first_of}
use Rattle.heap_layout.specs.Values.{is_immediate, LeadsNowhere}
use Rattle.heap_layout.proofs.Values.{value-cases, nowhere-null, nowhere-immediate, nowhere-cases}
use Rattle.heap_layout.specs.Heap.{Heap, header_at, object_at, from_address, is_target, IsTarget, IsValue, IsClosed}
use Rattle.heap_layout.specs.declared.kind.Kind.{Kind}
use Rattle.heap_layout.specs.declared.kind.Kind.TheVariants.{Header, Reference, Weak, Data}
use Rattle.page_plan.specs.Sliding.{to_address}
use Rattle.page_plan.proofs.Objects.{reference-target}
use Rattle.page_plan.proofs.Owners.{objects_stand}
use Rattle.page_plan.proofs.Shapes.{field-inside}
use Rattle.comp_history.specs.Setup.{Setup, pages}
use Rattle.comp_history.specs.Locks.{Journals}
use Rattle.comp_history.specs.Starts.{IsForwardingAddress}
use Rattle.comp_history.specs.Objects.{IsObjectAt, IsMadeAt}
use Rattle.comp_history.proofs.Rows.{at_map_back, at_below, read_at}
use Rattle.comp_history.specs.Merged.{CanMerge}
use Rattle.comp_history.specs.OneThread.{OneThreadHeap, HasStart, IsNullOrStart, header_in}
use Rattle.comp_cycles.specs.Stable.{StableHeap, Keeps, IsAmong, IsNullOrAmong, MayKeep, is_among, left_word, left_words, head_of, stepped}
use Rattle.comp_cycles.specs.NumberedHeaps.{Names, number_at, names_in, pointers_of, numbered_object, numbered_word, IsNumberedAs}
use Rattle.comp_cycles.specs.NextHeap.{word_in, kind_in, lowered, lowered_as, next_heap}
use Rattle.comp_cycles.specs.Cycles.{AreApart}
use Rattle.comp_cycles.proofs.Immediates.{lower-immediate}
use Rattle.comp_cycles.proofs.Living.{number_immediate, numbered_reference, numbered_other, header_is, Agrees}
use Rattle.comp_cycles.proofs.Leaving.{among_is, none_among, left_other, left_weak, left_long, left_at}
use Rattle.comp_cycles.proofs.Targets.{object_long, object_word, target_cases, target_mark, marks_once, named_mark, named_null, named_none}
use Rattle.comp_cycles.proofs.Finals.{head_in, stands, IsWholeAt}
use Rattle.comp_cycles.proofs.Rows.{next_kind}

-- the element at an index is the value read there
pub there_is : (xs : List ℕ) (i : ℕ) → i < length xs → get_elem? xs i ≡ some (get_or xs i 0)
there_is [] i lt = absurd (omega (arith, lt))
there_is (x ∷ xs) zero lt = refl
there_is (x ∷ xs) (suc i) lt = there_is xs i (omega (arith, lt))

-- two maps of one list are equal if they are equal element by element
map_same : {A : Type 0} {B : Type 0} (F : A → List ℕ) (f : ℕ → A) (G : B → List ℕ) (g : ℕ → B) (xs : List ℕ) → ((k : ℕ) → k < length xs → F (f (get_or xs k 0)) ≡ G (g (get_or xs k 0))) → map F (map f xs) ≡ map G (map g xs)
map_same F f G g [] same = refl
map_same F f G g (x ∷ xs) same = ap (λ l. F (f x) ∷ l) (map_same F f G g xs (λ k lt. same (suc k) (omega (arith, lt)))) ∙ ap (λ y. y ∷ map G (map g xs)) (same 0 (omega arith))

-- a number that is 0 stays 0 if it may be replaced by 0
zero_either : (b : Bool) (n : ℕ) → n ≡ 0 → cond b n 0 ≡ 0
zero_either true n e = e
zero_either false n e = refl

-- two maps of one list are equal if they are equal element by element
roots_same : (f g h : ℕ → ℕ) (xs : List ℕ) → ((i : ℕ) → i < length xs → g (h (get_or xs i 0)) ≡ f (get_or xs i 0)) → map f xs ≡ map g (map h xs)
roots_same f g h [] same = refl
roots_same f g h (x ∷ xs) same = ap₂ (λ (a : ℕ) (l : List ℕ). a ∷ l) (sym (same 0 (omega arith))) (roots_same f g h xs (λ i lt. same (suc i) (omega (arith, lt))))

module _ (u : Setup) (journals : Journals) (closed_before : IsClosed u.heap) (can : CanMerge u journals) (names : Names) (heap : OneThreadHeap) (stable : StableHeap)
    (h : Agrees names heap stable) (null : number_at names 0 ≡ 0) (edition_is : heap.edition ≡ u.heap.edition) (apart : AreApart u.heap.edition stable.given)
    (word_is : (i : ℕ) → i < 64 * pages u → heap.word (to_address i) ≡ word_in u journals i) (object_is : (a : ℕ) → HasStart heap a → IsObjectAt u journals a)
    (roots marks : List ℕ) (closed : IsClosed (next_heap u journals roots marks)) (started : (k : ℕ) → k < length marks → HasStart heap (to_address (get_or marks k 0)))
    (reached : All (IsNullOrStart heap) roots) (roots_are : stable.roots ≡ map (number_at names) roots)
  where
    abbrev next : Heap
    next = next_heap u journals roots marks

    abbrev mark : ℕ → ℕ
    mark k = get_or marks k 0

    -- the to-space address of the object at the k-th mark
    abbrev at : ℕ → ℕ
    at k = to_address (mark k)

    abbrev header : ℕ → Head
    header k = header_in heap (at k)

    -- the numbers of all marked objects
    abbrev pub kept : List ℕ
    kept = map (λ i. number_at names (to_address i)) marks

    abbrev name : Names
    name = names_in next kept

    kept_long : length kept ≡ length marks
    kept_long = length-map marks (λ i. number_at names (to_address i))

    kept_is : (k : ℕ) → k < length marks → get_or kept k 0 ≡ number_at names (at k)
    kept_is k lt = get_or-map (λ i. number_at names (to_address i)) marks k 0 0 lt

    -- objects are in to-space
    high : (a : ℕ) → HasStart heap a → to_address 0 ≤ a
    high a s = ⊎_elim
        (λ (slid : IsForwardingAddress u.heap a). ((objects_stand u.heap closed_before).stands a slid.0 slid.1).above)
        (λ (m : IsMadeAt u journals a). omega (arith, m.at))
        (object_is a s)

    object : (k : ℕ) → k < length marks → IsWholeAt u journals (mark k)
    object k lt = stands u journals closed_before can (mark k) (object_is (at k) (started k lt))

    inside : (k : ℕ) → k < length marks → mark k + size_of (head_in u journals (mark k)) ≤ 64 * pages u
    inside k lt = (object k lt).ends

    head : (k : ℕ) → k < length marks → header k ≡ head_in u journals (mark k)
    head k lt = ap₂ header_of edition_is (word_is (mark k) (let e = inside k lt in omega (arith, e)))

    -- an address, lowered for the next heap
    abbrev low : ℕ → ℕ
    low = lowered u.heap.edition

    low_immediate : (w : ℕ) → is_immediate u.heap.edition w ≡ true → low w ≡ w
    low_immediate w is = ap (λ b. cond b w (w - 2 ^ 32)) is

    low_other : (w : ℕ) → is_immediate u.heap.edition w ≡ false → low w ≡ w - 2 ^ 32
    low_other w other = ap (λ b. cond b w (w - 2 ^ 32)) other

    -- what leads nowhere and is no immediate is null
    null_is : (w : ℕ) → is_immediate u.heap.edition w ≡ false → LeadsNowhere heap.edition w → w ≡ 0
    null_is w other nowhere = ⊎_elim
        (λ null_here. null_here)
        (λ (immediate : is_immediate heap.edition w ≡ true). absurd (both_ways (is_immediate u.heap.edition w) other (sym (ap (λ e. is_immediate e w) edition_is) ∙ immediate)))
        (nowhere-cases heap.edition w nowhere)

    -- a word that is no immediate is none after it was lowered
    lowered_other : (w : ℕ) → is_immediate u.heap.edition w ≡ false → is_immediate u.heap.edition (w - 2 ^ 32) ≡ false
    lowered_other w other = lower-immediate u.heap.edition w (w - 2 ^ 32) (omega arith) other

    target_low : (w : ℕ) → is_immediate u.heap.edition w ≡ false → IsValue u.heap.edition marks (low w) → IsTarget marks (w - 2 ^ 32)
    target_low w other value = ⊎_elim
        (λ (immediate : is_immediate u.heap.edition (w - 2 ^ 32) ≡ true). absurd (both_ways (is_immediate u.heap.edition (w - 2 ^ 32)) (lowered_other w other) immediate))
        (λ (target : IsTarget marks (w - 2 ^ 32)). target)
        (value-cases u.heap.edition marks (w - 2 ^ 32) (subst (IsValue u.heap.edition marks) (low_other w other) value))

    -- the number of an object is 0 if it leads nowhere
    null_named : (w : ℕ) → HasStart heap w → LeadsNowhere stable.edition (number_at names w) → number_at names w ≡ 0
    null_named w s nowhere = ⊎_elim
        (λ none. none)
        (λ (immediate : is_immediate stable.edition (number_at names w) ≡ true).
        let g = h.given w s in
        absurd (both_ways (is_immediate u.heap.edition (number_at names w)) (apart (number_at names w) g.1) (sym (ap (λ e. is_immediate e (number_at names w)) (h.numbered.edition ∙ edition_is)) ∙ immediate)))
        (nowhere-cases stable.edition (number_at names w) nowhere)

    -- the header word of the k-th object in the next heap
    next_first : (k : ℕ) → k < length marks → get_or next.words (mark k) 0 ≡ heap.word (at k)
    next_first k lt =
        let few : mark k < 64 * pages u = let e = inside k lt in omega (arith, e) in
        next_kind u journals closed_before can roots marks (mark k) (Some Header) few (object k lt).first ∙ sym (word_is (mark k) few)

    next_head : (k : ℕ) → k < length marks → header_at u.heap.edition next.words (mark k) ≡ header k
    next_head k lt = ap₂ header_of (sym edition_is) (next_first k lt)

    -- word j of the k-th object in to-space
    word_of : (k j : ℕ) → k < length marks → j < size_of (header k) → heap.word (at k + j) ≡ word_in u journals (mark k + j)
    word_of k j lt few =
        let e = inside k lt in
        let s = ap size_of (head k lt) in
        ap heap.word (let z : at k + j ≡ to_address (mark k + j) = omega arith in z) ∙ word_is (mark k + j) (omega (arith, e, s, few))

    room : (k j : ℕ) → k < length marks → j < size_of (header k) → mark k + j < 64 * pages u
    room k j lt few = let e = inside k lt in let s = ap size_of (head k lt) in omega (arith, e, s, few)

    -- a field of the k-th object in the next heap
    next_field : (k : ℕ) (c : Kind) (f j : ℕ) → k < length marks → f < count_of c (header k) → first_of c (header k) + f ≡ j
        → get_or next.words (mark k + j) 0 ≡ lowered_as u.heap.edition (Some c) (heap.word (at k + j))
    next_field k c f j lt few place =
        let is = head k lt in
        let first = ap (first_of c) is in
        let small : j < size_of (header k) = let within = field-inside c (header k) f few in omega (arith, within, place) in
        let kind : kind_in u journals (mark k + j) ≡ Some c =
        ap (kind_in u journals) (let z : mark k + j ≡ mark k + first_of c (head_in u journals (mark k)) + f = omega (arith, place, first) in z)
        ∙ (object k lt).fields c f (subst (λ x. f < count_of c x) is few) in
        next_kind u journals closed_before can roots marks (mark k + j) (Some c) (room k j lt small) kind ∙ ap (lowered_as u.heap.edition (Some c)) (sym (word_of k j lt small))

    -- a reference or weak word of the k-th object is lowered
    next_pointer : (k j : ℕ) → k < length marks → 1 ≤ j → j ≤ pointers_of (header k) → get_or next.words (mark k + j) 0 ≡ low (heap.word (at k + j))
    next_pointer k j lt low few =
        let refs = refs_of (header k) in
        ⊎_elim
        (λ (weak : refs < j). next_field k Weak (j - (1 + refs)) j lt (omega (arith, weak, few)) (omega (arith, weak)))
        (λ (strong : j ≤ refs). next_field k Reference (j - 1) j lt (omega (arith, low, strong)) (omega (arith, low)))
        (cases_lt refs j)

    -- all other words of the k-th object stay
    next_other : (k j : ℕ) → k < length marks → (1 ≤ j → pointers_of (header k) < j) → j < size_of (header k) → get_or next.words (mark k + j) 0 ≡ heap.word (at k + j)
    next_other k zero lt behind few = ap (λ n. get_or next.words n 0) (let z : mark k + 0 ≡ mark k = omega arith in z) ∙ next_first k lt ∙ ap heap.word (let z : at k ≡ at k + 0 = omega arith in z)
    next_other k (suc j) lt behind few =
        let past = behind (omega arith) in
        next_field k Data (j - pointers_of (header k)) (suc j) lt (omega (arith, few, past)) (omega (arith, past))

    -- a word that is no immediate leads to the same object after it is lowered
    leads_other : (w : ℕ) → is_immediate u.heap.edition w ≡ false → IsNullOrStart heap w → IsTarget marks (w - 2 ^ 32) → (number_at name (w - 2 ^ 32) ≡ number_at names w) × IsNullOrAmong stable.edition kept (number_at names w)
    leads_other w other from target = ⊎_elim
        (λ (none : w - 2 ^ 32 ≡ 0). ⊎_elim
        (λ (nowhere : LeadsNowhere heap.edition w).
        let zero_is = null_is w other nowhere in (
          ap (number_at name) none ∙ named_null next closed kept ∙ sym (ap (number_at names) zero_is ∙ null),
          inl (nowhere-null stable.edition (number_at names w) (ap (number_at names) zero_is ∙ null)),
        ))
        (λ (s : HasStart heap w). let up = high w s in absurd (omega (arith, up, none)))
        from)
        (λ (found : (l : ℕ) × (l < length marks) × (from_address (get_or marks l 0) ≡ w - 2 ^ 32)).
        let l = found.0 in
        ⊎_elim
        (λ (nowhere : LeadsNowhere heap.edition w). let zero_is = null_is w other nowhere in let e = found.2 in absurd (omega (arith, e, zero_is)))
        (λ (s : HasStart heap w).
        let up = high w s in
        let e = found.2 in
        let here : at l ≡ w = omega (arith, e, up) in
        let n : get_or kept l 0 ≡ number_at names w = kept_is l found.1 ∙ ap (number_at names) here in (
          ap (number_at name) (sym e) ∙ named_mark next closed kept l kept_long found.1 ∙ n,
          inr (l, there_is kept l (omega (arith, kept_long, found.1)) ∙ ap some n),
        ))
        from)
        (target_cases marks (w - 2 ^ 32) target)

    -- an immediate stays one
    stays_immediate : (w : ℕ) → is_immediate u.heap.edition w ≡ true → (number_at name (low w) ≡ w) × (number_at names w ≡ w)
    stays_immediate w immediate = (
      ap (number_at name) (low_immediate w immediate) ∙ number_immediate name w immediate,
      number_immediate names w (ap (λ e. is_immediate e w) (h.named ∙ edition_is) ∙ immediate),
    )

    -- where a reference of the next heap leads
    pub leads : (w : ℕ) → IsNullOrStart heap w → IsValue u.heap.edition marks (low w) → (number_at name (low w) ≡ number_at names w) × IsNullOrAmong stable.edition kept (number_at names w)
    leads w from value = ⊎_elim
        (λ (immediate : is_immediate u.heap.edition w ≡ true).
        let stays = stays_immediate w immediate in (
          stays.0 ∙ sym stays.1,
          inl (nowhere-immediate stable.edition (number_at names w) (ap₂ is_immediate (h.numbered.edition ∙ edition_is) stays.1 ∙ immediate)),
        ))
        (λ (other : is_immediate u.heap.edition w ≡ false).
        let to = leads_other w other from (target_low w other value) in
        (ap (number_at name) (low_other w other) ∙ to.0, to.1))
        (cases_Bool (is_immediate u.heap.edition w))

    target_of : (k j : ℕ) → k < length marks → 1 ≤ j → j ≤ refs_of (header k) → IsValue u.heap.edition marks (low (heap.word (at k + j)))
    target_of k j lt low few =
        let is = ap refs_of (next_head k lt) in
        subst (IsValue u.heap.edition marks) (next_pointer k j lt low (omega (arith, few))) (reference-target next closed k j lt low (omega (arith, is, few)))

    leads_of : (k j : ℕ) → k < length marks → 1 ≤ j → j ≤ refs_of (header k) → (number_at name (low (heap.word (at k + j))) ≡ number_at names (heap.word (at k + j))) × IsNullOrAmong stable.edition kept (number_at names (heap.word (at k + j)))
    leads_of k j lt low few = leads (heap.word (at k + j)) (h.leads (at k) j (started k lt) low (omega (arith, few))) (target_of k j lt low few)

    -- a number that is kept is the number of a marked object
    kept_at : (n : ℕ) → IsAmong kept n → (k : ℕ) × (k < length marks) × (number_at names (at k) ≡ n)
    kept_at n (i, e) =
        let back = at_map_back (λ m. number_at names (to_address m)) marks i n e in
        (i, at_below marks i back.0 back.1, ap (λ m. number_at names (to_address m)) (read_at marks i back.0 0 back.1) ∙ back.2)

    -- a weak word that leads to a kept object still does, and an immediate stays; any other weak word becomes null
    weak_other : (w : ℕ) → is_immediate u.heap.edition w ≡ false → IsNullOrStart heap w → cond (is_among kept (number_at names w)) (number_at names w) 0 ≡ number_at name (w - 2 ^ 32)
    weak_other w other from =
        let n = number_at names w in
        ⊎_elim
        (λ (target : is_target marks (w - 2 ^ 32) ≡ true).
        let to = leads_other w other from target in
        ⊎_elim
        (λ (nowhere : LeadsNowhere heap.edition w).
        let none : n ≡ 0 = ap (number_at names) (null_is w other nowhere) ∙ null in
        zero_either (is_among kept n) n none ∙ sym none ∙ sym to.0)
        (λ (s : HasStart heap w).
        ⊎_elim
        (λ (nowhere : LeadsNowhere stable.edition n). let none = null_named w s nowhere in zero_either (is_among kept n) n none ∙ sym none ∙ sym to.0)
        (λ (among : IsAmong kept n). ap (λ b. cond b n 0) (among_is kept n among.0 among.1) ∙ sym to.0)
        to.1)
        from)
        (λ (no_target : is_target marks (w - 2 ^ 32) ≡ false).
        let gone : number_at name (w - 2 ^ 32) ≡ 0 = named_none next closed kept (w - 2 ^ 32) (lowered_other w other) no_target in
        ⊎_elim
        (λ (nowhere : LeadsNowhere heap.edition w). zero_either (is_among kept n) n (ap (number_at names) (null_is w other nowhere) ∙ null) ∙ sym gone)
        (λ (s : HasStart heap w).
        ap (λ b. cond b n 0)
        (none_among kept n
        (λ i e.
        let k = kept_at n (i, e) in
        let same : at k.0 ≡ w = h.numbered.one (at k.0) w (started k.0 k.1) s k.2 in
        let found = target_mark marks (w - 2 ^ 32) k.0 k.1 (omega (arith, same)) in
        both_ways (is_target marks (w - 2 ^ 32)) no_target (or_right (eqb (w - 2 ^ 32) 0) (list_any (λ m. from_address m == w - 2 ^ 32) marks) found)))
        ∙ sym gone)
        from)
        (cases_Bool (is_target marks (w - 2 ^ 32)))

    -- no number of an object is an immediate
    number_low : (w : ℕ) → is_immediate u.heap.edition w ≡ false → IsNullOrStart heap w → is_immediate u.heap.edition (number_at names w) ≡ false
    number_low w other from = ⊎_elim
        (λ (nowhere : LeadsNowhere heap.edition w). ap (is_immediate u.heap.edition) (ap (number_at names) (null_is w other nowhere) ∙ null) ∙ apart 0 (omega arith))
        (λ (s : HasStart heap w). let g = h.given w s in apart (number_at names w) g.1)
        from

    weak_leads : (k w : ℕ) → IsNullOrStart heap w
        → cond (is_immediate (header k).edition (number_at names w) || is_among kept (number_at names w)) (number_at names w) 0 ≡ number_at name (low w)
    weak_leads k w from =
        let n = number_at names w in
        ⊎_elim
        (λ (immediate : is_immediate u.heap.edition w ≡ true).
        let stays = stays_immediate w immediate in
        let here : is_immediate (header k).edition n ≡ true = ap₂ is_immediate edition_is stays.1 ∙ immediate in
        ap (λ b. cond (b || is_among kept n) n 0) here ∙ stays.1 ∙ sym stays.0)
        (λ (other : is_immediate u.heap.edition w ≡ false).
        let here : is_immediate (header k).edition n ≡ false = ap (λ e. is_immediate e n) edition_is ∙ number_low w other from in
        ap (λ b. cond (b || is_among kept n) n 0) here ∙ weak_other w other from ∙ sym (ap (number_at name) (low_other w other)))
        (cases_Bool (is_immediate u.heap.edition w))

    -- the k-th object is the same in both heaps, after weak words that led to dropped objects became null
    same_object : (k : ℕ) → k < length marks → left_words (head_of stable (number_at names (at k))) kept 0 (stable.words (number_at names (at k))) ≡ numbered_object name (object_at u.heap.edition next.words (mark k))
    same_object k lt =
        let n = number_at names (at k) in
        let p = pointers_of (header k) in
        let refs = refs_of (header k) in
        let s = started k lt in
        let placed = closed.placed k 0 lt in
        let is = next_head k lt in
        let long = h.numbered.long (at k) s in
        let other_long = object_long name u.heap.edition next.words (mark k) placed in
        let sizes = ap size_of is in
        let words = stable.words n in
        let same_head = header_is names heap stable h (at k) s in
        ap (λ x. left_words x kept 0 words) same_head
        ∙ same_number_lists (left_words (header k) kept 0 words) (numbered_object name (object_at u.heap.edition next.words (mark k)))
        (left_long (header k) kept 0 words ∙ long ∙ sym sizes ∙ sym other_long)
        (λ j few.
        let all = left_long (header k) kept 0 words in
        let small : j < size_of (header k) = omega (arith, few, all, long) in
        let w = heap.word (at k + j) in
        let v = get_or next.words (mark k + j) 0 in
        let read : get_or (left_words (header k) kept 0 words) j 0 ≡ left_word (header k) kept j (numbered_word names p j w) =
        left_at (header k) kept 0 words j (omega (arith, small, long))
        ∙ ap (λ i. left_word (header k) kept i (get_or words j 0)) (let z : 0 + j ≡ j = omega arith in z)
        ∙ ap (left_word (header k) kept j) (h.numbered.words (at k) j s small) in
        let to : get_or (numbered_object name (object_at u.heap.edition next.words (mark k))) j 0 ≡ numbered_word name p j v =
        object_word name u.heap.edition next.words (mark k) j placed (omega (arith, small, sizes)) ∙ ap (λ x. numbered_word name (pointers_of x) j v) is in
        let stays : (1 ≤ j → p < j) → left_word (header k) kept j (numbered_word names p j w) ≡ numbered_word name p j v =
        λ behind.
        left_other (header k) kept j (numbered_word names p j w) (λ low. let past = behind (omega (arith, low)) in omega (arith, past))
        ∙ numbered_other names p j w behind ∙ sym (numbered_other name p j v behind ∙ next_other k j lt behind small) in
        read
        ∙ ⊎_elim
        (λ (first : j < 1). stays (λ low. absurd (omega (arith, first, low))))
        (λ (low_j : 1 ≤ j). ⊎_elim
        (λ (past : p < j). stays (λ _. past))
        (λ (within : j ≤ p).
        let from = ap (left_word (header k) kept j) (numbered_reference names p j w low_j within) in
        let pointer = numbered_reference name p j v low_j within ∙ ap (number_at name) (next_pointer k j lt low_j within) in
        ⊎_elim
        (λ (weak : refs < j).
        from ∙ left_weak (header k) kept j (number_at names w) (omega (arith, weak)) (omega (arith, within)) ∙ weak_leads k w (h.leads (at k) j s low_j within) ∙ sym pointer)
        (λ (strong : j ≤ refs).
        from ∙ left_other (header k) kept j (number_at names w) (λ past. absurd (omega (arith, past, strong))) ∙ sym (leads_of k j lt low_j strong).0 ∙ sym pointer)
        (cases_lt refs j))
        (cases_lt p j))
        (cases_lt j 1)
        ∙ sym to)

    -- where a root of the next heap leads
    root_leads : (i : ℕ) → i < length roots → (number_at name (low (get_or roots i 0)) ≡ number_at names (get_or roots i 0)) × IsNullOrAmong stable.edition kept (number_at names (get_or roots i 0))
    root_leads i lt =
        leads (get_or roots i 0) (reached i 0 lt)
        (subst (IsValue u.heap.edition marks) (get_or-map low roots i 0 0 lt) (closed.roots i 0 (let long = length-map roots low in omega (arith, lt, long))))

    -- the roots lead to kept objects
    roots_kept : (n : ℕ) → IsAmong stable.roots n → IsNullOrAmong stable.edition kept n
    roots_kept n among =
        let back = at_map_back (number_at names) roots among.0 n (subst (λ (l : List ℕ). get_elem? l among.0 ≡ some n) roots_are among.1) in
        let inside = at_below roots among.0 back.0 back.1 in
        subst (IsNullOrAmong stable.edition kept) (ap (number_at names) (read_at roots among.0 back.0 0 back.1) ∙ back.2) (root_leads among.0 inside).1

    pub may_keep : MayKeep stable kept
    may_keep = record {
      there = λ n among. let k = kept_at n among in subst (IsAmong stable.there) k.2 (h.numbered.there (at k.0) (started k.0 k.1));
      roots = roots_kept;
      closed = λ n field among few.
          let k = kept_at n among in
          let s = started k.0 k.1 in
          let is : head_of stable n ≡ header k.0 = ap (head_of stable) (sym k.2) ∙ header_is names heap stable h (at k.0) s in
          let small : field < refs_of (header k.0) = subst (λ x. field < refs_of x) is few in
          let p = pointers_of (header k.0) in
          let read : get_or (stable.words n) (1 + field) 0 ≡ number_at names (heap.word (at k.0 + (1 + field))) =
          ap (λ x. get_or (stable.words x) (1 + field) 0) (sym k.2) ∙ h.numbered.words (at k.0) (1 + field) s (omega (arith, small))
          ∙ numbered_reference names p (1 + field) (heap.word (at k.0 + (1 + field))) (omega arith) (omega (arith, small)) in
          subst (IsNullOrAmong stable.edition kept) (sym read) (leads_of k.0 (1 + field) k.1 (omega arith) (omega (arith, small))).1;
    }

    pub numbered_next : IsNumberedAs next kept (stepped stable (Keeps kept))
    numbered_next = record {
      edition = h.numbered.edition ∙ edition_is;
      there = refl;
      words = map_same (stepped stable (Keeps kept)).words (λ i. number_at names (to_address i)) (numbered_object name) (object_at u.heap.edition next.words) marks (λ k lt. same_object k lt);
      roots = roots_are ∙ roots_same (number_at names) (number_at name) low roots (λ i lt. (root_leads i lt).0);
      given = λ i lt.
          let inside : i < length marks = omega (arith, lt, kept_long) in
          let g = h.given (at i) (started i inside) in
          let e = kept_is i inside in
          (let low = g.0 in omega (arith, low, e), let up = g.1 in omega (arith, up, e));
      once = λ i j lt lt2 e.
          let first : i < length marks = omega (arith, lt, kept_long) in
          let second : j < length marks = omega (arith, lt2, kept_long) in
          let same = h.numbered.one (at i) (at j) (started i first) (started j second) (sym (kept_is i first) ∙ e ∙ kept_is j second) in
          marks_once next closed i j first second (omega (arith, same));
    }
