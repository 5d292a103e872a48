-- What one thread writes into its heap, in object numbers, is a life of the stable heap.
use Rattle.std.proofs.Common.{◌≡◌, ◌≢◌, ℕ, zero, suc, ◌+◌, ◌-◌, ◌<◌, ◌≤◌, ◌⊎◌, ◌&&◌, true, false, cond, leb, ltb, List, [], ◌∷◌, length, get_or, set, replicate, refl, sym, ap, ap₂, ◌∙◌, inl, inr, ⊎_elim, subst, arith, eq-eqb, ne_eqb, le-leb, length-set, get_or-set_same, get_or-set_other}
use Rattle.std.proofs.lemmas.Bool.{cases_lt, cases_Bool, and_from, and_parts, leb-true, ltb-true, lt-ltb}
use Rattle.std.proofs.lemmas.List.{get_or-replicate, length-replicate}
use mathlib.Core.Option.{some, some-injective, some-ne-none}
use mathlib.Core.Logic.{dite}
use native.Mathlib.Decide.{ℕ_discrete}
use lib.ListN.{get_elem?}
use Rattle.heap_layout.specs.Header.{Head, header_of, refs_of, weak_of, size_of}
use Rattle.heap_layout.specs.Kinds.{refers, count_of, first_of}
use Rattle.heap_layout.specs.declared.kind.Kind.{Kind}
use Rattle.heap_layout.specs.declared.kind.Kind.TheVariants.{Header, Reference, Weak, Data}
use Rattle.heap_layout.specs.Values.{is_immediate, IsImmediate, LeadsNowhere}
use Rattle.heap_layout.proofs.Values.{nowhere-null, nowhere-cases}
use Rattle.comp_history.specs.Lists.{but, look}
use Rattle.comp_history.specs.OneThread.{OneThreadHeap, HasStart, IsFree, IsNullOrStart, header_in, starts_after}
use Rattle.comp_cycles.specs.Stable.{StableHeap, Makes, IsNullOrAmong, head_of, with_word, stepped}
use Rattle.comp_cycles.specs.NumberedHeaps.{Names, number_at, pointers_of, numbered_value, numbered_word, owner, AreNumbered}

-- ---- small lemmas

pub but_same : {A : Type 0} (f : ℕ → A) (p q : ℕ) (x : A) → q ≡ p → but f p x q ≡ x
but_same f p q x e = ap (λ t. cond t x (f q)) (eq-eqb q p e)

pub but_other : {A : Type 0} (f : ℕ → A) (p q : ℕ) (x : A) → q ≢ p → but f p x q ≡ f q
but_other f p q x ne = ap (λ t. cond t x (f q)) (ne_eqb q p ne)

-- the number of an address that is no immediate, and an immediate
pub number_is : (names : Names) (a : ℕ) → is_immediate names.edition a ≡ false → number_at names a ≡ look 0 names.numbers a
number_is names a other = ap (λ b. cond b a (look 0 names.numbers a)) other

pub number_immediate : (names : Names) (a : ℕ) → IsImmediate names.edition a → number_at names a ≡ a
number_immediate names a is = ap (λ b. cond b a (look 0 names.numbers a)) is

-- references and weak words become numbers
pub numbered_reference : (names : Names) (pointers at word : ℕ) → 1 ≤ at → at ≤ pointers → numbered_word names pointers at word ≡ number_at names word
numbered_reference names pointers at word low high = ap (λ t. cond t (number_at names word) word) (and_from (leb 1 at) (leb at pointers) (le-leb 1 at low) (le-leb at pointers high))

-- all other words stay
pub numbered_other : (names : Names) (pointers at word : ℕ) → (1 ≤ at → pointers < at) → numbered_word names pointers at word ≡ word
numbered_other names pointers at word behind = ⊎_elim
    (λ (is : (leb 1 at && leb at pointers) ≡ true).
    let parts = and_parts (leb 1 at) (leb at pointers) is in
    let low = leb-true 1 at parts.0 in
    let high = leb-true at pointers parts.1 in
    let past = behind low in absurd (omega (arith, high, past)))
    (λ (is : (leb 1 at && leb at pointers) ≡ false). ap (λ t. cond t (number_at names word) word) is)
    (cases_Bool (leb 1 at && leb at pointers))

-- null is 0 in both heaps
pub numbered_null : (names : Names) (pointers at : ℕ) → number_at names 0 ≡ 0 → numbered_word names pointers at 0 ≡ 0
numbered_null names pointers at null = ⊎_elim
    (λ (is : (leb 1 at && leb at pointers) ≡ true). ap (λ t. cond t (number_at names 0) 0) is ∙ null)
    (λ (is : (leb 1 at && leb at pointers) ≡ false). ap (λ t. cond t (number_at names 0) 0) is)
    (cases_Bool (leb 1 at && leb at pointers))

-- a field comes after the header
pub field_above : (k : Kind) (header : Head) (f : ℕ) → f < count_of k header → 1 ≤ first_of k header + f
field_above Header header f lt = absurd (omega (arith, lt))
field_above Reference header f lt = omega arith
field_above Weak header f lt = omega arith
field_above Data header f lt = omega arith

-- a field is not a header
pub other_kind : (k : Kind) (header : Head) (f : ℕ) → f < count_of k header → k ≢ Header
other_kind Header header f lt e = omega (arith, lt)
other_kind Reference header f lt e = cc
other_kind Weak header f lt e = cc
other_kind Data header f lt e = cc

-- a field among the words that lead to objects is of a kind that refers
pub refers_below : (k : Kind) (header : Head) (f : ℕ) → f < count_of k header → first_of k header + f ≤ pointers_of header → refers k ≡ true
refers_below Header header f lt le = absurd (omega (arith, lt))
refers_below Reference header f lt le = refl
refers_below Weak header f lt le = refl
refers_below Data header f lt le = absurd (omega (arith, le))

-- a field in object numbers depends on its kind only
pub numbered_field : (names : Names) (k : Kind) (header : Head) (f value : ℕ) → f < count_of k header
    → numbered_word names (pointers_of header) (first_of k header + f) value ≡ numbered_value names k value
numbered_field names Header header f value lt = absurd (omega (arith, lt))
numbered_field names Reference header f value lt = numbered_reference names (pointers_of header) (1 + f) value (omega arith) (omega (arith, lt))
numbered_field names Weak header f value lt = numbered_reference names (pointers_of header) (1 + refs_of header + f) value (omega arith) (omega (arith, lt))
numbered_field names Data header f value lt = numbered_other names (pointers_of header) (1 + refs_of header + weak_of header + f) value (λ _. omega arith)

-- the owner of a word is the object that has the word
pub owner_is : (header : ℕ → Head) (starts : List ℕ) (s a i : ℕ) → get_elem? starts i ≡ some s
    → ((x y j k : ℕ) → get_elem? starts j ≡ some x → get_elem? starts k ≡ some y → x < y → x + size_of (header x) ≤ y)
    → s ≤ a → a < s + size_of (header s) → owner header starts a ≡ s
owner_is header [] s a i e apart le lt = absurd (some-ne-none s (sym e))
owner_is header (t ∷ starts) s a zero e apart le lt =
    let same : t ≡ s = some-injective t s e in
    let here : (leb s a && ltb a (s + size_of (header s))) ≡ true = and_from (leb s a) (ltb a (s + size_of (header s))) (le-leb s a le) (lt-ltb a (s + size_of (header s)) lt) in
    ap (λ x. cond (leb x a && ltb a (x + size_of (header x))) x (owner header starts a)) same ∙ ap (λ b. cond b s (owner header starts a)) here
owner_is header (t ∷ starts) s a (suc i) e apart le lt = ⊎_elim
    (λ (is : (leb t a && ltb a (t + size_of (header t))) ≡ true).
    let parts = and_parts (leb t a) (ltb a (t + size_of (header t))) is in
    let low = leb-true t a parts.0 in
    let high = ltb-true a (t + size_of (header t)) parts.1 in
    let same : t ≡ s = ⊎_elim
    (λ (below : t < s). let z = apart t s 0 (suc i) refl e below in absurd (omega (arith, z, high, le)))
    (λ (above : s ≤ t). ⊎_elim
    (λ (over : s < t). let z = apart s t (suc i) 0 e refl over in absurd (omega (arith, z, low, lt)))
    (λ (under : t ≤ s). let z : t ≡ s = omega (arith, above, under) in z)
    (cases_lt s t))
    (cases_lt t s) in
    ap (λ b. cond b t (owner header starts a)) is ∙ same)
    (λ (is : (leb t a && ltb a (t + size_of (header t))) ≡ false).
    ap (λ b. cond b t (owner header starts a)) is
    ∙ owner_is header starts s a i e (λ x y j k at_x at_y below. apart x y (suc j) (suc k) at_x at_y below) le lt)
    (cases_Bool (leb t a && ltb a (t + size_of (header t))))

-- ---- one step

-- The two heaps have the same objects. The objects of the heap of one thread do not overlap, and each reference leads
-- nowhere or to an object.
pub record Agrees (names : Names) (heap : OneThreadHeap) (stable : StableHeap) : Type 0 where
  pub named : names.edition ≡ heap.edition
  pub numbered : AreNumbered names heap stable
  pub apart : (a b : ℕ) → HasStart heap a → HasStart heap b → a < b → a + size_of (header_in heap a) ≤ b
  pub given : (a : ℕ) → HasStart heap a → (1 ≤ number_at names a) × (number_at names a ≤ stable.given)
  pub leads : (a at : ℕ) → HasStart heap a → 1 ≤ at → at ≤ pointers_of (header_in heap a) → IsNullOrStart heap (heap.word (a + at))

-- the heap after one word was written
abbrev pub wrote : OneThreadHeap → Kind → ℕ → ℕ → OneThreadHeap
wrote heap k a value = record { edition = heap.edition; word = but heap.word a value; starts = starts_after k a heap.starts }

module _ (names : Names) (heap : OneThreadHeap) (stable : StableHeap) (h : Agrees names heap stable) where
  -- the header of an object is the same in both heaps
  pub header_is : (a : ℕ) → HasStart heap a → head_of stable (number_at names a) ≡ header_in heap a
  header_is a s = ap₂ header_of h.numbered.edition
      (h.numbered.words a 0 s (omega arith) ∙ numbered_other names (pointers_of (header_in heap a)) 0 (heap.word (a + 0)) (λ (z : 1 ≤ 0). absurd (omega (arith, z))) ∙ ap heap.word (let z : a + 0 ≡ a = omega arith in z))

  -- what leads nowhere does so in object numbers too
  pub nowhere_too : (value : ℕ) → number_at names 0 ≡ 0 → LeadsNowhere heap.edition value → LeadsNowhere heap.edition (number_at names value)
  nowhere_too value null nowhere = ⊎_elim
      (λ (zero_is : value ≡ 0). nowhere-null heap.edition (number_at names value) (ap (number_at names) zero_is ∙ null))
      (λ (immediate : IsImmediate heap.edition value).
      subst (LeadsNowhere heap.edition) (sym (number_immediate names value (ap (λ e. is_immediate e value) h.named ∙ immediate))) nowhere)
      (nowhere-cases heap.edition value nowhere)

  -- a value that may be written as a reference leads nowhere or has a number in the stable heap
  pub may_refer : (value : ℕ) → number_at names 0 ≡ 0 → IsNullOrStart heap value → IsNullOrAmong stable.edition stable.there (number_at names value)
  may_refer value null leads = ⊎_elim
      (λ (nowhere : LeadsNowhere heap.edition value). inl (subst (λ e. LeadsNowhere e (number_at names value)) (sym h.numbered.edition) (nowhere_too value null nowhere)))
      (λ (s : HasStart heap value). inr (h.numbered.there value s))
      leads

  module _ (object at value : ℕ) (there : HasStart heap object) (above : 1 ≤ at) (inside : at < size_of (header_in heap object)) where
    n : ℕ
    n = number_at names object

    abbrev w : ℕ
    w = numbered_word names (pointers_of (header_in heap object)) at value

    abbrev heap_then : OneThreadHeap
    heap_then = record { edition = heap.edition; word = but heap.word (object + at) value; starts = heap.starts }

    abbrev stable_then : StableHeap
    stable_then = with_word stable (number_at names object) at w

    -- no word of another object is written
    elsewhere : (b k : ℕ) → HasStart heap b → b ≢ object → k < size_of (header_in heap b) → b + k ≢ object + at
    elsewhere b k s other lt e = ⊎_elim
        (λ (below : b < object). let z = h.apart b object s there below in absurd (omega (arith, z, lt, e)))
        (λ (le : object ≤ b). ⊎_elim
        (λ (over : object < b). let z = h.apart object b there s over in absurd (omega (arith, z, inside, e)))
        (λ (under : b ≤ object). other (omega (arith, le, under)))
        (cases_lt object b))
        (cases_lt b object)

    -- no header is overwritten
    head_then : (b : ℕ) → HasStart heap b → header_in heap_then b ≡ header_in heap b
    head_then b s = ap (header_of heap.edition) (but_other heap.word (object + at) b value
        (λ e. dite (ℕ_discrete b object)
        (λ same. absurd (omega (arith, e, same, above)))
        (λ other. elsewhere b 0 s other (omega arith) (omega (arith, e)))))

    -- the words of another object do not change
    others : (b : ℕ) → HasStart heap b → b ≢ object → stable_then.words (number_at names b) ≡ stable.words (number_at names b)
    others b s other = but_other stable.words (number_at names object) (number_at names b) (set (stable.words (number_at names object)) at w) (λ e. other (h.numbered.one b object s there e))

    own : (b : ℕ) → b ≡ object → stable_then.words (number_at names b) ≡ set (stable.words (number_at names object)) at w
    own b same = but_same stable.words (number_at names object) (number_at names b) (set (stable.words (number_at names object)) at w) (ap (number_at names) same)

    words_then : (b k : ℕ) → HasStart heap b → k < size_of (header_in heap b) → get_or (stable_then.words (number_at names b)) k 0 ≡ numbered_word names (pointers_of (header_in heap b)) k (heap_then.word (b + k))
    words_then b k s lt = dite (ℕ_discrete b object)
        (λ same. dite (ℕ_discrete k at)
        (λ here.
        let long = h.numbered.long object there in
        ap (λ l. get_or l k 0) (own b same) ∙ ap (λ i. get_or (set (stable.words (number_at names object)) at w) i 0) here
        ∙ get_or-set_same (stable.words (number_at names object)) at w 0 (omega (arith, long, inside))
        ∙ ap (λ r. numbered_word names r at value) (ap (λ x. pointers_of (header_in heap x)) (sym same))
        ∙ ap (λ i. numbered_word names (pointers_of (header_in heap b)) i value) (sym here)
        ∙ ap (numbered_word names (pointers_of (header_in heap b)) k) (sym (but_same heap.word (object + at) (b + k) value (omega (arith, same, here)))))
        (λ other.
        ap (λ l. get_or l k 0) (own b same) ∙ get_or-set_other (stable.words (number_at names object)) at k w 0 other
        ∙ ap (λ x. get_or (stable.words (number_at names x)) k 0) (sym same) ∙ h.numbered.words b k s lt
        ∙ ap (numbered_word names (pointers_of (header_in heap b)) k) (sym (but_other heap.word (object + at) (b + k) value (λ e. other (omega (arith, e, same)))))))
        (λ other.
        ap (λ l. get_or l k 0) (others b s other) ∙ h.numbered.words b k s lt
        ∙ ap (numbered_word names (pointers_of (header_in heap b)) k) (sym (but_other heap.word (object + at) (b + k) value (elsewhere b k s other lt))))

    long_then : (b : ℕ) → HasStart heap b → length (stable_then.words (number_at names b)) ≡ size_of (header_in heap b)
    long_then b s = dite (ℕ_discrete b object)
        (λ same. ap length (own b same) ∙ length-set (stable.words (number_at names object)) at w ∙ ap (λ x. length (stable.words (number_at names x))) (sym same) ∙ h.numbered.long b s)
        (λ other. ap length (others b s other) ∙ h.numbered.long b s)

    -- both heaps still agree after the word was written
    pub written : (at ≤ pointers_of (header_in heap object) → IsNullOrStart heap value) → Agrees names heap_then stable_then
    written may = record {
      named = h.named;
      numbered = record {
        edition = h.numbered.edition;
        there = h.numbered.there;
        one = h.numbered.one;
        long = λ b s. long_then b s ∙ ap size_of (sym (head_then b s));
        words = λ b k s lt.
            let head = head_then b s in
            words_then b k s (subst (λ x. k < size_of x) head lt) ∙ ap (λ x. numbered_word names (pointers_of x) k (heap_then.word (b + k))) (sym head);
      };
      apart = λ a b s t below. subst (λ x. a + size_of x ≤ b) (sym (head_then a s)) (h.apart a b s t below);
      given = h.given;
      leads = λ b k s low high.
          let head = head_then b s in
          let few : k ≤ pointers_of (header_in heap b) = subst (λ x. k ≤ pointers_of x) head high in
          dite (ℕ_discrete (b + k) (object + at))
          (λ here.
          let same : b ≡ object = dite (ℕ_discrete b object) (λ e. e) (λ other. absurd (elsewhere b k s other (omega (arith, few)) here)) in
          let place : k ≡ at = omega (arith, here, same) in
          subst (IsNullOrStart heap) (sym (but_same heap.word (object + at) (b + k) value here))
          (may (subst (λ i. i ≤ pointers_of (header_in heap object)) place (subst (λ x. k ≤ pointers_of (header_in heap x)) same few))))
          (λ other. subst (IsNullOrStart heap) (sym (but_other heap.word (object + at) (b + k) value other)) (h.leads b k s low few));
    }

  module _ (a value : ℕ) (free : IsFree heap a (size_of (header_of heap.edition value))) (number : number_at names a ≡ stable.given + 1) (null : number_at names 0 ≡ 0)
      (zeros : (k : ℕ) → 1 ≤ k → k < size_of (header_of heap.edition value) → heap.word (a + k) ≡ 0)
    where
      abbrev heap_made : OneThreadHeap
      heap_made = record { edition = heap.edition; word = but heap.word a value; starts = a ∷ heap.starts }

      abbrev stable_made : StableHeap
      stable_made = stepped stable (Makes value)

      abbrev fields : List ℕ
      fields = replicate (size_of (header_of stable.edition value) - 1) 0

      abbrev header : Head
      header = header_of heap.edition value

      -- both heaps read the header in the same way
      same_header : header_of stable.edition value ≡ header
      same_header = ap (λ e. header_of e value) h.numbered.edition

      -- an object existed before, or is the new one
      was : (b : ℕ) → HasStart heap_made b → HasStart heap b ⊎ (b ≡ a)
      was b (zero, e) = inr (sym (some-injective a b e))
      was b (suc i, e) = inl (i, e)

      -- the new header is no word of an older object
      old_word : (b k : ℕ) → HasStart heap b → k < size_of (header_in heap b) → b + k ≢ a
      old_word b k s lt e = ⊎_elim (λ (below : b + size_of (header_in heap b) ≤ a). absurd (omega (arith, below, lt, e))) (λ (above : a + size_of header ≤ b). absurd (omega (arith, above, e))) (free b s)

      old_head : (b : ℕ) → HasStart heap b → header_in heap_made b ≡ header_in heap b
      old_head b s = ap (header_of heap.edition) (but_other heap.word a b value (λ e. old_word b 0 s (omega arith) (omega (arith, e))))

      old_words : (b : ℕ) → HasStart heap b → stable_made.words (number_at names b) ≡ stable.words (number_at names b)
      old_words b s = but_other stable.words (stable.given + 1) (number_at names b) (value ∷ fields) (λ e. let g = h.given b s in omega (arith, g.1, e))

      new_words : stable_made.words (number_at names a) ≡ value ∷ fields
      new_words = but_same stable.words (stable.given + 1) (number_at names a) (value ∷ fields) number

      new_head : header_in heap_made a ≡ header
      new_head = ap (header_of heap.edition) (but_same heap.word a a value refl)

      fields_long : length fields ≡ size_of header - 1
      fields_long = length-replicate (size_of (header_of stable.edition value) - 1) 0 ∙ ap (λ x. size_of x - 1) same_header

      -- the words of the new object
      new_word : (k : ℕ) → k < size_of header → get_or (value ∷ fields) k 0 ≡ numbered_word names (pointers_of header) k (but heap.word a value (a + k))
      new_word zero lt =
          sym (numbered_other names (pointers_of header) 0 (but heap.word a value (a + 0)) (λ (z : 1 ≤ 0). absurd (omega (arith, z))) ∙ but_same heap.word a (a + 0) value (omega arith))
      new_word (suc k) lt =
          get_or-replicate (size_of (header_of stable.edition value) - 1) k 0 0 (let s = ap size_of same_header in omega (arith, s, lt))
          ∙ sym (ap (numbered_word names (pointers_of header) (suc k)) (but_other heap.word a (a + suc k) value (λ e. omega (arith, e)) ∙ zeros (suc k) (omega arith) lt) ∙ numbered_null names (pointers_of header) (suc k) null)

      pub made : Agrees names heap_made stable_made
      made = record {
        named = h.named;
        numbered = record {
          edition = h.numbered.edition;
          there = λ b s. ⊎_elim
              (λ (old : HasStart heap b). let t = h.numbered.there b old in (suc t.0, t.1))
              (λ (new : b ≡ a). (zero, ap some (sym (ap (number_at names) new ∙ number))))
              (was b s);
          one = λ b c s t e. ⊎_elim
              (λ (old : HasStart heap b). ⊎_elim
              (λ (older : HasStart heap c). h.numbered.one b c old older e)
              (λ (new : c ≡ a). let g = h.given b old in let m = ap (number_at names) new ∙ number in absurd (omega (arith, g.1, m, e)))
              (was c t))
              (λ (new : b ≡ a). ⊎_elim
              (λ (older : HasStart heap c). let g = h.given c older in let m = ap (number_at names) new ∙ number in absurd (omega (arith, g.1, m, e)))
              (λ (newer : c ≡ a). new ∙ sym newer)
              (was c t))
              (was b s);
          long = λ b s. ⊎_elim
              (λ (old : HasStart heap b). ap length (old_words b old) ∙ h.numbered.long b old ∙ ap size_of (sym (old_head b old)))
              (λ (new : b ≡ a). subst (λ x. length (stable_made.words (number_at names x)) ≡ size_of (header_in heap_made x)) (sym new)
              (ap length new_words ∙ (let z : length (value ∷ fields) ≡ size_of header = omega (arith, fields_long) in z) ∙ ap size_of (sym new_head)))
              (was b s);
          words = λ b k s lt. ⊎_elim
              (λ (old : HasStart heap b).
              let head = old_head b old in
              let inside : k < size_of (header_in heap b) = subst (λ x. k < size_of x) head lt in
              ap (λ l. get_or l k 0) (old_words b old) ∙ h.numbered.words b k old inside
              ∙ ap (numbered_word names (pointers_of (header_in heap b)) k) (sym (but_other heap.word a (b + k) value (old_word b k old inside)))
              ∙ ap (λ x. numbered_word names (pointers_of x) k (heap_made.word (b + k))) (sym head))
              (λ (new : b ≡ a).
              let inside : k < size_of header = subst (λ x. k < size_of x) (ap (header_in heap_made) new ∙ new_head) lt in
              subst (λ x. get_or (stable_made.words (number_at names x)) k 0 ≡ numbered_word names (pointers_of (header_in heap_made x)) k (heap_made.word (x + k))) (sym new)
              (ap (λ l. get_or l k 0) new_words ∙ new_word k inside ∙ ap (λ x. numbered_word names (pointers_of x) k (heap_made.word (a + k))) (sym new_head)))
              (was b s);
        };
        apart = λ b c s t below. ⊎_elim
            (λ (old : HasStart heap b). ⊎_elim
            (λ (older : HasStart heap c). subst (λ x. b + size_of x ≤ c) (sym (old_head b old)) (h.apart b c old older below))
            (λ (new : c ≡ a).
            let head = ap size_of (old_head b old) in
            ⊎_elim (λ (first : b + size_of (header_in heap b) ≤ a). omega (arith, first, new, head)) (λ (second : a + size_of header ≤ b). absurd (omega (arith, second, new, below))) (free b old))
            (was c t))
            (λ (new : b ≡ a).
            let head = ap size_of (ap (header_in heap_made) new ∙ new_head) in
            ⊎_elim
            (λ (older : HasStart heap c). ⊎_elim (λ (first : c + size_of (header_in heap c) ≤ a). absurd (omega (arith, first, new, below))) (λ (second : a + size_of header ≤ c). omega (arith, second, new, head)) (free c older))
            (λ (newer : c ≡ a). absurd (omega (arith, new, newer, below)))
            (was c t))
            (was b s);
        given = λ b s. ⊎_elim
            (λ (old : HasStart heap b). let g = h.given b old in (g.0, omega (arith, g.1)))
            (λ (new : b ≡ a). let m = ap (number_at names) new ∙ number in (omega (arith, m), omega (arith, m)))
            (was b s);
        leads = λ b k s low high. ⊎_elim
            (λ (old : HasStart heap b).
            let head = old_head b old in
            let few : k ≤ pointers_of (header_in heap b) = subst (λ x. k ≤ pointers_of x) head high in
            subst (IsNullOrStart heap_made) (sym (but_other heap.word a (b + k) value (old_word b k old (omega (arith, few)))))
            (⊎_elim (λ nowhere. inl nowhere) (λ (t : HasStart heap (heap.word (b + k))). inr (suc t.0, t.1)) (h.leads b k old low few)))
            (λ (new : b ≡ a).
            let few : k ≤ pointers_of header = subst (λ x. k ≤ pointers_of x) (ap (header_in heap_made) new ∙ new_head) high in
            inl (nowhere-null heap.edition (but heap.word a value (b + k)) (but_other heap.word a (b + k) value (λ e. omega (arith, e, new, low)) ∙ ap (λ x. heap.word (x + k)) new ∙ zeros k low (omega (arith, few)))))
            (was b s);
      }
