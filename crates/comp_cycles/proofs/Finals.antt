-- The to-space words at the end of a cycle: objects, and zeros outside all objects.
use Rattle.std.proofs.Common.{◌≡◌, ◌≢◌, ℕ, zero, suc, ◌+◌, ◌-◌, ◌*◌, ◌/◌, ◌%◌, ◌<◌, ◌≤◌, Option, Some, None, List, [], ◌∷◌, ◌++◌, length, get_or, refl, sym, ap, ap₂, ◌∙◌, inl, inr, ⊎_elim, subst, arith, length-append, get_or-set_other}
use Rattle.std.specs.List.{flat_map, slice_get}
use Rattle.std.proofs.lemmas.Bool.{cases_lt}
use Rattle.std.proofs.lemmas.List.{length-map, get_or-replicate}
use mathlib.Core.Option as maybe
use lib.ListN.{get_elem?}
use Rattle.heap_layout.specs.Limits.{most_object_words}
use Rattle.heap_layout.proofs.Bounds.{object_least}
use Rattle.heap_layout.specs.Header.{Head, header_of, size_of}
use Rattle.heap_layout.specs.Kinds.{count_of, first_of}
use Rattle.heap_layout.specs.Heap.{Object, header_at, object_at, live, IsClosed}
use Rattle.heap_layout.specs.declared.kind.Kind.{Kind}
use Rattle.heap_layout.specs.declared.kind.Kind.TheVariants.{Header, Reference, Weak, Data}
use Rattle.page_plan.specs.Sliding.{live_words, moved, slid_words, kinds_of, kind, shape_at, to_address, HasObject}
use Rattle.page_plan.proofs.Objects.{slid-length, slid-past}
use Rattle.page_plan.proofs.Owners.{objects_stand}
use Rattle.page_plan.proofs.Pages.{page-at}
use Rattle.page_plan.proofs.References.{address-only}
use Rattle.page_plan.proofs.Shapes.{field-inside, shape-found}
use Rattle.comp_journal.specs.Journal.{written, replayed}
use Rattle.comp_journal.specs.declared.entry.Entry.{Entry}
use Rattle.comp_history.specs.Setup.{Setup, pages, fresh_page, base_of}
use Rattle.comp_history.specs.Lawful.{kind_at, kinds_in, filled, Fits, HasHead, LawfulAfter}
use Rattle.comp_history.specs.Locks.{Journals}
use Rattle.comp_history.specs.Starts.{IsForwardingAddress}
use Rattle.comp_history.specs.Objects.{IsObjectAt, IsMadeAt}
use Rattle.comp_history.proofs.Heads.{all_made, field_kind, head_word, header_stays, none_behind, fresh_kind, IsMade}
use Rattle.comp_history.proofs.Fields.{compacted_kind, fresh_base}
use Rattle.comp_history.proofs.Leading.{base_long, slid_base}
use Rattle.comp_history.specs.Merged.{CanMerge}
use Rattle.comp_history.proofs.Words.{field_of, head_at, owner}
use Rattle.comp_cycles.proofs.Living.{field_above}
use Rattle.comp_cycles.specs.NextHeap.{word_in, kind_in}

-- ---- kinds in lists

-- past the end there is no kind
none_past : (xs : List Kind) (n : ℕ) → slice_get xs n ≡ None → length xs ≤ n
none_past [] n e = omega arith
none_past (x ∷ xs) zero e = absurd (cc)
none_past (x ∷ xs) (suc n) e = let rest = none_past xs n e in omega (arith, rest)

-- if a word of a fresh page is a header, an entry made an object there
head_of_kind : (u : Setup) (p : ℕ) (journal : List Entry) (n : ℕ) → LawfulAfter u p [] journal → slice_get (kinds_in u.heap.edition journal) n ≡ Some Header → HasHead journal n
head_of_kind u p journal n lawful e =
    let w = owner u p journal [] Header n n lawful e (omega arith) in
    (w.index, w.entry, w.there, w.head, sym (head_at u.heap.edition journal n w))

-- on a compacted page, entries write words of objects only
compacted_address : (u : Setup) (p : ℕ) (before : List Entry) (k : Kind) (writer offset value : ℕ) → p < u.compacted → Fits u p before k writer offset value → (l : Kind) × (kind (live u.heap) (64 * p + offset) ≡ Some l)
compacted_address u p before Header writer offset value lt fits = let page = fits.page in absurd (omega (arith, page.2, lt))
compacted_address u p before Reference writer offset value lt fits = (Reference, sym (compacted_kind u p before offset lt) ∙ fits.kind_is)
compacted_address u p before Weak writer offset value lt fits = (Weak, sym (compacted_kind u p before offset lt) ∙ fits.kind_is)
compacted_address u p before Data writer offset value lt fits = (Data, sym (compacted_kind u p before offset lt) ∙ fits.kind_is)

some_is_none : (o : Option Kind) (k : Kind) → o ≡ None → o ≡ Some k → ⊥
some_is_none o k a b = cc

-- a word outside all objects keeps its value
none_written : (u : Setup) (p o : ℕ) (after before : List Entry) (words : List ℕ) → p < u.compacted → LawfulAfter u p before after → kind (live u.heap) (64 * p + o) ≡ None
    → get_or (replayed words after) o 0 ≡ get_or words o 0
none_written u p o [] before words lt h none = refl
none_written u p o (e ∷ es) before words lt h none =
    let at = compacted_address u p before e.kind e.writer e.offset e.value lt h.0 in
    let other : o ≢ e.offset = λ same. some_is_none (kind (live u.heap) (64 * p + o)) at.0 none (ap (λ x. kind (live u.heap) (64 * p + x)) same ∙ at.1) in
    none_written u p o es (before ++ e ∷ []) (written words e) lt h.1 none ∙ get_or-set_other words e.offset o e.value 0 other

-- the slid words have one kind each
kinds_words : (objects others : List Object) → length (flat_map kinds_of others) ≡ length (flat_map (moved objects) others)
kinds_words objects [] = refl
kinds_words objects (o ∷ others) =
    length-append (kinds_of o) (flat_map kinds_of others) ∙ ap₂ (λ x y. x + y) (one o) (kinds_words objects others) ∙ sym (length-append (moved objects o) (flat_map (moved objects) others))
  where
    one : (o : Object) → length (kinds_of o) ≡ length (moved objects o)
    one o = simp (length-append, length-map) (omega arith)

-- ---- the words at the end

-- a word at the end, read as a header
abbrev pub head_in : Setup → Journals → ℕ → Head
head_in u journals i = header_of u.heap.edition (word_in u journals i)

-- An object starts at this index.
pub record IsWholeAt (u : Setup) (journals : Journals) (i : ℕ) : Type 0 where
  pub first : kind_in u journals i ≡ Some Header
  pub ends : i + size_of (head_in u journals i) ≤ 64 * pages u
  pub short : size_of (head_in u journals i) ≤ most_object_words u.heap.edition
  pub fields : (k : Kind) (f : ℕ) → f < count_of k (head_in u journals i) → kind_in u journals (i + first_of k (head_in u journals i) + f) ≡ Some k

-- The word at this index is in an object that starts at another index.
pub record IsWithin (u : Setup) (journals : Journals) (i : ℕ) : Type 0 where
  pub start : ℕ
  pub stands : IsWholeAt u journals start
  pub above : start < i
  pub below : i < start + size_of (head_in u journals start)

module _ (u : Setup) (journals : Journals) (closed : IsClosed u.heap) (can : CanMerge u journals) where
  abbrev objects : List Object
  objects = live u.heap

  -- the page and offset of a word
  in_page : (p o i : ℕ) → i ≡ 64 * p + o → o < 64 → (i / 64 ≡ p) × (i % 64 ≡ o)
  in_page p o i e lt = (omega (arith, e, lt), omega (arith, e, lt))

  kind_on : (p o i : ℕ) → i ≡ 64 * p + o → o < 64 → kind_in u journals i ≡ kind_at u p (journals p) o
  kind_on p o i e lt = let at = in_page p o i e lt in ap₂ (λ q n. kind_at u q (journals q) n) at.0 at.1

  word_on_page : (p o i : ℕ) → i ≡ 64 * p + o → o < 64 → word_in u journals i ≡ get_or (replayed (base_of u p) (journals p)) o 0
  word_on_page p o i e lt = let at = in_page p o i e lt in ap₂ (λ q n. get_or (replayed (base_of u q) (journals q)) n 0) at.0 at.1

  cut : (i : ℕ) → i ≡ 64 * (i / 64) + i % 64
  cut i = omega arith

  slid_kind : (i : ℕ) → i / 64 < u.compacted → kind_in u journals i ≡ kind objects i
  slid_kind i lt = compacted_kind u (i / 64) (journals (i / 64)) (i % 64) lt ∙ ap (kind objects) (sym (cut i))

  slid_few : (i : ℕ) → i < live_words objects → i / 64 < u.compacted
  slid_few i lt = let s = can.slid in omega (arith, s, lt)

  -- the header of a slid object
  slid_head : (i : ℕ) (header : Head) → shape_at objects (to_address i) ≡ Some header → head_in u journals i ≡ header
  slid_head i header is =
      let s = (objects_stand u.heap closed).stands (to_address i) header is in
      let same : to_address i - to_address 0 ≡ i = omega arith in
      let p = i / 64 in
      let o = i % 64 in
      let ends = s.object.ends in
      let few : p < u.compacted = slid_few i (omega (arith, ends)) in
      let head : kind_at u p [] o ≡ Some Header = compacted_kind u p [] o few ∙ ap (kind objects) (sym (cut i) ∙ sym same) ∙ s.object.first in
      ap (header_of u.heap.edition)
      (header_stays u p (journals p) [] (base_of u p) o (can.lawful p) head
      ∙ ap (λ l. get_or l o 0) (slid_base u p few) ∙ page-at objects p o (omega arith) ∙ ap (λ n. get_or (slid_words objects) n 0) (sym (cut i) ∙ sym same))
      ∙ s.word

  slid_stands : (i : ℕ) → IsForwardingAddress u.heap (to_address i) → IsWholeAt u journals i
  slid_stands i is =
      let header = is.0 in
      let s = (objects_stand u.heap closed).stands (to_address i) header is.1 in
      let same : to_address i - to_address 0 ≡ i = omega arith in
      let o : HasObject objects i header = subst (λ n. HasObject objects n header) same s.object in
      let word : head_in u journals i ≡ header = slid_head i header is.1 in
      let slid = can.slid in
      let k = address-only objects (to_address i) is in
      let known : k.0 < length u.heap.marks = let n = length-map u.heap.marks (object_at u.heap.edition u.heap.words) in omega (arith, k.1, n) in
      let mark_head : header_at u.heap.edition u.heap.words (get_or u.heap.marks k.0 0) ≡ header = let found = shape-found u.heap k.0 (to_address i) known k.2 in let both = sym found ∙ is.1 in cc in
      let placed = closed.placed k.0 0 known in
      let short : size_of header ≤ most_object_words u.heap.edition = subst (λ h. size_of h ≤ most_object_words u.heap.edition) mark_head placed.short in
      record {
        first = slid_kind i (slid_few i (let ends = o.ends in omega (arith, ends))) ∙ o.first;
        ends = subst (λ h. i + size_of h ≤ 64 * pages u) (sym word) (let ends = o.ends in omega (arith, ends, slid));
        short = subst (λ h. size_of h ≤ most_object_words u.heap.edition) (sym word) short;
        fields = subst (λ h. (c : Kind) (f : ℕ) → f < count_of c h → kind_in u journals (i + first_of c h + f) ≡ Some c) (sym word)
            (λ c f lt.
            let inside = field-inside c header f lt in
            slid_kind (i + first_of c header + f) (slid_few (i + first_of c header + f) (let ends = o.ends in omega (arith, ends, inside))) ∙ o.fields c f lt);
      }

  -- the object that an entry made
  head_stands : (p index : ℕ) (e : Entry) (i : ℕ) → p < pages u → get_elem? (journals p) index ≡ maybe.some e → e.kind ≡ Header → i ≡ 64 * p + e.offset
      → IsWholeAt u journals i × (head_in u journals i ≡ header_of u.heap.edition e.value)
  head_stands p index e i inside there head at =
      let made : IsMade u p (journals p) e = all_made u p (journals p) [] index e (can.lawful p) there head in
      let ends = made.ends in
      let header = header_of u.heap.edition e.value in
      let word : head_in u journals i ≡ header =
      ap (header_of u.heap.edition) (word_on_page p e.offset i at (omega (arith, ends)) ∙ head_word u p (journals p) [] (base_of u p) index e (can.lawful p) (base_long u p) there head) in (
        record {
          first = kind_on p e.offset i at (omega (arith, ends)) ∙ ap (kind_at u p (journals p)) (let z : e.offset ≡ e.offset + 0 = omega arith in z) ∙ made.kinds 0 Header refl;
          ends = subst (λ h. i + size_of h ≤ 64 * pages u) (sym word) (omega (arith, ends, at, inside));
          short = subst (λ h. size_of h ≤ most_object_words u.heap.edition) (sym word) (omega (arith, ends, object_least u.heap.edition));
          fields = subst (λ h. (c : Kind) (f : ℕ) → f < count_of c h → kind_in u journals (i + first_of c h + f) ≡ Some c) (sym word)
              (λ c f lt.
              let within = field-inside c header f lt in
              kind_on p (e.offset + (first_of c header + f)) (i + first_of c header + f) (omega (arith, at)) (omega (arith, ends, within)) ∙ made.kinds (first_of c header + f) c (field_kind c header f lt));
        },
        word,
      )

  -- an object stands where one starts
  pub stands : (i : ℕ) → IsObjectAt u journals (to_address i) → IsWholeAt u journals i
  stands i is = ⊎_elim
      (λ (slid : IsForwardingAddress u.heap (to_address i)). slid_stands i slid)
      (λ (m : IsMadeAt u journals (to_address i)).
      let head = m.made in
      (head_stands (fresh_page u m.page) head.0 head.1 i (omega (arith, m.fresh)) head.2 head.3 (omega (arith, m.at, head.4))).0)
      is

  -- each header is the header of an object
  pub is_object : (i : ℕ) → i < 64 * pages u → kind_in u journals i ≡ Some Header → IsObjectAt u journals (to_address i)
  is_object i lt is = ⊎_elim
      (λ (few : i / 64 < u.compacted). inl ((objects_stand u.heap closed).headers i (sym (slid_kind i few) ∙ is)))
      (λ (le : u.compacted ≤ i / 64).
      let p = i / 64 in
      let h = head_of_kind u p (journals p) (i % 64) (can.lawful p) (sym (fresh_kind u p (journals p) (i % 64) le) ∙ is) in
      let j = p - u.compacted in
      let page : p ≡ fresh_page u j = omega (arith, le) in
      inr record {
        page = j;
        offset = i % 64;
        fresh = omega (arith, le, lt);
        inside = omega arith;
        at = let c = cut i in omega (arith, page, c);
        made = (h.0, h.1, subst (λ q. get_elem? (journals q) h.0 ≡ maybe.some h.1) page h.2, h.3, h.4);
      })
      (cases_lt (i / 64) u.compacted)

  -- each word of another kind is in an object
  pub field_within : (i : ℕ) (k : Kind) → k ≢ Header → i < 64 * pages u → kind_in u journals i ≡ Some k → IsWithin u journals i
  field_within i k other lt is = ⊎_elim
      (λ (few : i / 64 < u.compacted).
      let r = (objects_stand u.heap closed).fields i k other (sym (slid_kind i few) ∙ is) in
      slid_within i r.address r.header r.starts (first_of k r.header + r.field) (field_above k r.header r.field r.inside) (field-inside k r.header r.field r.inside) (omega (arith, r.at)))
      (λ (le : u.compacted ≤ i / 64).
      let p = i / 64 in
      let w = owner u p (journals p) [] k (i % 64) (i % 64) (can.lawful p) (sym (fresh_kind u p (journals p) (i % 64) le) ∙ is) (omega arith) in
      let header = header_of u.heap.edition w.entry.value in
      let r = field_of u.heap.edition (journals p) k (i % 64) other w in
      made_within i w.index w.entry w.there w.head (first_of k header + r.0) (field_above k header r.0 r.1) (field-inside k header r.0 r.1) (omega (arith, r.2)) lt)
      (cases_lt (i / 64) u.compacted)
    where
      slid_within : (i a : ℕ) (header : Head) → shape_at objects a ≡ Some header → (at : ℕ) → 1 ≤ at → at < size_of header → to_address i ≡ a + at → IsWithin u journals i
      slid_within i a header starts at low high e =
          let s = (objects_stand u.heap closed).stands a header starts in
          let start = a - to_address 0 in
          let here : a ≡ to_address start = omega (arith, s.above) in
          let starts_here : shape_at objects (to_address start) ≡ Some header = subst (λ x. shape_at objects x ≡ Some header) here starts in
          let word = ap size_of (slid_head start header starts_here) in
          record { start = start; stands = slid_stands start (header, starts_here); above = omega (arith, e, here, low); below = omega (arith, e, here, high, word) }

      made_within : (i index : ℕ) (e : Entry) → get_elem? (journals (i / 64)) index ≡ maybe.some e → e.kind ≡ Header → (at : ℕ) → 1 ≤ at → at < size_of (header_of u.heap.edition e.value)
          → i % 64 ≡ e.offset + at → i < 64 * pages u → IsWithin u journals i
      made_within i index e there head at low high place lt =
          let start = 64 * (i / 64) + e.offset in
          let s = head_stands (i / 64) index e start (omega (arith, lt)) there head refl in
          let word = ap size_of s.1 in
          let c = cut i in
          record { start = start; stands = s.0; above = omega (arith, c, place, low); below = omega (arith, c, place, high, word) }

  -- a word outside all objects is 0
  pub none_is_zero : (i : ℕ) → kind_in u journals i ≡ None → word_in u journals i ≡ 0
  none_is_zero i is = ⊎_elim
      (λ (few : i / 64 < u.compacted).
      let p = i / 64 in
      let o = i % 64 in
      let none : kind objects (64 * p + o) ≡ None = sym (compacted_kind u p (journals p) o few) ∙ is in
      let past : live_words objects ≤ 64 * p + o =
      let n = none_past (flat_map kinds_of objects) (64 * p + o) none in let k = kinds_words objects objects in let s = slid-length u.heap closed in omega (arith, n, k, s) in
      none_written u p o (journals p) [] (base_of u p) few (can.lawful p) none ∙ ap (λ l. get_or l o 0) (slid_base u p few) ∙ page-at objects p o (omega arith) ∙ slid-past u.heap closed (64 * p + o) past)
      (λ (le : u.compacted ≤ i / 64).
      let p = i / 64 in
      let o = i % 64 in
      let past : filled u.heap.edition (journals p) ≤ o = none_past (kinds_in u.heap.edition (journals p)) o (sym (fresh_kind u p (journals p) o le) ∙ is) in
      none_behind u p o (journals p) [] (base_of u p) le (can.lawful p) past ∙ ap (λ l. get_or l o 0) (fresh_base u p le) ∙ get_or-replicate 64 o 0 0 (omega arith))
      (cases_lt (i / 64) u.compacted)
