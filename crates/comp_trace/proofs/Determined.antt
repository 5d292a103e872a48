-- A run is determined, except for stamps.
use Rattle.std.proofs.Common.{◌≡◌, ◌≢◌, ℕ, zero, suc, ◌+◌, ◌<◌, ◌≤◌, ◌==◌, cond, true, false, List, [], ◌∷◌, ◌++◌, Option, Some, None, length, map, slice_index, refl, sym, ap, subst, ◌∙◌, arith, inl, inr, append_assoc, length-append, eq-eqb, ne_eqb}
use Rattle.std.proofs.lemmas.List.{append-nil}
use Rattle.std.proofs.lemmas.Bool.{cases_lt}
use Rattle.std.proofs.lemmas.List.Elements.{All-head, All-tail}
use Rattle.std.specs.List.{All}
use mathlib.Core.Option as maybe
use native.Mathlib.Decide.{ℕ_discrete}
use mathlib.Core.Logic.{dite}
use lib.ListN.{get_elem?}
use Rattle.heap_layout.specs.Heap.{live}
use Rattle.heap_layout.specs.Header.{header_of, header_with, size_of, Head}
use Rattle.heap_layout.specs.declared.edition.Edition.{Edition}
use Rattle.heap_layout.specs.declared.kind.Kind.{Kind}
use Rattle.heap_layout.specs.declared.kind.Kind.TheVariants.{Header, Reference, Weak, Data}
use Rattle.page_plan.specs.Sliding as sliding
use Rattle.page_plan.specs.Sliding.{to_address}
use Rattle.page_plan.proofs.Shapes.{shape-behind}
use Rattle.comp_mutator.specs.Entry.{Entry}
use Rattle.comp_mutator.specs.Journal.{replayed, written}
use Rattle.comp_mutator.specs.Setup.{Setup, base_of, address}
use Rattle.comp_mutator.specs.Lists.{but, by, on}
use Rattle.comp_mutator.specs.Lawful.{kinds_by, kinds_in, kinds_of_header, filled, Fits, IsFreshOf, IsNext, LawfulAfter}
use Rattle.comp_mutator.specs.Locks.{Journals}
use Rattle.comp_mutator.specs.Objects.{page_at, offset_at, word_at, HasHeader, HasShape, HasSlid}
use Rattle.comp_mutator.proofs.Rows.{at_map, at_map_back}
use Rattle.comp_mutator.specs.Allocations.{own_page}
use Rattle.comp_mutator.specs.Fields.{field_address, IsFieldOf}
use Rattle.comp_mutator.specs.Reads.{Reads}
use Rattle.comp_mutator.proofs.OwnPages.{filled_append, on_append, own_fresh, read_back, one_owner}
use Rattle.comp_trace.specs.Acting.{registers_after, shown_at}
use Rattle.comp_trace.specs.LineBuilds.{built_after, kind_if, touched}
use Rattle.comp_trace.proofs.MadeObjects.{no_header}
use Rattle.comp_trace.specs.Runs.{beginning, unstamped, unstamped_on, AreAlike, Does, IsDetermined, Moment, Runs}
use Rattle.comp_trace.specs.Lines.{used_by, with_entries, Acts, IsOneEntry, MakesAsked, MakesObject, WritesField}
use Rattle.comp_trace.specs.declared.text.line.Action.{Action}
use Rattle.comp_trace.specs.declared.text.line.Action.TheVariants.{Root, Load, Get, Store, Put, New, Nil, Immediate}
use Rattle.comp_trace.specs.declared.text.line.Line.{Line}
use Rattle.comp_trace.specs.declared.steps.shown.Shown.{Shown}
use Rattle.comp_trace.proofs.Merging.{mine, others}

-- ---- what reads no stamps
abbrev bare : List Entry → List Entry
bare j = map unstamped j

kinds_bare : (edition : Edition) (j : List Entry) → kinds_in edition (map unstamped j) ≡ kinds_in edition j
kinds_bare edition [] = refl
kinds_bare edition (e ∷ es) = ap (λ (l : List Kind). kinds_by edition e.kind e.value ++ l) (kinds_bare edition es)

replayed_bare : (base : List ℕ) (j : List Entry) → replayed base (map unstamped j) ≡ replayed base j
replayed_bare base [] = refl
replayed_bare base (e ∷ es) = replayed_bare (written base e) es

by_bare : (m : ℕ) (j : List Entry) → by m (map unstamped j) ≡ map unstamped (by m j)
by_bare m [] = refl
by_bare m (e ∷ es) = elim (e.writer == m) as (λ t. cond t (unstamped e ∷ by m (map unstamped es)) (by m (map unstamped es)) ≡ map unstamped (cond t (e ∷ by m es) (by m es))) [
  | true ↦ ap (λ (l : List Entry). unstamped e ∷ l) (by_bare m es)
  | false ↦ by_bare m es
]

on_bare : (p : ℕ) (xs : List (ℕ × Entry)) → on p (map unstamped_on xs) ≡ map unstamped (on p xs)
on_bare p [] = refl
on_bare p (x ∷ xs) = elim (x.0 == p) as (λ t. cond t (unstamped x.1 ∷ on p (map unstamped_on xs)) (on p (map unstamped_on xs)) ≡ map unstamped (cond t (x.1 ∷ on p xs) (on p xs))) [
  | true ↦ ap (λ (l : List Entry). unstamped x.1 ∷ l) (on_bare p xs)
  | false ↦ on_bare p xs
]

map_append : {A B : Type 0} (f : A → B) (xs ys : List A) → map f (xs ++ ys) ≡ map f xs ++ map f ys
map_append f [] ys = refl
map_append {A} {B} f (x ∷ xs) ys = ap (λ (l : List B). f x ∷ l) (map_append f xs ys)

-- journals that are the same except for stamps
abbrev Same : Journals → Journals → Type 0
Same js ls = (p : ℕ) → map unstamped (js p) ≡ map unstamped (ls p)

-- the same words
words_same : (u : Setup) (js ls : Journals) → Same js ls → (a : ℕ) → word_at u js a ≡ word_at u ls a
words_same u js ls same a =
    let p = page_at a in
    ap (λ (l : List ℕ). slice_index l (offset_at a)) (sym (replayed_bare (base_of u p) (js p)) ∙ ap (replayed (base_of u p)) (same p) ∙ replayed_bare (base_of u p) (ls p))

-- the same headers
header_same : (edition : Edition) (j l : List Entry) (offset : ℕ) (header : Head) → map unstamped j ≡ map unstamped l → HasHeader edition l offset header → HasHeader edition j offset header
header_same edition j l offset header same h =
    let there = ap (λ (x : List Entry). get_elem? x h.0) same ∙ at_map unstamped l h.0 h.1 h.2 in
    let back = at_map_back unstamped j h.0 (unstamped h.1) there in
    (h.0, back.0, back.1, ap (λ (e : Entry). e.kind) back.2 ∙ h.3, ap (λ (e : Entry). e.offset) back.2 ∙ h.4, ap (λ (e : Entry). header_of edition e.value) back.2 ∙ h.5)

shape_same : (u : Setup) (js ls : Journals) (a : ℕ) (header : Head) → Same js ls → HasShape u ls a header → HasShape u js a header
shape_same u js ls a header same (inl slid) = inl slid
shape_same u js ls a header same (inr h) = inr (h.0, h.1, header_same u.heap.edition (js (page_at a)) (ls (page_at a)) (offset_at a) header (same (page_at a)) h.2)

used_same : (u : Setup) (js ls : Journals) (m index : ℕ) → Same js ls → used_by u js m index ≡ used_by u ls m index
used_same u js ls m index same =
    let p = own_page u m index in
    let edition = u.heap.edition in
    let one : (j : List Entry) → filled edition (by m (map unstamped j)) ≡ filled edition (by m j) = λ j. ap (filled edition) (by_bare m j) ∙ ap (λ (l : List Kind). length l) (kinds_bare edition (by m j)) in
    sym (one (js p)) ∙ ap (λ (l : List Entry). filled edition (by m l)) (same p) ∙ one (ls p)

-- ---- an object has one header
-- each header is after the objects that were made before it, on a page of its writer
abbrev HeadsAfter : Setup → ℕ → List Entry → List Entry → Type 0
HeadsAfter u p before [] = Unit {0}
HeadsAfter u p before (e ∷ es) = (e.kind ≡ Header → IsNext u p before e.writer e.offset e.value) × HeadsAfter u p (before ++ e ∷ []) es

heads_lawful : (u : Setup) (p : ℕ) (before j : List Entry) → LawfulAfter u p before j → HeadsAfter u p before j
heads_lawful u p before [] h = tt
heads_lawful u p before (e ∷ es) h = (λ is. subst (λ (k : Kind). Fits u p before k e.writer e.offset e.value) is h.0, heads_lawful u p (before ++ e ∷ []) es h.1)

heads_more : (u : Setup) (p : ℕ) (before j : List Entry) (x : Entry) → HeadsAfter u p before j → (x.kind ≡ Header → IsNext u p (before ++ j) x.writer x.offset x.value) → HeadsAfter u p before (j ++ x ∷ [])
heads_more u p before [] x h next = (λ is. subst (λ (l : List Entry). IsNext u p l x.writer x.offset x.value) (append-nil before) (next is), tt)
heads_more u p before (e ∷ es) x h next =
    (h.0, heads_more u p (before ++ e ∷ []) es x h.1 (λ is. subst (λ (l : List Entry). IsNext u p l x.writer x.offset x.value) (sym (append_assoc before (e ∷ []) es)) (next is)))

kinds_of_head : (edition : Edition) (e : Entry) → e.kind ≡ Header → length (kinds_by edition e.kind e.value) ≡ length (kinds_of_header (header_of edition e.value))
kinds_of_head edition e is = ap (λ (k : Kind). length (kinds_by edition k e.value)) is

filled_head : (edition : Edition) (before : List Entry) (e : Entry) → e.kind ≡ Header → filled edition before + 1 ≤ filled edition (before ++ e ∷ [])
filled_head edition before e is =
    omega (arith, filled_append edition before (e ∷ []), length-append (kinds_by edition e.kind e.value) [], kinds_of_head edition e is)

filled_grows : (edition : Edition) (before : List Entry) (e : Entry) → filled edition before ≤ filled edition (before ++ e ∷ [])
filled_grows edition before e = omega (arith, filled_append edition before (e ∷ []))

-- a header is after what was there
head_behind : (u : Setup) (p : ℕ) (before j : List Entry) → HeadsAfter u p before j → (i : ℕ) (e : Entry) → get_elem? j i ≡ maybe.some e → e.kind ≡ Header → filled u.heap.edition before ≤ e.offset
head_behind u p before [] h i e at is = absurd (maybe.some-ne-none e (sym at))
head_behind u p before (x ∷ xs) h zero e at is =
    let same = maybe.some-injective x e at in
    omega (arith, (h.0 (ap (λ (y : Entry). y.kind) same ∙ is)).offset_is, ap (λ (y : Entry). y.offset) same)
head_behind u p before (x ∷ xs) h (suc i) e at is = omega (arith, filled_grows u.heap.edition before x, head_behind u p (before ++ x ∷ []) xs h.1 i e at is)

module _ (u : Setup) (p : ℕ) where
  apart : (before : List Entry) (x : Entry) (xs : List Entry) → HeadsAfter u p before (x ∷ xs) → (i : ℕ) (e f : Entry) → x ≡ e → get_elem? xs i ≡ maybe.some f → e.kind ≡ Header → f.kind ≡ Header
      → e.offset ≡ f.offset → ⊥
  apart before x xs h i e f same at is is' equal =
      let first : x.kind ≡ Header = ap (λ (y : Entry). y.kind) same ∙ is in
      omega (arith, (h.0 first).offset_is, ap (λ (y : Entry). y.offset) same, equal, filled_head u.heap.edition before x first, head_behind u p (before ++ x ∷ []) xs h.1 i f at is')

  one_entry : (before j : List Entry) → HeadsAfter u p before j → (i k : ℕ) (e f : Entry) → get_elem? j i ≡ maybe.some e → get_elem? j k ≡ maybe.some f → e.kind ≡ Header → f.kind ≡ Header
      → e.offset ≡ f.offset → e ≡ f
  one_entry before [] h i k e f at at' is is' equal = absurd (maybe.some-ne-none e (sym at))
  one_entry before (x ∷ xs) h zero zero e f at at' is is' equal = sym (maybe.some-injective x e at) ∙ maybe.some-injective x f at'
  one_entry before (x ∷ xs) h zero (suc k) e f at at' is is' equal = absurd (apart before x xs h k e f (maybe.some-injective x e at) at' is is' equal)
  one_entry before (x ∷ xs) h (suc i) zero e f at at' is is' equal = absurd (apart before x xs h i f e (maybe.some-injective x f at') at is' is (sym equal))
  one_entry before (x ∷ xs) h (suc i) (suc k) e f at at' is is' equal = one_entry (before ++ x ∷ []) xs h.1 i k e f at at' is is' equal

  one_header : (j : List Entry) → HeadsAfter u p [] j → (offset : ℕ) (g h : Head) → HasHeader u.heap.edition j offset g → HasHeader u.heap.edition j offset h → g ≡ h
  one_header j heads offset g h a b = sym a.5 ∙ ap (λ (e : Entry). header_of u.heap.edition e.value) (one_entry [] j heads a.0 b.0 a.1 b.1 a.2 b.2 a.3 b.3 (a.4 ∙ sym b.4)) ∙ b.5

abbrev Headed : Setup → Journals → Type 0
Headed u js = (p : ℕ) → HeadsAfter u p [] (js p)

slid_before : (u : Setup) (a : ℕ) (header : Head) → u.compacted ≡ sliding.pages (live u.heap) → HasSlid u a header → u.compacted ≤ page_at a → to_address 0 ≤ a → ⊥
slid_before u a header slid at le begins =
    maybe_none (sym at ∙ shape-behind u.heap a (omega (arith, slid, le, begins)))
  where
    maybe_none : Some header ≡ None → ⊥
    maybe_none e = cc

one_shape : (u : Setup) (js : Journals) → u.compacted ≡ sliding.pages (live u.heap) → Headed u js → (a : ℕ) (g h : Head) → HasShape u js a g → HasShape u js a h → g ≡ h
one_shape u js slid heads a g h (inl x) (inl y) = let e : Some g ≡ Some h = sym x ∙ y in cc
one_shape u js slid heads a g h (inl x) (inr y) = absurd (slid_before u a g slid x y.1 y.0)
one_shape u js slid heads a g h (inr x) (inl y) = absurd (slid_before u a h slid y x.1 x.0)
one_shape u js slid heads a g h (inr x) (inr y) = one_header u (page_at a) (js (page_at a)) (heads (page_at a)) (offset_at a) g h x.2 y.2

-- ---- one line
module _ (u : Setup) (js ls : Journals) (slid : u.compacted ≡ sliding.pages (live u.heap)) (heads : Headed u js) (same : Same js ls) where
  fields_once : (kind : Kind) (object field a b : ℕ) → IsFieldOf u js kind object field a → IsFieldOf u ls kind object field b → a ≡ b
  fields_once kind object field a b x y =
      let header = one_shape u js slid heads object x.header y.header x.shape (shape_same u js ls object y.header same y.shape) in
      x.address_is ∙ ap (λ (h : Head). field_address kind object h field) header ∙ sym y.address_is

  reads_once : (kind : Kind) (object field a b : ℕ) → Reads u js kind object field a → Reads u ls kind object field b → a ≡ b
  reads_once kind object field a b x y =
      x.word_is ∙ ap (word_at u js) (fields_once kind object field x.word_address y.word_address x.field_of y.field_of) ∙ words_same u js ls same y.word_address ∙ sym y.word_is

  entries_once : (m p q : ℕ) (kind : Kind) (o r value s t : ℕ) (xs ys : List (ℕ × Entry)) → p ≡ q → o ≡ r → IsOneEntry js m p kind o value s xs → IsOneEntry ls m q kind r value t ys
      → map unstamped_on xs ≡ map unstamped_on ys
  entries_once m p q kind o r value s t xs ys e f x y =
      let bared : ℕ → ℕ → List (ℕ × Entry) = λ pp oo. (pp, record { stamp = 0; writer = m; kind = kind; offset = oo; value = value }) ∷ [] in
      ap (map unstamped_on) x.added_is ∙ ap (λ pp. bared pp o) e ∙ ap (λ oo. bared q oo) f ∙ sym (ap (map unstamped_on) y.added_is)

  writes_once : (m : ℕ) (kind : Kind) (object field value : ℕ) (xs ys : List (ℕ × Entry)) (s t : ℕ) → WritesField u js m kind object field value xs s → WritesField u ls m kind object field value ys t
      → map unstamped_on xs ≡ map unstamped_on ys
  writes_once m kind object field value xs ys s t x y =
      let word_address = fields_once kind object field x.word_address y.word_address x.field_of y.field_of in
      entries_once m (page_at x.word_address) (page_at y.word_address) kind (offset_at x.word_address) (offset_at y.word_address) value s t xs ys (ap page_at word_address) (ap offset_at word_address) x.entry y.entry

  lowest_once : (m : ℕ) (header : Head) (xs ys : List (ℕ × Entry)) (a b : ℕ) (x : MakesObject u js m header xs a) (y : MakesObject u ls m header ys b) → x.index ≡ y.index
  lowest_once m header xs ys a b x y = elim (cases_lt x.index y.index) [
    | inl lt ↦ absurd (omega (arith, y.lower x.index lt, x.room, used_same u js ls m x.index same))
    | inr le ↦ elim (cases_lt y.index x.index) [
      | inl lt ↦ absurd (omega (arith, x.lower y.index lt, y.room, used_same u js ls m y.index same))
      | inr other ↦ omega (arith, le, other)
    ]
  ]

  makes_once : (m : ℕ) (header : Head) (xs ys : List (ℕ × Entry)) (a b : ℕ) → MakesObject u js m header xs a → MakesObject u ls m header ys b → (a ≡ b) × (map unstamped_on xs ≡ map unstamped_on ys)
  makes_once m header xs ys a b x y =
      let index = lowest_once m header xs ys a b x y in
      let used : used_by u js m x.index ≡ used_by u ls m y.index = ap (used_by u js m) index ∙ used_same u js ls m y.index same in (
        x.address_is ∙ ap (λ i. address (own_page u m i) (used_by u js m x.index)) index ∙ ap (λ n. address (own_page u m y.index) n) used ∙ sym y.address_is,
        entries_once m (own_page u m x.index) (own_page u m y.index) Header (used_by u js m x.index) (used_by u ls m y.index) header.word x.stamp y.stamp xs ys (ap (own_page u m) index) used x.entry y.entry,
      )

  asked_once : (m : ℕ) (asked : Option Head) (xs ys : List (ℕ × Entry)) (a b : ℕ) → MakesAsked u js m asked xs a → MakesAsked u ls m asked ys b → (a ≡ b) × (map unstamped_on xs ≡ map unstamped_on ys)
  asked_once m None xs ys a b x y = absurd x
  asked_once m (Some header) xs ys a b x y = makes_once m header xs ys a b x y

  -- What a line leaves, except for stamps.
  record OneOutcome (action : Action) (registers : List ℕ) (xs ys : List (ℕ × Entry)) (a b : ℕ) : Type 0 where
    after : registers_after action registers a ≡ registers_after action registers b
    shown : (n : ℕ) → shown_at n action a ≡ shown_at n action b
    touches : touched u action registers a ≡ touched u action registers b
    added : map unstamped_on xs ≡ map unstamped_on ys

  by_answer : (action : Action) (registers : List ℕ) (xs ys : List (ℕ × Entry)) (a b : ℕ) → a ≡ b → map unstamped_on xs ≡ map unstamped_on ys → OneOutcome action registers xs ys a b
  by_answer action registers xs ys a b e added = record { after = ap (registers_after action registers) e; shown = λ n. ap (shown_at n action) e; touches = ap (touched u action registers) e; added = added }

  acts_once : (m : ℕ) (action : Action) (registers : List ℕ) (xs ys : List (ℕ × Entry)) (a b : ℕ) → Acts u js m action registers xs a → Acts u ls m action registers ys b → OneOutcome action registers xs ys a b
  acts_once m (Root to root) registers xs ys a b x y = by_answer (Root to root) registers xs ys a b (let e : Some a ≡ Some b = sym x.1 ∙ y.1 in cc) (ap (map unstamped_on) (x.0 ∙ sym y.0))
  acts_once m (Load weak to object field) registers xs ys a b x y =
      by_answer (Load weak to object field) registers xs ys a b (reads_once (kind_if weak) (slice_index registers object) field a b x.1 y.1) (ap (map unstamped_on) (x.0 ∙ sym y.0))
  acts_once m (Get object field) registers xs ys a b x y =
      by_answer (Get object field) registers xs ys a b (reads_once Data (slice_index registers object) field a b x.1 y.1) (ap (map unstamped_on) (x.0 ∙ sym y.0))
  acts_once m (Store weak object field value) registers xs ys a b x y =
      record { after = refl; shown = λ n. refl; touches = refl; added = writes_once m (kind_if weak) (slice_index registers object) field (slice_index registers value) xs ys a b x y }
  acts_once m (Put object field value) registers xs ys a b x y =
      record { after = refl; shown = λ n. refl; touches = refl; added = writes_once m Data (slice_index registers object) field value xs ys a b x y }
  acts_once m (New to refs weak data_words tag) registers xs ys a b x y =
      let once = asked_once m (header_with u.heap.edition refs weak data_words tag) xs ys a b x y in by_answer (New to refs weak data_words tag) registers xs ys a b once.0 once.1
  acts_once m (Nil to) registers xs ys a b x y = by_answer (Nil to) registers xs ys a b (x.1 ∙ sym y.1) (ap (map unstamped_on) (x.0 ∙ sym y.0))
  acts_once m (Immediate to payload) registers xs ys a b x y = by_answer (Immediate to payload) registers xs ys a b (x.1.0 ∙ sym y.1.0) (ap (map unstamped_on) (x.0 ∙ sym y.0))

-- ---- the headers stay in order
adds_none : (edition : Edition) (kind : Kind) (value : ℕ) → (kind ≡ Header → ⊥) → kinds_by edition kind value ≡ []
adds_none edition Header value h = absurd (h refl)
adds_none edition Reference value h = refl
adds_none edition Weak value h = refl
adds_none edition Data value h = refl

by_owner : (u : Setup) (m p : ℕ) → IsFreshOf u m p → (before j : List Entry) → HeadsAfter u p before j → filled u.heap.edition (by m j) ≡ filled u.heap.edition j
by_owner u m p own before [] h = refl
by_owner u m p own before (e ∷ es) h =
    let edition = u.heap.edition in
    let rest = by_owner u m p own (before ++ e ∷ []) es h.1 in
    dite (ℕ_discrete e.writer m)
    (λ is. ap (filled edition) (mine e es m is) ∙ omega (arith, rest, length-append (kinds_by edition e.kind e.value) (kinds_in edition (by m es)), length-append (kinds_by edition e.kind e.value) (kinds_in edition es)))
    (λ not. ap (filled edition) (others e es m not) ∙ rest ∙ ap (λ (l : List Kind). length (l ++ kinds_in edition es)) (sym (adds_none edition e.kind e.value (λ head. not (one_owner u e.writer m p (h.0 head).page own)))))

one_more : (u : Setup) (js : Journals) (m p : ℕ) (kind : Kind) (offset value stamp : ℕ) (xs : List (ℕ × Entry)) → Headed u js → IsOneEntry js m p kind offset value stamp xs
    → (kind ≡ Header → IsNext u p (js p) m offset value) → Headed u (with_entries js xs)
one_more u js m p kind offset value stamp xs heads one next q =
    subst (λ (l : List (ℕ × Entry)). HeadsAfter u q [] (js q ++ on q l)) (sym one.added_is)
    (dite (ℕ_discrete p q)
    (λ is. subst (λ (l : List Entry). HeadsAfter u q [] (js q ++ l)) (sym (on_own is)) (heads_more u q [] (js q) e (heads q) (λ head. subst (λ (r : ℕ). IsNext u r (js r) m offset value) is (next head))))
    (λ not. subst (λ (l : List Entry). HeadsAfter u q [] (js q ++ l)) (sym (on_other not)) (subst (HeadsAfter u q []) (sym (append-nil (js q))) (heads q))))
  where
    e : Entry
    e = record { stamp = stamp; writer = m; kind = kind; offset = offset; value = value }

    on_own : p ≡ q → on q ((p, e) ∷ []) ≡ e ∷ []
    on_own is = ap (λ t. cond t (e ∷ []) []) (eq-eqb p q is)

    on_other : p ≢ q → on q ((p, e) ∷ []) ≡ []
    on_other not = ap (λ t. cond t (e ∷ []) []) (ne_eqb p q not)

none_more : (u : Setup) (js : Journals) (xs : List (ℕ × Entry)) → Headed u js → xs ≡ [] → Headed u (with_entries js xs)
none_more u js xs heads none q = subst (λ (l : List (ℕ × Entry)). HeadsAfter u q [] (js q ++ on q l)) (sym none) (subst (HeadsAfter u q []) (sym (append-nil (js q))) (heads q))

asked_heads : (u : Setup) (js : Journals) (m : ℕ) → m < u.mutators → Headed u js → (asked : Option Head) (xs : List (ℕ × Entry)) (a : ℕ) → MakesAsked u js m asked xs a
    → Headed u (with_entries js xs)
asked_heads u js m lt heads None xs a x = absurd x
asked_heads u js m lt heads (Some header) xs a x =
    let p = own_page u m x.index in
    let own = own_fresh u m x.index lt x.there in
    one_more u js m p Header (used_by u js m x.index) header.word x.stamp xs heads x.entry
    (λ is. record { page = own; offset_is = by_owner u m p own [] (js p) (heads p); ends = subst (λ (h : Head). used_by u js m x.index + size_of h ≤ 64) (sym (read_back u.heap.edition header x.edition)) x.room })

acts_heads : (u : Setup) (js : Journals) (m : ℕ) → m < u.mutators → Headed u js → (action : Action) (registers : List ℕ) (xs : List (ℕ × Entry)) (a : ℕ) → Acts u js m action registers xs a
    → Headed u (with_entries js xs)
acts_heads u js m lt heads (Root to root) registers xs a x = none_more u js xs heads x.0
acts_heads u js m lt heads (Load weak to object field) registers xs a x = none_more u js xs heads x.0
acts_heads u js m lt heads (Get object field) registers xs a x = none_more u js xs heads x.0
acts_heads u js m lt heads (Store weak object field value) registers xs a x =
    one_more u js m (page_at x.word_address) (kind_if weak) (offset_at x.word_address) (slice_index registers value) a xs heads x.entry (λ is. absurd (no_header weak is))
acts_heads u js m lt heads (Put object field value) registers xs a x = one_more u js m (page_at x.word_address) Data (offset_at x.word_address) value a xs heads x.entry (λ is. absurd cc)
acts_heads u js m lt heads (New to refs weak data_words tag) registers xs a x =
    asked_heads u js m lt heads (header_with u.heap.edition refs weak data_words tag) xs a x
acts_heads u js m lt heads (Nil to) registers xs a x = none_more u js xs heads x.0
acts_heads u js m lt heads (Immediate to payload) registers xs a x = none_more u js xs heads x.0

-- ---- line after line
with_more : (start : Journals) (xs ys : List (ℕ × Entry)) → with_entries (with_entries start xs) ys ≡ with_entries start (xs ++ ys)
with_more start xs ys = λ i p. (append_assoc (start p) (on p xs) (on p ys) ∙ ap (λ (l : List Entry). start p ++ l) (sym (on_append p xs ys))) i

with_same : (start other : Journals) (xs ys : List (ℕ × Entry)) → Same start other → map unstamped_on xs ≡ map unstamped_on ys → Same (with_entries start xs) (with_entries other ys)
with_same start other xs ys same e p =
    map_append unstamped (start p) (on p xs) ∙ ap (λ (l : List Entry). l ++ map unstamped (on p xs)) (same p)
    ∙ ap (λ (l : List Entry). map unstamped (other p) ++ l) (sym (on_bare p xs) ∙ ap (on p) e ∙ on_bare p ys)
    ∙ sym (map_append unstamped (other p) (on p ys))

module _ (u : Setup) (start other : Journals) (slid : u.compacted ≡ sliding.pages (live u.heap)) (same : Same start other) where
  does_alike : (n : ℕ) (line : Line) (a b c d : Moment) → line.mutator < u.mutators → Headed u (with_entries start a.added) → AreAlike a b → Does u start n line a c → Does u other n line b d
      → AreAlike c d × Headed u (with_entries start c.added)
  does_alike n line a b c d lt heads alike x y =
      let m = line.mutator in
      let registers = a.registers m in
      let held : b.registers m ≡ registers = ap (λ (r : ℕ → List ℕ). r m) (sym alike.registers) in
      let acts = subst (λ (r : List ℕ). Acts u (with_entries other b.added) m line.action r y.new y.answer) held y.acts in
      let one = acts_once u (with_entries start a.added) (with_entries other b.added) slid heads (with_same start other a.added b.added same alike.added) m line.action registers x.new y.new x.answer y.answer x.acts acts in (
        record {
          registers = x.registers ∙ ap (λ (r : List ℕ). but a.registers m r) one.after ∙ ap (λ (r : List ℕ). but a.registers m (registers_after line.action r y.answer)) (sym held)
              ∙ ap (λ (rs : ℕ → List ℕ). but rs m (registers_after line.action (b.registers m) y.answer)) alike.registers ∙ sym y.registers;
          added = ap (map unstamped_on) x.added ∙ map_append unstamped_on a.added x.new ∙ ap (λ (l : List (ℕ × Entry)). l ++ map unstamped_on x.new) alike.added
              ∙ ap (λ (l : List (ℕ × Entry)). map unstamped_on b.added ++ l) one.added ∙ sym (map_append unstamped_on b.added y.new) ∙ sym (ap (map unstamped_on) y.added);
          shown = x.shown ∙ ap (λ (l : List Shown). a.shown ++ l) (one.shown n) ∙ ap (λ (l : List Shown). l ++ shown_at n line.action y.answer) alike.shown ∙ sym y.shown;
          built = x.built ∙ ap (built_after a.built m) one.touches ∙ ap (λ (r : List ℕ). built_after a.built m (touched u line.action r y.answer)) (sym held)
              ∙ ap (λ (l : List (ℕ × ℕ)). built_after l m (touched u line.action (b.registers m) y.answer)) alike.built ∙ sym y.built;
        },
        subst (λ (l : List (ℕ × Entry)). Headed u (with_entries start l)) (sym x.added)
            (subst (Headed u) (with_more start a.added x.new) (acts_heads u (with_entries start a.added) m lt heads line.action registers x.new x.answer x.acts)),
      )

  runs_alike : (n : ℕ) (lines : List Line) (a b c d : Moment) → All (λ (line : Line). line.mutator < u.mutators) lines → Headed u (with_entries start a.added) → AreAlike a b
      → Runs u start n lines a c → Runs u other n lines b d → AreAlike c d
  runs_alike n [] a b c d all heads alike x y = subst (λ (m : Moment). AreAlike m d) (sym x) (subst (AreAlike a) (sym y) alike)
  runs_alike n (line ∷ lines) a b c d all heads alike x y =
      let P : Line → Type 0 = λ (l : Line). l.mutator < u.mutators in
      let one = does_alike n line a b x.0 y.0 (All-head P line lines all) heads alike x.1 y.1 in
      runs_alike (n + 1) lines x.0 y.0 c d (All-tail P line lines all) one.1 one.0 x.2 y.2

pub determined : (u : Setup) (lines : List Line) → IsDetermined u lines
determined u lines start other begins same a b x y =
    runs_alike u start other begins.slid same 1 lines beginning beginning a b begins.mutators
    (none_more u start [] (λ p. heads_lawful u p [] (start p) (begins.lawful p)) refl)
    (record { registers = refl; added = refl; shown = refl; built = refl }) x y
