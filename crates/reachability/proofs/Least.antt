-- The marks of the objects that the roots reach, in a heap.
use Rattle.std.proofs.Common.{◌≡◌, ℕ, ◌+◌, ◌^◌, ◌<◌, ◌≤◌, ◌==◌, ◌⊎◌, Bool, true, false, eqb, List, [], ◌∷◌, ◌++◌, All, inl, inr, length, Contains, refl, sym, ap, subst, ◌∙◌, arith}
use Rattle.std.specs.List.{flat_map, list_any, enumerate_from}
use Rattle.std.proofs.lemmas.Bool.{eqb-true, eq-eqb, le-leb, or_cases, or_left, or_right}
use Rattle.std.proofs.lemmas.List.Elements.{All-contains}
use Rattle.heap_layout.specs.declared.edition.Edition.{Edition}
use Rattle.heap_layout.specs.declared.kind.Kind.{Kind}
use Rattle.heap_layout.specs.declared.kind.Kind.TheVariants.{Reference, Weak}
use Rattle.heap_layout.specs.Limits.{most_words, most_roots}
use Rattle.heap_layout.proofs.Bounds.{words_most}
use Rattle.heap_layout.proofs.Values.{no-immediate, value-immediate, value-target, value-cases}
use Rattle.heap_layout.specs.Kinds.{first_of}
use Rattle.heap_layout.specs.Heap.{Heap, header_at, object_at, fields_of, from_address, starts, is_start, is_value, IsTarget, IsValue, IsClosed}
use Rattle.heap_layout.specs.Faults.{unless, size_faults, mark_faults, root_faults, target_faults, weak_faults, reference_faults_by, field_faults_by, IsAccepted}
use Rattle.heap_layout.specs.declared.fault.LayoutFault.{LayoutFault}
use Rattle.heap_layout.specs.declared.fault.LayoutFault.TheVariants.{BadRoot}
use Rattle.heap_layout.proofs.Marked.{passed, sizes-few, closed}
use Rattle.reachability.specs.Queue.{has}
use Rattle.reachability.specs.Reachable.{LeadTo, IsReachable, by_root, by_reference, AreReachable}
use Rattle.reachability.proofs.Starts.{starts-within}
use Rattle.reachability.proofs.Queues.{has-first, has-later}
use Rattle.reachability.proofs.Marking.{reachable-start}
use Rattle.reachability.proofs.Rising.{contains-had, has-contained, Rises, rises, rises-same, rises-short, rises-marked}

-- ---- the list

pub marks-rise : (edition : Edition) (words roots marks : List ℕ) → AreReachable edition words roots marks → Rises 0 marks
marks-rise edition words roots marks are = rises 0 marks are.rising (λ some. omega arith)

-- what is marked is an object of the row
marked-start : (edition : Edition) (words roots marks : List ℕ) → AreReachable edition words roots marks → (i : ℕ) → has marks i ≡ true → is_start (starts edition words) i ≡ true
marked-start edition words roots marks are i there = reachable-start edition words roots i (are.reachable i (contains-had marks i there))

-- the list is the only one
pub once : (edition : Edition) (words roots marks others : List ℕ) → AreReachable edition words roots marks → AreReachable edition words roots others → marks ≡ others
once edition words roots marks others one other =
    rises-same 0 marks others (marks-rise edition words roots marks one) (marks-rise edition words roots others other)
    (λ i there. has-contained others i (other.all i (one.reachable i (contains-had marks i there))))
    (λ i there. has-contained marks i (one.all i (other.reachable i (contains-had others i there))))

-- its marks have no fault
pub marks-sound : (edition : Edition) (words roots marks : List ℕ) → AreReachable edition words roots marks → mark_faults (starts edition words) 0 marks ≡ []
marks-sound edition words roots marks are =
    rises-marked (starts edition words) 0 marks (marks-rise edition words roots marks are) (marked-start edition words roots marks are)

-- there are no more marks than words
pub marks-few : (edition : Edition) (words roots marks : List ℕ) → AreReachable edition words roots marks → length marks ≤ length words
marks-few edition words roots marks are =
    let short = rises-short 0 (length words) marks (marks-rise edition words roots marks are) (omega arith)
    (λ i there. let within = starts-within edition 0 0 words i (marked-start edition words roots marks are i there) in omega arith) in
    omega arith

-- ---- targets

-- some mark has the address of a marked object
any-address : (marks : List ℕ) (i : ℕ) → has marks i ≡ true → list_any (λ mark. from_address mark == from_address i) marks ≡ true
any-address [] i there = there
any-address (mark ∷ marks) i there =
    let rest = list_any (λ m. from_address m == from_address i) marks in
    elim (or_cases (eqb i mark) (has marks i) there) [
      | inl here ↦ or_left (from_address mark == from_address i) rest (eq-eqb (from_address mark) (from_address i) (ap from_address (sym (eqb-true i mark here))))
      | inr later ↦ or_right (from_address mark == from_address i) rest (any-address marks i later)
    ]

-- the address of some mark is that of a marked object
address-any : (marks : List ℕ) (reference : ℕ) → list_any (λ mark. from_address mark == reference) marks ≡ true → (i : ℕ) × (has marks i ≡ true) × (reference ≡ from_address i)
address-any [] reference found = absurd (let no : false ≡ true = found in cc)
address-any (mark ∷ marks) reference found =
    elim (or_cases (from_address mark == reference) (list_any (λ m. from_address m == reference) marks) found) [
      | inl here ↦ (mark, has-first mark marks, sym (eqb-true (from_address mark) reference here))
      | inr later ↦ let at = address-any marks reference later in (at.0, has-later mark at.0 marks at.1, at.2)
    ]

-- the address of a marked object is a target
pub target-marked : (marks : List ℕ) (i : ℕ) → has marks i ≡ true → IsTarget marks (from_address i)
target-marked marks i there = or_right (from_address i == 0) _ (any-address marks i there)

-- a target is null or the address of a marked object
target-cases : (marks : List ℕ) (reference : ℕ) → IsTarget marks reference → (reference ≡ 0) ⊎ ((i : ℕ) × (has marks i ≡ true) × (reference ≡ from_address i))
target-cases marks reference target =
    elim (or_cases (reference == 0) (list_any (λ mark. from_address mark == reference) marks) target) [
      | inl null ↦ inl (eqb-true reference 0 null)
      | inr marked ↦ inr (address-any marks reference marked)
    ]

-- an address that is a target is that of a marked object
target-back : (marks : List ℕ) (i : ℕ) → IsTarget marks (from_address i) → has marks i ≡ true
target-back marks i target =
    elim (target-cases marks (from_address i) target) [
      | inl null ↦ absurd (omega arith)
      | inr marked ↦ let same : marked.0 ≡ i = (let is = marked.2 in omega arith) in subst (λ (j : ℕ). has marks j ≡ true) same marked.1
    ]

-- an address that is a value is that of a marked object, if its index is small
value-back : (edition : Edition) (marks : List ℕ) (i : ℕ) → i < 2 ^ 62 → IsValue edition marks (from_address i) → has marks i ≡ true
value-back edition marks i small value =
    elim (value-cases edition marks (from_address i) value) [
      | inl immediate ↦ absurd (no-immediate edition (from_address i) (omega arith) immediate)
      | inr target ↦ target-back marks i target
    ]

-- ---- accepted heaps

-- an object of an accepted heap has a small index
start-small : (heap : Heap) → IsClosed heap → (i : ℕ) → is_start (starts heap.edition heap.words) i ≡ true → i < 2 ^ 62
start-small heap is i start = omega (arith, starts-within heap.edition 0 0 heap.words i start, is.few_words, words_most heap.edition)

-- what the roots of an accepted heap reach is marked
pub reachable-marked : (heap : Heap) → IsClosed heap → (i : ℕ) → IsReachable heap.edition heap.words heap.roots i → has heap.marks i ≡ true
reachable-marked heap is i (by_root _ leads) =
    value-back heap.edition heap.marks i (start-small heap is i leads.start) (All-contains (IsValue heap.edition heap.marks) heap.roots (from_address i) is.roots leads.address)
reachable-marked heap is j (by_reference i _ reached leads) =
    let marked = contains-had heap.marks i (reachable-marked heap is i reached) in
    let targets = All-contains (λ mark. All (IsValue heap.edition heap.marks) (object_at heap.edition heap.words mark).references) heap.marks i is.references marked in
    value-back heap.edition heap.marks j (start-small heap is j leads.start)
    (All-contains (IsValue heap.edition heap.marks) (object_at heap.edition heap.words i).references (from_address j) targets leads.address)

-- words that pass a test have no fault
pub roots-none : (test : ℕ → Bool) (number : ℕ) (roots : List ℕ) → ((root : ℕ) → has roots root ≡ true → test root ≡ true)
    → flat_map (λ root. unless (test root.1) (BadRoot root.0)) (enumerate_from number roots) ≡ []
roots-none test number [] pass = refl
roots-none test number (root ∷ roots) pass =
    rw (pass root (has-first root roots)) (roots-none test (number + 1) roots (λ other there. pass other (has-later root other roots there)))

pub references-none : (kind : Kind) (test : ℕ → Bool) (first : ℕ) (references : List ℕ) → ((word : ℕ) → has references word ≡ true → test word ≡ true)
    → reference_faults_by kind test first references ≡ []
references-none kind test first [] pass = refl
references-none kind test first (word ∷ references) pass =
    rw (pass word (has-first word references)) (references-none kind test (first + 1) references (λ other there. pass other (has-later word other references there)))

pub fields-none : (kind : Kind) (edition : Edition) (test : ℕ → Bool) (words marks : List ℕ)
    → ((mark word : ℕ) → has marks mark ≡ true → has (fields_of kind (object_at edition words mark)) word ≡ true → test word ≡ true)
    → field_faults_by kind edition test words marks ≡ []
fields-none kind edition test words [] pass = refl
fields-none kind edition test words (mark ∷ marks) pass =
    let here = references-none kind test (mark + first_of kind (header_at edition words mark)) (fields_of kind (object_at edition words mark)) (λ word there. pass mark word (has-first mark marks) there) in
    let rest = fields-none kind edition test words marks (λ other word marked there. pass other word (has-later mark other marks marked) there) in
    ap (λ (list : List LayoutFault). list ++ field_faults_by kind edition test words marks) here ∙ rest

-- a word that leads to a marked object of the heap leads to a reachable one, if words lead to reachable ones
narrowed : (heap : Heap) (marks from : List ℕ) (word : ℕ) → IsClosed heap → All (IsValue heap.edition heap.marks) from → has from word ≡ true
    → ((i : ℕ) → LeadTo heap.edition heap.words from i → has marks i ≡ true) → IsValue heap.edition marks word
narrowed heap marks from word is values there reached =
    elim (value-cases heap.edition heap.marks word (All-contains (IsValue heap.edition heap.marks) from word values (contains-had from word there))) [
      | inl immediate ↦ value-immediate heap.edition marks word immediate
      | inr target ↦ value-target heap.edition marks word (
          elim (target-cases heap.marks word target) [
            | inl null ↦ subst (IsTarget marks) (sym null) refl
            | inr marked ↦
                let i = marked.0 in
                let start = All-contains (λ mark. is_start (starts heap.edition heap.words) mark ≡ true) heap.marks i is.started (contains-had heap.marks i marked.1) in
                let leads : LeadTo heap.edition heap.words from i = record { start = start; address = subst (Contains from) marked.2 (contains-had from word there) } in
                subst (IsTarget marks) (sym marked.2) (target-marked marks i (reached i leads))
          ]
          )
    ]

-- the heap with other marks
abbrev pub remarked : Heap → List ℕ → Heap
remarked heap marks = record { edition = heap.edition; words = heap.words; marks = marks; roots = heap.roots }

-- numbers within the limits are no fault
pub sizes-none : (edition : Edition) (words marks roots : ℕ) → words ≤ most_words edition → marks ≤ most_words edition → roots ≤ most_roots edition
    → size_faults edition words marks roots ≡ []
sizes-none edition words marks roots few_words few_marks few_roots =
    rw (le-leb words (most_words edition) few_words, le-leb marks (most_words edition) few_marks, le-leb roots (most_roots edition) few_roots) refl

-- an accepted heap is accepted with these marks alone
pub accepted-least : (heap : Heap) (marks : List ℕ) → IsAccepted heap → AreReachable heap.edition heap.words heap.roots marks → IsAccepted (remarked heap marks)
accepted-least heap marks accepted are =
    let e = heap.edition in
    let words = heap.words in
    let is = closed heap accepted in
    let parts = passed heap accepted in
    let few = sizes-few _ _ _ _ parts.sizes in
    let few_words = few.0 in
    let few_marks = marks-few e words heap.roots marks are in
    let there : (i : ℕ) → IsReachable e words heap.roots i → has marks i ≡ true = λ i reached. has-contained marks i (are.all i reached) in
    let reached : (i : ℕ) → has marks i ≡ true → IsReachable e words heap.roots i = λ i marked. are.reachable i (contains-had marks i marked) in
    let sizes = sizes-none e (length words) (length marks) (length heap.roots) few.0 (omega arith) few.2 in
    let roots : root_faults e marks heap.roots ≡ [] =
    roots-none (is_value e marks) 0 heap.roots (λ root among. narrowed heap marks heap.roots root is is.roots among (λ i leads. there i (by_root i leads))) in
    let targets : target_faults e words marks marks ≡ [] =
    fields-none Reference e (is_value e marks) words marks (λ mark word marked among.
    let all = All-contains (λ m. All (IsValue e heap.marks) (object_at e words m).references) heap.marks mark is.references
    (contains-had heap.marks mark (reachable-marked heap is mark (reached mark marked))) in
    narrowed heap marks (object_at e words mark).references word is all among (λ i leads. there i (by_reference mark i (reached mark marked) leads))) in
    let weak : weak_faults e words marks ≡ [] =
    fields-none Weak e (is_value e (starts e words)) words marks (λ mark word marked among.
    let all = All-contains (λ m. All (IsValue e (starts e words)) (object_at e words m).weak) heap.marks mark is.weak
    (contains-had heap.marks mark (reachable-marked heap is mark (reached mark marked))) in
    All-contains (IsValue e (starts e words)) (object_at e words mark).weak word all (contains-had (object_at e words mark).weak word among)) in
    rw (sizes, parts.row, marks-sound e words heap.roots marks are, roots, targets, weak) refl
