-- What `next` leaves is one function of its files, and runs that follow one another are one life.
use Rattle.std.proofs.Common.{◌≡◌, ℕ, ◌*◌, ◌/◌, ◌%◌, ◌∙◌, List, [], ◌∷◌, ◌++◌, Option, Some, None, Ok, Result, length, map, refl, sym, ap, subst}
use Rattle.std.specs.List.{range_with_len}
use Rattle.std.specs.Prelude.{slice_index, unwrap_or}
use Rattle.heap_layout.specs.Encoding.{encoding, ImagesDiffer}
use Rattle.heap_layout.specs.Faults.{IsAccepted}
use Rattle.heap_layout.specs.Heap.{live, Heap, IsClosed, IsStored}
use Rattle.heap_layout.specs.declared.edition.Edition.{Edition}
use Rattle.heap_layout.proofs.Marked.{closed}
use Rattle.page_plan.specs.Sliding.{forward_value}
use Rattle.comp_mutator.specs.Cycles.{heap_after, roots_after, entries_of, Cycle, Follow, IsCycleOf, IsOneLife}
use Rattle.comp_mutator.specs.Entry.{Entry}
use Rattle.comp_mutator.specs.Journal.{replayed}
use Rattle.comp_mutator.specs.Lawful.{kind_at}
use Rattle.comp_mutator.specs.Lists.{on}
use Rattle.comp_mutator.specs.Locks.{Journals}
use Rattle.comp_mutator.specs.Merged.{history, stamp_of, CanMerge}
use Rattle.comp_mutator.specs.NextHeap.{lowered, lowered_as, next_word}
use Rattle.comp_mutator.specs.Setup.{base_of, pages, Setup}
use Rattle.comp_mutator.proofs.Merging.{pages_all, stamps_all}
use Rattle.comp_trace.specs.Bytes.{flipped, no_entries}
use Rattle.comp_trace.specs.Grammar.{parts}
use Rattle.comp_trace.specs.declared.text.line.Line.{Line}
use Rattle.comp_trace.specs.Markings.{IsMarkedBy}
use Rattle.comp_trace.specs.declared.text.roots.NewRoot.{NewRoot}
use Rattle.comp_trace.specs.RootsNamed.{words_named}
use Rattle.comp_trace.specs.Runs.{MayBegin}
use Rattle.comp_trace.specs.declared.steps.shown.Shown.{Shown}
use Rattle.comp_trace.proofs.Determined.{determined}
use Rattle.comp_trace.proofs.Inside.{ok_is, read_inside}
use Rattle.command_io.specs.Texts.{HasLines}
use Rattle.reachability.specs.Reachable.{AreReachable}
use Rattle.commands.specs.TraceTasks.{IsCycledHeap}
use Rattle.commands.specs.Inputs.{Given}
use Rattle.commands.specs.Successors.{AreMarksIn, AreOneLife, AreRootsIn, LeaveOne, NextFollows, NextIsOne, TwoAreOneLife}
use Rattle.commands.proofs.Once.{counted, counted_of, same_entries}

-- ---- the next heap of a cycle

some_is : (x y : ℕ) → Some x ≡ Some y → x ≡ y
some_is x y e = cc

-- the same roots are forwarded to the same addresses
same_roots : (xs ys : List ℕ) → map (λ (x : ℕ). Some x) xs ≡ map (λ (x : ℕ). Some x) ys → xs ≡ ys
same_roots [] [] e = refl
same_roots [] (y ∷ ys) e = cc
same_roots (x ∷ xs) [] e = cc
same_roots (x ∷ xs) (y ∷ ys) e =
    let head : x ≡ y = cc in
    let tail : map (λ (z : ℕ). Some z) xs ≡ map (λ (z : ℕ). Some z) ys = cc in
    let rest = same_roots xs ys tail in
    cc

same_map : (F G : ℕ → ℕ) → ((i : ℕ) → F i ≡ G i) → (xs : List ℕ) → map F xs ≡ map G xs
same_map F G same [] = refl
same_map F G same (x ∷ xs) = ap (λ (y : ℕ). y ∷ map F xs) (same x) ∙ ap (λ (l : List ℕ). G x ∷ l) (same_map F G same xs)

-- a word of the next heap is made of the journal of its page
same_word : (u : Setup) (journals others : Journals) → ((p : ℕ) → journals p ≡ others p) → (i : ℕ) → next_word u journals i ≡ next_word u others i
same_word u journals others same i =
    ap (λ (journal : List Entry). lowered_as u.heap.edition (kind_at u (i / 64) journal (i % 64)) (slice_index (replayed (base_of u (i / 64)) journal) (i % 64))) (same (i / 64))

abbrev heap_with : Edition → List ℕ → List ℕ → List ℕ → Heap
heap_with edition words marks roots = record { edition = edition; words = words; marks = marks; roots = roots }

abbrev words_after : Setup → Journals → List ℕ
words_after u journals = map (next_word u journals) (range_with_len 0 (64 * pages u))

-- cycles with the same roots, to which the same are handed in, end with the same roots
roots_alike : (c d : Cycle) → c.new_roots ≡ d.new_roots → c.roots ≡ d.roots → roots_after c ≡ roots_after d
roots_alike c d new roots = ap (λ (n : Option (List ℕ)). unwrap_or n c.roots) new ∙ ap (λ (r : List ℕ). unwrap_or d.new_roots r) roots

-- cycles with the same setup, journals, roots and marks have the same next heap
same_next : (c d : Cycle) → c.setup ≡ d.setup → ((p : ℕ) → c.journals p ≡ d.journals p) → roots_after c ≡ roots_after d → c.marks ≡ d.marks → heap_after c ≡ heap_after d
same_next c d setup journals roots marks =
    let words : words_after c.setup c.journals ≡ words_after d.setup d.journals =
    same_map (next_word c.setup c.journals) (next_word c.setup d.journals) (same_word c.setup c.journals d.journals journals) (range_with_len 0 (64 * pages c.setup))
    ∙ ap (λ (u : Setup). words_after u d.journals) setup in
    ap (λ (u : Setup). heap_with u.heap.edition (words_after c.setup c.journals) c.marks (map (lowered u.heap.edition) (roots_after c))) setup
    ∙ ap (λ (w : List ℕ). heap_with d.setup.heap.edition w c.marks (map (lowered d.setup.heap.edition) (roots_after c))) words
    ∙ ap (λ (m : List ℕ). heap_with d.setup.heap.edition (words_after d.setup d.journals) m (map (lowered d.setup.heap.edition) (roots_after c))) marks
    ∙ ap (λ (r : List ℕ). heap_with d.setup.heap.edition (words_after d.setup d.journals) d.marks (map (lowered d.setup.heap.edition) r)) roots

-- the list of the objects that roots reach is one
abbrev pub ReachedOnce : Type 0
ReachedOnce = (edition : Edition) (words roots marks others : List ℕ) → AreReachable edition words roots marks → AreReachable edition words roots others → marks ≡ others

-- the marks of such cycles are the same too, if they are given, or are those of what the roots reach
same_marks : ReachedOnce → (c d : Cycle) → c.setup ≡ d.setup → ((p : ℕ) → c.journals p ≡ d.journals p) → roots_after c ≡ roots_after d → (given : Option (List ℕ)) → IsMarkedBy given c → IsMarkedBy given d → c.marks ≡ d.marks
same_marks once c d setup journals roots (Some marks) x y = x ∙ sym y
same_marks once c d setup journals roots None x y =
    let with_marks : heap_after (record c { marks = [] }) ≡ heap_after (record d { marks = [] }) = same_next (record c { marks = [] }) (record d { marks = [] }) setup journals roots refl in
    once (heap_after d).edition (heap_after d).words (heap_after d).roots c.marks d.marks
    (subst (λ (h : Heap). AreReachable h.edition h.words h.roots c.marks) with_marks x) y

-- ---- the entries of a cycle

page_is : (c : Cycle) → CanMerge c.setup c.journals → (p : ℕ) → on p (entries_of c) ≡ c.journals p
unfolding history
page_is c can p = pages_all c.setup c.journals can p

stamps_are : (c : Cycle) → CanMerge c.setup c.journals → map stamp_of (entries_of c) ≡ range_with_len 0 (length (entries_of c))
unfolding history
stamps_are c can = stamps_all c.setup c.journals can

-- ---- over one heap

module _ (mutators fresh : ℕ) (heap : Heap) (lines : List Line) (given : Given) (shown others : List Shown) (next other : Heap) (text : List ℕ) (text_is : HasLines mutators (length heap.roots) lines text)
    (x : IsCycledHeap mutators fresh lines shown given heap next) (y : IsCycledHeap mutators fresh lines others given heap other) where
  abbrev u : Setup
  u = flipped heap mutators fresh

  same_cycle : ReachedOnce → LeaveOne shown others next other
  same_cycle once =
      let c = x.cycle in
      let d = y.cycle in
      let ran = x.part.run in
      let again = y.part.run in
      let begins : MayBegin u lines no_entries = record { slid = refl; lawful = λ p. tt; mutators = read_inside mutators (length heap.roots) 1 (parts 10 text) lines text_is } in
      let alike = determined u lines no_entries no_entries begins (λ p. refl) ran.end again.end ran.runs again.runs in
      let first = subst (λ (l : List (ℕ × Entry)). map stamp_of l ≡ range_with_len 0 (length l)) ran.entries_are (stamps_are c x.part.cycle.merges) in
      let second = subst (λ (l : List (ℕ × Entry)). map stamp_of l ≡ range_with_len 0 (length l)) again.entries_are (stamps_are d y.part.cycle.merges) in
      let many = counted ran.end.added again.end.added alike.added in
      let added = same_entries ran.end.added again.end.added alike.added (first ∙ ap (λ (n : ℕ). range_with_len 0 n) many ∙ sym second) in
      let entries : entries_of c ≡ entries_of d = ran.entries_are ∙ added ∙ sym again.entries_are in
      let setup : c.setup ≡ d.setup = ran.setup_is ∙ sym again.setup_is in
      let journals = λ (p : ℕ). sym (page_is c x.part.cycle.merges p) ∙ ap (λ (l : List (ℕ × Entry)). on p l) entries ∙ page_is d y.part.cycle.merges p in
      let roots = same_roots c.roots d.roots (x.part.cycle.roots ∙ ap (λ (v : Setup). map (forward_value v.heap.edition (live v.heap)) v.heap.roots) setup ∙ sym y.part.cycle.roots) in
      let words = ap (λ (r : ℕ → List ℕ). words_named r given.roots) alike.registers in
      let after = roots_alike c d (x.part.roots_are ∙ words ∙ sym y.part.roots_are) roots in
      let left = same_next c d setup journals after (same_marks once c d setup journals after given.marks x.part.marked y.part.marked) in
      record { values = ran.shown_is ∙ alike.shown ∙ sym again.shown_is; heaps = x.next_is ∙ left ∙ sym y.next_is }

-- ---- by the bytes

-- two accepted heaps with one image are one heap
same_heap : ImagesDiffer → (a b : Heap) → IsStored a → IsStored b → IsAccepted a → IsAccepted b → encoding a ≡ encoding b → a ≡ b
same_heap differ a b stored also accepted too same = differ a b stored also (counted_of a accepted) (counted_of b too) same

marks_is : {E : Type 0} (xs ys : List ℕ) → ◌≡◌ {A = Result (List ℕ) E} (Ok xs) (Ok ys) → xs ≡ ys
marks_is xs ys e = cc

roots_is : {E : Type 0} (xs ys : List NewRoot) → ◌≡◌ {A = Result (List NewRoot) E} (Ok xs) (Ok ys) → xs ≡ ys
roots_is xs ys e = cc

-- the marks of a text are one
marks_one : (text given other : Option (List ℕ)) → AreMarksIn text given → AreMarksIn text other → given ≡ other
marks_one (Some text) given other (xs, is_xs, x) (ys, is_ys, y) = x ∙ ap (λ (l : List ℕ). Some l) (marks_is xs ys (sym is_xs ∙ is_ys)) ∙ sym y
marks_one None given other x y = x ∙ sym y

-- so are the roots
roots_one : (mutators : ℕ) (text : Option (List ℕ)) (given other : Option (List NewRoot)) → AreRootsIn mutators text given → AreRootsIn mutators text other → given ≡ other
roots_one mutators (Some text) given other (xs, is_xs, x) (ys, is_ys, y) = x ∙ ap (λ (l : List NewRoot). Some l) (roots_is xs ys (sym is_xs ∙ is_ys)) ∙ sym y
roots_one mutators None given other x y = x ∙ sym y

abbrev with_both : Option (List ℕ) → Option (List NewRoot) → Given
with_both marks roots = record { marks = marks; roots = roots }

-- so is what is given
given_one : (x y : Given) → x.marks ≡ y.marks → x.roots ≡ y.roots → x ≡ y
given_one x y marks roots = ap (λ (m : Option (List ℕ)). with_both m x.roots) marks ∙ ap (with_both y.marks) roots

-- what is known of a run of `next`, of its heap alone
record Over (mutators fresh : ℕ) (text : List ℕ) (marks_text roots_text : Option (List ℕ)) (shown : List Shown) (next heap : Heap) : Type 0 where
  lines : List Line
  text_is : HasLines mutators (length heap.roots) lines text
  given : Given
  marks_are : AreMarksIn marks_text given.marks
  roots_are : AreRootsIn mutators roots_text given.roots
  cycled : IsCycledHeap mutators fresh lines shown given heap next

over_one : ReachedOnce → (mutators fresh : ℕ) (text : List ℕ) (marks_text roots_text : Option (List ℕ)) (shown others : List Shown) (next other heap : Heap) → Over mutators fresh text marks_text roots_text shown next heap
    → Over mutators fresh text marks_text roots_text others other heap
    → LeaveOne shown others next other
over_one once mutators fresh text marks_text roots_text shown others next other heap x y =
    let lines : x.lines ≡ y.lines = ok_is x.lines y.lines (sym x.text_is ∙ y.text_is) in
    let given : x.given ≡ y.given = given_one x.given y.given (marks_one marks_text x.given.marks y.given.marks x.marks_are y.marks_are) (roots_one mutators roots_text x.given.roots y.given.roots x.roots_are y.roots_are) in
    same_cycle mutators fresh heap x.lines x.given shown others next other text x.text_is x.cycled
    (subst (λ (g : Given). IsCycledHeap mutators fresh x.lines others g heap other) (sym given)
    (subst (λ (ls : List Line). IsCycledHeap mutators fresh ls others y.given heap other) (sym lines) y.cycled))
    once

pub next_is_one : ImagesDiffer → ReachedOnce → NextIsOne
next_is_one differ once mutators fresh image text marks_text roots_text shown others next other x y =
    let same : x.heap ≡ y.heap = same_heap differ x.heap y.heap x.stored y.stored x.accepted y.accepted (sym x.image_is ∙ y.image_is) in
    let mine : Over mutators fresh text marks_text roots_text shown next x.heap = record { lines = x.lines; text_is = x.text_is; given = x.given; marks_are = x.marks_are; roots_are = x.roots_are; cycled = x.cycled } in
    let over : Over mutators fresh text marks_text roots_text others other y.heap = record { lines = y.lines; text_is = y.text_is; given = y.given; marks_are = y.marks_are; roots_are = y.roots_are; cycled = y.cycled } in
    over_one once mutators fresh text marks_text roots_text shown others next other x.heap mine (subst (Over mutators fresh text marks_text roots_text others other) (sym same) over)

-- ---- one life

-- one cycle more
one_more : (cycles : List Cycle) (first heap next : Heap) (c : Cycle) → Follow first cycles heap → IsCycleOf heap c → next ≡ heap_after c → Follow first (cycles ++ c ∷ []) next
one_more [] first heap next c follow is after = (subst (λ (h : Heap). IsCycleOf h c) follow is, after)
one_more (d ∷ ds) first heap next c follow is after = (follow.0, one_more ds (heap_after d) heap next c follow.1 is after)

pub next_follows : ImagesDiffer → NextFollows
next_follows differ first heap next cycles mutators fresh text marks_text roots_text shown stored accepted follow run =
    let same : run.heap ≡ heap = same_heap differ run.heap heap run.stored stored run.accepted accepted (sym run.image_is) in
    one_more cycles first heap next run.cycled.cycle follow (subst (λ (h : Heap). IsCycleOf h run.cycled.cycle) same run.cycled.part.cycle) run.cycled.next_is

module _ (life : (heap last : Heap) (cycles : List Cycle) → IsClosed heap → Follow heap cycles last → IsOneLife heap cycles last) where
  pub are_one_life : AreOneLife
  are_one_life first last cycles accepted follow = life first last cycles (closed first accepted) follow

  pub two_are_one_life : ImagesDiffer → TwoAreOneLife
  two_are_one_life differ mutators fresh more_mutators more_fresh image text second_text marks_text second_marks roots_text second_roots shown values next last run second =
      let first : Follow run.heap (run.cycled.cycle ∷ []) next = (run.cycled.part.cycle, run.cycled.next_is) in
      are_one_life run.heap last (run.cycled.cycle ∷ second.cycled.cycle ∷ []) run.accepted
      (next_follows differ run.heap next last (run.cycled.cycle ∷ []) more_mutators more_fresh second_text second_marks second_roots values run.cycled.stored run.cycled.accepted first second)
