-- The history of a finished heap is what a run of one thread added.
use Rattle.std.proofs.Common.{◌≡◌, ℕ, ◌+◌, ◌<◌, ◌≤◌, ◌⊎◌, ◌==◌, Bool, List, [], ◌∷◌, ◌++◌, length, All, Option, Some, None, refl, sym, ap, subst, ◌∙◌, inl, inr, ⊎_elim, arith, eq-eqb, append-nil}
use Rattle.std.proofs.lemmas.Bool.{cases_lt}
use Rattle.std.proofs.lemmas.List.Elements.{All-head, All-tail}
use mathlib.Core.Option.{some}
use lib.ListN.{get_elem?}
use Rattle.heap_layout.specs.Header.{Head, header_with}
use Rattle.heap_layout.specs.declared.kind.Kind.{Kind}
use Rattle.comp_mutator.specs.Entry.{Entry}
use Rattle.comp_mutator.specs.Lists.{on}
use Rattle.comp_mutator.specs.Locks.{Journals}
use Rattle.comp_mutator.specs.Passes.{did}
use Rattle.comp_mutator.specs.Setup.{Setup}
use Rattle.comp_mutator.specs.Pass.{Pass}
use Rattle.comp_mutator.proofs.Sums.{there_at}
use Rattle.comp_mutator.specs.Merged.{history, stamp_of, written_by, CanMerge}
use Rattle.comp_mutator.proofs.Merging.{rises_all}
use Rattle.comp_mutator.proofs.Pages.{on_in}
use Rattle.comp_mutator.proofs.Sorted.{filter_has, in_filter, in_parts, same_rising, In, Rise}
use Rattle.comp_mutator.specs.Finishes.{history_of, journals_of, IsFinished}
use Rattle.comp_mutator.specs.Finished.{Finished}
use Rattle.comp_trace.specs.Bytes.{no_entries}
use Rattle.comp_trace.specs.Lines.{with_entries, Acts, IsAboveAll, IsOneEntry, MakesAsked}
use Rattle.comp_trace.specs.Runs.{Moment, Runs}
use Rattle.comp_trace.specs.declared.text.line.Action.{Action}
use Rattle.comp_trace.specs.declared.text.line.Action.TheVariants.{Root, Load, Get, Store, Put, New, Nil, Immediate}
use Rattle.comp_trace.specs.declared.text.line.Line.{Line}

-- ---- what a run adds: stamps that rise, by writers that are there
pub record AreAdded (n : ℕ) (added : List (ℕ × Entry)) : Type 0 where
  pub rises : Rise stamp_of 0 added
  pub writers : (x : ℕ × Entry) → In x added → x.1.writer < n

-- one entry of mutator m, after all others
record AddsOne (journals : Journals) (m : ℕ) (new : List (ℕ × Entry)) : Type 0 where
  p : ℕ
  e : Entry
  new_is : new ≡ (p, e) ∷ []
  writer : e.writer ≡ m
  above : IsAboveAll journals e.stamp

entry_adds : (journals : Journals) (m p : ℕ) (kind : Kind) (offset value stamp : ℕ) (new : List (ℕ × Entry)) → IsOneEntry journals m p kind offset value stamp new → AddsOne journals m new
entry_adds journals m p kind offset value stamp new h = record {
  p = p;
  e = record { stamp = stamp; writer = m; kind = kind; offset = offset; value = value };
  new_is = h.added_is;
  writer = refl;
  above = h.above;
}

-- making the object that was asked for adds one entry
asked_adds : (u : Setup) (journals : Journals) (m : ℕ) (asked : Option Head) (new : List (ℕ × Entry)) (word_address : ℕ) → MakesAsked u journals m asked new word_address → AddsOne journals m new
asked_adds u journals m None new word_address h = absurd h
asked_adds u journals m (Some header) new word_address h = entry_adds journals m _ _ _ _ _ new h.entry

-- a line adds nothing, or one entry
line_adds : (u : Setup) (journals : Journals) (m : ℕ) (action : Action) (registers : List ℕ) (new : List (ℕ × Entry)) (answer : ℕ) → Acts u journals m action registers new answer
    → (new ≡ []) ⊎ AddsOne journals m new
line_adds u journals m (Root to root) registers new answer h = inl h.0
line_adds u journals m (Load weak to object field) registers new answer h = inl h.0
line_adds u journals m (Get object field) registers new answer h = inl h.0
line_adds u journals m (Store weak object field value) registers new answer h = inr (entry_adds journals m _ _ _ _ _ new h.entry)
line_adds u journals m (Put object field value) registers new answer h = inr (entry_adds journals m _ _ _ _ _ new h.entry)
line_adds u journals m (New to refs weak data_words tag) registers new answer h = inr (asked_adds u journals m (header_with u.heap.edition refs weak data_words tag) new answer h)
line_adds u journals m (Nil to) registers new answer h = inl h.0
line_adds u journals m (Immediate to payload) registers new answer h = inl h.0

rises_more : (low : ℕ) (xs : List (ℕ × Entry)) (x : ℕ × Entry) → Rise stamp_of low xs → low ≤ x.1.stamp → ((z : ℕ × Entry) → In z xs → z.1.stamp < x.1.stamp) → Rise stamp_of low (xs ++ x ∷ [])
rises_more low [] x h le above = (le, tt)
rises_more low (y ∷ ys) x h le above = (h.0, rises_more (y.1.stamp + 1) ys x h.1 (omega (arith, above y (inl refl))) (λ z i. above z (inr i)))

below_stamp : (s : ℕ) (es : List Entry) → All (λ (e : Entry). e.stamp < s) es → (e : Entry) → In e es → e.stamp < s
below_stamp s [] h e i = absurd i
below_stamp s (x ∷ xs) h e i = ⊎_elim
    (λ (same : x ≡ e). omega (arith, All-head (λ (y : Entry). y.stamp < s) x xs h, ap (λ (y : Entry). y.stamp) same))
    (λ t. below_stamp s xs (All-tail (λ (y : Entry). y.stamp < s) x xs h) e t) i

one_more : (n m : ℕ) (added : List (ℕ × Entry)) (p : ℕ) (e : Entry) → m < n → e.writer ≡ m → IsAboveAll (with_entries no_entries added) e.stamp → AreAdded n added → AreAdded n (added ++ (p, e) ∷ [])
one_more n m added p e lt writer above h = record {
  rises = rises_more 0 added (p, e) h.rises (omega arith) (λ z i. below_stamp e.stamp (on z.0 added) (above z.0) z.1 (on_in z.0 z.1 added i));
  writers = λ x i. ⊎_elim (λ a. h.writers x a)
      (λ b. ⊎_elim (λ (same : (p, e) ≡ x). omega (arith, lt, writer, ap (λ (y : ℕ × Entry). y.1.writer) same)) (λ none. absurd none) b)
      (in_parts added ((p, e) ∷ []) x i);
}

some_more : (n m : ℕ) (added new : List (ℕ × Entry)) → m < n → AreAdded n added → (new ≡ []) ⊎ AddsOne (with_entries no_entries added) m new → AreAdded n (added ++ new)
some_more n m added new lt h adds = ⊎_elim
    (λ (none : new ≡ []). subst (AreAdded n) (sym (ap (λ (l : List (ℕ × Entry)). added ++ l) none ∙ append-nil added)) h)
    (λ one. subst (λ (l : List (ℕ × Entry)). AreAdded n (added ++ l)) (sym one.new_is) (one_more n m added one.p one.e lt one.writer one.above h))
    adds

run_adds : (u : Setup) (n k : ℕ) (lines : List Line) (before after : Moment) → All (λ (line : Line). line.mutator < n) lines → Runs u no_entries k lines before after
    → AreAdded n before.added → AreAdded n after.added
run_adds u n k [] before after inside runs h = subst (λ (m : Moment). AreAdded n m.added) (sym runs) h
run_adds u n k (line ∷ lines) before after inside runs h =
    let does = runs.1 in
    let lt = All-head (λ (l : Line). l.mutator < n) line lines inside in
    run_adds u n (k + 1) lines runs.0 after (All-tail (λ (l : Line). l.mutator < n) line lines inside) runs.2
    (subst (AreAdded n) (sym does.added)
    (some_more n line.mutator before.added does.new lt h (line_adds u (with_entries no_entries before.added) line.mutator line.action (before.registers line.mutator) does.new does.answer does.acts)))

-- all that a run adds, from the beginning
pub all_added : (u : Setup) (n : ℕ) (lines : List Line) (before after : Moment) → before.added ≡ [] → All (λ (line : Line). line.mutator < n) lines → Runs u no_entries 1 lines before after → AreAdded n after.added
all_added u n lines before after none inside runs = run_adds u n 1 lines before after inside runs (subst (AreAdded n) (sym none) (record { rises = tt; writers = λ x i. absurd i }))

-- ---- the history of a finished heap
history_rises : (u : Setup) (journals : Journals) → CanMerge u journals → Rise stamp_of 0 (history u journals)
unfolding history
history_rises u journals can = rises_all u journals can

-- the writer is k
abbrev is_by : ℕ → ℕ × Entry → Bool
is_by k x = x.1.writer == k

module _ (u : Setup) (row : List Pass) (f : Finished) (end : IsFinished u row f) (added : List (ℕ × Entry)) (h : AreAdded (length row) added)
    (did_is : (k : ℕ) (pass : Pass) → get_elem? row k ≡ some pass → did pass ≡ written_by k added) where
  own_same : (k : ℕ) → k < length row → written_by k (history_of u f) ≡ written_by k added
  own_same k lt = let x = there_at row k lt in end.history.own k x.0 x.1 ∙ did_is k x.0 x.1

  is_added : (x : ℕ × Entry) → In x (history_of u f) → In x added
  is_added x i =
      let k = x.1.writer in
      let kept : In x (written_by k (history_of u f)) = filter_has (is_by k) x (history_of u f) (eq-eqb k k refl) i in
      ⊎_elim
      (λ lt. (in_filter (is_by k) x added (subst (In x) (own_same k lt) kept)).0)
      (λ le. absurd (subst (In x) (end.history.no_others k le) kept))
      (cases_lt k (length row))

  was_added : (x : ℕ × Entry) → In x added → In x (history_of u f)
  was_added x i =
      let k = x.1.writer in
      let kept : In x (written_by k added) = filter_has (is_by k) x added (eq-eqb k k refl) i in
      (in_filter (is_by k) x (history_of u f) (subst (In x) (sym (own_same k (h.writers x i))) kept)).0

  pub same_history : history_of u f ≡ added
  same_history = same_rising stamp_of 0 (history_of u f) added (history_rises u (journals_of f) end.history.merges) h.rises is_added was_added
