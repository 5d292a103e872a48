-- What is left of a heap that was swept and finished, and into which nobody wrote.
use Rattle.std.proofs.Common.{◌≡◌, ℕ, ◌<◌, List, [], ◌∷◌, map, length, cond, Some, None, IsSome, eq-eqb, refl, sym, ap, subst, ◌∙◌, ⊎_elim, arith}
use Rattle.std.proofs.lemmas.Bool.{cases_lt, cond_below}
use Rattle.std.proofs.lemmas.List.{length-map, get_or-map, get_or_past}
use Rattle.std.proofs.lemmas.List.FromFn.{fill_by_all}
use Rattle.std.proofs.lemmas.Slice.Zip.{AllZip-long}
use Rattle.std.specs.Prelude.{replicate, Option}
use mathlib.Core.Option.{some}
use lib.ListN.{get_elem?}
use Rattle.heap_layout.specs.Heap.{live}
use Rattle.page_plan.specs.Sliding as sliding
use Rattle.page_plan.specs.Sliding.{forward_value, live_words}
use Rattle.page_plan.specs.declared.builder.Builder.{Ghosts}
use Rattle.comp_mutator.specs.Journal.{replayed}
use Rattle.comp_mutator.specs.Entry.{Entry}
use Rattle.comp_mutator.specs.Setup.{Setup, base_of}
use Rattle.comp_mutator.specs.Lists.{on}
use Rattle.comp_mutator.specs.View.{Slot}
use Rattle.comp_mutator.specs.Closing.{journal_in, page_at, HasBase}
use Rattle.comp_mutator.specs.Passes.{builds_of, did}
use Rattle.comp_mutator.specs.Pass.{Pass}
use Rattle.comp_mutator.proofs.Sums.{there_at}
use Rattle.comp_mutator.specs.CellViews.{steps_of, AreNew}
use Rattle.comp_mutator.proofs.Rows.{at_map, at_map_back}
use Rattle.comp_mutator.specs.Merged.{written_by}
use Rattle.comp_mutator.specs.MadeWords.{allocated}
use Rattle.comp_mutator.specs.Finishes.{builds_in, history_of, journals_of, live_of, pages_of, roots_of, there, IsFinished}
use Rattle.comp_mutator.specs.Mutators.{cells_of, pass_of, setup_of}
use Rattle.comp_mutator.specs.Orders.{HasNumber, IsInOrder}
use Rattle.comp_mutator.specs.Finished.{Finished}
use Rattle.comp_mutator.specs.declared.mutator.Mutator.{Mutator}
use Rattle.comp_mutator.specs.declared.space.Space.{Space}
use Rattle.comp_sweep.specs.Sweeps.{HandsBack, SomeSeesBuilt, Sweeps}
use Rattle.comp_sweep.proofs.SweepAnswers.{beside}
use Rattle.comp_dump.specs.Dumped.{BuiltPage}
use Rattle.comp_dump.specs.Lent.{record_of}
use Rattle.commands.specs.HeapTasks.{slid_record, slid_records, AreBuilds}
use Rattle.commands.specs.Leftovers.{IsSweptHeap}
use Rattle.command_io.proofs.Lines.{each-given}

-- entries that nobody wrote
no_entry : (entries : List (ℕ × Entry)) → ((k : ℕ) → written_by k entries ≡ []) → entries ≡ []
no_entry [] h = refl
no_entry (x ∷ xs) h =
    let k = x.1.writer in
    let first : written_by k (x ∷ xs) ≡ x ∷ written_by k xs = ap (λ b. cond b (x ∷ written_by k xs) (written_by k xs)) (eq-eqb k k refl) in
    let none : x ∷ written_by k xs ≡ [] = sym first ∙ h k in
    cc

-- a built page, of its words and its journal
abbrev built : List ℕ → List Entry → Option BuiltPage
built words journal = Some (record { words = words; journal = journal })

there_one : (slot : Slot) → IsSome slot → there slot ≡ 1
there_one None h = cc
there_one (Some page) h = refl

module _ (u : Setup) (row : List Pass) (f : Finished) (end : IsFinished u row f) (idle : (k : ℕ) (pass : Pass) → get_elem? row k ≡ some pass → did pass ≡ []) where
  none_written : (k : ℕ) → written_by k (history_of u f) ≡ []
  none_written k = ⊎_elim
      (λ lt. let x = there_at row k lt in end.history.own k x.0 x.1 ∙ idle k x.0 x.1)
      (λ le. end.history.no_others k le)
      (cases_lt k (length row))

  no_history : history_of u f ≡ []
  no_history = no_entry (history_of u f) none_written

  no_journal : (p : ℕ) → journals_of f p ≡ []
  no_journal p = sym (end.history.one.page_by_page p) ∙ ap (on p) no_history

  total_is : live_of f ≡ live_words (live u.heap)
  total_is = let none : allocated u.heap.edition (history_of u f) ≡ 0 = ap (allocated u.heap.edition) no_history in omega (arith, end.balances.made, none)

  -- a page that is there is as it slid
  slot_is : (p : ℕ) (slot : Slot) → page_at (pages_of f) p ≡ slot → IsSome slot → p < u.compacted → record_of slot ≡ slid_record (live u.heap) p
  slot_is p None e h lt = cc
  slot_is p (Some page) e h lt =
      let base : page.page.base ≡ base_of u p = subst (HasBase u p) e (end.pages.bases p) in
      let none : page.page.journal ≡ [] = ap journal_in (sym e) ∙ no_journal p in
      let slid : base_of u p ≡ sliding.page (live u.heap) p = sym (cond_below p u.compacted (sliding.page (live u.heap) p) (replicate 64 0) lt) in
      let words : replayed page.page.base page.page.journal ≡ sliding.page (live u.heap) p = ap (replayed page.page.base) none ∙ base ∙ slid in
      ap (λ w. built w page.page.journal) words ∙ ap (built (sliding.page (live u.heap) p)) none

  module _ (compacted : u.compacted ≡ sliding.pages (live u.heap)) (fresh : u.fresh ≡ 0) (all : (p : ℕ) → p < u.compacted → IsSome (page_at (pages_of f) p)) where
    long : length (pages_of f) ≡ sliding.pages (live u.heap)
    long = let slots = end.pages.count in omega (arith, slots, compacted, fresh)

    pages_are : map record_of (pages_of f) ≡ slid_records (live u.heap)
    pages_are = fill_by_all (slid_record (live u.heap)) (map record_of (pages_of f)) (sliding.pages (live u.heap)) None (length-map (pages_of f) record_of ∙ long)
        (λ k lt.
        let inside : k < length (pages_of f) = omega (arith, long, lt) in
        let below : k < u.compacted = omega (arith, compacted, lt) in
        get_or-map record_of (pages_of f) k None None inside ∙ slot_is k (page_at (pages_of f) k) refl (all k below) below)

    builds_are : AreBuilds (length row) u.heap (builds_in f)
    builds_are = record {
      lists = ap length end.pages.builds ∙ length-map row builds_of;
      once = record {
        once = λ q lt. end.pages.once q ∙ there_one (page_at (pages_of f) q) (all q (omega (arith, compacted, lt)));
        no_other = λ q le. end.pages.once q ∙ ap there (get_or_past (pages_of f) q None (omega (arith, long, le)));
      };
    }

    pub is_swept : IsSweptHeap (length row) f u.heap
    is_swept = record {
      edition = end.edition;
      pages = pages_are;
      roots = each-given (forward_value u.heap.edition (live u.heap)) u.heap.roots (roots_of f) end.roots;
      total = total_is;
      builds = builds_are;
    }

module _ {L B : Type 0} {g : Ghosts B} (space : Space L B g) (given back : List (Mutator L)) (new : AreNew (steps_of (cells_of space)) (setup_of space).mutators (map pass_of given)) (h : HandsBack space given back) where
  -- mutators that are handed back stand in the order of their numbers
  pub still_row : IsInOrder (setup_of space).mutators back back
  still_row = record {
    count = AllZip-long (Sweeps space) given back h ∙ (sym (length-map given pass_of) ∙ new.count);
    numbers = λ k m at. let x = beside (Sweeps space) given back k m h at in x.2.grows.number ∙ (new.new k (pass_of x.0) (at_map pass_of given k x.0 x.1)).number;
    given = λ k m at. (k, at);
  }

  -- so that none is missing
  pub none_missing : (k : ℕ) → k < (setup_of space).mutators → HasNumber back k
  none_missing k lt =
      let count = still_row.count in
      let x = there_at back k (omega (arith, count, lt)) in
      (x.0, (k, x.1), still_row.numbers k x.0 x.1)

  -- and none of them wrote
  still_idle : (k : ℕ) (pass : Pass) → get_elem? (map pass_of back) k ≡ some pass → did pass ≡ []
  still_idle k pass at =
      let m = at_map_back pass_of back k pass at in
      let x = beside (Sweeps space) given back k m.0 h m.1 in
      ap did (sym m.2) ∙ x.2.wrote.did ∙ (new.new k (pass_of x.0) (at_map pass_of given k x.0 x.1)).did

  -- what they swept is then the swept heap
  pub swept_heap : (f : Finished) → (setup_of space).compacted ≡ sliding.pages (live (setup_of space).heap) → (setup_of space).fresh ≡ 0
      → ((p : ℕ) → p < (setup_of space).compacted → SomeSeesBuilt back p)
      → (IsInOrder (setup_of space).mutators back back → IsFinished (setup_of space) (map pass_of back) f)
      → IsSweptHeap (setup_of space).mutators f (setup_of space).heap
  swept_heap f compacted fresh seen finished =
      let end = finished still_row in
      let all : (p : ℕ) → p < (setup_of space).compacted → IsSome (page_at (pages_of f) p) = λ p lt. let x = seen p lt in end.pages.known x.1.0 (pass_of x.0) (at_map pass_of back x.1.0 x.0 x.1.1) p x.2 in
      let many : length (map pass_of back) ≡ (setup_of space).mutators = length-map back pass_of ∙ still_row.count in
      subst (λ (n : ℕ). IsSweptHeap n f (setup_of space).heap) many (is_swept (setup_of space) (map pass_of back) f end still_idle compacted fresh all)
