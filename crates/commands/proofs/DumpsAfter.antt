-- The dump of a heap over which a trace was run.
use Rattle.std.proofs.Common.{◌≡◌, ℕ, ◌+◌, ◌<◌, List, length, map, Some, None, refl, sym, ap, subst, ◌∙◌, arith}
use Rattle.std.proofs.lemmas.List.{length-map, get_or-map, get_or_past}
use Rattle.std.specs.List.{range_with_len}
use Rattle.heap_layout.specs.Heap.{live, Heap}
use Rattle.page_plan.specs.Sliding.{forward_value, live_words}
use Rattle.comp_mutator.specs.Journal.{replayed}
use Rattle.comp_mutator.specs.Entry.{Entry}
use Rattle.comp_mutator.specs.Closing.{journal_in, page_at, HasBase}
use Rattle.comp_mutator.specs.Lists.{on}
use Rattle.comp_mutator.specs.Passes.{builds_of}
use Rattle.comp_mutator.specs.Setup.{Setup, base_of, pages}
use Rattle.comp_mutator.specs.View.{Slot}
use Rattle.comp_mutator.specs.Pass.{Pass}
use Rattle.comp_mutator.specs.Merged.{stamp_of}
use Rattle.comp_mutator.specs.MadeWords.{allocated}
use Rattle.comp_mutator.specs.Finishes.{history_of, journals_of, pages_of, roots_of, there, IsFinished}
use Rattle.comp_mutator.specs.Finished.{Finished}
use Rattle.comp_dump.specs.Lent.{record_of}
use Rattle.comp_trace.specs.Bytes.{flipped}
use Rattle.commands.specs.Laws.{page_in, times_built, DumpsAreOfRuns, IsDumpAfter, IsPageAfter}
use Rattle.commands.specs.TraceTasks.{dumped_of}
use Rattle.command_io.proofs.Lines.{each-given}

built_there : (slot : Slot) → times_built (record_of slot) ≡ there slot
built_there None = refl
built_there (Some page) = refl

module _ (u : Setup) (row : List Pass) (f : Finished) (end : IsFinished u row f) (crew : length row ≡ u.mutators) (added : List (ℕ × Entry)) (same : history_of u f ≡ added) where
  on_page : (p : ℕ) → on p added ≡ journals_of f p
  on_page p = ap (on p) (sym same) ∙ end.history.one.page_by_page p

  slot_after : (p : ℕ) (slot : Slot) → page_at (pages_of f) p ≡ slot → IsPageAfter u added p (record_of slot)
  slot_after p None e = on_page p ∙ ap journal_in e
  slot_after p (Some page) e =
      let journal : page.page.journal ≡ on p added = ap journal_in (sym e) ∙ sym (on_page p) in
      let base : page.page.base ≡ base_of u p = subst (HasBase u p) e (end.pages.bases p) in
      (journal, ap (λ (b : List ℕ). replayed b page.page.journal) base ∙ ap (replayed (base_of u p)) journal)

  read_page : (p : ℕ) → p < pages u → page_in (dumped_of u.mutators u.fresh f) p ≡ record_of (page_at (pages_of f) p)
  read_page p lt = let slots = end.pages.count in get_or-map record_of (pages_of f) p None None (omega (arith, slots, lt))

  pub dump_after : IsDumpAfter u added (dumped_of u.mutators u.fresh f)
  dump_after = record {
    edition = end.edition;
    mutators = refl;
    fresh = refl;
    roots = each-given (forward_value u.heap.edition (live u.heap)) u.heap.roots (roots_of f) end.roots;
    slots = length-map (pages_of f) record_of ∙ end.pages.count;
    page_by_page = λ p lt. subst (IsPageAfter u added p) (sym (read_page p lt)) (slot_after p (page_at (pages_of f) p) refl);
    stamps = subst (λ (l : List (ℕ × Entry)). map stamp_of l ≡ range_with_len 0 (length l)) same end.history.one.stamps;
    lists = ap length end.pages.builds ∙ length-map row builds_of ∙ crew;
    once = λ p lt. end.pages.once p ∙ sym (built_there (page_at (pages_of f) p)) ∙ ap times_built (sym (read_page p lt));
    no_other = λ p le. let slots = end.pages.count in end.pages.once p ∙ ap there (get_or_past (pages_of f) p None (omega (arith, slots, le)));
    total = end.balances.made ∙ ap (λ (l : List (ℕ × Entry)). live_words (live u.heap) + allocated u.heap.edition l) same;
  }

-- a heap over which a trace was run leaves a dump of that run
pub dumps_are_of_runs : DumpsAreOfRuns
dumps_are_of_runs mutators fresh lines shown heap f h =
    record { after = dump_after (flipped heap mutators fresh) h.row f h.finished h.crew h.end.added h.history; builds = h.builds }
