-- The dump of a finished heap is lawful.
use Rattle.std.proofs.Common.{◌≡◌, ℕ, ◌+◌, List, length, get_or, Option, Some, None, refl, sym, ap, subst, ◌∙◌}
use Rattle.std.proofs.Math.ListN.{get_or-map}
use Rattle.std.proofs.Math.Path.{fun_ext}
use Rattle.std.proofs.lemmas.List.{length-map}
use Rattle.heap_layout.specs.Heap.{live}
use Rattle.page_plan.specs.Sliding.{forward_value, live_words}
use Rattle.comp_dump.specs.Journal.{replayed}
use Rattle.comp_dump.specs.Entry.{Entry}
use Rattle.comp_dump.specs.Setup.{Setup, base_of}
use Rattle.comp_dump.specs.View.{Slot}
use Rattle.comp_dump.specs.Closing.{journal_in, page_at, HasBase}
use Rattle.comp_dump.specs.Merged.{history, CanMerge}
use Rattle.comp_dump.specs.MadeWords.{allocated}
use Rattle.comp_dump.specs.Finishes as finished
use Rattle.comp_dump.specs.Builds.{named}
use Rattle.comp_dump.specs.Finishes.{pages_of, there, IsOfFlip}
use Rattle.comp_dump.specs.Finished.{Finished}
use Rattle.comp_dump.specs.Dumped.{BuiltPage, Dumped}
use Rattle.comp_dump.specs.Lent.{record_of, built_of}
use Rattle.comp_audit.specs.Checks.{setup_for, journal_of}
use Rattle.comp_audit.specs.Meant.{built_count, page_of, journals_of, IsLawfulDump, IsDumpOf, FinishedIsYes}
use Rattle.comp_audit.proofs.Reporting.{are_forwarded}
use Rattle.comp_audit.proofs.Accepting.{lawful_is_yes}

record_journal : (slot : Slot) → journal_of (record_of slot) ≡ journal_in slot
record_journal None = refl
record_journal (Some page) = refl

record_built : (slot : Slot) → built_count (record_of slot) ≡ there slot
record_built None = refl
record_built (Some page) = refl

some_page : (a b : BuiltPage) → Some a ≡ Some b → a ≡ b
some_page a b e = cc

record_words : (u : Setup) (p : ℕ) (page : BuiltPage) (slot : Slot) → HasBase u p slot → record_of slot ≡ Some page → page.words ≡ replayed (base_of u p) page.journal
record_words u p page None base at = absurd cc
record_words u p page (Some slot) base at =
    subst (λ (x : BuiltPage). x.words ≡ replayed (base_of u p) x.journal) (some_page (built_of slot) page at)
    (ap (λ (words : List ℕ). replayed words slot.page.journal) base)

module _ (mutators fresh : ℕ) (f : Finished) (of : IsOfFlip mutators fresh f) (dump : Dumped) (is : IsDumpOf mutators fresh f dump) where
  abbrev u : Setup
  u = of.setup

  page_is : (p : ℕ) → page_of dump p ≡ record_of (page_at (pages_of f) p)
  page_is p = ap (λ (l : List (Option BuiltPage)). get_or l p None) is.pages ∙ get_or-map record_of (pages_of f) p None

  journals_are : journals_of dump ≡ finished.journals_of f
  journals_are = fun_ext (λ (p : ℕ). ap journal_of (page_is p) ∙ record_journal (page_at (pages_of f) p))

  setup_is : u ≡ setup_for u.heap dump.fresh dump.mutators
  setup_is =
      ap (λ (c : ℕ). let s : Setup = record { heap = u.heap; compacted = c; fresh = u.fresh; mutators = u.mutators } in s) of.finished.history.merges.slid
      ∙ ap (λ (n : ℕ). setup_for u.heap n u.mutators) (of.fresh_are ∙ sym is.fresh_are)
      ∙ ap (λ (n : ℕ). setup_for u.heap dump.fresh n) (of.mutators_are ∙ sym is.mutators_are)

  lawful : IsLawfulDump u dump
  lawful = record {
    edition = is.edition_is ∙ of.finished.edition;
    slots = ap length is.pages ∙ length-map (pages_of f) record_of ∙ of.finished.pages.count;
    roots = is.roots ∙ are_forwarded (forward_value u.heap.edition (live u.heap)) (finished.roots_of f) u.heap.roots of.finished.roots;
    claims = λ p lt. ap (named p) is.builds ∙ of.finished.pages.once p ∙ sym (ap built_count (page_is p) ∙ record_built (page_at (pages_of f) p));
    words = λ p page at. record_words u p page (page_at (pages_of f) p) (of.finished.pages.bases p) (sym (page_is p) ∙ at);
    merges = subst (λ (j : ℕ → List Entry). CanMerge u j) (sym journals_are) of.finished.history.merges;
    total = is.total ∙ of.finished.balances.made ∙ ap (λ (j : ℕ → List Entry). live_words (live u.heap) + allocated u.heap.edition (history u j)) (sym journals_are);
  }

  pub finished_lawful : IsLawfulDump (setup_for u.heap dump.fresh dump.mutators) dump
  finished_lawful = subst (λ (s : Setup). IsLawfulDump s dump) setup_is lawful

pub finished_is_yes : FinishedIsYes
finished_is_yes mutators fresh f of dump stored is = lawful_is_yes of.setup.heap dump stored (finished_lawful mutators fresh f of dump is)
