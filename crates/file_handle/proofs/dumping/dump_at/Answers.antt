use Rattle.std.proofs.Common.{◌≡◌, [], map, refl, sym, ap, subst, ◌∙◌}
use Rattle.heap_layout.specs.Heap.{Heap}
use Rattle.comp_audit.specs.Judged.{faults}
use Rattle.comp_crew.specs.Finishes.{builds_in, edition_in, live_of, pages_of, roots_of, IsOfFlip}
use Rattle.comp_crew.specs.Finishing.{finished_of, setup_at_end}
use Rattle.comp_crew.specs.Finished.{Finished}
use Rattle.comp_crew.proofs.EndCounts.{flip_at_end, flip_heap}
use Rattle.comp_dump.specs.Dumped.{IsStored}
use Rattle.comp_dump.specs.Lent.{record_of}
use Rattle.file_handle.specs.Dumping.{dump_of}
use Rattle.file_handle.proofs.Dumps.{dump_same}
use Rattle.file_handle.proofs.dumping.dump_at.Goals as goal

pub of-requires : goal.of-requires
of-requires c =
    let e = c.args.e.now in
    let flip = flip_at_end e c.requires in
    subst (λ (f : Finished). IsOfFlip c.mutators.result c.fresh_pages.result f) (sym c.finished.ensures)
    (subst (λ n. IsOfFlip n c.fresh_pages.result (finished_of e)) (sym c.mutators.ensures)
    (subst (λ n. IsOfFlip (setup_at_end e).mutators n (finished_of e)) (sym c.fresh_pages.ensures) flip))

pub returns-clause-is : goal.returns-clause-is
returns-clause-is c =
    let h = c.in_ok-dump.ensures in
    let f = c.finished.ensures in
    dump_same c.in_ok-dump.dump (dump_of c.args.e.now) (h.edition ∙ ap edition_in f) (h.mutators ∙ c.mutators.ensures) (h.fresh ∙ c.fresh_pages.ensures) (h.roots ∙ ap roots_of f)
    (h.pages ∙ ap (λ (x : Finished). map record_of (pages_of x)) f) (h.builds ∙ ap builds_in f) (h.total ∙ ap live_of f)

pub returns-clause-lawful : goal.returns-clause-lawful
returns-clause-lawful c =
    let e = c.args.e.now in
    let h = c.in_ok-dump.ensures in
    let f = c.finished.ensures in
    let same : c.in_ok-dump.dump ≡ dump_of e =
    dump_same c.in_ok-dump.dump (dump_of e) (h.edition ∙ ap edition_in f) (h.mutators ∙ c.mutators.ensures) (h.fresh ∙ c.fresh_pages.ensures) (h.roots ∙ ap roots_of f)
    (h.pages ∙ ap (λ (x : Finished). map record_of (pages_of x)) f) (h.builds ∙ ap builds_in f) (h.total ∙ ap live_of f) in
    let stored = subst IsStored same c.dump_is_stored.ensures in
    record {
      stored = stored;
      faultless = subst (λ (heap : Heap). faults heap (dump_of e) ≡ []) (flip_heap e c.requires)
          (c.lawful_is_yes.ensures.finished (setup_at_end e).mutators (setup_at_end e).fresh (finished_of e) (flip_at_end e c.requires) (dump_of e) stored
          (record { edition_is = refl; mutators_are = refl; fresh_are = refl; roots = refl; pages = refl; builds = refl; total = refl }));
    }
