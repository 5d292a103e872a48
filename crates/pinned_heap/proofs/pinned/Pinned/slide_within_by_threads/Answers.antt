use Rattle.std.proofs.Common.{ℕ, List, [], sym, subst}
use Rattle.heap_layout.specs.declared.edition.Edition.{Edition}
use Rattle.heap_layout.specs.Bits.{bit}
use Rattle.rest_marks.specs.Given.{heap_now}
use Rattle.stopped_heap.specs.Growth.{IsFoundIn}
use Rattle.rest_marks.specs.Surveys.{told, AreTables}
use Rattle.pinned_heap.specs.Around.{IsSlidAround}
use Rattle.pinned_heap.specs.Pinned.{is_still, FoundAround}
use Rattle.pinned_heap.proofs.Found.{slid-found, tables-in}
use Rattle.pinned_heap.proofs.pinned.Pinned.slide_within_by_threads.Goals as goal

pub slide_around_by_threads-requires-clause-tables : goal.slide_around_by_threads-requires-clause-tables
slide_around_by_threads-requires-clause-tables g c =
    let inside = c.self.inside in
    let words = c.args.words.now in
    let is = subst (λ (p : FoundAround). IsFoundIn p.found words) (sym c.self.view_is) c.requires.found in
    λ _ _. subst (λ (e : Edition). AreTables e words inside.heads.now inside.bits.now inside.counts.now) (sym c.edition.ensures)
    (tables-in inside.places.now words inside.heads.now inside.bits.now inside.counts.now inside.stays.items inside.bases.items inside.runs.items inside.end c.self.invariant is)

pub slide_around_by_threads-requires-clause-bases : goal.slide_around_by_threads-requires-clause-bases
slide_around_by_threads-requires-clause-bases g c = λ _ _. rw (c.deref.ensures.value, c.deref-2.ensures.value) c.self.invariant.based

pub slide_around_by_threads-requires-clause-objects : goal.slide_around_by_threads-requires-clause-objects
slide_around_by_threads-requires-clause-objects g c = λ _ _. rw c.deref.ensures.value c.self.invariant.objects

pub returns : goal.returns
returns g c =
    let inside = c.self.inside in
    let words = c.args.words.now in
    let after = c.slide_around_by_threads.new.words in
    let is = subst (λ (p : FoundAround). IsFoundIn p.found words) (sym c.self.view_is) c.requires.found in
    let by_edition : IsSlidAround (told inside.places.now.edition words inside.heads.now) (bit c.deref.result.now) after =
    subst (λ (e : Edition). IsSlidAround (told e words inside.heads.now) (bit c.deref.result.now) after) c.edition.ensures c.slide_around_by_threads.ensures in
    let slid : IsSlidAround (told inside.places.now.edition words inside.heads.now) (bit inside.stays.items) after =
    subst (λ (xs : List ℕ). IsSlidAround (told inside.places.now.edition words inside.heads.now) (bit xs) after) c.deref.ensures.value by_edition in
    subst (λ (p : FoundAround). IsSlidAround (heap_now p.found words []) (is_still p) after) c.self.view_is
    (slid-found inside.places.now words inside.heads.now inside.bits.now inside.counts.now inside.stays.items inside.bases.items inside.runs.items inside.end c.self.invariant is after slid)
