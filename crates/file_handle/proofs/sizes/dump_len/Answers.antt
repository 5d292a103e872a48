use Rattle.std.proofs.Common.{◌≡◌, ◌^◌, ◌≤◌, All, List, ℕ, Option, length, sym, ap, subst, ◌∙◌, arith}
use Rattle.std.specs.List.{flat_map}
use Rattle.std.proofs.lemmas.List.{length-map}
use Rattle.heap_layout.proofs.Bounds.{fresh_pages_most, pages_most}
use Rattle.comp_dump.specs.CellEnds.{lists as items_of}
use Rattle.comp_dump.specs.Dumped.{BuiltPage}
use Rattle.comp_dump.specs.DumpEncoding.{builds_bytes, page_bytes}
use Rattle.file_handle.specs.Dumping.{IsSized}
use Rattle.file_handle.proofs.Lengths.{all_few, all_sized, length-dump}
use Rattle.file_handle.proofs.sizes.dump_len.Goals as goal

pub pages_size-requires-clause-few : goal.pages_size-requires-clause-few
pages_size-requires-clause-few c =
    let d = c.args.dump.now in
    let few = c.dump_is_stored.ensures.counts.few_pages in
    let same = ap length c.pages.ensures in
    omega (arith, few, same, pages_most d.edition, fresh_pages_most d.edition)

pub pages_size-requires-clause-sized : goal.pages_size-requires-clause-sized
pages_size-requires-clause-sized c =
    let d = c.args.dump.now in
    subst (All IsSized) (sym c.pages.ensures) (all_sized d.edition d.mutators d.pages c.dump_is_stored.ensures.pages)

pub builds_size-requires-clause-some : goal.builds_size-requires-clause-some
builds_size-requires-clause-some c =
    let stored = c.dump_is_stored.ensures in
    let lists = stored.lists in
    let few = stored.counts.few_mutators in
    let same = ap length c.builds.ensures in
    let long : length (items_of c.builds.result.now) ≡ length c.builds.result.now = simp length-map in
    omega (arith, lists, few, same, long)

pub builds_size-requires-clause-few : goal.builds_size-requires-clause-few
builds_size-requires-clause-few c =
    let d = c.args.dump.now in
    let stored = c.dump_is_stored.ensures in
    let few = stored.counts.few_pages in
    subst (All (λ (l : List ℕ). length l ≤ 2 ^ 26)) (sym c.builds.ensures)
    (all_few (length d.pages) (2 ^ 26) d.builds (omega (arith, few, pages_most d.edition, fresh_pages_most d.edition)) stored.builds)

pub returns : goal.returns
returns c =
    let d = c.args.dump.now in
    let whole = length-dump d in
    let roots = ap length c.roots.ensures in
    let pages = c.pages_size.ensures.size ∙ ap (λ (l : List (Option BuiltPage)). length (flat_map page_bytes l)) c.pages.ensures in
    let builds = c.builds_size.ensures.size ∙ ap (λ (l : List (List ℕ)). length (flat_map builds_bytes l)) c.builds.ensures in
    omega (arith, whole, roots, pages, builds)
