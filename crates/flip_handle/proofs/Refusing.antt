-- Why a next heap is not made.
use Rattle.std.proofs.Common.{◌≡◌, ℕ, ◌*◌, leb, List, [], length}
use Rattle.heap_layout.specs.Faults.{IsFirst}
use Rattle.heap_layout.specs.Limits.{most_roots, most_words}
use Rattle.heap_layout.specs.declared.fault.LayoutFault.{LayoutFault}
use Rattle.heap_layout.specs.declared.fault.LayoutFault.TheVariants as layout
use Rattle.comp_cycles.specs.Ends.{next_sizes}
use Rattle.comp_cycles.specs.Finishes.{edition_in, pages_of}
use Rattle.comp_cycles.proofs.Refusals.{size_refused, size_within}
use Rattle.comp_crew.specs.Finishing.{finished_of, heap_of, IsEnded}
use Rattle.comp_crew.specs.declared.finishing.Ended.{Ended as End}
use Rattle.handle_base.specs.Answers.{of_layout}
use Rattle.flip_handle.specs.Turning.{IsUnfollowed}
use Rattle.handle_base.specs.declared.answer.Answer.{Answer}

-- it is too large
pub too_large : (e : End) (roots marks : List ℕ) (fault : LayoutFault) (a : Answer) → IsEnded e → IsFirst (next_sizes (finished_of e) marks roots) fault → a ≡ of_layout fault
    → IsUnfollowed roots marks e a
too_large e roots marks fault a ended first is =
    let f = finished_of e in
    let own = edition_in f in
    let refused = size_refused (heap_of e) f marks roots ended.end fault first in
    let within = size_within (next_sizes f marks roots) (leb (64 * length (pages_of f)) (most_words own)) (leb (length marks) (most_words own)) (leb (length roots) (most_roots own)) fault first in
    (fault, is, refused, within)

-- no memory for the marks of one that is not
pub unmarked : (e : End) (roots marks : List ℕ) (a : Answer) → next_sizes (finished_of e) marks roots ≡ [] → a ≡ of_layout layout.OutOfMemory → IsUnfollowed roots marks e a
unmarked e roots marks a none is = (layout.OutOfMemory, is, tt, none)
