use Rattle.std.proofs.Common.{List, ℕ, subst}
use Rattle.std.specs.Io.KnownBytes.{Appends}
use Rattle.heap_layout.specs.Counted.{inner_of}
use Rattle.heap_layout.specs.Writing.{AppendsSome}
use Rattle.heap_layout.proofs.WholeImages.{image_of}
use Rattle.heap_layout.proofs.writing.write_image.Goals as goal

pub returns-in-Ok-clause-writes : goal.returns-in-Ok-clause-writes
returns-in-Ok-clause-writes g c =
    subst (λ (bytes : List ℕ). Appends (g.W.Write.contents (inner_of c.args.w.now)) (g.W.Write.contents (inner_of c.write_heap.new.w)) bytes)
    (image_of c.args.heap.now _ _ _ _ c.edition.ensures c.words.ensures.words c.marks.ensures.marks c.roots.ensures.roots)
    c.in-Ok.ensures.writes

pub returns-in-Err-clause-writes : goal.returns-in-Err-clause-writes
returns-in-Err-clause-writes g c =
    subst (λ (bytes : List ℕ). AppendsSome (g.W.Write.contents (inner_of c.args.w.now)) (g.W.Write.contents (inner_of c.write_heap.new.w)) bytes)
    (image_of c.args.heap.now _ _ _ _ c.edition.ensures c.words.ensures.words c.marks.ensures.marks c.roots.ensures.roots)
    c.in-Err.ensures.writes
