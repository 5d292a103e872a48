use Rattle.std.proofs.Common.{ℕ, List, ◌++◌, ap, ◌∙◌, arith}
use Rattle.reachability.proofs.Entries.{part-joined}
use Rattle.reachability.proofs.walks.join.Goals as goal

pub returns-then-part-entry : goal.returns-then-part-entry
returns-then-part-entry c =
    let row = c.args.row.now.items in
    let part = c.args.part.now in
    part-joined c.args.edition c.args.words.now row part.bits.items c.extend_from_slice.new.self.items part.base part.entry c.args.entry part.end c.requires.row c.requires.part (omega arith) (omega arith)
    (c.in_ok-extend_from_slice.ensures.items ∙ ap (λ (bits : List ℕ). row ++ bits) c.deref.ensures.value)

pub returns : goal.returns
returns c =
    let row = c.args.row.now.items in
    let part = c.in_ok-again.again in
    let made = c.in_ok-again.ensures in
    part-joined c.args.edition c.args.words.now row part.bits.items c.extend_from_slice-2.new.self.items part.base part.entry c.args.entry part.end c.requires.row made.walked (omega (arith, made.base)) made.entry
    (c.in_ok-extend_from_slice-2.ensures.items ∙ ap (λ (bits : List ℕ). row ++ bits) c.deref-2.ensures.value)
