use Rattle.std.proofs.Common.{◌∙◌, ℕ, ◌+◌, ◌<◌, get_or, length, take, Option, refl, sym, subst, arith}
use Rattle.heap_layout.specs.declared.kind.Kind.TheVariants.{Header}
use Rattle.comp_dump.specs.Entry.{Entry}
use Rattle.comp_audit.specs.Explained.{IsLastAt}
use Rattle.comp_audit.proofs.LastEntry.{last_before, last_here}
use Rattle.comp_audit.proofs.explaining.entries.last_at.Goals as goal
use Rattle.comp_audit.proofs.explaining.entries.last_at.Goals.{then-from-offset, else-from-offset}

-- a default entry
abbrev no_entry : Entry
no_entry = record { stamp = 0; writer = 0; kind = Header; offset = 0; value = 0 }

pub loop-number-preserved : goal.loop-number-preserved
loop-number-preserved c =
    let j = c.args.journal.now in
    let i = c.loop-number.number in
    let e = get_or j i no_entry in
    let inside : i < length j = omega arith in
    elim c.if-from-offset.branch [
      | then-from-offset w ↦
          subst (λ (last : Option (ℕ × Entry)). IsLastAt (take (i + 1) j) c.args.offset last) (sym w.last-is)
          (last_here j i c.args.offset no_entry e inside refl (sym c.from.ensures ∙ w.if-from-offset.true))
      | else-from-offset w ↦
          subst (λ (last : Option (ℕ × Entry)). IsLastAt (take (i + 1) j) c.args.offset last) (sym w.last-is)
          (last_before j i c.args.offset no_entry e c.loop-number.last inside refl (λ here. w.if-from-offset.false (c.from.ensures ∙ here)) c.loop-number.invariant)
    ]
