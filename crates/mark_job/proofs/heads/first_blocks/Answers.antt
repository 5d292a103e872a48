use Rattle.std.proofs.Common.{◌≡◌, ℕ, List, [], ◌∷◌, ◌++◌, ap, sym, ◌∙◌, arith, get_or, length, length-append, below_more}
use Rattle.std.proofs.lemmas.List.{get_or_append_left, get_or_push}
use Rattle.std.specs.Mem.Slots.{slots_items}
use Rattle.mark_job.proofs.Steps.{at-word}
use Rattle.mark_job.proofs.heads.first_blocks.Goals as goal

pub loop-k-preserved : goal.loop-k-preserved
loop-k-preserved c =
    let h = c.loop-k.invariant in
    let k = c.loop-k.k in
    let heads = c.loop-k.heads.items in
    let word = c.word.result in
    let words = slots_items c.args.closed.now.words in
    let items : c.push.new.self.items ≡ heads ++ word ∷ [] = c.in_ok-push.ensures.items in
    record {
      long = omega (arith, h.long, ap (λ (xs : List ℕ). length xs) items, length-append heads (word ∷ []));
      same = below_more _ _
          (λ j lt. ap (λ (xs : List ℕ). get_or xs j 0) items ∙ get_or_append_left heads (word ∷ []) 0 j (omega (arith, lt, h.long)) ∙ h.same j lt)
          (ap (λ (xs : List ℕ). get_or xs k 0) items ∙ get_or_push heads word 0 k h.long ∙ sym (at-word words k word c.word.ensures));
    }
