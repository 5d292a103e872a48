use Rattle.std.proofs.Common.{◌≡◌, ℕ, ◌+◌, get_or, ap, ◌∙◌, arith, get_or-set_other}
use Rattle.pinned_heap.specs.Tables.{kept_at_place}
use Rattle.pinned_heap.proofs.sliding.move_object.Goals as goal

pub returns-then-place-start-clause-weak : goal.returns-then-place-start-clause-weak
returns-then-place-start-clause-weak c = λ k lt.
    let start = c.args.start in
    let place = c.args.place in
    let refs = c.args.shape.refs in
    let keep = kept_at_place c.args.edition c.args.heads.now c.args.bits.now c.args.stays.now in
    let to : place + 1 + refs + k ≡ place + (1 + refs) + k = omega arith in
    let from : start + (1 + refs) + k ≡ start + 1 + refs + k = omega arith in
    ap (λ (n : ℕ). get_or c.copy_within.new.self n 0) to
    ∙ c.copy_within.ensures.by_index.1 (place + (1 + refs) + k) 0 (omega (arith, lt))
    ∙ c.move_weak.ensures.moved k lt
    ∙ ap (λ (n : ℕ). keep (get_or c.move_references.new.words n 0)) from
    ∙ ap keep (c.move_references.ensures.behind (start + 1 + refs + k) (omega (arith, c.requires.down)))
    ∙ ap keep (get_or-set_other c.args.words.now place (start + 1 + refs + k) (get_or c.args.words.now start 0) 0 (λ same. omega (arith, same, c.requires.down)))

pub returns-else-place-start-clause-weak : goal.returns-else-place-start-clause-weak
returns-else-place-start-clause-weak c = λ k lt.
    let start = c.args.start in
    let place = c.args.place in
    let refs = c.args.shape.refs in
    let keep = kept_at_place c.args.edition c.args.heads.now c.args.bits.now c.args.stays.now in
    let to : place + 1 + refs + k ≡ place + (1 + refs) + k = omega arith in
    let from : start + (1 + refs) + k ≡ start + 1 + refs + k = omega arith in
    ap (λ (n : ℕ). get_or c.move_weak.new.words n 0) to
    ∙ c.move_weak.ensures.moved k lt
    ∙ ap (λ (n : ℕ). keep (get_or c.move_references.new.words n 0)) from
    ∙ ap keep (c.move_references.ensures.behind (start + 1 + refs + k) (omega (arith, c.requires.down)))
    ∙ ap keep (get_or-set_other c.args.words.now place (start + 1 + refs + k) (get_or c.args.words.now start 0) 0 (λ same. omega (arith, same, c.requires.down)))
