use Rattle.std.proofs.Common.{◌≡◌, ℕ, ◌+◌, ◌-◌, get_or, ap, ◌∙◌, arith, get_or-set_other}
use Rattle.mark_tables.specs.MarkBitmap.{set_bits}
use Rattle.rest_marks.specs.Looking.{kept_by}
use Rattle.young_heap.proofs.sliding_down.slide_down_object.Goals as goal

pub returns-clause-weak : goal.returns-clause-weak
returns-clause-weak c = λ k lt.
    let start = c.args.start in
    let place = c.args.place in
    let refs = c.args.shape.refs in
    let words = c.args.words.now in
    let keep = kept_by c.args.edition c.args.heads.now (set_bits c.args.bits.now) in
    let to : place + 1 + refs + k ≡ place + (1 + refs) + k = omega arith in
    let from : start + (1 + refs) + k ≡ start + 1 + refs + k = omega arith in
    ap (λ (n : ℕ). get_or c.move_data.new.words n 0) to
    ∙ c.move_data.ensures.before (place + (1 + refs) + k) (omega (arith, lt))
    ∙ c.move_weak.ensures.moved k lt
    ∙ ap (λ (n : ℕ). keep (get_or c.move_references.new.words n 0)) from
    ∙ ap keep (c.move_references.ensures.behind (start + 1 + refs + k) (omega (arith, c.requires.down))
    ∙ get_or-set_other words place (start + 1 + refs + k) (get_or words start 0) 0 (λ same. omega (arith, same, c.requires.down)))

pub returns-clause-data : goal.returns-clause-data
returns-clause-data c = λ k behind lt.
    let start = c.args.start in
    let place = c.args.place in
    let words = c.args.words.now in
    let fields = 1 + c.args.shape.refs + c.args.shape.weak in
    let n = k - fields in
    let to : place + k ≡ place + fields + n = omega (arith, behind) in
    let from : start + fields + n ≡ start + k = omega (arith, behind) in
    ap (λ (m : ℕ). get_or c.move_data.new.words m 0) to
    ∙ c.move_data.ensures.moved n (omega (arith, behind, lt))
    ∙ ap (λ (m : ℕ). get_or c.move_weak.new.words m 0) from
    ∙ c.move_weak.ensures.behind (start + k) (omega (arith, behind, c.requires.down))
    ∙ c.move_references.ensures.behind (start + k) (omega (arith, behind, c.requires.down))
    ∙ get_or-set_other words place (start + k) (get_or words start 0) 0 (λ same. omega (arith, same, behind, c.requires.down))
