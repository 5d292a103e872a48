use Rattle.std.proofs.Common.{◌≡◌, ℕ, ◌<◌, ◌⊎◌, true, inl, inr}
use Rattle.reachability.specs.Queue.{has}
use Rattle.young_heap.specs.Dirty.{IsAsked, IsWordFrom, LeadsAbove}
use Rattle.young_heap.proofs.Made.{marked-both, marked-from}
use Rattle.young_heap.proofs.dirtying.make_cards.Goals as goal

pub returns-clause-marked : goal.returns-clause-marked
returns-clause-marked c =
    let e = c.args.edition in
    let words = c.args.words.now in
    let starts = c.args.starts.now in
    let old = c.args.old in
    let fields = c.args.fields.now in
    let weaks = c.args.weaks.now in
    let above = LeadsAbove e words starts old in
    let of = λ (n : ℕ). IsWordFrom e words starts c.args.from old n × (n < old) in
    let zeros = c.clear.new.cards in
    let first = c.mark_listed.new.cards in
    let second = c.mark_listed-2.new.cards in
    let listed = marked-both zeros first second (λ n. (has fields n ≡ true) × above n) (λ n. (has weaks n ≡ true) × above n)
    (λ n. ((has fields n ≡ true) ⊎ (has weaks n ≡ true)) × above n) c.mark_listed.ensures.marked c.mark_listed-2.ensures.marked
    (λ n is. elim is.0 [ inl field ↦ inl (field, is.1) | inr weak ↦ inr (weak, is.1) ])
    (λ n is. (inl is.0, is.1)) (λ n is. (inr is.0, is.1)) in
    let all = marked-both zeros second c.mark_objects.new.cards (λ n. ((has fields n ≡ true) ⊎ (has weaks n ≡ true)) × above n) (λ n. of n × above n)
    (λ n. IsAsked e words starts c.args.from old fields weaks n) listed c.mark_objects.ensures.marked
    (λ n is. elim is.0 [
      | inl field ↦ inl (inl field, is.1)
      | inr rest ↦ elim rest [ inl weak ↦ inl (inr weak, is.1) | inr word ↦ inr (word, is.1) ]
    ])
    (λ n is. elim is.0 [ inl field ↦ (inl field, is.1) | inr weak ↦ (inr (inl weak), is.1) ])
    (λ n is. (inr (inr is.0), is.1)) in
    marked-from zeros c.mark_objects.new.cards (λ n. IsAsked e words starts c.args.from old fields weaks n)
    (λ n. IsAsked e words starts c.args.from old fields weaks n) c.clear.ensures.none all (λ n is. is) (λ n is. is)
