use Rattle.std.proofs.Common.{inl, inr, arith}
use Rattle.heap_layout.specs.Header.{refs_of}
use Rattle.reachability.specs.Queue.{has}
use Rattle.young_heap.specs.Cards.{header_word_of, last_weak_of}
use Rattle.young_heap.proofs.Gathering.{found-next, gathered-next, rising-few}
use Rattle.young_heap.proofs.Listed.{owner-amiss, owner-field}
use Rattle.young_heap.proofs.listing.gather_word.Goals as goal
use Rattle.young_heap.proofs.listing.gather_word.Goals.{then-j-owner-via-then-j-owner, then-j-owner-via-else-j-owner+then-j-owner-2}

pub returns-then-j-owner-clause-misfit : goal.returns-then-j-owner-clause-misfit
returns-then-j-owner-clause-misfit c =
    let amiss = owner-amiss c.args.edition c.args.words.now c.args.starts.now c.args.old c.args.list.now c.first_owner-owner.result c.args.j c.requires.listed
    c.first_owner-owner.ensures.owner c.first_owner-owner.ensures.inside in
    elim c.then-j-owner.branch [
      | then-j-owner-via-then-j-owner w ↦ amiss (inl w.if-j-owner.true)
      | then-j-owner-via-else-j-owner+then-j-owner-2 w ↦ amiss (inr w.if-j-owner-2.true)
    ]

pub returns-in_default-clause-short : goal.returns-in_default-clause-short
returns-in_default-clause-short c =
    let so_far = c.requires.found in
    let few = rising-few c.args.fields.now.items c.args.j so_far.rising so_far.below in
    inl (omega (arith, few, c.in_default.ensures.full, c.requires.low))

pub returns-in_default-gather-clause-short : goal.returns-in_default-gather-clause-short
returns-in_default-gather-clause-short c =
    let so_far = c.requires.found_weak in
    let few = rising-few c.args.weaks.now.items c.args.j so_far.rising so_far.below in
    inr (omega (arith, few, c.in_default-gather.ensures.full, c.requires.low))

pub returns-clause-found : goal.returns-clause-found
returns-clause-found c =
    let owner = c.first_owner-owner.result in
    rw c.in-Ok.ensures.word
    (found-next c.args.edition c.args.words.now c.args.starts.now c.args.old (has c.args.list.now) owner.start owner.last_ref c.args.j c.args.fields.now.items
    c.requires.found c.requires.listed)

pub returns-clause-found_weak : goal.returns-clause-found_weak
returns-clause-found_weak c =
    let owner = c.first_owner-owner.result in
    rw c.in-Ok-gather.ensures.word
    (found-next c.args.edition c.args.words.now c.args.starts.now c.args.old (has c.args.list.now) owner.last_ref owner.last_weak c.args.j c.args.weaks.now.items
    c.requires.found_weak c.requires.listed)

pub returns-clause-gathered : goal.returns-clause-gathered
returns-clause-gathered c = λ row gathered.
    let owner = c.first_owner-owner.result in
    let own = c.first_owner-owner.ensures.owner row in
    rw c.in-Ok.ensures.word
    (gathered-next c.args.edition c.args.words.now c.args.starts.now c.args.old (has c.args.list.now) header_word_of refs_of row (λ h. omega arith) owner owner.start owner.last_ref
    c.args.j c.args.fields.now.items (omega arith) own.last_ref gathered own (c.first_owner-owner.ensures.inside row) c.requires.listed)

pub returns-clause-gathered_weak : goal.returns-clause-gathered_weak
returns-clause-gathered_weak c = λ row gathered.
    let owner = c.first_owner-owner.result in
    let own = c.first_owner-owner.ensures.owner row in
    rw c.in-Ok-gather.ensures.word
    (gathered-next c.args.edition c.args.words.now c.args.starts.now c.args.old (has c.args.list.now) refs_of last_weak_of row (λ h. omega arith) owner owner.last_ref owner.last_weak
    c.args.j c.args.weaks.now.items own.last_ref (omega (arith, own.last_ref, own.last_weak)) gathered own (c.first_owner-owner.ensures.inside row) c.requires.listed)

pub returns-clause-field : goal.returns-clause-field
returns-clause-field c = λ row.
    owner-field c.args.edition c.args.words.now c.args.starts.now c.args.old c.first_owner-owner.result c.args.j (c.first_owner-owner.ensures.owner row)
    (omega (arith, c.if-j-owner.false)) (omega (arith, c.if-j-owner-2.false))
