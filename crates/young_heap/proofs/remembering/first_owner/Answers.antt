use Rattle.std.proofs.Common.{◌≡◌, ℕ, ◌<◌, ◌≤◌, true, false, sym, subst, arith}
use Rattle.heap_layout.specs.Bits.{bit}
use Rattle.young_heap.specs.Cards.{IsOwner}
use Rattle.young_heap.proofs.Gathering.{last-inside, last-owner, owner-from}
use Rattle.young_heap.proofs.remembering.first_owner.Goals as goal

pub returns-clause-owner : goal.returns-clause-owner
returns-clause-owner c = λ row.
    let e = c.args.edition in
    let words = c.args.words.now in
    let starts = c.args.starts.now in
    let old = c.args.old in
    let owner = c.owner_at.result in
    let is = c.owner_at.ensures in
    let start = c.last_start.result in
    let found = c.last_start.ensures in
    let at = row.row c.args.word c.requires.low in
    let set : bit starts start ≡ true = found.here at.0 at.2.0 at.1 in
    let own : IsOwner e words starts old owner start =
    owner-from e words starts old owner start is.same is.last_ref is.last_weak is.ends (omega (arith, found.from, c.requires.low)) set in
    let same = sym is.same in
    last-owner e words starts old row owner c.args.word
    (subst (IsOwner e words starts old owner) same own)
    (subst (λ (n : ℕ). n ≤ c.args.word) same found.from) c.requires.low
    (subst (λ (n : ℕ). (j : ℕ) → n < j → j ≤ c.args.word → bit starts j ≡ false) same found.none)

pub returns-clause-inside : goal.returns-clause-inside
returns-clause-inside c = λ row.
    let e = c.args.edition in
    let words = c.args.words.now in
    let starts = c.args.starts.now in
    let old = c.args.old in
    let owner = c.owner_at.result in
    let is = c.owner_at.ensures in
    let start = c.last_start.result in
    let found = c.last_start.ensures in
    let at = row.row c.args.word c.requires.low in
    let set : bit starts start ≡ true = found.here at.0 at.2.0 at.1 in
    let own : IsOwner e words starts old owner start =
    owner-from e words starts old owner start is.same is.last_ref is.last_weak is.ends (omega (arith, found.from, c.requires.low)) set in
    let same = sym is.same in
    last-inside e words starts old row owner c.args.word
    (subst (IsOwner e words starts old owner) same own)
    (subst (λ (n : ℕ). n ≤ c.args.word) same found.from) c.requires.low
    (subst (λ (n : ℕ). (j : ℕ) → n < j → j ≤ c.args.word → bit starts j ≡ false) same found.none)
