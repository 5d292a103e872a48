use Rattle.std.proofs.Common.{◌≡◌, ℕ, ◌+◌, ◌-◌, ◌<◌, ◌⊎◌, List, [], length, get_or, drop, take, inl, inr, refl, sym, ap, subst, ◌∙◌, arith, length-take, length-drop}
use Rattle.std.proofs.lemmas.Result.{err_from_is_err_and}
use Rattle.std.proofs.lemmas.List.{get_or_default, take_all}
use Rattle.reachability.proofs.Queues.{has-at}
use Rattle.rest_marks.specs.LookFaults.{IsFieldsFault, IsPlacingFault}
use Rattle.rest_marks.specs.Looks.{met_by_rows, row_size, rows_of, AreLookedAt, AreRowsAt}
use Rattle.rest_marks.proofs.RowsLooked.{AreTaken, longer, row-at, rows-all, taken-after, taken-more}
use Rattle.rest_marks.proofs.looking_rows.look_each.Goals as goal

pub returns-then-next-len-clause-fault : goal.returns-then-next-len-clause-fault
returns-then-next-len-clause-fault c =
    let inv = c.loop-at.invariant in
    let e = c.args.edition in
    let words = c.args.rows.now in
    let at = c.loop-at.at in
    let k = c.loop-at.next - c.args.first in
    let row = take (row_size e (get_or words at 0)) (drop at words) in
    let is = row-at e words row at k c.loop-at-test.true refl inv.left in
    let after = taken-after e c.args.count c.args.queue.now.items c.loop-at.queue.items c.args.first c.loop-at.next k (rows_of e words)
    c.args.heads.now c.args.bits.now c.loop-at.heads c.loop-at.bits (omega (arith, inv.first)) inv.taken in (
      k,
      is.inside,
      record { edition = e; count = c.args.count; met = c.loop-at.queue.items; looked = c.loop-at.next; heads = c.loop-at.heads; bits = c.loop-at.bits },
      after,
      inl (refl, omega (arith, c.if-next-len.true, c.len.ensures)),
    )

pub look_at-requires-clause-inside : goal.look_at-requires-clause-inside
look_at-requires-clause-inside c =
    let queue = c.loop-at.queue.items in
    let next = c.loop-at.next in
    let i = c.index.result.now in
    let within : next < length queue = omega (arith, c.if-next-len.false, c.len.ensures) in
    let here : get_or queue next 0 ≡ i = get_or_default queue next 0 i within ∙ sym c.index.ensures in
    let lt = c.loop-at.invariant.once.within (get_or queue next 0) (has-at queue next within) in
    omega (arith, lt, here)

pub returns-in_err-look_at-clause-fault : goal.returns-in_err-look_at-clause-fault
returns-in_err-look_at-clause-fault c =
    let inv = c.loop-at.invariant in
    let e = c.args.edition in
    let words = c.args.rows.now in
    let at = c.loop-at.at in
    let next = c.loop-at.next in
    let k = next - c.args.first in
    let queue = c.loop-at.queue.items in
    let row = c.row_at-row.result.now in
    let rows = rows_of e words in
    let fault = c.in_err-look_at.field-0.0 in
    let is = row-at e words row at k c.loop-at-test.true c.row_at-row.ensures inv.left in
    let after = taken-after e c.args.count c.args.queue.now.items queue c.args.first next k rows
    c.args.heads.now c.args.bits.now c.loop-at.heads c.loop-at.bits (omega (arith, inv.first)) inv.taken in
    let within : next < length queue = omega (arith, c.if-next-len.false, c.len.ensures) in
    let i = c.index.result.now in
    let here : get_or queue next 0 ≡ i = get_or_default queue next 0 i within ∙ sym c.index.ensures in
    let cause : IsPlacingFault e c.args.count c.loop-at.bits (get_or queue next 0) (get_or rows k []) fault ⊎ IsFieldsFault e c.args.count queue (get_or queue next 0) (get_or rows k []) fault =
    subst (λ (r : List ℕ). IsPlacingFault e c.args.count c.loop-at.bits (get_or queue next 0) r fault ⊎ IsFieldsFault e c.args.count queue (get_or queue next 0) r fault) (sym is.is)
    (subst (λ (n : ℕ). IsPlacingFault e c.args.count c.loop-at.bits n row fault ⊎ IsFieldsFault e c.args.count queue n row fault) (sym here) c.in_err-look_at.ensures.fault) in
    let p = err_from_is_err_and c.from_residual.result c.from_residual.ensures.1 in
    rw (p.1, p.2)
    (k, is.inside, record { edition = e; count = c.args.count; met = queue; looked = next; heads = c.loop-at.heads; bits = c.loop-at.bits }, after, inr (within, cause))

pub loop-at-preserved : goal.loop-at-preserved
loop-at-preserved c =
    let inv = c.loop-at.invariant in
    let e = c.args.edition in
    let words = c.args.rows.now in
    let at = c.loop-at.at in
    let next = c.loop-at.next in
    let first = c.args.first in
    let k = next - first in
    let queue = c.loop-at.queue.items in
    let row = c.row_at-row.result.now in
    let rows = rows_of e words in
    let is = row-at e words row at k c.loop-at-test.true c.row_at-row.ensures inv.left in
    let within : next < length queue = omega (arith, c.if-next-len.false, c.len.ensures) in
    let place : first + k ≡ next = omega (arith, inv.first) in
    let more : next + 1 - first ≡ k + 1 = omega (arith, inv.first) in
    let i = c.index.result.now in
    let here : get_or queue (first + k) 0 ≡ i = ap (λ (n : ℕ). get_or queue n 0) place ∙ get_or_default queue next 0 i within ∙ sym c.index.ensures in
    let step = c.in_ok-look_at.ensures in
    let kept = (step.stay next within).0 in
    let taken = taken-more e c.args.count c.args.queue.now.items queue c.look_at.new.queue.items first k rows row i c.args.heads.now c.args.bits.now c.loop-at.heads c.loop-at.bits
    c.look_at.new.heads c.look_at.new.bits (omega (arith, place, within)) here is.is is.inside inv.longer inv.taken (record {
      met = step.queue;
      stay = step.stay;
      looked = step.looked;
      set = step.set;
      words = step.words;
      only = step.only;
    }) in
    record {
      first = omega (arith, inv.first);
      within = omega (arith, kept);
      place = omega (arith, ap (λ (xs : List ℕ). length xs) c.row_at-row.ensures, length-take (row_size e (get_or words at 0)) (drop at words), length-drop at words, c.loop-at-test.true);
      some = omega (arith, is.inside, more);
      left = ap (λ (n : ℕ). drop n rows) more ∙ is.left;
      met = step.met;
      once = step.once;
      longer = longer c.args.queue.now.items queue c.look_at.new.queue.items inv.longer step.stay;
      heads = c.look_at.ensures.heads ∙ inv.heads;
      bits = c.look_at.ensures.bits ∙ inv.bits;
      taken = subst (λ (n : ℕ). AreTaken e c.args.count c.args.queue.now.items c.look_at.new.queue.items first n rows c.args.heads.now c.args.bits.now c.look_at.new.heads c.look_at.new.bits) (sym more) taken;
    }

pub returns-clause-many : goal.returns-clause-many
returns-clause-many c =
    let inv = c.loop-at.invariant in
    let all = rows-all c.args.edition c.args.rows.now c.loop-at.at (c.loop-at.next - c.args.first) c.loop-at-test.false inv.some inv.left in
    omega (arith, all, inv.first)

pub returns-clause-queue : goal.returns-clause-queue
returns-clause-queue c =
    let inv = c.loop-at.invariant in
    let rows = rows_of c.args.edition c.args.rows.now in
    let all = rows-all c.args.edition c.args.rows.now c.loop-at.at (c.loop-at.next - c.args.first) c.loop-at-test.false inv.some inv.left in
    inv.taken.met ∙ ap (met_by_rows c.args.edition c.args.count c.args.queue.now.items) (take_all (c.loop-at.next - c.args.first) rows (omega (arith, all)))

pub returns-clause-looked : goal.returns-clause-looked
returns-clause-looked c = λ words counted at are.
    let inv = c.loop-at.invariant in
    let e = c.args.edition in
    let k = c.loop-at.next - c.args.first in
    let rows = rows_of e c.args.rows.now in
    let all = rows-all e c.args.rows.now c.loop-at.at k c.loop-at-test.false inv.some inv.left in
    let at_taken = subst (AreRowsAt words c.loop-at.queue.items c.args.first) (sym (take_all k rows (omega (arith, all)))) at in
    let place : c.args.first + k ≡ c.loop-at.next = omega (arith, inv.first) in
    subst (λ (n : ℕ). AreLookedAt e words c.loop-at.queue.items n c.loop-at.heads c.loop-at.bits) place (inv.taken.looked words counted at_taken are)
