use Rattle.std.proofs.Common.{◌≡◌, ℕ, ◌*◌, true, false, List, length, get_or, subst}
use Rattle.std.proofs.lemmas.Bool.{eqb-true}
use Rattle.std.proofs.lemmas.List.Elements.{All-get_or, All-same}
use Rattle.heap_layout.specs.declared.edition.Edition.{Edition}
use Rattle.rest_marks.specs.Kept.{AreKeptIn, IsAsked}
use Rattle.rest_marks.specs.declared.asking.Asked.{Asked}
use Rattle.rest_marks.proofs.AskedObjects.{kept-first, kept-joined}
use Rattle.rest_marks.proofs.asking.are_all_kept.Goals as goal

-- one part more
kept-part : (edition : Edition) (words heads : List ℕ) (next : ℕ) (part : Asked) → AreKeptIn edition words heads 0 (64 * next) → IsAsked edition words heads part
    → part.kept ≡ true → part.first ≡ next → AreKeptIn edition words heads 0 (64 * part.end)
kept-part edition words heads next part are is kept first =
    kept-joined edition words heads 0 (64 * next) (64 * part.end) are (subst (λ (n : ℕ). AreKeptIn edition words heads (64 * n) (64 * part.end)) first (is kept))

pub loop-part-init : goal.loop-part-init
loop-part-init g c = kept-first c.args.edition c.args.words.now c.args.heads.now 0

pub loop-part-preserved : goal.loop-part-preserved
loop-part-preserved g c =
    let edition = c.args.edition in
    let words = c.args.words.now in
    let heads = c.args.heads.now in
    let parts = c.deref-part-items.result.now in
    let none : Asked = record { first = 0; end = 0; kept = false } in
    let all = All-same (IsAsked edition words heads) parts c.in-Ok.parts.items c.deref-part-items.ensures.value c.in-Ok.ensures in
    let is = All-get_or (IsAsked edition words heads) parts c.loop-part.part-index none c.loop-part-test.true all in
    kept-part edition words heads c.loop-part.next (get_or parts c.loop-part.part-index none) c.loop-part.invariant is c.if-not-part.false c.if-part-next.false

pub returns : goal.returns
returns g c = λ whole.
    subst (λ (n : ℕ). AreKeptIn c.args.edition c.args.words.now c.args.heads.now 0 (64 * n)) (eqb-true c.loop-part.next (length c.args.heads.now) whole) c.loop-part.invariant
