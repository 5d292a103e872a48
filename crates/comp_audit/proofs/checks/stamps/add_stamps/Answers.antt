use Rattle.std.proofs.Common.{◌≡◌, ◌+◌, ◌++◌, ◌∷◌, [], ◌∙◌, List, ℕ, ap, sym, map, take, get_or, append_assoc, append-nil}
use Rattle.std.proofs.lemmas.List.{map_more, take_all}
use Rattle.heap_layout.specs.declared.kind.Kind.TheVariants.{Header}
use Rattle.comp_journal.specs.declared.entry.Entry.{Entry}
use Rattle.comp_audit.proofs.checks.stamps.add_stamps.Goals as goal

pub loop-entry-init : goal.loop-entry-init
loop-entry-init c = sym (append-nil c.args.stamps.now.items)

pub loop-entry-preserved : goal.loop-entry-preserved
loop-entry-preserved c =
    let j = c.args.journal.now in
    let k = c.loop-entry.entry-index in
    let old = c.args.stamps.now.items in
    let none : Entry = record { stamp = 0; writer = 0; kind = Header; offset = 0; value = 0 } in
    let e = get_or j k none in
    let stamps : List Entry → List ℕ = map (λ (e : Entry). e.stamp) in
    let next : stamps (take (k + 1) j) ≡ stamps (take k j) ++ e.stamp ∷ [] = map_more (λ (e : Entry). e.stamp) j k none c.loop-entry-test.true in
    c.in_ok-push.ensures.items
    ∙ ap (λ (front : List ℕ). front ++ e.stamp ∷ []) c.loop-entry.invariant
    ∙ append_assoc old (stamps (take k j)) (e.stamp ∷ [])
    ∙ ap (λ (rest : List ℕ). old ++ rest) (sym next)

pub returns : goal.returns
returns c =
    let old = c.args.stamps.now.items in
    c.loop-entry.invariant
    ∙ ap (λ (es : List Entry). old ++ map (λ (e : Entry). e.stamp) es) (take_all c.loop-entry.entry-index c.args.journal.now c.loop-entry-test.false)
