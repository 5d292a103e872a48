use Rattle.std.proofs.Common.{◌≡◌, ◌∙◌, ◌<◌, ℕ, List, None, Option, Some, ap, arith, get_or, length, subst, sym}
use Rattle.std.proofs.lemmas.List.{get_or_default}
use Rattle.comp_dump.specs.Dumped.{BuiltPage}
use Rattle.comp_dump.specs.Sparse.{numbered, spread}
use Rattle.comp_dump.proofs.SparsePages.{at_spread, none_numbered, past_spread, place_numbered}
use Rattle.comp_dump.proofs.sparse_pages.SparsePages.page.Goals as goal

pub returns-then-p-self : goal.returns-then-p-self
returns-then-p-self c =
    sym (past_spread c.self.inside.count c.self.inside.numbers.items c.self.inside.pages.items c.args.p c.if-p-self.true)
    ∙ ap (λ (all : List (Option BuiltPage)). get_or all c.args.p None) c.self.view_is

pub returns-in-None : goal.returns-in-None
returns-in-None c =
    let count : ℕ = c.self.inside.count in
    let numbers : List ℕ = c.self.inside.numbers.items in
    let pages : List BuiltPage = c.self.inside.pages.items in
    let nowhere = subst (λ (list : List ℕ). (i : ℕ) → i < length list → get_or list i 0 ≡ c.args.p → ⊥) c.deref.ensures.value (c.place_of.ensures.missed c.in-None.is) in
    sym (none_numbered numbers pages c.args.p nowhere)
    ∙ sym (at_spread count numbers pages c.args.p c.if-p-self.false)
    ∙ ap (λ (all : List (Option BuiltPage)). get_or all c.args.p None) c.self.view_is

pub returns-in-Some : goal.returns-in-Some
returns-in-Some c =
    let count : ℕ = c.self.inside.count in
    let numbers : List ℕ = c.self.inside.numbers.items in
    let pages : List BuiltPage = c.self.inside.pages.items in
    let place : ℕ = c.in-Some.place in
    let same : c.deref.result.now ≡ numbers = c.deref.ensures.value in
    let inside : place < length numbers = omega (arith, c.in-Some.ensures.found.0, ap length same) in
    let here : get_or numbers place 0 ≡ c.args.p = ap (λ (list : List ℕ). get_or list place 0) (sym same) ∙ c.in-Some.ensures.found.1 in
    ap Some (c.owned.ensures ∙ c.index.ensures)
    ∙ sym (place_numbered numbers pages place c.index.result.now c.args.p inside c.self.invariant.long c.self.invariant.rising here)
    ∙ sym (at_spread count numbers pages c.args.p c.if-p-self.false)
    ∙ ap (λ (all : List (Option BuiltPage)). get_or all c.args.p None) c.self.view_is
