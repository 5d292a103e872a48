use Rattle.std.proofs.Common.{◌≡◌, ◌∙◌, ◌∷◌, ◌++◌, [], ◌+◌, ℕ, List, Option, Some, ap, ap₂, arith, length, subst, sym}
use Rattle.comp_dump.specs.Dumped.{BuiltPage}
use Rattle.comp_dump.specs.Sparse.{spread, AreNumbered}
use Rattle.comp_dump.proofs.SparsePages.{length-spread, more_numbered, spread_built}
use Rattle.comp_dump.proofs.sparse_pages.SparsePages.push_built.Goals as goal

pub overflow_add-self : goal.overflow_add-self
overflow_add-self c =
    omega (arith, length-spread c.self.inside.count c.self.inside.numbers.items c.self.inside.pages.items, ap length c.self.view_is, c.requires)

pub invariant_of-self-2 : goal.invariant_of-self-2
invariant_of-self-2 c =
    let count : ℕ = c.self.inside.count in
    let numbers : List ℕ = c.self.inside.numbers.items in
    let pages : List BuiltPage = c.self.inside.pages.items in
    let of_numbers : c.push_reserved.new.self.items ≡ numbers ++ count ∷ [] = c.push_reserved.ensures.items ∙ ap (λ (l : List ℕ). l ++ count ∷ []) c.in_ok-reserve.ensures.items in
    let of_pages : c.push_reserved-2.new.self.items ≡ pages ++ c.args.page ∷ [] =
    c.push_reserved-2.ensures.items ∙ ap (λ (l : List BuiltPage). l ++ c.args.page ∷ []) c.in_ok-reserve-2.ensures.items in
    rw (of_numbers, of_pages) (more_numbered count numbers pages c.args.page c.self.invariant)

pub returns : goal.returns
returns c =
    let count : ℕ = c.self.inside.count in
    let numbers : List ℕ = c.self.inside.numbers.items in
    let pages : List BuiltPage = c.self.inside.pages.items in
    let of_numbers : c.push_reserved.new.self.items ≡ numbers ++ count ∷ [] = c.push_reserved.ensures.items ∙ ap (λ (l : List ℕ). l ++ count ∷ []) c.in_ok-reserve.ensures.items in
    let of_pages : c.push_reserved-2.new.self.items ≡ pages ++ c.args.page ∷ [] =
    c.push_reserved-2.ensures.items ∙ ap (λ (l : List BuiltPage). l ++ c.args.page ∷ []) c.in_ok-reserve-2.ensures.items in
    ap₂ (spread (count + 1)) of_numbers of_pages
    ∙ spread_built count numbers pages c.args.page c.self.invariant
    ∙ ap (λ (l : List (Option BuiltPage)). l ++ Some c.args.page ∷ []) c.self.view_is
