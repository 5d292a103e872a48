use Rattle.std.proofs.Common.{◌≡◌, ◌∙◌, ◌∷◌, ◌++◌, [], List, None, Option, ap, arith, length}
use Rattle.comp_dump.specs.Dumped.{BuiltPage}
use Rattle.comp_dump.proofs.SparsePages.{length-spread, spread_unbuilt, still_numbered}
use Rattle.comp_dump.proofs.sparse_pages.SparsePages.push_unbuilt.Goals as goal

pub overflow_add-self : goal.overflow_add-self
overflow_add-self c =
    omega (arith, length-spread c.self.inside.count c.self.inside.numbers.items c.self.inside.pages.items, ap length c.self.view_is, c.requires)

pub invariant_of-self : goal.invariant_of-self
invariant_of-self c = still_numbered c.self.inside.count c.self.inside.numbers.items c.self.inside.pages.items c.self.invariant

pub returns : goal.returns
returns c =
    spread_unbuilt c.self.inside.count c.self.inside.numbers.items c.self.inside.pages.items c.self.invariant
    ∙ ap (λ (pages : List (Option BuiltPage)). pages ++ None ∷ []) c.self.view_is
