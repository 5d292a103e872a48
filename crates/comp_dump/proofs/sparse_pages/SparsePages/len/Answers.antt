use Rattle.std.proofs.Common.{◌∙◌, ap, length, sym}
use Rattle.comp_dump.proofs.SparsePages.{length-spread}
use Rattle.comp_dump.proofs.sparse_pages.SparsePages.len.Goals as goal

pub returns : goal.returns
returns c =
    sym (length-spread c.self.inside.count c.self.inside.numbers.items c.self.inside.pages.items) ∙ ap length c.self.view_is
