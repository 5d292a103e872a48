use Rattle.std.proofs.Common.{refl}
use Rattle.comp_dump.specs.Sparse.{spread}
use Rattle.comp_dump.proofs.sparse_pages.SparsePages.new.Goals as goal

pub returns : goal.returns
unfolding spread
returns c = refl
