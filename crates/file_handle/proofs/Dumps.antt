-- A dump is determined by its parts.
use Rattle.std.proofs.Common.{◌≡◌}
use Rattle.comp_dump.specs.Dumped.{Dumped}

pub dump_same : (one other : Dumped) → one.edition ≡ other.edition → one.mutators ≡ other.mutators → one.fresh ≡ other.fresh → one.roots ≡ other.roots → one.pages ≡ other.pages
    → one.builds ≡ other.builds → one.total ≡ other.total → one ≡ other
dump_same one other edition mutators fresh roots pages builds total =
    λ j. record { edition = edition j; mutators = mutators j; fresh = fresh j; roots = roots j; pages = pages j; builds = builds j; total = total j }
