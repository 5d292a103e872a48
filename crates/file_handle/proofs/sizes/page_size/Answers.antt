use Rattle.std.proofs.Common.{Option, length, ap, subst, arith}
use Rattle.comp_dump.specs.Dumped.{BuiltPage}
use Rattle.comp_dump.specs.DumpEncoding.{page_bytes}
use Rattle.file_handle.specs.Dumping.{IsSized}
use Rattle.file_handle.proofs.Lengths.{length-page}
use Rattle.file_handle.proofs.sizes.page_size.Goals as goal

pub returns-in-Some-clause-size : goal.returns-in-Some-clause-size
returns-in-Some-clause-size c =
    let sized = subst IsSized c.in-Some.is c.requires in
    let long = length-page c.in-Some.page sized.0 in
    let journal = ap length c.journal.ensures in
    let here = ap (λ (slot : Option BuiltPage). length (page_bytes slot)) c.in-Some.is in
    omega (arith, long, journal, here)
