use Rattle.std.proofs.Common.{List, None, Option, length, sym, ap, subst, ◌∙◌, arith}
use Rattle.std.specs.List.{flat_map}
use Rattle.std.proofs.lemmas.List.{take_all}
use Rattle.comp_dump.specs.Dumped.{BuiltPage}
use Rattle.comp_dump.specs.DumpEncoding.{page_bytes}
use Rattle.file_handle.specs.Dumping.{IsSized}
use Rattle.file_handle.proofs.Lengths.{length-more}
use Rattle.file_handle.proofs.sizes.pages_size.Goals as goal

pub page_size-size-requires : goal.page_size-size-requires
page_size-size-requires c = subst IsSized (sym c.page.ensures) (c.requires.sized c.loop-p.p None (omega arith))

pub loop-p-preserved : goal.loop-p-preserved
loop-p-preserved c =
    let before = c.loop-p.invariant in
    let one = c.page_size-size.ensures in
    let more = length-more page_bytes c.args.pages.now c.loop-p.p None c.page.result (omega arith) c.page.ensures in
    record {
      size = omega (arith, before.size, one.size, more);
      few = omega (arith, before.few, one.few);
    }

pub returns-clause-size : goal.returns-clause-size
returns-clause-size c =
    c.loop-p.invariant.size ∙ ap (λ (l : List (Option BuiltPage)). length (flat_map page_bytes l)) (take_all c.loop-p.p c.args.pages.now (omega arith))
