use Rattle.std.proofs.Common.{refl}
use Rattle.std.proofs.lemmas.Result.{IfOk-weaker, IfErr-weaker}
use Rattle.heap_layout.specs.ImageParts.{heap_in}
use Rattle.heap_layout.proofs.Reading.{handed_on, failure_handed_on}
use Rattle.heap_layout.proofs.Images.{refused_as_heap, refused_as_parts, same_image}
use Rattle.heap_layout.proofs.PartFaults.{no_device, counts_kept}
use Rattle.heap_layout.proofs.image.read_image_by.Goals as goal

pub returns-in_err-parts-clause-cause : goal.returns-in_err-parts-clause-cause
returns-in_err-parts-clause-cause g c = handed_on _ _ _ c.from_residual.ensures.1 (refused_as_parts c.args.large _ _ c.in_err-parts.ensures.cause)

pub returns-in_err-parts-clause-counts : goal.returns-in_err-parts-clause-counts
returns-in_err-parts-clause-counts g c = failure_handed_on _ _ _ _ _ c.from_residual.ensures.1 refl c.in_err-parts.ensures.counts

pub returns-clause-image : goal.returns-clause-image
returns-clause-image g c =
    IfOk-weaker c.from_parts_of.result _ _ (λ made is. same_image _ (heap_in c.in_ok-parts.parts) made c.in_ok-parts.ensures.image is) c.from_parts_of.ensures.made

pub returns-clause-cause : goal.returns-clause-cause
returns-clause-cause g c =
    let read = c.in_ok-parts.ensures in
    IfErr-weaker c.from_parts_of.result _ _
    (λ fault answered. refused_as_heap c.args.large _ (heap_in c.in_ok-parts.parts) fault read.image read.edition read.stored read.within answered)
    c.from_parts_of.ensures.fault

pub returns-clause-counts : goal.returns-clause-counts
returns-clause-counts g c =
    counts_kept _ _ _ c.from_parts_of.result
    (IfErr-weaker c.from_parts_of.result _ _ (λ fault answered. no_device (heap_in c.in_ok-parts.parts) fault c.in_ok-parts.ensures.within answered) c.from_parts_of.ensures.fault)
    c.in_ok-parts.ensures.counts
