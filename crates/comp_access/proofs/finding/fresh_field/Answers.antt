use Rattle.std.proofs.Common.{refl}
use Rattle.page_cells.specs.CellViews.{setup_of}
use Rattle.comp_access.proofs.FieldAddresses as places
use Rattle.comp_access.proofs.KnownStarts.{knows_fresh}
use Rattle.comp_access.proofs.finding.fresh_field.Goals as goal

pub returns-in-Some-clause-found : goal.returns-in-Some-clause-found
returns-in-Some-clause-found g c =
    let h = c.fresh_header-header.ensures in
    let found = c.in-Some.ensures.some in
    places.fresh_field (setup_of c.args.cells.now) c.fresh_header-header.new.pass c.args.name.kind c.args.name.object c.args.name.field c.fresh_header-header.result c.in-Some.address c.args.name.object
    h.fresh refl h.shape h.fields h.ends found.0 found.1

pub returns-in-None-clause-refused : goal.returns-in-None-clause-refused
returns-in-None-clause-refused g c =
    let h = c.fresh_header-header.ensures in (
      knows_fresh _ _ c.fresh_header-header.new.pass h.of.0 c.args.name.object h.fresh,
      record { header = c.fresh_header-header.result; shape = h.shape; outside = c.in-None.ensures.none; slid = λ other own. absurd (h.fresh.apart (other, own)) },
      (h.builds, λ word_address. absurd (h.fresh.apart word_address)),
    )
