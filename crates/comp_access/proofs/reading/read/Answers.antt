use Rattle.std.proofs.Common.{inl}
use Rattle.page_cells.specs.CellViews.{setup_of}
use Rattle.comp_access.proofs.FieldCalls.{early_read, read_then}
use Rattle.comp_access.proofs.Growing.{knows_more}
use Rattle.comp_access.proofs.KnownStarts.{knows_slid}
use Rattle.comp_access.proofs.reading.read.Goals as goal

pub returns-clause-read : goal.returns-clause-read
returns-clause-read g c =
    let name = c.args.name in
    let old = c.args.pass.now in
    let middle = c.find.new.pass in
    let first = c.find.ensures in
    let loaded = c.load_found.ensures in
    let knows = knows_more _ _ old middle c.requires.0 first.of.0 first.grows.0 in
    read_then (setup_of c.args.cells.now) name.kind name.object name.field c.load_found.result old middle c.load_found.new.pass first.grows.0 first.grows.1.did
    (inl first.builds) (inl first.grows.1.seen) knows (λ place. knows_slid _ _ middle first.of.0 name.object place.0 place.1) (record {
      grows = loaded.grows.0;
      did = loaded.grows.1;
      word = loaded.read;
      known = loaded.leads;
      builds = loaded.builds;
      refused = loaded.refused;
      alone = loaded.alone;
      free = loaded.free;
      slid = loaded.slid;
      unseen = loaded.unseen;
    })

pub returns-in_err-found-clause-read : goal.returns-in_err-found-clause-read
returns-in_err-found-clause-read g c =
    let name = c.args.name in
    let first = c.find.ensures in
    early_read (setup_of c.args.cells.now) name.kind name.object name.field c.from_residual.result c.args.pass.now c.find.new.pass c.in_err-found.field-0.0
    c.from_residual.ensures.1 first.grows.0 first.grows.1.did c.in_err-found.ensures.early c.in_err-found.ensures.refused
