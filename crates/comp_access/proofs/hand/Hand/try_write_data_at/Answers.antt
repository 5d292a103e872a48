use Rattle.std.proofs.Common.{◌∙◌, true≢false, inl, sym}
use Rattle.heap_layout.specs.declared.kind.Kind.TheVariants.{Data}
use Rattle.page_cells.specs.CellViews.{setup_of}
use Rattle.comp_access.proofs.FieldCalls.{write_then}
use Rattle.comp_access.proofs.Growing.{knows_more}
use Rattle.comp_access.proofs.KnownStarts.{knows_slid}
use Rattle.comp_access.proofs.Made.{counts_still, made_nothing, words_still}
use Rattle.comp_access.proofs.hand.Hand.try_write_data_at.Goals as goal

pub returns-clause-write : goal.returns-clause-write
returns-clause-write g c =
    let object = c.args.object in
    let old = c.args.self.now.pass in
    let middle = c.find.new.pass in
    let first = c.find.ensures in
    let wrote = c.write_found.ensures in
    let knows = knows_more _ _ old middle c.requires first.of.0 first.grows.0 in
    write_then (setup_of c.args.cells.now) Data object c.args.field c.write_found.result old middle c.write_found.new.pass first.grows.0 first.grows.1.did
    (inl first.builds) (inl first.grows.1.seen) knows (λ place. knows_slid _ _ middle first.of.0 object place.0 place.1) c.args.value (λ _. inl first.builds) (record {
      grows = wrote.grows;
      wrote = wrote.wrote;
      target = λ is. absurd (true≢false (sym is));
      builds = wrote.builds;
      did = wrote.did;
      data_refused = λ _. wrote.refused;
      reference_refused = λ is. absurd (true≢false (sym is));
      alone = wrote.alone;
    })

pub invariant_of-self-2 : goal.invariant_of-self-2
invariant_of-self-2 g c =
    let hand = c.args.self.now in
    let new = c.write_found.new.pass in
    let u = setup_of c.args.cells.now in
    let wrote = c.write_found.ensures in
    let made = made_nothing c.write_found.result u hand.pass c.find.new.pass new Data _ _ _ c.find.ensures.grows.1.did (λ e. cc) wrote.wrote wrote.did in
    let number = wrote.grows.number ∙ c.find.ensures.grows.0.number in
    record {
      rests = wrote.of.1;
      counts = counts_still u hand.pass new hand.fills.items c.requires.of.about wrote.of.0.of.about number made hand.counts;
      low = hand.low;
      bounded = hand.bounded;
      counted = words_still u hand.pass new hand.made c.requires.of.about wrote.of.0.of.about made hand.counted;
    }
