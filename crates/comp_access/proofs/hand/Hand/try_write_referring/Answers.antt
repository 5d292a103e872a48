use Rattle.std.proofs.Common.{◌≡◌, ◌≢◌, true, false, true≢false, inl, inr, refl, sym, ap, subst, ◌∙◌}
use Rattle.std.proofs.lemmas.Bool.{both_ways}
use Rattle.heap_layout.specs.Kinds.{refers}
use Rattle.heap_layout.specs.declared.kind.Kind.{Kind}
use Rattle.heap_layout.specs.declared.kind.Kind.TheVariants.{Header}
use Rattle.heap_layout.specs.Values.{leads_nowhere}
use Rattle.cell_steps.specs.Setup.{Setup}
use Rattle.std.proofs.lemmas.Result.{IfErr-weaker}
use Rattle.page_cells.specs.Calls.{SeesNothingNew}
use Rattle.page_cells.specs.CellViews.{setup_of}
use Rattle.page_cells.proofs.Growing.{grows_then}
use Rattle.comp_access.proofs.Answering.{ok_anyway, start_apart}
use Rattle.comp_access.proofs.Earlier.{refused_then}
use Rattle.comp_access.proofs.FieldCalls.{early_write, write_then}
use Rattle.comp_access.proofs.Growing.{found_more, knows_more, refers_more}
use Rattle.comp_access.proofs.Judging.{known_judged}
use Rattle.comp_access.proofs.KnownStarts.{knows_slid}
use Rattle.comp_access.proofs.Made.{counts_still, made_nothing, words_still}
use Rattle.comp_access.proofs.hand.Hand.try_write_referring.Goals as goal

-- a header does not refer
no_header : (kind : Kind) → refers kind ≡ true → kind ≢ Header
no_header kind is header = both_ways false refl (subst (λ (k : Kind). refers k ≡ true) header is)

pub check_found-requires-clause-found : goal.check_found-requires-clause-found
check_found-requires-clause-found g c κs within =
    found_more (setup_of c.args.cells.now) c.find.new.pass c.may_store.new.pass c.may_store.ensures.grows.0 c.args.kind c.args.object c.args.field c.in_ok-found.found c.in_ok-found.ensures.found

pub write_found-requires-clause-found : goal.write_found-requires-clause-found
write_found-requires-clause-found g c κs within =
    found_more (setup_of c.args.cells.now) c.find.new.pass c.may_store.new.pass c.may_store.ensures.grows.0 c.args.kind c.args.object c.args.field c.in_ok-found.found c.in_ok-found.ensures.found

pub returns-in_err-check_found-clause-write : goal.returns-in_err-check_found-clause-write
returns-in_err-check_found-clause-write g c =
    let u = setup_of c.args.cells.now in
    let object = c.args.object in
    let old = c.args.self.now.pass in
    let middle = c.may_store.new.pass in
    let new = c.check_found.new.pass in
    let first = c.find.ensures in
    let store = c.may_store.ensures in
    let checked = c.check_found.ensures in
    let grows = grows_then old c.find.new.pass middle first.grows.0 store.grows.0 in
    let knows = knows_more _ _ old middle c.requires.of store.of.0 grows in
    let saw : SeesNothingNew old middle = λ p. store.grows.1.seen p ∙ first.grows.1.seen p in
    let refused =
    refused_then u c.args.kind object c.args.field old middle new grows checked.grows.0 (inl (store.builds ∙ first.builds)) (inl saw) knows
    (λ place. knows_slid _ _ middle store.of.0 object place.0 place.1) _ c.in_err-check_found.ensures.refused in
    early_write u c.args.kind object c.args.field c.from_residual-in_err-check_found.result old new c.in_err-check_found.field-0.0 c.from_residual-in_err-check_found.ensures.1
    (grows_then old middle new grows checked.grows.0) (checked.grows.1 ∙ store.grows.1.did ∙ first.grows.1.did) c.in_err-check_found.ensures.early refused c.args.value

pub returns-then-not-may_store-clause-write : goal.returns-then-not-may_store-clause-write
returns-then-not-may_store-clause-write g c =
    let old = c.args.self.now.pass in
    let middle = c.may_store.new.pass in
    let first = c.find.ensures in
    let store = c.may_store.ensures in
    let checked = c.check_found.ensures in
    let there = c.in_ok-check_found.ensures.there in
    let target = c.if-not-may_store.ensures.target in
    let grows = grows_then old c.find.new.pass middle first.grows.0 store.grows.0 in
    let knows = knows_more _ _ old c.find.new.pass c.requires.of first.of.0 first.grows.0 in
    record {
      grows = grows_then old middle c.check_found.new.pass grows checked.grows.0;
      wrote = tt;
      target = λ _. tt;
      builds = tt;
      did = checked.grows.1 ∙ store.grows.1.did ∙ first.grows.1.did;
      data_refused = λ is. absurd (true≢false (sym c.requires.refers ∙ is));
      reference_refused = λ _. inr (
        refl,
        (
          there.0,
          ap (λ (s : Setup). leads_nowhere s.heap.edition c.args.value) (sym first.grows.0.about) ∙ target.0,
          (λ known. target.1 (knows c.args.value known)),
          (there.1.0 ∙ store.builds ∙ first.builds, λ place p. there.1.1 place p ∙ store.grows.1.seen p ∙ first.grows.1.seen p),
        ),
      );
      alone = λ _. start_apart c.args.value;
    }

pub returns-clause-write : goal.returns-clause-write
returns-clause-write g c =
    let object = c.args.object in
    let value = c.args.value in
    let old = c.args.self.now.pass in
    let middle = c.may_store.new.pass in
    let new = c.write_found.new.pass in
    let answer = c.write_found.result in
    let first = c.find.ensures in
    let store = c.may_store.ensures in
    let wrote = c.write_found.ensures in
    let grows = grows_then old c.find.new.pass middle first.grows.0 store.grows.0 in
    let knows = knows_more _ _ old middle c.requires.of store.of.0 grows in
    let saw : SeesNothingNew old middle = λ p. store.grows.1.seen p ∙ first.grows.1.seen p in
    let none = store.builds ∙ first.builds in
    let may = refers_more _ _ middle new store.of.0 wrote.of.0 wrote.grows value c.if-not-may_store.ensures.target in
    write_then (setup_of c.args.cells.now) c.args.kind object c.args.field answer old middle new grows (store.grows.1.did ∙ first.grows.1.did)
    (inl none) (inl saw) knows (λ place. knows_slid _ _ middle store.of.0 object place.0 place.1) value (λ _. inl none) (record {
      grows = wrote.grows;
      wrote = wrote.wrote;
      target = λ _. ok_anyway answer _ may;
      builds = wrote.builds;
      did = wrote.did;
      data_refused = λ _. wrote.refused;
      reference_refused = λ _. IfErr-weaker answer _ _ (λ e h. inl (h, known_judged new value may e)) wrote.refused;
      alone = wrote.alone;
    })

pub invariant_of-self-2 : goal.invariant_of-self-2
invariant_of-self-2 g c =
    let hand = c.args.self.now in
    let new = c.write_found.new.pass in
    let u = setup_of c.args.cells.now in
    let wrote = c.write_found.ensures in
    let made = made_nothing c.write_found.result u hand.pass c.may_store.new.pass new c.args.kind _ _ _ (c.may_store.ensures.grows.1.did ∙ c.find.ensures.grows.1.did) (no_header c.args.kind c.requires.refers) wrote.wrote wrote.did in
    let number = wrote.grows.number ∙ c.may_store.ensures.grows.0.number ∙ c.find.ensures.grows.0.number in
    record {
      rests = wrote.of.1;
      counts = counts_still u hand.pass new hand.fills.items c.requires.of.of.about wrote.of.0.of.about number made hand.counts;
      low = hand.low;
      bounded = hand.bounded;
      counted = words_still u hand.pass new hand.made c.requires.of.of.about wrote.of.0.of.about made hand.counted;
    }
