use Rattle.std.proofs.Common.{◌∙◌, refl, sym, true≢false, inl}
use Rattle.std.proofs.lemmas.Result.{IfErr-at_err}
use Rattle.heap_layout.specs.declared.kind.Kind.TheVariants.{Data}
use Rattle.comp_access.proofs.FieldCalls.{write_then}
use Rattle.comp_access.proofs.Growing.{knows_more}
use Rattle.comp_access.proofs.KnownStarts.{knows_slid}
use Rattle.comp_mutator.specs.Mutators.{pass_of, setup_of}
use Rattle.comp_mutator.proofs.BusyPages.{waits_data, waits_none}
use Rattle.comp_mutator.proofs.space.Space.write_data_at.Goals as goal

pub loop-init : goal.loop-init
loop-init g c = record { of = c.requires; waits = waits_none _ _ (pass_of c.args.m.now) (inl (λ p. refl)); unposted = refl }

pub loop-preserved : goal.loop-preserved
loop-preserved g c =
    let u = setup_of c.args.self.now in
    let old = pass_of c.args.m.now in
    let last = pass_of c.loop.m in
    let new = pass_of c.try_write_data_at-answer.new.m in
    let tried = c.try_write_data_at-answer.ensures in
    let before = c.loop.invariant in
    let busy = c.if-not-pause_if_busy.ensures in
    let did = IfErr-at_err _ busy.1 tried.write.did in
    record {
      of = tried.of;
      waits = waits_data u Data c.args.object c.args.field old last new before.waits tried.write.grows did c.try_write_data_at-answer.result busy.0 busy.1 (tried.write.data_refused refl);
      unposted = tried.unposted ∙ before.unposted;
    }

pub returns-then-not-pause_if_busy : goal.returns-then-not-pause_if_busy
returns-then-not-pause_if_busy g c =
    let old = pass_of c.args.m.now in
    let last = pass_of c.loop.m in
    let tried = c.try_write_data_at-answer.ensures in
    let before = c.loop.invariant in
    let waits = before.waits in
    let knows = knows_more _ _ old last c.requires before.of waits.grows in
    record {
      of = tried.of;
      unposted = tried.unposted ∙ before.unposted;
      write = write_then (setup_of c.args.self.now) Data c.args.object c.args.field c.try_write_data_at-answer.result old last (pass_of c.try_write_data_at-answer.new.m)
          waits.grows waits.did waits.builds waits.seen knows (λ place. knows_slid _ _ last before.of c.args.object place.0 place.1) c.args.value (λ is. absurd (true≢false (sym is))) tried.write;
      busy = c.if-not-pause_if_busy.ensures;
    }

pub loop-smaller : goal.loop-smaller
loop-smaller g c = (c.in-Some.ensures.goes.on tt).2

pub unreachable-requires : goal.unreachable-requires
unreachable-requires g c = true≢false (sym c.in-None.ensures.steps)
