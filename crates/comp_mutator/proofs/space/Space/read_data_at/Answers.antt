use Rattle.std.proofs.Common.{◌∙◌, refl, sym, true≢false, inl}
use Rattle.heap_layout.specs.declared.kind.Kind.TheVariants.{Data}
use Rattle.comp_access.proofs.FieldCalls.{read_then}
use Rattle.comp_access.proofs.Growing.{knows_more}
use Rattle.comp_access.proofs.KnownStarts.{knows_slid}
use Rattle.comp_mutator.specs.Mutators.{pass_of, setup_of}
use Rattle.comp_mutator.proofs.BusyPages.{waits_field, waits_none}
use Rattle.comp_mutator.proofs.space.Space.read_data_at.Goals as goal

pub loop-init : goal.loop-init
loop-init g c = record { of = c.requires; waits = waits_none _ _ (pass_of c.args.m.now) (inl (λ p. refl)); unposted = refl }

pub loop-preserved : goal.loop-preserved
loop-preserved g c =
    let tried = c.try_read_data_at-answer.ensures in
    let busy = c.if-not-pause_if_busy.ensures in
    record {
      of = tried.of;
      waits = waits_field (setup_of c.args.self.now) Data c.args.object c.args.field (pass_of c.args.m.now) (pass_of c.loop.m) (pass_of c.try_read_data_at-answer.new.m) c.loop.invariant.waits
          tried.read.grows tried.read.did c.try_read_data_at-answer.result busy.0 busy.1 tried.read.refused;
      unposted = tried.unposted ∙ c.loop.invariant.unposted;
    }

pub returns-then-not-pause_if_busy : goal.returns-then-not-pause_if_busy
returns-then-not-pause_if_busy g c =
    let old = pass_of c.args.m.now in
    let last = pass_of c.loop.m in
    let tried = c.try_read_data_at-answer.ensures in
    let before = c.loop.invariant in
    let waits = before.waits in
    let knows = knows_more _ _ old last c.requires before.of waits.grows in
    record {
      of = tried.of;
      unposted = tried.unposted ∙ before.unposted;
      read = read_then (setup_of c.args.self.now) Data c.args.object c.args.field c.try_read_data_at-answer.result old last (pass_of c.try_read_data_at-answer.new.m)
          waits.grows waits.did waits.builds waits.seen knows (λ place. knows_slid _ _ last before.of c.args.object place.0 place.1) tried.read;
      busy = c.if-not-pause_if_busy.ensures;
    }

pub loop-smaller : goal.loop-smaller
loop-smaller g c = (c.in-Some.ensures.goes.on tt).2

pub unreachable-requires : goal.unreachable-requires
unreachable-requires g c = true≢false (sym c.in-None.ensures.steps)
