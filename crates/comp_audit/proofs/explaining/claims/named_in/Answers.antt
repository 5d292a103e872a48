use Rattle.std.proofs.Common.{◌∙◌, ◌<◌, ◌^◌, ap, length, arith}
use Rattle.std.proofs.lemmas.List.{length-map}
use Rattle.comp_dump.specs.CellEnds.{lists as items_of}
use Rattle.comp_dump.proofs.Writings.{list_at, item_at}
use Rattle.comp_audit.proofs.Told.{named_more}
use Rattle.comp_audit.proofs.explaining.claims.named_in.Goals as goal

pub times_in-requires : goal.times_in-requires
times_in-requires c =
    let short = list_at (λ list. length list < 2 ^ 32) c.args.builds.now c.loop-list.list-index _ _ c.loop-list-test.true c.list-item.is c.requires.few in
    omega (arith, short, ap length c.deref.ensures.value)

pub loop-list-preserved : goal.loop-list-preserved
loop-list-preserved c =
    let i = c.loop-list.invariant in
    let short = list_at (λ list. length list < 2 ^ 32) c.args.builds.now c.loop-list.list-index _ _ c.loop-list-test.true c.list-item.is c.requires.few in
    record {
      named = named_more c.args.p (items_of c.args.builds.now) c.loop-list.list-index _ c.deref.result.now c.loop-list.named c.from-named.result _ (simp length-map (omega arith))
          (c.deref.ensures.value ∙ item_at c.args.builds.now c.loop-list.list-index _ _ c.list-item.is) (c.from-named.ensures ∙ c.times_in.ensures.times) i.named;
      few = omega (arith, i.few, short, c.from-named.ensures, c.times_in.ensures.few, ap length c.deref.ensures.value);
    }
