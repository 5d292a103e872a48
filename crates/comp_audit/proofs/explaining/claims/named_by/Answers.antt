use Rattle.std.proofs.Common.{◌∙◌, ℕ, ◌<◌, ◌^◌, ap, length, arith}
use Rattle.std.proofs.lemmas.List.{length-map, length-replicate, length-set}
use Rattle.comp_dump.specs.CellEnds.{lists as items_of}
use Rattle.comp_dump.proofs.Writings.{list_at, item_at}
use Rattle.comp_audit.proofs.Told.{namings_more, namings_past, no_namings}
use Rattle.comp_audit.proofs.explaining.claims.named_by.Goals as goal

pub loop-number-init : goal.loop-number-init
loop-number-init c = record {
  long = length-replicate {A = ℕ} 64 0;
  told = λ k below. absurd (omega (arith, below));
  rest = λ k above. no_namings 64 k;
}

pub times_in-requires : goal.times_in-requires
times_in-requires c =
    let inside : c.loop-number.number < length c.args.builds.now = omega arith in
    let short = list_at (λ list. length list < 2 ^ 32) c.args.builds.now c.loop-number.number _ _ inside c.index-builds-number.is c.requires.few in
    omega (arith, short, ap length c.deref.ensures.value)

pub loop-number-preserved : goal.loop-number-preserved
loop-number-preserved c =
    let i = c.loop-number.invariant in
    let inside : c.loop-number.number < length c.args.builds.now = omega arith in
    record {
      long = length-set c.loop-number.by c.loop-number.number c.times_in.result ∙ i.long;
      told = namings_more c.args.p c.loop-number.number c.times_in.result (items_of c.args.builds.now) c.loop-number.by _ c.deref.result.now (simp length-map inside)
          (omega (arith, i.long, inside, c.requires.lists)) (c.deref.ensures.value ∙ item_at c.args.builds.now c.loop-number.number _ _ c.index-builds-number.is) c.times_in.ensures.times i.told;
      rest = namings_past c.loop-number.number c.times_in.result c.loop-number.by i.rest;
    }
