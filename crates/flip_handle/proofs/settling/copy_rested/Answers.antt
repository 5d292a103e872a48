use Rattle.std.proofs.Common.{ℕ, ◌<◌, length, get_or, set, map, inl, inr, sym, ap, ◌∙◌, arith, get_or-set_same, get_or-set_other}
use Rattle.std.proofs.lemmas.Bool.{cases_eq}
use Rattle.std.proofs.lemmas.Grind.{same_number_lists}
use Rattle.std.proofs.lemmas.List.{length-map, length-set, get_or-map as read_map}
use Rattle.comp_crew.specs.NextHeap.{lowered}
use Rattle.flip_handle.proofs.settling.copy_rested.Goals as goal

pub loop-k-preserved : goal.loop-k-preserved
loop-k-preserved c =
    let k = c.loop-k.k in
    let old = c.loop-k.out in
    let value = c.rested.result in
    let lower = lowered c.args.edition in
    record {
      long = length-set old k value ∙ c.loop-k.invariant.long;
      done = λ j lt. elim (cases_eq j k) [
        | inl same ↦
            ap (λ (n : ℕ). get_or (set old k value) n 0) same
            ∙ get_or-set_same old k value 0 (omega (arith, c.loop-k-test.true, c.loop-k.invariant.long, c.requires))
            ∙ c.rested.ensures ∙ ap (λ (n : ℕ). lower (get_or c.args.addresses.now n 0)) (sym same)
        | inr other ↦ get_or-set_other old k j value 0 other ∙ c.loop-k.invariant.done j (omega (arith, lt, other))
      ];
    }

pub returns : goal.returns
returns c =
    let lower = lowered c.args.edition in
    let long = length-map c.args.addresses.now lower in
    same_number_lists c.loop-k.out (map lower c.args.addresses.now) (omega (arith, long, c.loop-k.invariant.long, c.requires)) (λ j lt.
    let within : j < length c.args.addresses.now = omega (arith, lt, c.loop-k.invariant.long, c.requires) in
    c.loop-k.invariant.done j (omega (arith, within, c.loop-k-test.false)) ∙ sym (read_map lower c.args.addresses.now j 0 0 within))
