use Rattle.std.proofs.Common.{◌≡◌, ◌∙◌, ℕ, ◌<◌, ◌≤◌, ◌+◌, length, refl, subst, arith}
use Rattle.comp_trace.specs.RoundsOfMeetings.{row}
use Rattle.comp_trace.proofs.MeetingRounds.{met_all, met_itself, met_none, MetBelow}
use Rattle.comp_trace.proofs.MetPairs.{met_next}
use Rattle.comp_trace.proofs.steps.stepping.meet_others.Goals as goal

pub loop-k-init : goal.loop-k-init
loop-k-init g c = record {
  of = c.requires.of;
  long = refl;
  met = λ d. met_none (length c.args.mutators.now) c.args.i (row d c.args.mutators.now) c.requires.inside;
}

pub loop-k-preserved : goal.loop-k-preserved
loop-k-preserved g c =
    let h = c.loop-k.invariant in
    let k = c.loop-k.k in
    let i = c.args.i in
    let lt : k < i = c.loop-k-test.true in
    record {
      of = c.meet_at.ensures.of;
      long = c.meet_at.auto.mutators ∙ h.long;
      met = λ d. met_next (length c.args.mutators.now) i k d (row d c.args.mutators.now) c.loop-k.mutators c.meet_at.new.mutators c.requires.inside (omega (arith, lt, c.requires.inside)) (λ same. omega (arith, lt, same))
          (h.met d) c.meet_at.ensures.met;
    }

pub loop-k-2-init : goal.loop-k-2-init
loop-k-2-init g c =
    let h = c.loop-k.invariant in
    let n = length c.args.mutators.now in
    let i = c.args.i in
    record {
      of = h.of;
      long = h.long;
      met = λ d.
          let first = row d c.args.mutators.now in
          let now = row d c.loop-k.mutators in
          let end : c.loop-k.k ≡ i = let t = c.loop-k-test.false in let a = c.loop-k.auto in omega (arith, t, a) in
          met_itself n i first now c.requires.inside (subst (λ (k : ℕ). MetBelow n i k first now) end (h.met d));
    }

pub loop-k-2-preserved : goal.loop-k-2-preserved
loop-k-2-preserved g c =
    let h = c.loop-k-2.invariant in
    let k = c.loop-k-2.k in
    let i = c.args.i in
    let t = c.meet_at-in-loop-k-2 in
    let lt : k < length c.args.mutators.now = let x = c.loop-k-2-test.true in let y = c.loop-k.invariant.long in omega (arith, x, y) in
    let above : i + 1 ≤ k = let a = c.loop-k-2.auto in omega (arith, a) in
    record {
      of = t.ensures.of;
      long = t.auto.mutators ∙ h.long;
      met = λ d. met_next (length c.args.mutators.now) i k d (row d c.args.mutators.now) c.loop-k-2.mutators t.new.mutators c.requires.inside lt (λ same. omega (arith, above, same)) (h.met d) t.ensures.met;
    }

pub returns-clause-met : goal.returns-clause-met
returns-clause-met g c = λ d.
    let h = c.loop-k-2.invariant in
    let n = length c.args.mutators.now in
    let i = c.args.i in
    let first = row d c.args.mutators.now in
    let now = row d c.loop-k-2.mutators in
    let end : c.loop-k-2.k ≡ n = let t = c.loop-k-2-test.false in let a = c.loop-k-2.auto in let y = c.loop-k.invariant.long in omega (arith, t, a, y, c.requires.inside) in
    met_all n i first now (subst (λ (k : ℕ). MetBelow n i k first now) end (h.met d))
