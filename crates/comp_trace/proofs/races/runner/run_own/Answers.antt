use Rattle.std.proofs.Common.{◌≡◌, ◌<◌, ◌≤◌, length, get_or, Err, refl, sym, subst, ap, ◌∙◌, arith, ℕ, ◌+◌, ◌++◌, List}
use mathlib.Core.Option.{some}
use lib.ListN.{get_elem?}
use Rattle.comp_mutator.specs.Passes.{number_of}
use Rattle.comp_mutator.proofs.Sums.{read_at}
use Rattle.comp_mutator.specs.Mutators.{pass_of, setup_of}
use Rattle.comp_mutator.specs.Orders.{number_of_mutator}
use Rattle.comp_trace.specs.Acting.{shown_at, Fits}
use Rattle.comp_trace.specs.Races.{numbered, own_lines, Ran}
use Rattle.comp_trace.specs.Chains.{IsNextOwn}
use Rattle.comp_trace.specs.declared.steps.shown.Shown.{Shown}
use Rattle.comp_trace.specs.declared.text.line.Line.{Line}
use Rattle.comp_trace.specs.declared.text.line.Action.TheVariants.{Root}
use Rattle.comp_trace.proofs.OwnLines.{HasRunFirst, numbered_at, numbered_length, has_run_own, room_for, ran_to, ran_all, run_to_next}
use Rattle.comp_trace.proofs.OneLine.{shows_one}
use Rattle.comp_trace.proofs.Elements.{at_or}
use Rattle.comp_trace.proofs.races.runner.run_own.Goals as goal

-- a line that stands for none
abbrev no_line : Line
no_line = record { mutator = 0; action = Root 0 0 }

-- the line at an index, with its number
at_number : (lines : List Line) (k : ℕ) → k < length lines → get_elem? (numbered 1 lines) k ≡ some (k + 1, get_or lines k no_line)
at_number lines k lt = let one : 1 + k ≡ k + 1 = omega arith in numbered_at 1 lines k no_line lt ∙ ap (λ (i : ℕ). some (i, get_or lines k no_line)) one

pub act_waiting-answer-requires-clause-fits : goal.act_waiting-answer-requires-clause-fits
act_waiting-answer-requires-clause-fits g c =
    let k = c.loop-position.position in
    let h : Fits (setup_of c.args.space.now) (get_or c.args.lines.now k no_line).action = (c.requires.fits k no_line (omega arith)).1 in search (h)

pub show-requires : goal.show-requires
show-requires g c =
    let k = c.loop-position.position in
    let i = c.loop-position.invariant.running in
    let lines = numbered 1 c.args.lines.now in
    let line : ℕ × Line = (k + 1, get_or c.args.lines.now k no_line) in
    let old = pass_of c.args.runner.now.mutator in
    let now = pass_of c.loop-position.runner.mutator in
    let own = c.loop-position.invariant.next.own line.1 (at_or c.args.lines.now k no_line (omega arith)) ∙ sym i.run.number in
    let at = at_number c.args.lines.now k (omega arith) in
    let room = room_for (setup_of c.args.space.now) lines k old c.loop-position.runner.registers c.loop-position.runner.shown.items now i.run line at own in
    record { room = omega (arith, room, c.requires.room, i.room, shows_one line.0 line.1.action c.in-Ok.value) }

pub returns-in-Err-clause-ran : goal.returns-in-Err-clause-ran
returns-in-Err-clause-ran g c =
    let k = c.loop-position.position in
    let i = c.loop-position.invariant.running in
    let lines = numbered 1 c.args.lines.now in
    let line : ℕ × Line = (k + 1, get_or c.args.lines.now k no_line) in
    let old = pass_of c.args.runner.now.mutator in
    let now = pass_of c.loop-position.runner.mutator in
    let own = c.loop-position.invariant.next.own line.1 (at_or c.args.lines.now k no_line (omega arith)) ∙ sym i.run.number in
    let at = at_number c.args.lines.now k (omega arith) in
    let e = c.in-Err.ensures in
    ran_to (setup_of c.args.space.now) lines k old c.loop-position.runner.registers c.loop-position.runner.shown.items now i.run line at
    (pass_of c.act_waiting-answer.new.m) record { line = line.0; refusal = c.in-Err.refusal } own refl e.grows e.did.0 e.refused (λ q same. e.busy q (ap Err same))

pub returns-clause-ran : goal.returns-clause-ran
returns-clause-ran g c =
    let old = pass_of c.args.runner.now.mutator in
    let lines = numbered 1 c.args.lines.now in
    let r = c.loop-position.runner in
    let i = c.loop-position.invariant.running in
    subst (λ (f : _). Ran (setup_of c.args.space.now) (own_lines (number_of old) lines) old (pass_of r.mutator) r.shown.items f) (sym i.fault)
    (ran_all (setup_of c.args.space.now) lines c.loop-position.position old r.registers r.shown.items (pass_of r.mutator) i.run (omega (arith, c.loop-position-test.false, numbered_length 1 c.args.lines.now)))

pub loop-position-init : goal.loop-position-init
loop-position-init g c =
    let old = pass_of c.args.runner.now.mutator in
    let first = c.requires.chained.firsts (number_of old) (omega arith) in
    let next = subst (λ (n : ℕ). IsNextOwn c.args.lines.now (number_of old) 0 (get_or c.args.chains.now.firsts n 0)) (sym c.number.ensures) first in
    record {
      next = record { inside = next.inside; own = next.own };
      running = record {
        of = c.requires.of;
        fault = c.requires.new.2;
        room = refl;
        run = run_to_next (setup_of c.args.space.now) c.args.lines.now 0 _ old c.args.runner.now.registers c.args.runner.now.shown.items old next
            (record { number = refl; went = (c.requires.new.0, refl, c.requires.new.1); few = omega (arith, ap length c.requires.new.1) });
      };
    }

pub loop-position-preserved : goal.loop-position-preserved
loop-position-preserved g c =
    let space = c.args.space.now in
    let u = setup_of space in
    let k = c.loop-position.position in
    let lines = numbered 1 c.args.lines.now in
    let line : ℕ × Line = (k + 1, get_or c.args.lines.now k no_line) in
    let before = c.args.runner.now in
    let old = pass_of before.mutator in
    let r = c.loop-position.runner in
    let i = c.loop-position.invariant.running in
    let now = pass_of r.mutator in
    let there = at_or c.args.lines.now k no_line (omega arith) in
    let is = c.loop-position.invariant.next.own line.1 there in
    let at = at_number c.args.lines.now k (omega arith) in
    let after = c.act_waiting-answer.new in
    let nexts = c.args.chains.now.nexts.items in
    let entry = read_at nexts k (get_or nexts k 0) c.index-position.result.now (at_or nexts k 0 (omega (arith, c.requires.chained.long, c.loop-position-test.true))) in
    let told = subst (λ (n : ℕ). IsNextOwn c.args.lines.now n (k + 1) (get_or nexts k 0)) is (c.requires.chained.nexts k line.1 there) in
    let next = subst (IsNextOwn c.args.lines.now (number_of_mutator before.mutator) (k + 1)) (sym (c.index-position.ensures ∙ entry)) told in
    let one = has_run_own u lines k old r.registers r.shown.items now i.run line at (pass_of after.m) c.in-Ok.value (is ∙ sym i.run.number) c.in-Ok.ensures.went in
    let shown = subst (λ (s : List Shown). HasRunFirst u lines (k + 1) old after.registers s (pass_of after.m)) (sym c.show.ensures.shown)
    (subst (λ (x : List ℕ). HasRunFirst u lines (k + 1) old x (r.shown.items ++ shown_at line.0 line.1.action c.in-Ok.value) (pass_of after.m)) (sym c.in-Ok.ensures.registers) one) in
    record {
      next = record { inside = next.inside; own = next.own };
      running = record {
        of = c.act_waiting-answer.ensures.of;
        fault = i.fault;
        room = c.show.ensures.room ∙ i.room;
        run = run_to_next u c.args.lines.now (k + 1) _ old after.registers _ (pass_of after.m) next shown;
      };
    }

-- the next line of a mutator stands further on
pub loop-position-smaller : goal.loop-position-smaller
loop-position-smaller g c =
    let k = c.loop-position.position in
    let there = at_or c.args.lines.now k no_line (omega arith) in
    let next = c.requires.chained.nexts k (get_or c.args.lines.now k no_line) there in
    let nexts = c.args.chains.now.nexts.items in
    let entry = read_at nexts k (get_or nexts k 0) c.index-position.result.now (at_or nexts k 0 (omega (arith, c.requires.chained.long, c.loop-position-test.true))) in
    let further : k + 1 ≤ c.index-position.result.now = subst (λ (n : ℕ). k + 1 ≤ n) (sym (c.index-position.ensures ∙ entry)) next.above in
    omega (arith, further, c.loop-position-test.true)
