use Rattle.std.proofs.Common.{◌≡◌, ℕ, ◌<◌, ◌+◌, ◌++◌, ◌∷◌, [], true, List, length, get_or, take, take_all, drop, Err, refl, sym, ap, subst, arith, ◌∙◌}
use Rattle.std.proofs.lemmas.List.{take_more, length-take-le, length-replicate}
use native.Mathlib.Decide.{ℕ_discrete}
use mathlib.Core.Logic.{dite}
use Rattle.comp_mutator.specs.Passes.{HasSeenBuilt}
use Rattle.comp_mutator.specs.Pass.{Pass}
use Rattle.comp_mutator.proofs.Sums.{there_at}
use Rattle.comp_mutator.specs.Mutators.{setup_of}
use Rattle.comp_mutator.specs.Refusal.{Refusal}
use Rattle.comp_trace.specs.Acting.{null_registers}
use Rattle.comp_trace.specs.LineBuilds.{is_built}
use Rattle.comp_trace.specs.WrittenEntries.{written_by_each}
use Rattle.comp_trace.specs.Replays.{RanTo, HasReplayed}
use Rattle.comp_trace.specs.Runs.{beginning}
use Rattle.comp_trace.specs.Lines.{with_entries}
use Rattle.comp_trace.specs.declared.text.line.Action.TheVariants.{Root}
use Rattle.comp_trace.specs.declared.text.line.Line.{Line}
use Rattle.comp_trace.specs.declared.steps.shown.Shown.{Shown}
use Rattle.comp_trace.proofs.Elements.{at_or, written_back}
use Rattle.comp_trace.proofs.Standing.{later_none, later_then, ran_to, refused_since, restand, seen_built_later, seen_there, stands_first, start_same}
use Rattle.comp_trace.proofs.replays.replaying.run_lines.Goals as goal

-- a line that stands for none
abbrev no_line : Line
no_line = record { mutator = 0; action = Root 0 0 }

pub loop-j-init : goal.loop-j-init
loop-j-init g c =
    let v = c.in-Ok.ensures in
    let n = length c.args.mutators.now in
    let u = setup_of c.args.space.now in
    let first = written_by_each c.args.mutators.now in
    let items = c.in-Ok-all_null.registers.items in
    record {
      all = c.requires.all;
      later = later_none c.args.mutators.now;
      wide = ap (λ (l : List (List ℕ)). length l) c.in-Ok-all_null.ensures ∙ length-replicate n null_registers;
      first = λ z k lt. refl;
      start = λ some. absurd (omega (arith, some));
      room = (omega (arith, ap length v.items), v.capacity);
      stands = λ start have. (beginning, subst (λ (l : List Shown). HasReplayed u n start first first [] items l beginning) (sym v.items) (stands_first u n start first items have c.in-Ok-all_null.ensures), λ built. built, λ p there. cc);
      empty = λ none. (v.items, refl);
      seen = λ some. absurd (omega (arith, some));
    }

pub run_line-ran-requires-clause-line : goal.run_line-ran-requires-clause-line
run_line-ran-requires-clause-line g c κs within =
    let lt : c.loop-j.j < length c.args.lines.now = c.loop-j-test.true in
    let fits = c.requires.lines c.loop-j.j no_line lt in
    (omega (arith, fits.0, c.loop-j.invariant.later.count, c.requires.all.count), fits.1)

pub returns-in-Err-clause-stopped : goal.returns-in-Err-clause-stopped
returns-in-Err-clause-stopped g c = λ start have.
    let e = c.in-Err.ensures in
    let i = c.loop-j.invariant in
    let u = setup_of c.args.space.now in
    let olds = c.args.mutators.now in
    let news = c.run_line-ran.new.mutators in
    let n = length olds in
    let lines = c.args.lines.now in
    let j = c.loop-j.j in
    let lt : j < length lines = c.loop-j-test.true in
    let one : Line = get_or lines j no_line in
    let h = i.stands start have in
    let given = restand u n (length c.loop-j.mutators) start (written_by_each olds) (written_by_each c.loop-j.mutators) (take j lines) c.loop-j.registers.items c.deref_mut.result.now c.loop-j.shown.items h.0 (sym i.later.count)
    (sym c.deref_mut.ensures.value) h.1 in
    let cause = e.refused start (written_by_each olds) (take j lines) h.0 given in
    let inside : one.mutator < length c.loop-j.mutators = let fits = c.requires.lines j no_line lt in omega (arith, fits.0, i.later.count, c.requires.all.count) in
    let m = there_at c.loop-j.mutators one.mutator inside in
    let since = refused_since u one.mutator olds c.loop-j.mutators news (with_entries start h.0.added) one.action (h.0.registers one.mutator) c.in-Err.refusal i.later cause
    (λ (x : Pass). (p : ℕ) → is_built h.0.built p ≡ true → HasSeenBuilt x p) (λ p there. (cause.began m.0 m.1).built p (h.3 p there one.mutator m.0 m.1)) in
    let ran = ran_to u n start (written_by_each olds) (written_by_each c.loop-j.mutators) (written_by_each news) (take j lines) c.loop-j.shown.items h.0 h.1.ran (λ k le. e.did.0 k (omega (arith, le, i.later.count))) in
    record {
      count = j;
      number_is = refl;
      line = one;
      there = at_or lines j no_line lt;
      end = h.0;
      ran = subst (λ (l : List Shown). RanTo u n start (written_by_each olds) (written_by_each news) (take j lines) l h.0) (sym e.did.1) ran;
      cause = since.0;
      built = since.1;
      seen = seen_there u start (written_by_each olds) (written_by_each c.loop-j.mutators) (take j lines) c.loop-j.registers.items c.loop-j.shown.items n news h.0 e.seen (e.later.count ∙ i.later.count)
          (λ k le. e.did.0 k (omega (arith, le, i.later.count))) h.1;
      waited = λ p is. e.busy p (ap (λ (r : Refusal). Err r) is);
      known = seen_built_later c.loop-j.mutators news h.0.built e.later h.3;
    }

pub returns-in-Err-clause-started : goal.returns-in-Err-clause-started
returns-in-Err-clause-started g c = λ is.
    let i = c.loop-j.invariant in
    let u = setup_of c.args.space.now in
    dite (ℕ_discrete c.loop-j.j 0)
    (λ none. start_same u c.args.mutators.now c.loop-j.mutators i.later.count (i.first none) c.in-Err.ensures.start)
    (λ not. i.start (omega (arith, not)))

pub loop-j-preserved : goal.loop-j-preserved
loop-j-preserved g c =
    let e = c.in-Ok-ran.ensures in
    let i = c.loop-j.invariant in
    let u = setup_of c.args.space.now in
    let olds = c.args.mutators.now in
    let n = length olds in
    let lines = c.args.lines.now in
    let j = c.loop-j.j in
    let lt : j < length lines = c.loop-j-test.true in
    let one : Line = get_or lines j no_line in
    let new = c.run_line-ran.new in
    let wide = ap (λ (l : List (List ℕ)). length l) c.deref_mut.ensures.value in
    let written = take c.loop-j.registers.len (new.registers ++ drop (length new.registers) c.loop-j.registers.items) in
    let back = written_back c.loop-j.registers.len new.registers c.loop-j.registers.items (omega (arith, c.run_line-ran.auto.registers, wide, c.loop-j.registers.ok.0)) in
    record {
      all = e.all;
      later = later_then olds c.loop-j.mutators new.mutators i.later e.later;
      wide = ap (λ (l : List (List ℕ)). length l) back ∙ omega (arith, c.run_line-ran.auto.registers, wide, i.wide);
      first = λ none. absurd (omega (arith, none));
      start = λ some. dite (ℕ_discrete j 0) (λ none. start_same u olds c.loop-j.mutators i.later.count (i.first none) e.start) (λ not. i.start (omega (arith, not)));
      room = (omega (arith, e.room.1, i.room.0), omega (arith, e.room.0, i.room.1));
      stands = λ start have.
          let h = i.stands start have in
          let given = restand u n (length c.loop-j.mutators) start (written_by_each olds) (written_by_each c.loop-j.mutators) (take j lines) c.loop-j.registers.items c.deref_mut.result.now c.loop-j.shown.items h.0 (sym i.later.count)
          (sym c.deref_mut.ensures.value) h.1 in
          let counted : j + 1 ≡ 1 + length (take j lines) = omega (arith, length-take-le j lines (omega (arith, lt))) in
          let next = e.ran start (written_by_each olds) (take j lines) h.0 counted given in
          let there = restand u (length c.loop-j.mutators) n start (written_by_each olds) (written_by_each new.mutators) (take j lines ++ one ∷ []) new.registers written new.shown.items next.0 i.later.count (sym back) next.1 in (
            next.0,
            subst (λ (ls : List Line). HasReplayed u n start (written_by_each olds) (written_by_each new.mutators) ls written new.shown.items next.0) (sym (take_more lines j no_line lt)) there,
            λ none. next.2 (h.2 none),
            next.3 h.3,
          );
      empty = λ none. absurd (omega (arith, none, lt));
      seen = λ some. e.seen;
    }

pub returns-clause-ran : goal.returns-clause-ran
returns-clause-ran g c = λ start have.
    let u = setup_of c.args.space.now in
    let olds = c.args.mutators.now in
    let h = c.loop-j.invariant.stands start have in
    let all : take c.loop-j.j c.args.lines.now ≡ c.args.lines.now = take_all c.loop-j.j c.args.lines.now c.loop-j-test.false in (
      h.0,
      subst (λ (ls : List Line). RanTo u (length olds) start (written_by_each olds) (written_by_each c.loop-j.mutators) ls c.loop-j.shown.items h.0) all h.1.ran,
      h.2,
      λ some. seen_there u start (written_by_each olds) (written_by_each c.loop-j.mutators) (take c.loop-j.j c.args.lines.now) c.loop-j.registers.items c.loop-j.shown.items (length olds) c.loop-j.mutators h.0
          (c.loop-j.invariant.seen (omega (arith, some, c.loop-j-test.false))) c.loop-j.invariant.later.count (λ k lt. refl) h.1,
      h.1.hold,
    )

pub returns-clause-empty : goal.returns-clause-empty
returns-clause-empty g c = c.loop-j.invariant.empty

pub returns-in_default-clause-later : goal.returns-in_default-clause-later
returns-in_default-clause-later g c = later_none c.args.mutators.now

pub returns-in_default-all_null-clause-later : goal.returns-in_default-all_null-clause-later
returns-in_default-all_null-clause-later g c = later_none c.args.mutators.now

pub returns-in-Err-clause-later : goal.returns-in-Err-clause-later
returns-in-Err-clause-later g c = later_then c.args.mutators.now c.loop-j.mutators c.run_line-ran.new.mutators c.loop-j.invariant.later c.in-Err.ensures.later
