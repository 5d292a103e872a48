use Rattle.std.proofs.Common.{◌≡◌, ℕ, Ok, Err, List, length, subst, inl, inr}
use Rattle.std.proofs.lemmas.Result.{IfErr-weaker, IfOk-weaker}
use Rattle.comp_mutator.specs.Mutators.{setup_of}
use Rattle.comp_trace.specs.Grammar.{trace_of, IsReadAs}
use Rattle.comp_trace.specs.declared.text.line.Line.{Line}
use Rattle.comp_trace.proofs.Bytes.{are_of, interrupts_of, shows_of}
use Rattle.comp_trace.proofs.replays.texts.replay_text.Goals as goal

pub returns-in-Ok-clause-shows : goal.returns-in-Ok-clause-shows
returns-in-Ok-clause-shows g c =
    let u = setup_of c.args.space.now in
    let lines = c.in-Ok.trace.lines.items in
    IfOk-weaker c.replay.result _ _
    (λ shown ran. shows_of u c.args.mutators.now.items c.replay.new.mutators.items c.args.text.now lines shown.items c.requires.new
    (subst (λ (m : ℕ). trace_of m (length u.heap.roots) c.args.text.now ≡ Ok lines) c.requires.counts.0
    (subst (λ (r : ℕ). trace_of c.args.count r c.args.text.now ≡ Ok lines) c.requires.counts.1 c.in-Ok.ensures.lines)) ran)
    c.replay.ensures.ran

pub returns-in-Ok-clause-stopped : goal.returns-in-Ok-clause-stopped
returns-in-Ok-clause-stopped g c =
    let u = setup_of c.args.space.now in
    let lines = c.in-Ok.trace.lines.items in
    IfErr-weaker c.replay.result _ _
    (λ stopped h. inr (interrupts_of u c.args.mutators.now.items c.replay.new.mutators.items c.args.text.now lines stopped.shown.items stopped.fault (are_of c.args.space.now c.args.mutators.now.items c.requires.all)
    (are_of c.args.space.now c.replay.new.mutators.items c.replay.ensures.all) c.requires.new
    (subst (λ (m : ℕ). trace_of m (length u.heap.roots) c.args.text.now ≡ Ok lines) c.requires.counts.0
    (subst (λ (r : ℕ). trace_of c.args.count r c.args.text.now ≡ Ok lines) c.requires.counts.1 c.in-Ok.ensures.lines)) h))
    c.replay.ensures.stopped

pub returns-in-Err-clause-stopped : goal.returns-in-Err-clause-stopped
returns-in-Err-clause-stopped g c =
    let u = setup_of c.args.space.now in
    inl (
      c.new.ensures.items,
      subst (λ (m : ℕ). IsReadAs {A = List Line} (λ lines. lines) (Err c.in-Err.fault) (trace_of m (length u.heap.roots) c.args.text.now)) c.requires.counts.0
          (subst (λ (r : ℕ). IsReadAs {A = List Line} (λ lines. lines) (Err c.in-Err.fault) (trace_of c.args.count r c.args.text.now)) c.requires.counts.1 c.in-Err.ensures.lines),
    )
