use Rattle.std.proofs.Common.{length, ap, refl, arith, length-append}
use Rattle.comp_mutator.specs.Mutators.{setup_of}
use Rattle.comp_trace.specs.Acting.{shown_at}
use Rattle.comp_trace.proofs.OneLine.{shows_one}
use Rattle.comp_trace.proofs.Standing.{cannot_go_on, goes_on}
use Rattle.comp_trace.proofs.replays.replaying.run_line.Goals as goal

pub show-requires : goal.show-requires
show-requires g c = record { room = omega (arith, c.requires.room, shows_one c.args.number c.args.line.action c.in-Ok.value) }

pub returns-in-Ok-clause-ran : goal.returns-in-Ok-clause-ran
returns-in-Ok-clause-ran g c =
    let e = c.in-Ok.ensures in
    goes_on (setup_of c.args.space.now) c.args.mutators.now c.step-answer.new.mutators c.args.line c.args.registers.now _ c.from-i.result c.from-i.ensures c.requires.line.0 c.requires.wide refl
    c.args.number c.in-Ok.value c.step-answer.new.registers c.args.shown.now.items c.show.new.shown.items e.ran e.registers c.show.ensures.shown e.builds e.built

pub returns-in-Ok-clause-room : goal.returns-in-Ok-clause-room
returns-in-Ok-clause-room g c =
    let shown = shown_at c.args.number c.args.line.action c.in-Ok.value in (
      c.show.ensures.room,
      omega (arith, ap length c.show.ensures.shown, length-append c.args.shown.now.items shown, shows_one c.args.number c.args.line.action c.in-Ok.value),
    )

pub returns-in-Err-clause-refused : goal.returns-in-Err-clause-refused
returns-in-Err-clause-refused g c =
    cannot_go_on (setup_of c.args.space.now) c.args.mutators.now c.step-answer.new.mutators c.args.line c.args.registers.now _ c.from-i.result c.from-i.ensures c.requires.line.0 c.requires.wide refl
    c.args.shown.now.items c.in-Err.refusal c.in-Err.ensures.refused
