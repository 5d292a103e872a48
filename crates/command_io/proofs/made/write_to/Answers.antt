use Rattle.std.proofs.Common.{inl, inr, refl, subst}
use Rattle.std.proofs.lemmas.Result.{err_from_is_err_and}
use Rattle.heap_layout.specs.Counted.{failures_of}
use Rattle.command_io.specs.Disk.{IsOfMaking, WritesBeginning, WritesWhole, unwritten}
use Rattle.command_io.specs.KeptFiles.{IsOfKeeping, KeepsAll}
use Rattle.command_io.specs.MadeFiles.{made_of}
use Rattle.command_io.specs.declared.refusal.Output.{Output}
use Rattle.command_io.specs.declared.refusal.CommandRefusal.{CommandRefusal}
use Rattle.command_io.proofs.Written.{beginning, created, one_of, unflushed_all, whole}
use Rattle.command_io.proofs.made.write_to.Goals as goal

pub returns-in_err-create-clause-cause : goal.returns-in_err-create-clause-cause
returns-in_err-create-clause-cause g c =
    let p = err_from_is_err_and c.from_residual.result c.from_residual.ensures.1 in
    let failed = c.in_err-create.ensures in
    let disk = g.F.Files.disk c.args.files.now in
    let bytes = (made_of c.args.made.now).1 in
    rw (p.1, p.2) (subst (λ (o : Output). IsOfMaking disk o c.args.path.now bytes c.args.files.now c.create.new.self c.in_err-create.field-0.0) c.output-output.ensures
    (created disk c.output-output.result c.args.path.now c.create.new.self
    (IsOfMaking disk c.output-output.result c.args.path.now bytes c.args.files.now c.create.new.self) (λ barred counted. inl (refl, barred, counted)) (λ begun. inr (inr (refl, inr begun))) _ failed.cause failed.after))

pub returns-in-Err-clause-cause : goal.returns-in-Err-clause-cause
returns-in-Err-clause-cause g c =
    let failed = c.in-Err.ensures in
    let made = made_of c.args.made.now in
    let one = one_of (failures_of c.new-w.result) (failures_of c.write_in.new.w) c.new-w.ensures.none failed.counts in
    let begun = beginning g.F.Files.disk g.F.Writer.Write.contents c.args.files.now c.create.new.self c.give_up.new.self (g.met.F.Files.contents_are c.args.files.now) c.output-output.result c.args.path.now made.1
    c.in_ok-create.field-0 c.new-w.result c.write_in.new.w c.in_ok-create.ensures.given c.new-w.ensures.inner c.new-w.ensures.none
    (λ n h. g.met.F.Files.begun_counts c.args.files.now c.create.new.self c.give_up.new.self n c.in_ok-create.ensures.after h) failed.writes one c.give_up.ensures in
    inr (inl (failed.cause, subst (λ (o : Output). WritesBeginning (g.F.Files.disk c.args.files.now) o c.args.path.now made.1 c.give_up.new.self) c.output-output.ensures begun))

pub returns-in-Ok-clause-written : goal.returns-in-Ok-clause-written
returns-in-Ok-clause-written g c =
    let made = made_of c.args.made.now in
    subst (λ (o : Output). WritesWhole (g.F.Files.disk c.args.files.now) o c.args.path.now made.1 c.keep_all.new.files) c.output-output.ensures
    (whole g.F.Files.disk g.F.Writer.Write.contents c.args.files.now c.create.new.self c.keep_all.new.files (g.met.F.Files.contents_are c.args.files.now) c.output-output.result c.args.path.now made.1
    c.in_ok-create.field-0 c.new-w.result c.write_in.new.w c.in_ok-create.ensures.given c.new-w.ensures.inner c.new-w.ensures.none c.in_default.ensures.writes c.in_default.ensures.counts c.in-Ok.ensures.kept
    (λ w h. g.met.F.Files.begun_puts c.args.files.now c.create.new.self c.keep_all.new.files c.output-output.result c.args.path.now w c.in_ok-create.ensures.after h))

pub returns-in-Err-Device-clause-cause : goal.returns-in-Err-Device-clause-cause
returns-in-Err-Device-clause-cause g c =
    let made = made_of c.args.made.now in
    let failed = subst (IsOfKeeping (g.F.Files.disk c.create.new.self) g.F.Writer.Write.contents c.write_in.new.w c.create.new.self c.keep_all.new.files) c.in-Err-Device.field-0-is c.in-Err-Device.ensures.cause in
    let begun = unflushed_all g.F.Files.disk g.F.Writer.Write.contents c.args.files.now c.create.new.self c.keep_all.new.files (g.met.F.Files.contents_are c.args.files.now) c.output-output.result c.args.path.now made.1
    c.in_ok-create.field-0 c.new-w.result c.write_in.new.w c.in_ok-create.ensures.given c.new-w.ensures.inner c.new-w.ensures.none
    (λ n h. g.met.F.Files.begun_counts c.args.files.now c.create.new.self c.keep_all.new.files n c.in_ok-create.ensures.after h) c.in_default.ensures.writes c.in_default.ensures.counts failed in
    subst (λ (o : Output). IsOfMaking (g.F.Files.disk c.args.files.now) o c.args.path.now made.1 c.args.files.now c.keep_all.new.files c.unwritten.result) c.output-output.ensures
    (inr (inl (c.unwritten.ensures, begun)))
