use Rattle.std.proofs.Common.{◌≡◌, ◌∙◌, ◌++◌, ℕ, List, Option, ap, arith, length, refl, subst, sym, take}
use Rattle.std.specs.Io.KnownBytes.{Consumes}
use Rattle.std.proofs.KnownBytes.{Consumes-nil}
use Rattle.heap_layout.specs.Counted.{inner_of}
use Rattle.command_io.specs.LongLines.{longest}
use Rattle.command_io.proofs.LongLines.{all_read, cut_read, none_read, IsReadTo}
use Rattle.command_io.proofs.Pieces.{whole_text}
use Rattle.command_io.proofs.texts.text_by.Goals as goal

pub loop-turn-init : goal.loop-turn-init
loop-turn-init g c =
    let left : Option (List ℕ) = g.S.Read.remaining (inner_of c.args.r.now) in
    record {
      read = subst (Consumes left left) (sym c.new-text.ensures.items) (Consumes-nil left);
      lines = subst (λ (front : List ℕ). IsReadTo longest front longest) (sym c.new-text.ensures.items) (none_read longest);
      few = omega arith;
      turns = omega arith;
      none_failed = refl;
      room = c.requires.room;
    }

pub returns-in-Ok-eq0-clause-text : goal.returns-in-Ok-eq0-clause-text
returns-in-Ok-eq0-clause-text g c =
    let n = c.in-Ok-eq0.field-0 in
    let bytes = c.in-Ok-eq0.ensures.bytes in
    all_read (g.S.Read.remaining (inner_of c.args.r.now)) c.loop-turn.text.items c.loop-turn.room
    (whole_text _ _ _ c.loop-turn.text.items (take n c.read.new.buf) c.loop-turn.invariant.read bytes.0
    (bytes.1 c.in-Ok-eq0.field-0-test (omega arith)) (ap (λ (m : ℕ). take m c.read.new.buf) c.in-Ok-eq0.field-0-test)) c.loop-turn.invariant.lines

pub returns-in-None-clause-text : goal.returns-in-None-clause-text
returns-in-None-clause-text g c =
    let piece : List ℕ = take c.in-Ok.n c.read.new.buf in
    let kept : List ℕ = take c.kept_of-kept.result.count piece in
    let all : c.extend_from_slice.new.self.items ≡ c.loop-turn.text.items ++ kept = c.extend_from_slice.ensures.items ∙ rw c.if-is_err.ensures.negation refl in
    rw all
    (cut_read (g.S.Read.remaining (inner_of c.args.r.now)) _ _ c.loop-turn.text.items piece kept c.loop-turn.room c.loop-turn.invariant.read c.in-Ok.ensures.bytes.0 c.loop-turn.invariant.lines
    (c.kept_of-kept.ensures.cut c.in-None.is))
