use Rattle.std.proofs.Common.{◌≡◌, ℕ, List, Ok, subst}
use Rattle.heap_layout.specs.Counted.{inner_of}
use Rattle.comp_trace.specs.MarksText.{marks_of}
use Rattle.command_io.proofs.EndedTexts.{ended_marks, of_whole}
use Rattle.command_io.proofs.marks.marks_in.Goals as goal

pub returns-in-Ok-read_marks-clause-marks : goal.returns-in-Ok-read_marks-clause-marks
returns-in-Ok-read_marks-clause-marks g c =
    let marks : List ℕ = c.in-Ok-read_marks.marks.items in
    let holds : marks_of c.in-Ok.text.items ≡ Ok marks = subst (λ (text : List ℕ). marks_of text ≡ Ok marks) c.deref.ensures.value c.in-Ok-read_marks.ensures.marks in
    of_whole (λ (text : List ℕ). marks_of text ≡ Ok marks) (g.S.Read.remaining (inner_of c.args.r.now)) c.in-Ok.text.items (ended_marks marks) c.in-Ok.ensures.text holds
