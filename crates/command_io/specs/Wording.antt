-- The line of each refusal.
use Rattle.std.specs.Prelude.{ℕ, List, ◌∷◌, [], ◌++◌, Option, None, Some, codes}
use Rattle.std.specs.Fmt.{decimal}
use Rattle.std.specs.List.{flat_map}
use Rattle.heap_layout.specs.declared.fault.LayoutFault.{LayoutFault}
use Rattle.heap_layout.specs.declared.fault.LayoutFault.TheVariants as layouts
use Rattle.comp_access.specs.declared.refusal.Refusal.{Refusal}
use Rattle.comp_access.specs.declared.refusal.Refusal.TheVariants as mutators
use Rattle.comp_sweep.specs.declared.fault.SweepFault.{SweepFault}
use Rattle.comp_sweep.specs.declared.fault.SweepFault.TheVariants as sweeps
use Rattle.comp_trace.specs.declared.text.fault.TraceFault.{TraceFault}
use Rattle.comp_trace.specs.declared.text.fault.TraceFault.TheVariants as traces
use Rattle.comp_dump.specs.declared.fault.DumpFault.{DumpFault}
use Rattle.comp_dump.specs.declared.fault.DumpFault.TheVariants as dumps
use Rattle.comp_dump.specs.declared.fault.AuditFault.{AuditFault}
use Rattle.comp_dump.specs.declared.fault.AuditFault.TheVariants as audits
use Rattle.moved_heaps.specs.declared.fault.MovedFault.{MovedFault}
use Rattle.moved_heaps.specs.declared.fault.MovedFault.TheVariants as moves
use Rattle.rest_marks.specs.declared.fault.SurveyFault.{SurveyFault}
use Rattle.rest_marks.specs.declared.fault.SurveyFault.TheVariants as surveys
use Rattle.moved_heaps.specs.declared.fault.HeadPart.{HeadPart}
use Rattle.moved_heaps.specs.declared.fault.HeadPart.TheVariants.{Edition, Places, Roots}
use Rattle.command_io.specs.Naming.{input_name, output_name}
use Rattle.command_io.specs.declared.refusal.CommandRefusal.{CommandRefusal}
use Rattle.command_io.specs.declared.refusal.CommandRefusal.TheVariants as refusals
use Rattle.command_io.specs.declared.wording.Piece.{Piece}
use Rattle.command_io.specs.declared.wording.Piece.TheVariants.{Text, Number}

-- a name, and a word in brackets
abbrev pub word_text : List ℕ → List ℕ → List ℕ
word_text name word = name ++ codes "(" ++ word ++ codes ")"

-- a name, and a number in brackets
abbrev pub one_text : List ℕ → ℕ → List ℕ
one_text name n = word_text name (decimal n)

-- a name, and a number and a word in brackets
abbrev pub call_text : List ℕ → ℕ → List ℕ → List ℕ
call_text name n word = name ++ codes "(" ++ decimal n ++ codes ", " ++ word ++ codes ")"

-- a name, and two numbers in brackets
abbrev pub two_text : List ℕ → ℕ → ℕ → List ℕ
two_text name n m = call_text name n (decimal m)

-- a name, and a number in brackets if there is one
abbrev pub some_text : List ℕ → Option ℕ → List ℕ
some_text name None = name
some_text name (Some n) = one_text name n

-- what of the head of a moved heap is wrong
abbrev pub part_name : HeadPart → List ℕ
part_name Edition = codes "Edition"
part_name Places = codes "Places"
part_name Roots = codes "Roots"

-- a fault of an image or of its heap
abbrev pub layout_text : LayoutFault → List ℕ
layout_text layouts.TooLarge = codes "H1 TooLarge"
layout_text (layouts.ObjectPastEnd n) = one_text (codes "H2 ObjectPastEnd") n
layout_text (layouts.ObjectTooLong n) = one_text (codes "H3 ObjectTooLong") n
layout_text (layouts.MarkNotStart n) = one_text (codes "H4 MarkNotStart") n
layout_text (layouts.MarksNotRising n) = one_text (codes "H5 MarksNotRising") n
layout_text (layouts.BadRoot n) = one_text (codes "H6 BadRoot") n
layout_text (layouts.UnmarkedTarget n) = one_text (codes "H7 UnmarkedTarget") n
layout_text layouts.Truncated = codes "H8 Truncated"
layout_text layouts.TrailingBytes = codes "H9 TrailingBytes"
layout_text layouts.BadMagic = codes "H10 BadMagic"
layout_text layouts.OutOfMemory = codes "H11 OutOfMemory"
layout_text layouts.Device = codes "H12 Device"
layout_text (layouts.BadWeak n) = one_text (codes "H13 BadWeak") n

-- a fault of a call of a mutator
abbrev pub access_text : Refusal → List ℕ
access_text mutators.Null = codes "M1 Null"
access_text (mutators.NotAStart n) = one_text (codes "M2 NotAStart") n
access_text mutators.NoSuchField = codes "M3 NoSuchField"
access_text mutators.NotInEdition = codes "M11 NotInEdition"
access_text mutators.ObjectTooLarge = codes "M4 ObjectTooLarge"
access_text mutators.OutOfPages = codes "M5 OutOfPages"
access_text (mutators.Busy n) = one_text (codes "M6 Busy") n
access_text (mutators.JournalFull n) = one_text (codes "M7 JournalFull") n
access_text mutators.OutOfMemory = codes "M8 OutOfMemory"

-- a fault of a sweep
abbrev pub sweep_text : SweepFault → List ℕ
sweep_text (sweeps.OutOfMemory n) = one_text (codes "W1 OutOfMemory") n
sweep_text sweeps.NoWorkers = codes "W2 NoWorkers"
sweep_text sweeps.Resources = codes "W3 Resources"

-- a fault of a trace
abbrev pub trace_text : TraceFault → List ℕ
trace_text (traces.BadLine n) = one_text (codes "T1 BadLine") n
trace_text (traces.NoSuchMutator n) = one_text (codes "T2 NoSuchMutator") n
trace_text (traces.NoSuchRegister n) = one_text (codes "T3 NoSuchRegister") n
trace_text (traces.NumberTooLarge n) = one_text (codes "T4 NumberTooLarge") n
trace_text (traces.NoSuchRoot n) = one_text (codes "T5 NoSuchRoot") n
trace_text (traces.Refused n refused) = call_text (codes "T6 Refused") n (access_text refused)
trace_text traces.OutOfMemory = codes "T7 OutOfMemory"

-- a fault of what is read as a dump
abbrev pub dump_text : DumpFault → List ℕ
dump_text dumps.Truncated = codes "B1 Truncated"
dump_text dumps.TrailingBytes = codes "B2 TrailingBytes"
dump_text dumps.BadMagic = codes "B3 BadMagic"
dump_text dumps.BadField = codes "B4 BadField"
dump_text dumps.OutOfMemory = codes "B5 OutOfMemory"
dump_text dumps.Device = codes "B6 Device"

-- a fault of a dump, for its heap
abbrev pub audit_text : AuditFault → List ℕ
audit_text (audits.WrongWord n) = one_text (codes "A1 WrongWord") n
audit_text (audits.LooseReference n) = one_text (codes "A2 LooseReference") n
audit_text (audits.BadEntry n m) = two_text (codes "A3 BadEntry") n m
audit_text (audits.StampRepeated n) = one_text (codes "A4 StampRepeated") n
audit_text (audits.StampMissing n) = one_text (codes "A5 StampMissing") n
audit_text audits.WrongTotal = codes "A6 WrongTotal"
audit_text (audits.BuildUnclaimed n) = one_text (codes "A7 BuildUnclaimed") n
audit_text audits.WrongHead = codes "A8 WrongHead"
audit_text (audits.PageMissing n) = one_text (codes "A9 PageMissing") n

-- a fault of a moved heap
abbrev pub moved_text : MovedFault → List ℕ
moved_text (moves.WrongHead part) = word_text (codes "V1 WrongHead") (part_name part)
moved_text (moves.PlaceOutside n) = one_text (codes "V2 PlaceOutside") n
moved_text (moves.Overlap n m) = two_text (codes "V3 Overlap") n m
moved_text (moves.WrongRoot n) = one_text (codes "V4 WrongRoot") n
moved_text (moves.WrongWord n m) = two_text (codes "V5 WrongWord") n m
moved_text moves.OutOfMemory = codes "V6 OutOfMemory"

-- a fault of a heap at rest
abbrev pub survey_text : SurveyFault → List ℕ
survey_text surveys.TooLarge = codes "S1 TooLarge"
survey_text (surveys.BadRoot n) = one_text (codes "S2 BadRoot") n
survey_text (surveys.BadReference n) = one_text (codes "S3 BadReference") n
survey_text (surveys.BadWeak n) = one_text (codes "S4 BadWeak") n
survey_text (surveys.ObjectTooLong n) = one_text (codes "S5 ObjectTooLong") n
survey_text (surveys.ObjectPastEnd n) = one_text (codes "S6 ObjectPastEnd") n
survey_text (surveys.Overlap n) = one_text (codes "S7 Overlap") n
survey_text surveys.OutOfMemory = codes "S8 OutOfMemory"

-- the text of a refusal
abbrev pub refusal_text : CommandRefusal → List ℕ
refusal_text (refusals.Layout fault) = layout_text fault
refusal_text (refusals.Mutator fault) = access_text fault
refusal_text (refusals.Sweep fault) = sweep_text fault
refusal_text (refusals.Trace fault) = trace_text fault
refusal_text (refusals.Dump fault) = dump_text fault
refusal_text (refusals.Audit fault) = audit_text fault
refusal_text (refusals.Moved fault) = moved_text fault
refusal_text (refusals.Survey fault) = survey_text fault
refusal_text (refusals.CannotOpen named) = word_text (codes "P1 CannotOpen") (input_name named)
refusal_text (refusals.CannotCreate named) = word_text (codes "P2 CannotCreate") (output_name named)
refusal_text (refusals.ReadFailed named) = word_text (codes "P3 ReadFailed") (input_name named)
refusal_text refusals.CannotPrint = codes "P4 CannotPrint"
refusal_text (refusals.NoSuchWord n) = one_text (codes "P5 NoSuchWord") n
refusal_text (refusals.BadMarks n) = one_text (codes "P6 BadMarks") n
refusal_text refusals.OutOfMemory = codes "P7 OutOfMemory"
refusal_text (refusals.BadRoots n) = one_text (codes "P8 BadRoots") n
refusal_text (refusals.CannotWrite named) = word_text (codes "P9 CannotWrite") (output_name named)

-- the line of a refusal, which standard error gets
abbrev pub refusal_line : CommandRefusal → List ℕ
refusal_line refusal = codes "compressor: " ++ refusal_text refusal ++ 10 ∷ []

-- a piece of a text
abbrev pub piece_text : Piece → List ℕ
piece_text (Text text) = text.now
piece_text (Number n) = decimal n

-- pieces, one after another
abbrev pub pieces_text : List Piece → List ℕ
pieces_text pieces = flat_map piece_text pieces
