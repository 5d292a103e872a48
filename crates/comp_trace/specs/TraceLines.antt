-- What the lines of a trace need of the heap that they are run over.
use Rattle.std.specs.Prelude.{◌≡◌, ◌<◌, List, All, length}
use Rattle.comp_mutator.specs.Setup.{Setup}
use Rattle.comp_trace.specs.Traces.{mutators_of, roots_of}
use Rattle.comp_trace.specs.declared.text.line.Line.{Line}
use Rattle.comp_trace.specs.declared.text.trace.Trace.{Trace}
use Rattle.comp_trace.specs.Acting.{Fits}

-- the trace was parsed for the numbers of mutators and roots that there are
abbrev pub IsParsedFor : Setup → Trace → Type 0
IsParsedFor u trace = (mutators_of trace ≡ u.mutators) × (roots_of trace ≡ length u.heap.roots)

-- the mutators, registers and roots of all lines exist
abbrev pub AllFit : Setup → List Line → Type 0
AllFit u lines = All (λ (line : Line). (line.mutator < u.mutators) × Fits u line.action) lines
