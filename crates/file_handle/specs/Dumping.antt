-- The dump of a finished heap, in bytes of C.
use Rattle.std.specs.Prelude.{◌≡◌, ℕ, ◌≤◌, ◌⊎◌, List, [], length, map, Option, None, Some}
use Rattle.comp_crew.specs.Finishes.{builds_in, edition_in, live_of, pages_of, roots_of}
use Rattle.comp_crew.specs.Finishing.{finished_of, heap_of, setup_at_end}
use Rattle.comp_crew.specs.declared.finishing.Ended.{Ended as End}
use Rattle.comp_dump.specs.Dumped.{BuiltPage, Dumped, IsStored}
use Rattle.comp_dump.specs.DumpEncoding.{dump_bytes}
use Rattle.comp_dump.specs.Lent.{record_of}
use Rattle.comp_audit.specs.Judged.{faults}
use Rattle.handle_base.specs.Answers.{bare}
use Rattle.handle_base.specs.Statuses.{out_of_memory}
use Rattle.handle_base.specs.Copying.{WritesBytes}
use Rattle.handle_base.specs.declared.answer.Answer.{Answer}

-- what a cycle left: its pages with their journals, with the numbers of its mutators and fresh pages
abbrev pub dump_of : End → Dumped
dump_of e = record {
  edition = edition_in (finished_of e);
  mutators = (setup_at_end e).mutators;
  fresh = (setup_at_end e).fresh;
  roots = roots_of (finished_of e);
  pages = map record_of (pages_of (finished_of e));
  builds = builds_in (finished_of e);
  total = live_of (finished_of e);
}

-- that dump fits its fields, and the audit finds no fault in it, for the heap of the plan
pub record IsLawful (e : End) : Type 0 where
  pub stored : IsStored (dump_of e)
  pub faultless : faults (heap_of e) (dump_of e) ≡ []

-- that dump, which is lawful, stands at the front of the buffer; or the buffer stays as it was, and the answer says why
abbrev pub WritesDump : List ℕ → List ℕ → End → Answer → Type 0
WritesDump before after e a = (IsLawful e × WritesBytes (dump_bytes (dump_of e)) before after a) ⊎ ((after ≡ before) × (a ≡ bare out_of_memory 0))

-- a page of a dump has as many words and entries as a page may have
abbrev pub IsSized : Option BuiltPage → Type 0
IsSized None = Unit {0}
IsSized (Some page) = (length page.words ≡ 64) × (length page.journal ≤ 1024)
