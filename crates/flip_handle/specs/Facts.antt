-- What plain structs say of a marked heap, a plan, a mutator, and a finished cycle.
use Rattle.std.specs.Prelude.{◌≡◌, ◌*◌, length}
use Rattle.heap_layout.specs.Heap.{live, Heap}
use Rattle.heap_layout.specs.Versions.{version_of}
use Rattle.page_plan.specs.Sliding as sliding
use Rattle.comp_crew.specs.Finishes.{edition_in, live_of, pages_of, roots_of}
use Rattle.comp_crew.specs.Finishing.{finished_of, setup_at_end}
use Rattle.comp_crew.specs.Members.{made_of, pass_of, setup_of}
use Rattle.comp_crew.specs.Passes.{builds_of, did, edition_of, number_of}
use Rattle.comp_crew.specs.Setup.{pages}
use Rattle.comp_crew.specs.MadeWords.{allocated}
use Rattle.comp_crew.specs.declared.finishing.Ended.{Ended as End}
use Rattle.comp_crew.specs.declared.member.Member.{Member}
use Rattle.handle_base.specs.Answers.{done}
use Rattle.flip_handle.specs.Crewing.{most_fresh}
use Rattle.handle_base.specs.declared.answer.Answer.{Answer}
use Rattle.flip_handle.specs.declared.facts.EndFacts.{EndFacts}
use Rattle.flip_handle.specs.declared.facts.HeapFacts.{HeapFacts}
use Rattle.flip_handle.specs.declared.facts.MutatorFacts.{MutatorFacts}
use Rattle.flip_handle.specs.declared.facts.PlanFacts.{PlanFacts}

-- the counts of a marked heap
abbrev pub heap_facts_of : Heap → HeapFacts
heap_facts_of heap = record {
  words = length heap.words;
  marked = length heap.marks;
  roots = length heap.roots;
  edition = version_of heap.edition;
  unused = 0;
}

-- they are copied
abbrev pub CountsHeap : HeapFacts → Heap → Answer → Type 0
CountsHeap facts heap a = (facts ≡ heap_facts_of heap) × (a ≡ done 0)

-- the counts of the plan of a heap
abbrev pub plan_facts_of : Heap → PlanFacts
plan_facts_of heap = record {
  live_words = sliding.live_words (live heap);
  pages = sliding.pages (live heap);
  most_fresh_pages = most_fresh heap;
  roots = length heap.roots;
  edition = version_of heap.edition;
  unused = 0;
}

-- they are copied
abbrev pub CountsPlan : PlanFacts → Heap → Answer → Type 0
CountsPlan facts heap a = (facts ≡ plan_facts_of heap) × (a ≡ done 0)

-- the counts of a mutator: the pages of its heap, and what it did in this cycle
abbrev pub facts_of : Member → MutatorFacts
facts_of m = record {
  pages = pages (setup_of m);
  compacted_pages = (setup_of m).compacted;
  builds = length (builds_of (pass_of m));
  entries = length (did (pass_of m));
  made_words = made_of m;
  roots = length (setup_of m).heap.roots;
  edition = version_of (setup_of m).heap.edition;
  mutators = (setup_of m).mutators;
  number = number_of (pass_of m);
  unused = 0;
}

-- they are copied; the words that it made are those of its allocations
abbrev pub Counts : MutatorFacts → Member → Answer → Type 0
Counts facts m a = (facts ≡ facts_of m) × (made_of m ≡ allocated (edition_of (pass_of m)) (did (pass_of m))) × (a ≡ done 0)

-- the counts of a finished cycle
abbrev pub facts_at_end : End → EndFacts
facts_at_end e = record {
  live_words = live_of (finished_of e);
  pages = length (pages_of (finished_of e));
  compacted_pages = (setup_at_end e).compacted;
  rest_words = 64 * length (pages_of (finished_of e));
  roots = length (roots_of (finished_of e));
  edition = version_of (edition_in (finished_of e));
  mutators = (setup_at_end e).mutators;
}

-- they are copied
abbrev pub CountsEnd : EndFacts → End → Answer → Type 0
CountsEnd facts e a = (facts ≡ facts_at_end e) × (a ≡ done 0)
