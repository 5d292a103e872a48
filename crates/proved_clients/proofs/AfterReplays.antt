-- What is known at the end about a read that was made before a trace was replayed.
use Rattle.std.proofs.Common.{◌≡◌, ℕ, ◌<◌, List, length, map, set, sym, ap, subst, ◌∙◌, ⊎_elim, arith, get_or-set_same, length-set}
use mathlib.Core.Option.{some}
use lib.ListN.{get_elem?}
use Rattle.page_plan.specs.Kind.{Kind}
use Rattle.page_plan.specs.declared.builder.Builder.{Ghosts}
use Rattle.comp_journal.specs.declared.entry.Entry.{Entry}
use Rattle.page_cells.specs.Lists.{StartsWith}
use Rattle.page_cells.specs.Passes.{seen}
use Rattle.page_cells.specs.Setup.{Setup}
use Rattle.page_cells.proofs.Sums.{there_at}
use Rattle.page_cells.proofs.Growing.{begins_then}
use Rattle.page_cells.proofs.Rows.{at_map, at_set}
use Rattle.comp_mutator.specs.Reads.{Reads}
use Rattle.comp_mutator.specs.Finishes.{journals_of, IsFinished}
use Rattle.comp_mutator.specs.Finished.{Finished}
use Rattle.comp_mutator.specs.Mutators.{pass_of, setup_of, IsMutatorOf}
use Rattle.comp_mutator.specs.Orders.{number_of_mutator, IsInOrder}
use Rattle.comp_mutator.specs.declared.mutator.Mutator.{Mutator}
use Rattle.comp_mutator.specs.declared.space.Space.{Space}
use Rattle.comp_trace.specs.AllMutators.{AreAll}
use Rattle.comp_trace.specs.RoundsOfMeetings.{AreLater}
use Rattle.comp_trace.proofs.Elements.{at_or}
use Rattle.comp_trace.proofs.MetPairs.{each_set}
use Rattle.proved_clients.specs.Histories.{StandsInHistory}

-- a list has the element that was put at a place
pub set_there : {A : Type 0} (l : List A) (k : ℕ) (x : A) → k < length l → get_elem? (set l k x) k ≡ some x
set_there l k x lt = at_or (set l k x) k x (omega (arith, length-set l k x, lt)) ∙ ap some (get_or-set_same l k x x lt)

-- all are still mutators of the space if one of them made a call
pub all_set : {L : Type 0} {B : Type 0} {g : Ghosts B} (space : Space L B g) (mutators : List (Mutator L)) (k : ℕ) (old new : Mutator L) → AreAll space mutators → get_elem? mutators k ≡ some old
    → IsMutatorOf space new → number_of_mutator new ≡ number_of_mutator old → AreAll space (set mutators k new)
all_set space mutators k old new all there of same = record {
  of = each_set (IsMutatorOf space) mutators k new all.of of;
  count = length-set mutators k new ∙ all.count;
  numbers = λ j m at. ⊎_elim
      (λ here. ap number_of_mutator (sym here.1) ∙ same ∙ all.numbers k old there ∙ sym here.0)
      (λ other. all.numbers j m other.1)
      (at_set mutators k j new m at);
}

-- they are in the order of their numbers
pub row_of : {L : Type 0} {B : Type 0} {g : Ghosts B} (space : Space L B g) (mutators : List (Mutator L)) → AreAll space mutators → IsInOrder (setup_of space).mutators mutators mutators
row_of space mutators all = record { count = all.count; numbers = all.numbers; given = λ k m at. (k, at) }

-- a read that a mutator made before stands in the one history
pub still_reads : {L : Type 0} (u : Setup) (before after : List (Mutator L)) (k : ℕ) (m : Mutator L) (f : Finished) (kind : Kind) (object field word : ℕ) → get_elem? before k ≡ some m → k < length before
    → AreLater before after → IsFinished u (map pass_of after) f → Reads u (seen (pass_of m)) kind object field word → StandsInHistory u f kind object field word
still_reads u before after k m f kind object field word at lt later end read =
    let now = there_at after k (omega (arith, lt, later.count)) in
    record {
      seen = seen (pass_of m);
      begins = λ p.
          let since = (later.learn k m now.0 at now.1).0.seen p in
          let ends = end.history.begins k (pass_of now.0) (at_map pass_of after k now.0 now.1) p in
          subst (λ (l : List Entry). StartsWith l (seen (pass_of m) p)) (sym (end.history.one.page_by_page p)) (begins_then (seen (pass_of m) p) (seen (pass_of now.0) p) (journals_of f p) since ends);
      reads = read;
    }
