-- Two runs of `next` over files in memory, of which the second reads the image that the first left.
use Rattle.std.proofs.Common.{◌≡◌, ℕ, List, Option, Some, None, IfSome, Result, Ok, Err, OnOk, ap, inl, inr, length, refl, subst, sym, ◌∙◌}
use Rattle.heap_layout.specs.Encoding.{encoding}
use Rattle.heap_layout.specs.Faults.{IsAccepted}
use Rattle.heap_layout.specs.Heap.{live, Heap, IsStored}
use Rattle.page_plan.specs.Sliding.{live_words}
use Rattle.comp_trace.specs.Bytes.{flipped, CutsShort}
use Rattle.comp_trace.specs.MarksText.{marks_of}
use Rattle.comp_trace.specs.RootsText.{new_roots_of}
use Rattle.comp_trace.specs.declared.steps.shown.Shown.{Shown}
use Rattle.comp_trace.specs.declared.text.line.Line.{Line}
use Rattle.command_line.specs.declared.next.NextMarks.{NextMarks}
use Rattle.command_line.specs.declared.next.NextMarks.TheVariants as asking
use Rattle.command_line.specs.declared.next.NextRun.{NextRun}
use Rattle.command_line.specs.declared.words.Task.TheVariants.{Next}
use Rattle.command_io.specs.Memory.{bytes_at, memory_disk, WrittenIsThere}
use Rattle.command_io.specs.Texts.{HasLines}
use Rattle.command_io.specs.declared.memory.MemoryFiles.{MemoryFiles}
use Rattle.command_io.specs.declared.refusal.Output.TheVariants as outputs
use Rattle.command_io.specs.declared.refusal.CommandRefusal.{CommandRefusal}
use Rattle.commands.specs.TraceTasks.{run_lines, IsCycledHeap, IsFollowed}
use Rattle.commands.specs.Inputs.{Given, IsGivenAt}
use Rattle.commands.specs.Outcome.{makes, IsKept, Outcome}
use Rattle.commands.specs.Successors.{AreMarksIn, AreRootsIn, TwoAreOneLife}
use Rattle.commands.specs.Tasks.{DoesTask}
use Rattle.proved_clients.specs.TwoNexts.{AreListedAt, KeepsNext, LivesOn}
use Rattle.proved_clients.proofs.KeptFiles.{not_halted}

-- the texts of the marks and of the roots, if they are asked for, and what is given by them
record IsListed (from : MemoryFiles) (mutators : ℕ) (asked : NextMarks) (given : Given) : Type 0 where
  listed : Option (List ℕ)
  named : Option (List ℕ)
  at : AreListedAt from asked listed named
  marks : AreMarksIn listed given.marks
  roots : AreRootsIn mutators named given.roots

listed_at : (from : MemoryFiles) (mutators : ℕ) (asked : NextMarks) (given : Given) → IsGivenAt (memory_disk from) mutators asked given → IsListed from mutators asked given
listed_at from mutators (asking.Given path) given (marks, (known, (own, there, is), (text, known_is, has)), same) =
    let text_is : own ≡ text = subst (λ (o : Option (List ℕ)). IfSome o (λ bytes. bytes ≡ text)) is known_is in
    record {
      listed = Some own;
      named = None;
      at = (own, there, refl, refl);
      marks = (marks, ap marks_of text_is ∙ has, ap (λ (g : Given). g.marks) same);
      roots = ap (λ (g : Given). g.roots) same;
    }
listed_at from mutators asking.Reachable given same =
    record { listed = None; named = None; at = (refl, refl); marks = ap (λ (g : Given). g.marks) same; roots = ap (λ (g : Given). g.roots) same }
listed_at from mutators (asking.ReachableFrom path) given (roots, (known, (own, there, is), (text, known_is, has)), same) =
    let text_is : own ≡ text = subst (λ (o : Option (List ℕ)). IfSome o (λ bytes. bytes ≡ text)) is known_is in
    record {
      listed = None;
      named = Some own;
      at = (own, there, refl, refl);
      marks = ap (λ (g : Given). g.marks) same;
      roots = (roots, ap (new_roots_of mutators) text_is ∙ has, ap (λ (g : Given). g.roots) same);
    }

-- some heap followed
record HasFollowed (mutators fresh : ℕ) (lines : List Line) (given : Given) (heap : Heap) (outcome : Outcome) : Type 0 where
  shown : List Shown
  next : Heap
  cycled : IsCycledHeap mutators fresh lines shown given heap next
  is : outcome ≡ makes outputs.New (encoding next) (run_lines shown (live_words (live next)))

followed : (mutators fresh : ℕ) (lines : List Line) (given : Given) (heap : Heap) (outcome : Outcome) → IsFollowed mutators fresh lines given heap outcome → outcome.refusal ≡ None → HasFollowed mutators fresh lines given heap outcome
followed mutators fresh lines given heap outcome (inl (shown, next, cycled, is)) none = record { shown = shown; next = next; cycled = cycled; is = is }
followed mutators fresh lines given heap outcome (inr (inl (fault, unfollowed, is))) none = absurd (let e = ap (λ (o : Outcome). o.refusal) is in cc)
followed mutators fresh lines given heap outcome (inr (inr halted)) none = absurd (not_halted (CutsShort (flipped heap mutators fresh)) lines outcome halted none)

-- two bytes at one path are the same
some_same : {x y : List ℕ} → Some x ≡ Some y → x ≡ y
some_same e = cc

-- the bytes of the image that a run reads
read_image : (from to : MemoryFiles) (asked : NextRun) (before after : Option (List ℕ)) → DoesTask (memory_disk from) from to before after (Next asked) → (image : List ℕ) × (bytes_at from asked.image.now ≡ Some image)
read_image from to asked before after (outcome, (heap, (known, (image, image_at, image_is), read), more), done) = (image, image_at)

-- what a run did, by the bytes of its files
keeps_next : (there : WrittenIsThere) (from to : MemoryFiles) (asked : NextRun) (before after : Option (List ℕ)) (image : List ℕ) → bytes_at from asked.image.now ≡ Some image
    → DoesTask (memory_disk from) from to before after (Next asked) → KeepsNext from asked to
keeps_next there from to asked before after image image_at (outcome, (heap, (known, (own, own_at, image_is), (other, stored, accepted, (is_image, read), same)), (lines, (known_text, (text, text_at, text_is), (mine, is_text, has)), (given, given_at, follows))), done) =
    let h = followed asked.mutators asked.fresh lines given heap outcome follows done.unrefused in
    let found = listed_at from asked.mutators asked.marks given given_at in
    let encoded : own ≡ encoding other = subst (λ (o : Option (List ℕ)). IfSome o (λ bytes. bytes ≡ encoding other)) image_is is_image in
    let mine_is : text ≡ mine = subst (λ (o : Option (List ℕ)). IfSome o (λ bytes. bytes ≡ mine)) text_is is_text in
    record {
      image = image;
      image_at = image_at;
      text = text;
      text_at = text_at;
      listed = found.listed;
      named = found.named;
      listed_at = found.at;
      shown = h.shown;
      next = h.next;
      run = record {
        heap = heap;
        stored = subst IsStored same stored;
        accepted = subst IsAccepted same accepted;
        image_is = some_same (sym image_at ∙ own_at) ∙ (encoded ∙ ap encoding same);
        lines = lines;
        text_is = subst (HasLines asked.mutators (length heap.roots) lines) (sym mine_is) has;
        given = given;
        marks_are = found.marks;
        roots_are = found.roots;
        cycled = h.cycled;
      };
      kept = there from to outputs.New asked.new.now (encoding h.next) (subst (λ (o : Outcome). IsKept (memory_disk from) asked.new.now o.made from to) h.is done.kept);
    }

module _ (there : WrittenIsThere) (two_are_one : TwoAreOneLife) (from between to : MemoryFiles) (first second : NextRun) (a b c d : Option (List ℕ)) where
  lives_on : second.image.now ≡ first.new.now → DoesTask (memory_disk from) from between a b (Next first) → DoesTask (memory_disk between) between to c d (Next second) → LivesOn from first second to
  unfolding keeps_next
  lives_on follows h k =
      let read = read_image from between first a b h in
      let one = keeps_next there from between first a b read.0 read.1 h in
      let two = keeps_next there between to second c d (encoding one.next) (ap (bytes_at between) follows ∙ one.kept.here) k in
      record {
        between = between;
        one = one;
        two = two;
        life = two_are_one first.mutators first.fresh second.mutators second.fresh one.image one.text two.text one.listed two.listed one.named two.named one.shown two.shown one.next two.next one.run two.run;
      }

  pub both_lived : second.image.now ≡ first.new.now → DoesTask (memory_disk from) from between a b (Next first) → (result : Result (Unit {0}) CommandRefusal)
      → OnOk result (DoesTask (memory_disk between) between to c d (Next second)) → OnOk result (LivesOn from first second to)
  both_lived follows h (Ok _) k = lives_on follows h k
  both_lived follows h (Err refusal) k = tt
