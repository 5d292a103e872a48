-- Cycles after which exactly the reachable objects are marked.
use Rattle.std.proofs.Common.{◌≡◌, ℕ, suc, Option, Some, None, List, [], ◌∷◌, ◌++◌, length, Contains, refl, sym, ap, subst, ◌∙◌, arith, append_assoc}
use Rattle.heap_layout.specs.Heap.{Heap, IsClosed}
use Rattle.heap_layout.specs.declared.kind.Kind.{Kind}
use Rattle.heap_layout.specs.declared.kind.Kind.TheVariants.{Header, Reference, Weak, Data}
use Rattle.comp_journal.specs.declared.entry.Entry.{Entry}
use Rattle.comp_history.specs.OneThread.{OneThreadHeap, first_heap, address_of, after}
use Rattle.comp_cycles.specs.Cycles.{Cycle, Follow, IsCycleOf, AreApart, TellsChapter, given_left, entries_of, given_after, heap_after, names_of, numbers_after, rooted, roots_after, story, story_of}
use Rattle.comp_cycles.specs.NumberedHeaps.{Names, numbered, step_of, first_numbers, first_numbered, IsNumberedAs}
use Rattle.comp_cycles.specs.Stable.{StableHeap, Step, Keeps, MayKeep, IsLife, lived, stepped}
use Rattle.comp_cycles.proofs.Chapters.{one_chapter, first_is, given_le}
use Rattle.comp_cycles.proofs.Lives.{lived_parts}
use Rattle.comp_cycles.proofs.Rows.{next_closed}
use Rattle.reachable_cycles.specs.StableReach.{AreMarkedReachable, KeepsExactly, KeepsReachable, written, written_in}
use Rattle.reachable_cycles.proofs.Keeping.{keeps_exactly}

-- the later steps of a life may be made after the earlier ones
life_rest : (stable : StableHeap) (xs ys : List Step) → IsLife stable (xs ++ ys) → IsLife (lived stable xs) ys
life_rest stable [] ys life = life
life_rest stable (x ∷ xs) ys life = life_rest (stepped stable x) xs ys life.1

-- the heap after a cycle is closed
after_closed : (heap : Heap) (c : Cycle) → IsClosed heap → IsCycleOf heap c → IsClosed (heap_after c)
after_closed heap c closed is = next_closed c.setup c.journals (subst IsClosed (sym is.heap_is) closed) is.merges (roots_after c) c.marks is.accepted

-- the story of a cycle is what was written and where the roots lead, and then what is kept
rooted_parts : (names : Names) (roots : Option (List ℕ)) (steps : List Step) → rooted names roots steps ≡ rooted names roots [] ++ steps
rooted_parts names None steps = refl
rooted_parts names (Some roots) steps = refl

story_parts : (c : Cycle) (numbers : List ℕ) (given : ℕ) → story_of c numbers given ≡ written_in c numbers given ++ Keeps (numbers_after c numbers given) ∷ []
story_parts c numbers given =
    let entries = numbered (names_of c numbers given) (first_heap c.setup) (entries_of c) in
    let keeps = Keeps (numbers_after c numbers given) ∷ [] in
    ap (λ (steps : List Step). entries ++ steps) (rooted_parts (names_of c numbers given) c.new_roots keeps)
    ∙ sym (append_assoc entries (rooted (names_of c numbers given) c.new_roots []) keeps)

-- the steps before objects are dropped may be made, the objects may then be kept, and the heap that is left is the next
-- one, in object numbers
record Ends (c : Cycle) (numbers : List ℕ) (stable : StableHeap) : Type 0 where
  may : MayKeep (written c numbers stable) (numbers_after c numbers stable.given)
  lived_is : lived stable (story_of c numbers stable.given) ≡ stepped (written c numbers stable) (Keeps (numbers_after c numbers stable.given))

ends : (c : Cycle) (numbers : List ℕ) (stable : StableHeap) → TellsChapter c numbers stable → Ends c numbers stable
ends c numbers stable chapter =
    let steps = written_in c numbers stable.given in
    let keeps = Keeps (numbers_after c numbers stable.given) ∷ [] in
    let parts = story_parts c numbers stable.given in
    record {
      may = (life_rest stable steps keeps (subst (IsLife stable) parts chapter.life)).0;
      lived_is = ap (lived stable) parts ∙ lived_parts stable steps keeps;
    }

-- one cycle
pub cycle_keeps : (heap : Heap) (c : Cycle) (numbers : List ℕ) (stable : StableHeap) → IsClosed heap → IsCycleOf heap c → IsNumberedAs heap numbers stable
    → AreApart c.setup.heap.edition (given_after c stable.given) → AreMarkedReachable c
    → KeepsExactly (written c numbers stable) (numbers_after c numbers stable.given)
cycle_keeps heap c numbers stable closed is numbered_as apart are =
    let chapter = one_chapter heap c numbers stable closed is numbered_as apart in
    let kept = numbers_after c numbers stable.given in
    let e = ends c numbers stable chapter in
    let left : IsNumberedAs (heap_after c) kept (stepped (written c numbers stable) (Keeps kept)) = subst (IsNumberedAs (heap_after c) kept) e.lived_is chapter.kept in
    let given : (written c numbers stable).given ≡ given_after c stable.given = sym (ap (λ (s : StableHeap). s.given) e.lived_is) ∙ chapter.given in
    keeps_exactly (heap_after c) kept (written c numbers stable) (after_closed heap c closed is) left (subst (AreApart c.setup.heap.edition) (sym given) apart) e.may are

-- ---- all cycles

-- the entries of a cycle keep nothing: a step of theirs makes an object or writes a field
step_passes : (stable : StableHeap) (steps : List Step) (names : Names) (heap : OneThreadHeap) (kind : Kind) (a value : ℕ)
    → KeepsReachable (stepped stable (step_of names heap kind a value)) steps → KeepsReachable stable (step_of names heap kind a value ∷ steps)
step_passes stable steps names heap Header a value rest = rest
step_passes stable steps names heap Reference a value rest = rest
step_passes stable steps names heap Weak a value rest = rest
step_passes stable steps names heap Data a value rest = rest

entries_pass : (steps : List Step) (names : Names) (entries : List (ℕ × Entry)) (heap : OneThreadHeap) (stable : StableHeap)
    → KeepsReachable (lived stable (numbered names heap entries)) steps → KeepsReachable stable (numbered names heap entries ++ steps)
entries_pass steps names [] heap stable rest = rest
entries_pass steps names (x ∷ xs) heap stable rest =
    step_passes stable (numbered names (after heap x) xs ++ steps) names heap x.1.kind (address_of x) x.1.value
    (entries_pass steps names xs (after heap x) (stepped stable (step_of names heap x.1.kind (address_of x) x.1.value)) rest)

-- nor does a change of the roots
roots_pass : (stable : StableHeap) (names : Names) (roots : Option (List ℕ)) (steps : List Step)
    → KeepsReachable (lived stable (rooted names roots [])) steps → KeepsReachable stable (rooted names roots [] ++ steps)
roots_pass stable names None steps rest = rest
roots_pass stable names (Some roots) steps rest = rest

writing_passes : (c : Cycle) (numbers : List ℕ) (stable : StableHeap) (steps : List Step) → KeepsReachable (written c numbers stable) steps
    → KeepsReachable stable (written_in c numbers stable.given ++ steps)
writing_passes c numbers stable steps rest =
    let names = names_of c numbers stable.given in
    let entries = numbered names (first_heap c.setup) (entries_of c) in
    let roots = rooted names c.new_roots [] in
    let at_roots : KeepsReachable (lived (lived stable entries) roots) steps = subst (λ (s : StableHeap). KeepsReachable s steps) (lived_parts stable entries roots) rest in
    subst (KeepsReachable stable) (sym (append_assoc entries roots steps))
    (entries_pass (roots ++ steps) names (entries_of c) (first_heap c.setup) stable (roots_pass (lived stable entries) names c.new_roots steps at_roots))

pub cycles_keep : (cycles : List Cycle) (heap last : Heap) (numbers : List ℕ) (stable : StableHeap) → IsClosed heap → IsNumberedAs heap numbers stable → Follow heap cycles last
    → AreApart heap.edition (given_left cycles stable.given) → ((c : Cycle) → Contains cycles c → AreMarkedReachable c) → KeepsReachable stable (story cycles numbers stable.given)
cycles_keep [] heap last numbers stable closed numbered_as follow apart are = tt
cycles_keep (c ∷ cs) heap last numbers stable closed numbered_as follow apart are =
    let is = follow.0 in
    let own_apart : AreApart c.setup.heap.edition (given_left cs (given_after c stable.given)) = subst (λ (h : Heap). AreApart h.edition (given_left cs (given_after c stable.given))) (sym is.heap_is) apart in
    let here_apart : AreApart c.setup.heap.edition (given_after c stable.given) = λ k le. own_apart k (let more = given_le cs (given_after c stable.given) in omega (arith, more, le)) in
    let chapter = one_chapter heap c numbers stable closed is numbered_as here_apart in
    let kept = numbers_after c numbers stable.given in
    let steps = written_in c numbers stable.given in
    let next = lived stable (story_of c numbers stable.given) in
    let others = story cs kept (given_after c stable.given) in
    let rest = cycles_keep cs (heap_after c) last kept next (after_closed heap c closed is) chapter.kept follow.1
    (subst (λ n. AreApart c.setup.heap.edition (given_left cs n)) (sym chapter.given) own_apart) (λ other there. are other (suc there.0, (let inside = there.1 in omega arith), there.2)) in
    let at_given : KeepsReachable next others = subst (λ (n : ℕ). KeepsReachable next (story cs kept n)) chapter.given rest in
    let at_step : KeepsReachable (stepped (written c numbers stable) (Keeps kept)) others =
    subst (λ (s : StableHeap). KeepsReachable s others) (ends c numbers stable chapter).lived_is at_given in
    let here = cycle_keeps heap c numbers stable closed is numbered_as here_apart (are c (0, omega arith, refl)) in
    let parts : story (c ∷ cs) numbers stable.given ≡ steps ++ Keeps kept ∷ others =
    ap (λ (list : List Step). list ++ others) (story_parts c numbers stable.given) ∙ append_assoc steps (Keeps kept ∷ []) others in
    subst (KeepsReachable stable) (sym parts) (writing_passes c numbers stable (Keeps kept ∷ others) (here, at_step))

-- from the first heap on
pub cycles_keep_reachable : (heap last : Heap) (cycles : List Cycle) → IsClosed heap → Follow heap cycles last
    → AreApart heap.edition (given_left cycles (length heap.marks)) → ((c : Cycle) → Contains cycles c → AreMarkedReachable c)
    → KeepsReachable (first_numbered heap) (story cycles (first_numbers heap) (length heap.marks))
cycles_keep_reachable heap last cycles closed follow apart are = cycles_keep cycles heap last (first_numbers heap) (first_numbered heap) closed (first_is heap) follow apart are
