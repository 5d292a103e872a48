-- A cycle is a chapter in the life of the stable heap, and cycles that follow one another are one life.
use Rattle.std.proofs.Common.{◌≡◌, ℕ, zero, suc, ◌+◌, ◌-◌, ◌*◌, ◌/◌, ◌%◌, ◌<◌, ◌≤◌, true, false, Option, Some, None, List, [], ◌∷◌, ◌++◌, All, length, get_or, map, zip, refl, sym, ap, ap₂, ◌∙◌, inl, inr, ⊎_elim, subst, arith, length-append}
use Rattle.std.specs.List.{range_with_len}
use Rattle.std.specs.Option.{unwrap_or}
use Rattle.std.proofs.lemmas.Bool.{cases_lt, cases_Bool}
use Rattle.std.proofs.lemmas.List.{append-nil, get_or-append_right, get_or_append_left, get_or-map, length-map}
use Rattle.heap_layout.specs.Heap.{Heap, Object, object_at, live, from_address, is_target, IsClosed}
use Rattle.heap_layout.specs.declared.edition.Edition.{Edition}
use Rattle.heap_layout.specs.Values.{is_immediate, LeadsNowhere}
use Rattle.heap_layout.specs.declared.kind.Kind.{Kind}
use Rattle.heap_layout.specs.declared.kind.Kind.TheVariants.{Header, Reference, Weak, Data}
use Rattle.page_plan.specs.Sliding as sliding
use Rattle.page_plan.specs.Sliding.{new_address, forward, forward_value, to_address}
use Rattle.page_plan.proofs.References.{address-is}
use Rattle.page_plan.proofs.NewAddresses.{forward-none}
use Rattle.page_plan.proofs.Objects.{live-at}
use Rattle.comp_journal.specs.declared.entry.Entry.{Entry}
use Rattle.comp_history.specs.Setup.{Setup, pages, address}
use Rattle.comp_history.specs.Lists.{StartsWith}
use Rattle.comp_history.specs.Locks.{Journals}
use Rattle.comp_history.specs.Objects.{IsObjectAt, LeadsToObject}
use Rattle.comp_history.specs.Merged.{history, CanMerge, IsOneHistory}
use Rattle.comp_cycles.specs.Forwarded.{AreForwarded}
use Rattle.comp_history.specs.OneThread.{OneThreadHeap, HasStart, IsNullOrStart, header_in, first_heap, after, result_of, address_of, IsLegal}
use Rattle.comp_history.specs.Lawful.{LawfulAfter}
use Rattle.comp_history.proofs.Heaps.{offset_inside}
use Rattle.comp_history.proofs.Sorted.{In}
use Rattle.comp_history.proofs.Merging as merging
use Rattle.comp_history.proofs.Legal as legal
use Rattle.comp_history.proofs.Rows.{at_map_back, at_below, read_at as value_at}
use Rattle.comp_cycles.specs.Stable.{StableHeap, Step, Roots, Keeps, IsAmong, IsNullOrAmong, MayKeep, IsLife, stepped, lived}
use Rattle.comp_cycles.specs.NumberedHeaps.{Names, number_at, names_in, pointers_of, numbered_object, numbered_word, numbered, made_by, made_at, first_numbers, first_numbered, IsNumberedAs}
use Rattle.comp_cycles.specs.NextHeap.{word_in, next_heap, next_faults}
use Rattle.comp_cycles.specs.Cycles.{Cycle, roots_after, MayBeRoots, heap_after, given_after, numbers_after, story_of, AreApart, IsCycleOf, IsChapter, IsSeen, WritesLife, IsWriting, IsRising, Follow, story, numbers_left, given_left, AreChapters, IsOneLife}
use Rattle.comp_cycles.proofs.Naming.{no_name, row_long, in_row}
use Rattle.comp_cycles.proofs.Given.{cycle-low}
use Rattle.comp_cycles.proofs.Living.{number_is, may_refer, Agrees}
use Rattle.comp_cycles.proofs.Lives.{made_then, made_all, made_parts, lives, given_lived, roots_lived, legal_front, zeros_front, life_parts, lived_parts, InZeros, Lives, Ordered}
use Rattle.comp_cycles.proofs.FreshZeros.{all_zeros}
use Rattle.comp_cycles.proofs.Targets.{target_cases, marks_rise, forward_mark}
use Rattle.comp_cycles.proofs.Begun as begun
use Rattle.comp_cycles.proofs.Finals.{is_object}
use Rattle.comp_cycles.proofs.Rows.{marked_objects, next_closed}
use Rattle.comp_cycles.proofs.Kept as kept

-- entries do not change the edition
edition_stays : (heap : OneThreadHeap) (xs : List (ℕ × Entry)) → (result_of heap xs).edition ≡ heap.edition
edition_stays heap [] = refl
edition_stays heap (x ∷ xs) = edition_stays (after heap x) xs

-- ---- null has no number

made_high_by : (k : Kind) (a : ℕ) (later : List ℕ) → 0 < a → ((i : ℕ) → i < length later → get_or later i 0 ≡ 0 → ⊥) → (i : ℕ) → i < length (made_by k a later) → get_or (made_by k a later) i 0 ≡ 0 → ⊥
made_high_by Header a later up rest zero lt e = omega (arith, e, up)
made_high_by Header a later up rest (suc i) lt e = rest i (omega (arith, lt)) e
made_high_by Reference a later up rest i lt e = rest i lt e
made_high_by Weak a later up rest i lt e = rest i lt e
made_high_by Data a later up rest i lt e = rest i lt e

made_high : (xs : List (ℕ × Entry)) (i : ℕ) → i < length (made_at xs) → get_or (made_at xs) i 0 ≡ 0 → ⊥
made_high [] i lt e = omega (arith, lt)
made_high (x ∷ xs) i lt e = made_high_by x.1.kind (address_of x) (made_at xs) (omega arith) (made_high xs) i lt e

-- What is known when the last step of a cycle is made: the two heaps have the same objects, and the roots of the stable
-- heap are those of the next heap, which lead to objects.
record IsReady (names : Names) (heap : OneThreadHeap) (stable : StableHeap) (roots : List ℕ) : Type 0 where
  agrees : Agrees names heap stable
  reached : All (IsNullOrStart heap) roots
  roots_are : stable.roots ≡ map (number_at names) roots

-- roots do not change the objects
with_roots : (names : Names) (heap : OneThreadHeap) (stable : StableHeap) (objects : List ℕ) → Agrees names heap stable → Agrees names heap (stepped stable (Roots objects))
with_roots names heap stable objects h = record {
  named = h.named;
  numbered = record { edition = h.numbered.edition; there = h.numbered.there; one = h.numbered.one; long = h.numbered.long; words = h.numbered.words };
  apart = h.apart;
  given = h.given;
  leads = h.leads;
}

-- each address that a root was forwarded to is one to which a root leads
came_from : (xs rs : List ℕ) (f : ℕ → Option ℕ) → map (λ (x : ℕ). Some x) xs ≡ map f rs → (i d : ℕ) → i < length xs → (r : ℕ) × (Some (get_or xs i d) ≡ f r)
came_from [] rs f e i d lt = absurd (omega (arith, lt))
came_from (x ∷ xs) [] f e i d lt = absurd (cc)
came_from (x ∷ xs) (r ∷ rs) f e zero d lt = (r, (let head : Some x ≡ f r = cc in head))
came_from (x ∷ xs) (r ∷ rs) f e (suc i) d lt = came_from xs rs f (let tail : map (λ (y : ℕ). Some y) xs ≡ map f rs = cc in tail) i d (omega (arith, lt))

-- two maps, of the forwarded roots and of the roots, are equal if they are equal element by element
forwarded_same : (xs rs : List ℕ) (G H : ℕ → ℕ) (f : ℕ → Option ℕ) → map (λ (x : ℕ). Some x) xs ≡ map f rs → ((x r : ℕ) → Some x ≡ f r → G x ≡ H r) → map G xs ≡ map H rs
forwarded_same [] [] G H f e same = refl
forwarded_same [] (r ∷ rs) G H f e same = absurd (cc)
forwarded_same (x ∷ xs) [] G H f e same = absurd (cc)
forwarded_same (x ∷ xs) (r ∷ rs) G H f e same =
    let head : Some x ≡ f r = cc in
    let tail : map (λ (y : ℕ). Some y) xs ≡ map f rs = cc in
    ap₂ (λ (a : ℕ) (l : List ℕ). a ∷ l) (same x r head) (forwarded_same xs rs G H f tail same)

none_is_some : {A : Type 0} (x : A) → None ≡ Some x → ⊥
none_is_some x e = cc

some_is : {A : Type 0} (x y : A) → Some x ≡ Some y → x ≡ y
some_is x y e = cc

-- where a fresh object may be made
made_on_by : (edition : Edition) (k : Kind) (a : ℕ) (later : List ℕ) → is_immediate edition a ≡ false → ((i : ℕ) → i < length later → is_immediate edition (get_or later i 0) ≡ false)
    → (i : ℕ) → i < length (made_by k a later) → is_immediate edition (get_or (made_by k a later) i 0) ≡ false
made_on_by edition Header a later low rest zero lt = low
made_on_by edition Header a later low rest (suc i) lt = rest i (omega (arith, lt))
made_on_by edition Reference a later low rest i lt = rest i lt
made_on_by edition Weak a later low rest i lt = rest i lt
made_on_by edition Data a later low rest i lt = rest i lt

made_on : (edition : Edition) (xs : List (ℕ × Entry)) → ((x : ℕ × Entry) → In x xs → is_immediate edition (address_of x) ≡ false)
    → (i : ℕ) → i < length (made_at xs) → is_immediate edition (get_or (made_at xs) i 0) ≡ false
made_on edition [] low i lt = absurd (omega (arith, lt))
made_on edition (x ∷ xs) low i lt =
    made_on_by edition x.1.kind (address_of x) (made_at xs) (low x (inl refl)) (made_on edition xs (λ y there. low y (inr there))) i lt

-- each entry of a lawful journal is on the page
lawful_offsets : (u : Setup) (p : ℕ) (before entries : List Entry) → LawfulAfter u p before entries → (e : Entry) → In e entries → e.offset < 64
lawful_offsets u p before [] lawful e there = absurd there
lawful_offsets u p before (x ∷ entries) lawful e (inl same) = subst (λ (y : Entry). y.offset < 64) same (offset_inside u p before x.kind x.writer x.offset x.value lawful.0)
lawful_offsets u p before (x ∷ entries) lawful e (inr later) = lawful_offsets u p (before ++ x ∷ []) entries lawful.1 e later

-- no numbers are taken back
pub given_le : (cycles : List Cycle) (given : ℕ) → given ≤ given_left cycles given
given_le [] given = omega arith
given_le (c ∷ cs) given = let rest = given_le cs (given_after c given) in omega (arith, rest)

module _ (u : Setup) (journals : Journals) (closed : IsClosed u.heap) (can : CanMerge u journals) (numbers : List ℕ) (stable : StableHeap) (t : IsNumberedAs u.heap numbers stable) (roots marks : List ℕ)
    (small : AreApart u.heap.edition (to_address (64 * pages u))) where
  abbrev cycle : Option (List ℕ) → Cycle
  cycle handed = record { setup = u; journals = journals; roots = roots; new_roots = handed; marks = marks }

  abbrev all : List (ℕ × Entry)
  all = merging.all u journals can

  abbrev first : OneThreadHeap
  first = first_heap u

  abbrev made : List ℕ
  made = made_at all

  abbrev names : Names
  names = record { edition = u.heap.edition; numbers = zip (first.starts ++ made) (numbers ++ range_with_len (stable.given + 1) (length made)) }

  one : IsOneHistory u journals all
  one = legal.one_history u journals closed can

  -- no new object starts at an address that is an immediate
  low_made : (i : ℕ) → i < length made → is_immediate u.heap.edition (get_or made i 0) ≡ false
  low_made = made_on u.heap.edition all (λ x there.
      let page : x.0 < pages u = (merging.in_all u journals can x there).0 in
      let offset = lawful_offsets u x.0 [] (journals x.0) (can.lawful x.0) x.1 (merging.in_all u journals can x there).1 in
      small (address_of x) (omega (arith, page, offset)))

  null : number_at names 0 ≡ 0
  null = number_is names 0 (small 0 (omega arith)) ∙ no_name (first.starts ++ made) (numbers ++ range_with_len (stable.given + 1) (length made)) 0
      (λ i lt e. ⊎_elim
      (λ (old : i < length first.starts).
      let read : get_or first.starts i 0 ≡ 0 = sym (get_or_append_left first.starts made 0 i old) ∙ e in
      let s = subst (HasStart first) read (i, kept.there_is first.starts i old) in
      let k = begun.start_of u closed can.slid 0 s in
      omega (arith, k.2))
      (λ (le : length first.starts ≤ i).
      made_high all (i - length first.starts) (omega (arith, lt, le, length-append first.starts made)) (sym (get_or-append_right first.starts made (length first.starts) i 0 refl le) ∙ e))
      (cases_lt i (length first.starts)))

  agrees : Agrees names first stable
  agrees = begun.begun u closed can.slid names numbers stable made t refl refl low_made null

  ordered : Ordered names first stable.given made
  ordered = begun.ordered u closed can.slid names numbers stable made t refl refl low_made null

  zeros : InZeros first all
  zeros = all_zeros u journals can

  -- at each point between two entries
  point : (before rest : List (ℕ × Entry)) → all ≡ before ++ rest → Lives names first stable before
  point before rest e =
      lives names null before first stable (made_then rest []) agrees
      (subst (Ordered names first stable.given) (sym (made_all all) ∙ ap (λ l. made_then l []) e ∙ made_parts before rest []) ordered)
      (legal_front first before rest (subst (IsLegal first) e one.legal)) (zeros_front first before rest (subst (InZeros first) e zeros))

  whole : Lives names first stable all
  whole = point all [] (sym (append-nil all))

  abbrev ended : OneThreadHeap
  ended = result_of first all

  abbrev steps : List Step
  steps = numbered names first all

  abbrev left : StableHeap
  left = lived stable steps

  edition_is : ended.edition ≡ u.heap.edition
  edition_is = edition_stays first all

  word_is : (i : ℕ) → i < 64 * pages u → ended.word (to_address i) ≡ word_in u journals i
  word_is i lt =
      ap ended.word (let z : to_address i ≡ address (i / 64) (i % 64) = omega arith in z) ∙ one.words (i / 64) (i % 64) (omega (arith, lt)) (omega arith)

  object_is : (a : ℕ) → HasStart ended a → IsObjectAt u journals a
  object_is a s = (one.objects a).0 s

  -- a read of a page at that point
  read_at : (p : ℕ) (seen : List Entry) → p < pages u → StartsWith (journals p) seen → (handed : Option (List ℕ)) → IsSeen (cycle handed) names stable p seen
  unfolding history
  read_at p seen lt begins handed =
      let point_is = legal.points u journals closed can p seen lt begins in
      let h = (point point_is.before point_is.rest point_is.parts).agrees.numbered in
      let heap = result_of first point_is.before in
      record {
        before = point_is.before;
        rest = point_is.rest;
        parts = point_is.parts;
        seen_is = point_is.seen_is;
        words = λ a at offset s few low place. h.words a at s few ∙ ap (numbered_word names (pointers_of (header_in heap a)) at) (ap heap.word place ∙ point_is.words offset low);
      }

  pub writing : (handed : Option (List ℕ)) → WritesLife (cycle handed) numbers stable
  unfolding history
  writing handed = record { life = whole.life; points = λ before rest e. (point before rest e).agrees.numbered; seen = λ p seen lt begins. read_at p seen lt begins handed }

  -- the roots of the flipped heap, forwarded
  ready : AreForwarded u.heap roots → IsReady names ended left roots
  ready forwards =
      let from = begun.leads_of u closed can.slid names numbers stable made t refl refl low_made null in
      let is = λ (x r : ℕ) (e : Some x ≡ forward_value u.heap.edition (live u.heap) r). ap (λ o. unwrap_or o 0) (sym e) in
      record {
        agrees = whole.agrees;
        reached = λ i d lt. let r = came_from roots u.heap.roots (forward_value u.heap.edition (live u.heap)) forwards i d lt in still (get_or roots i d) (subst (IsNullOrStart first) (is (get_or roots i d) r.0 r.1) (from r.0).1);
        roots_are = roots_lived names all first stable ∙ t.roots
            ∙ sym (forwarded_same roots u.heap.roots (number_at names) (number_at (names_in u.heap numbers)) (forward_value u.heap.edition (live u.heap)) forwards (λ x r e. ap (number_at names) (sym (is x r e)) ∙ (from r).0));
      }
    where
      -- an object that slid still exists at the end
      still : (a : ℕ) → IsNullOrStart first a → IsNullOrStart ended a
      still a leads = ⊎_elim
          (λ nowhere. inl (subst (λ e. LeadsNowhere e a) (sym edition_is) nowhere))
          (λ (s : HasStart first a).
          let k = begun.start_of u closed can.slid a s in
          inr (subst (HasStart ended) (sym k.2) ((one.objects (new_address (live u.heap) k.0)).1 (inl (address-is (live u.heap) k.0 (let n = begun.count u closed can.slid in omega (arith, k.1, n)))))))
          leads

  -- roots that were handed in lead to objects
  handed_start : (new : List ℕ) → All (LeadsToObject u journals) new → All (IsNullOrStart ended) new
  handed_start new may i d lt = ⊎_elim (λ nowhere. inl (subst (λ e. LeadsNowhere e (get_or new i d)) (sym edition_is) nowhere)) (λ (o : IsObjectAt u journals (get_or new i d)). inr ((one.objects (get_or new i d)).1 o)) (may i d lt)

  ready_with : (new : List ℕ) → All (LeadsToObject u journals) new → IsReady names ended (stepped left (Roots (map (number_at names) new))) new
  ready_with new may = record { agrees = with_roots names ended left (map (number_at names) new) whole.agrees; reached = handed_start new may; roots_are = refl }

  -- the roots may be changed so
  may_root : (new : List ℕ) → All (LeadsToObject u journals) new → (n : ℕ) → IsAmong (map (number_at names) new) n → IsNullOrAmong left.edition left.there n
  may_root new may n among =
      let back = at_map_back (number_at names) new among.0 n among.1 in
      let inside = at_below new among.0 back.0 back.1 in
      let start = handed_start new may among.0 0 inside in
      subst (IsNullOrAmong left.edition left.there) (ap (number_at names) (value_at new among.0 back.0 0 back.1) ∙ back.2) (may_refer names ended left whole.agrees (get_or new among.0 0) null start)

  abbrev keep : List ℕ
  keep = map (λ i. number_at names (to_address i)) marks

  -- the last step of the cycle
  module _ (before : StableHeap) (after : List ℕ) (r : IsReady names ended before after) (apart : AreApart u.heap.edition before.given) (none : next_faults u journals (next_heap u journals after marks) ≡ []) where
    started : (k : ℕ) → k < length marks → HasStart ended (to_address (get_or marks k 0))
    started k lt =
        let m = marked_objects u journals closed can after marks none k lt in
        (one.objects (to_address (get_or marks k 0))).1 (is_object u journals closed can (get_or marks k 0) m.0 m.1)

    after_closed : IsClosed (next_heap u journals after marks)
    after_closed = next_closed u journals closed can after marks none

    last_may : MayKeep before keep
    last_may = kept.may_keep u journals closed can names ended before r.agrees null edition_is apart word_is object_is after marks after_closed started r.reached r.roots_are

    last_kept : IsNumberedAs (next_heap u journals after marks) keep (stepped before (Keeps keep))
    last_kept = kept.numbered_next u journals closed can names ended before r.agrees null edition_is apart word_is object_is after marks after_closed started r.reached r.roots_are

  -- the cycle ends with these steps, which leave this heap
  module _ (ends : List Step) (after : List ℕ) (may : IsLife left ends) (next_is : IsNumberedAs (next_heap u journals after marks) keep (lived left ends)) (same : (lived left ends).given ≡ left.given) where
    ended_life : IsLife stable (steps ++ ends)
    ended_life = life_parts stable steps ends whole.life may

    ended_kept : IsNumberedAs (next_heap u journals after marks) keep (lived stable (steps ++ ends))
    ended_kept = subst (IsNumberedAs (next_heap u journals after marks) keep) (sym (lived_parts stable steps ends)) next_is

    ended_given : (lived stable (steps ++ ends)).given ≡ stable.given + length made
    ended_given = ap (λ (s : StableHeap). s.given) (lived_parts stable steps ends) ∙ same ∙ given_lived names all first stable

  pub chapter : (handed : Option (List ℕ)) → AreForwarded u.heap roots → MayBeRoots u journals handed → next_faults u journals (next_heap u journals (unwrap_or handed roots) marks) ≡ [] → IsChapter (cycle handed) numbers stable
  unfolding history
  chapter None forwards may none apart =
      let r = ready forwards in
      let low : AreApart u.heap.edition left.given = subst (AreApart u.heap.edition) (sym (given_lived names all first stable)) apart in
      let last = last_kept left roots r low none in
      let ends = Keeps keep ∷ [] in
      let able : IsLife left ends = (last_may left roots r low none, tt) in
      record {
        writing = writing None;
        life = ended_life ends roots able last refl;
        kept = ended_kept ends roots able last refl;
        given = ended_given ends roots able last refl;
        roots = λ _. sym last.roots ∙ roots_lived names all first stable ∙ t.roots;
        new_roots = λ new e. absurd (none_is_some new e);
      }
  chapter (Some new) forwards may none apart =
      let before = stepped left (Roots (map (number_at names) new)) in
      let r = ready_with new may in
      let low : AreApart u.heap.edition left.given = subst (AreApart u.heap.edition) (sym (given_lived names all first stable)) apart in
      let last = last_kept before new r low none in
      let ends = Roots (map (number_at names) new) ∷ Keeps keep ∷ [] in
      let able : IsLife left ends = (may_root new may, (last_may before new r low none, tt)) in
      record {
        writing = writing (Some new);
        life = ended_life ends new able last refl;
        kept = ended_kept ends new able last refl;
        given = ended_given ends new able last refl;
        roots = λ e. absurd (none_is_some new (sym e));
        new_roots = λ handed e. sym last.roots ∙ ap (map (number_at names)) (some_is new handed e);
      }

pub one_chapter : (heap : Heap) (c : Cycle) (numbers : List ℕ) (stable : StableHeap) → IsClosed heap → IsCycleOf heap c → IsNumberedAs heap numbers stable → IsChapter c numbers stable
one_chapter heap c numbers stable closed is t =
    let own = subst IsClosed (sym is.heap_is) closed in
    chapter c.setup c.journals own is.merges numbers stable (subst (λ h. IsNumberedAs h numbers stable) (sym is.heap_is) t) c.roots c.marks (cycle-low heap c closed is) c.new_roots is.roots is.new_roots is.accepted

pub one_writing : (c : Cycle) (numbers : List ℕ) (stable : StableHeap) → IsClosed c.setup.heap → CanMerge c.setup c.journals → IsNumberedAs c.setup.heap numbers stable → IsWriting c numbers stable
one_writing c numbers stable closed can t low = writing c.setup c.journals closed can numbers stable t c.roots c.marks low c.new_roots

-- ---- forwarding keeps the order of addresses

-- an address that is forwarded is that of a marked object
forwarded_mark : (heap : Heap) → IsClosed heap → (a x : ℕ) → 0 < a → forward (live heap) a ≡ Some x → (l : ℕ) × (l < length heap.marks) × (from_address (get_or heap.marks l 0) ≡ a) × (new_address (live heap) l ≡ x)
forwarded_mark heap closed a x up e = ⊎_elim
    (λ (yes : is_target heap.marks a ≡ true). ⊎_elim
    (λ (zero_is : a ≡ 0). absurd (omega (arith, zero_is, up)))
    (λ (m : (l : ℕ) × (l < length heap.marks) × (from_address (get_or heap.marks l 0) ≡ a)).
    let f : forward (live heap) a ≡ Some (new_address (live heap) m.0) = ap (forward (live heap)) (sym m.2) ∙ forward_mark heap closed m.0 m.1 in
    (m.0, m.1, m.2, some_same (new_address (live heap) m.0) x (sym f ∙ e)))
    (target_cases heap.marks a yes))
    (λ (no : is_target heap.marks a ≡ false). absurd (none_some x (sym (forward-none heap.edition heap.words heap.marks a no) ∙ e)))
    (cases_Bool (is_target heap.marks a))
  where
    some_same : (x y : ℕ) → Some x ≡ Some y → x ≡ y
    some_same x y e = cc

    none_some : (x : ℕ) → None ≡ Some x → ⊥
    none_some x e = cc

pub rising : (u : Setup) → IsClosed u.heap → u.compacted ≡ sliding.pages (live u.heap) → IsRising u.heap
rising u closed slid a b x y up below at_a at_b =
    let heap = u.heap in
    let k = forwarded_mark heap closed a x up at_a in
    let l = forwarded_mark heap closed b y (omega (arith, up, below)) at_b in
    ⊎_elim
    (λ (order : k.0 < l.0). let p = begun.addresses_apart u closed slid k.0 l.0 order k.1 in let ex = k.3 in let ey = l.3 in omega (arith, p, ex, ey))
    (λ (le : l.0 ≤ k.0). absurd (⊎_elim
    (λ (over : l.0 < k.0). let r = marks_rise heap closed l.0 k.0 over k.1 in let ea = k.2 in let eb = l.2 in omega (arith, r, ea, eb, below))
    (λ (ge : k.0 ≤ l.0).
    let same : k.0 ≡ l.0 = omega (arith, le, ge) in
    let e = ap (λ n. from_address (get_or heap.marks n 0)) same in let ea = k.2 in let eb = l.2 in omega (arith, e, ea, eb, below))
    (cases_lt l.0 k.0)))
    (cases_lt k.0 l.0)

-- ---- all cycles

pub record AllNumbered (last : Heap) (cycles : List Cycle) (numbers : List ℕ) (stable : StableHeap) : Type 0 where
  pub life : IsLife stable (story cycles numbers stable.given)
  pub result : IsNumberedAs last (numbers_left cycles numbers stable.given) (lived stable (story cycles numbers stable.given))
  pub chapters : AreChapters cycles numbers stable

pub all_numbered : (cycles : List Cycle) (heap last : Heap) (numbers : List ℕ) (stable : StableHeap) → IsClosed heap → IsNumberedAs heap numbers stable → Follow heap cycles last
    → AreApart heap.edition (given_left cycles stable.given) → AllNumbered last cycles numbers stable
all_numbered [] heap last numbers stable closed t follow apart = record { life = tt; result = subst (λ h. IsNumberedAs h numbers stable) (sym follow) t; chapters = tt }
all_numbered (c ∷ cs) heap last numbers stable closed t follow apart =
    let is = follow.0 in
    let own_apart : AreApart c.setup.heap.edition (given_left cs (given_after c stable.given)) = subst (λ (h : Heap). AreApart h.edition (given_left cs (given_after c stable.given))) (sym is.heap_is) apart in
    let here = one_chapter heap c numbers stable closed is t (λ k le. own_apart k (let more = given_le cs (given_after c stable.given) in omega (arith, more, le))) in
    let own = subst IsClosed (sym is.heap_is) closed in
    let steps = story_of c numbers stable.given in
    let next = lived stable steps in
    let kept = numbers_after c numbers stable.given in
    let after = next_closed c.setup c.journals own is.merges (roots_after c) c.marks is.accepted in
    let given : next.given ≡ given_after c stable.given = here.given in
    let rest = all_numbered cs (heap_after c) last kept next after here.kept follow.1 (subst (λ n. AreApart c.setup.heap.edition (given_left cs n)) (sym given) own_apart) in
    record {
      life = life_parts stable steps (story cs kept (given_after c stable.given)) here.life (subst (λ n. IsLife next (story cs kept n)) given rest.life);
      result = subst (IsNumberedAs last (numbers_left cs kept (given_after c stable.given))) (sym (lived_parts stable steps (story cs kept (given_after c stable.given))))
          (subst (λ n. IsNumberedAs last (numbers_left cs kept n) (lived next (story cs kept n))) given rest.result);
      chapters = (here, rising c.setup own is.merges.slid, rest.chapters);
    }

-- the first heap in object numbers
first_words : (heap : Heap) (F : ℕ → List ℕ) (G : Object → List ℕ) (marks : List ℕ) (low : ℕ) → ((k : ℕ) → k < length marks → F (low + k) ≡ G (object_at heap.edition heap.words (get_or marks k 0)))
    → map F (range_with_len low (length marks)) ≡ map G (map (object_at heap.edition heap.words) marks)
first_words heap F G [] low same = refl
first_words heap F G (m ∷ marks) low same =
    ap (λ l. F low ∷ l) (first_words heap F G marks (low + 1) (λ k lt. ap F (let z : low + 1 + k ≡ low + suc k = omega arith in z) ∙ same (suc k) (omega (arith, lt))))
    ∙ ap (λ x. x ∷ map G (map (object_at heap.edition heap.words) marks)) (ap F (let z : low ≡ low + 0 = omega arith in z) ∙ same 0 (omega arith))

pub first_is : (heap : Heap) → IsNumberedAs heap (first_numbers heap) (first_numbered heap)
first_is heap =
    let n = length heap.marks in
    record {
      edition = refl;
      there = refl;
      roots = refl;
      words = first_words heap (first_numbered heap).words (numbered_object (names_in heap (first_numbers heap))) heap.marks 1
          (λ k lt.
          let tell = numbered_object (names_in heap (first_numbers heap)) in
          ap (λ i. get_or (map tell (live heap)) i []) (let z : 1 + k - 1 ≡ k = omega arith in z)
          ∙ get_or-map tell (live heap) k (object_at heap.edition heap.words 0) [] (let n = length-map heap.marks (object_at heap.edition heap.words) in omega (arith, lt, n))
          ∙ ap tell (live-at heap.edition heap.words heap.marks k));
      given = λ i lt. let inside : i < n = omega (arith, lt, row_long 1 n) in let e = in_row 1 n i inside in (omega (arith, e), omega (arith, e, inside));
      once = λ i j lt lt2 e.
          let a = in_row 1 n i (omega (arith, lt, row_long 1 n)) in
          let b = in_row 1 n j (omega (arith, lt2, row_long 1 n)) in
          omega (arith, a, b, e);
    }

pub one_life : (heap last : Heap) (cycles : List Cycle) → IsClosed heap → Follow heap cycles last → IsOneLife heap cycles last
one_life heap last cycles closed follow apart =
    let t = all_numbered cycles heap last (first_numbers heap) (first_numbered heap) closed (first_is heap) follow apart in
    record { life = t.life; result = t.result; chapters = t.chapters }
