-- The steps on the pages keep the rule.
use Rattle.std.proofs.Common.{◌≡◌, ◌≢◌, ℕ, ◌+◌, ◌<◌, ◌==◌, List, [], ◌∷◌, length, get_or, set, cond, Some, sym, refl, ap, ◌∙◌, subst, arith, length-set, get_or-set_other}
use Rattle.std.proofs.lemmas.List.{length-map}
use Rattle.std.specs.Borrow.{MutBor}
use mathlib.Core.Option.{Option, some, none}
use mathlib.Core.Logic.{dite}
use native.Mathlib.Decide.{ℕ_discrete}
use lib.ListN.{get_elem?}
use prog.Atomic.{either}
use Rattle.atomic_table.specs.Table.{State, Act, Me, Allows, Enters, opening, step, stepped}
use Rattle.atomic_table.specs.Table as act
use Rattle.atomic_table.proofs.Lists.{set_here, set_else, at_map, exchanged}
use Rattle.first_touch.specs.Asked.{Asked, page_len, slid_page}
use Rattle.first_touch.specs.Known.{Known, known_at, met_at, AreKnown}
use Rattle.first_touch.specs.Pages.{Slot, IsWaiting, Holds, at_page, gone_from, first_view, looks, claims, puts_back, publishes, walks}
use Rattle.first_touch.specs.Rows.{AreRows}
use Rattle.first_touch.specs.declared.view.View.{View}
use Rattle.first_touch.proofs.Knowing.{alone, found, further, joined, learnt, moved, never_one, nobody_aware, others_unaware}
use Rattle.first_touch.proofs.Lists.{changed, set_same}

abbrev knows : View → Known
knows v = v.known

-- who found this word of page k
abbrev seeing : View → ℕ → ℕ → View
seeing v k word = record { about = v.about; known = v.known; met = met_at k word }

-- who also knows that page k is home, where it found 2, and all pages below it
abbrev more : View → ℕ → View
more v k = record {
  about = v.about;
  known = record { page = v.known.page; stand = v.known.stand; below = k + 1 };
  met = met_at k 2;
}

pub opens : (asked : Asked) (rows : List Slot) (words : List ℕ) → length words ≡ length rows
    → ((k : ℕ) → get_or words k 0 ≡ 0) → AreRows asked rows → Holds asked (opening words rows (first_view asked))
opens asked rows words count zeros all = record {
  many = count ∙ sym (length-map rows some);
  waits = λ k lt free.
      let row = all k (omega (arith, lt, length-map rows some)) in
      (row.0, at_map some rows k (Some row.0) row.1, row.2);
  known = alone knows words (first_view asked) 0 refl zeros;
}

pub look_allowed : (asked : Asked) (n k : ℕ)
    → Enters (Holds asked) n k (λ found w. looks (step n k 0 0 none) (first_view asked, []) found (w, []))
look_allowed asked n k = λ s h many bound.
    let word = get_or s.words k 0 in
    let w : View = at_page asked k (cond (word == 2) 2 0) word in
    let known = joined knows s.words s.views h.known w (never_one (word == 2)) (found s.words k) in
    (w, record { many = h.many; waits = h.waits; known = known }, refl)

module _ (asked : Asked) (s : State Slot View) (h : Holds asked s) (id : ℕ) (v : View) where
  -- the word of page k is n, these slots are at home, and the thread knows this
  abbrev put : ℕ → ℕ → List (Option Slot) → View → State Slot View
  put k n homes w = record { words = set s.words k n; homes = homes; views = set s.views id w }

  module _ (at : get_elem? s.views id ≡ some v) (k : ℕ) (inside : k < length s.homes) where
    within : k < length s.words
    within = omega (arith, inside, h.many)

    -- the word stays
    pub quiet : (w : View) → AreKnown knows s.words (set s.views id w)
        → Holds asked (put k (get_or s.words k 0) s.homes w)
    quiet w known =
        let P : List ℕ → Type 0 = λ ws. Holds asked
        (record { words = ws; homes = s.homes; views = set s.views id w }) in
        subst P (sym (set_same s.words k within)) (record { many = h.many; waits = h.waits; known = known })

    -- the thread finds the word, and knows no more of pages than before
    pub same : Holds asked (put k (get_or s.words k 0) s.homes (seeing v k (get_or s.words k 0)))
    same =
        let w = seeing v k (get_or s.words k 0) in
        quiet w (learnt knows s.words s.views h.known id v at w refl refl (h.known.stands id v at))

    -- the word of page k becomes n, which is not 0
    not_zero : (n j : ℕ) → n ≢ 0 → j ≡ k → get_or (set s.words k n) j 0 ≡ 0 → ⊥
    not_zero n j some_ here zero_ =
        some_ (sym (changed s.words k n within) ∙ ap (λ (p : ℕ). get_or (set s.words k n) p 0) (sym here) ∙ zero_)

    -- another page waits where it waited, whatever is done with page k
    waits_still : (n j : ℕ) (slot : Option Slot) → j ≢ k → j < length s.homes → get_or (set s.words k n) j 0 ≡ 0
        → IsWaiting asked (set s.homes k slot) j
    waits_still n j slot differs lt word =
        let was = h.waits j lt (sym (get_or-set_other s.words k j n 0 differs) ∙ word) in
        (was.0, set_else s.homes k j slot differs ∙ was.1, was.2)

    -- the page waited, and the thread has it
    pub taken : v.known.stand ≡ 0 → get_or s.words k 0 ≡ 0
        → Holds asked (put k 1 (set s.homes k none) (at_page asked k 1 0))
    taken idle free = record {
      many = length-set s.words k 1 ∙ h.many ∙ sym (length-set s.homes k none);
      waits = λ j lt word. dite (ℕ_discrete j k)
          (λ here. absurd (not_zero 1 j (λ is. omega (arith, is)) here word))
          (λ differs. waits_still 1 j none differs (omega (arith, lt, length-set s.homes k none)) word);
      known = moved knows s.words s.views h.known id v at k 1 (at_page asked k 1 0) within refl
          (λ is. omega (arith, is, idle))
          (λ x other ne there. nobody_aware knows s.words s.views h.known k free x other there);
    }

    module _ (one : v.known.stand ≡ 1) (page : v.known.page ≡ k) where
      -- the thread has the page, and its word becomes n
      known_put : (n : ℕ) (w : View) → w.known ≡ known_at k n → AreKnown knows (set s.words k n) (set s.views id w)
      known_put n w is = moved knows s.words s.views h.known id v at k n w within is
          (λ two. omega (arith, two, one))
          (others_unaware knows s.words s.views h.known id v at k one page)

      -- the page comes home
      pub published : Holds asked (put k 2 s.homes (at_page asked k 2 2))
      published = record {
        many = length-set s.words k 2 ∙ h.many;
        waits = λ j lt word. dite (ℕ_discrete j k)
            (λ here. absurd (not_zero 2 j (λ is. omega (arith, is)) here word))
            (λ differs. h.waits j lt (sym (get_or-set_other s.words k j 2 0 differs) ∙ word));
        known = known_put 2 (at_page asked k 2 2) refl;
      }

      -- the page waits again
      pub back : (pg : MutBor (List ℕ)) → length pg.now ≡ page_len asked k
          → Holds asked (put k 0 (set s.homes k (some (Some pg))) (gone_from asked k 0))
      back pg long =
          let slot : Option Slot = some (Some pg) in
          let homes = set s.homes k slot in
          record {
            many = length-set s.words k 0 ∙ h.many ∙ sym (length-set s.homes k slot);
            waits = λ j lt word. dite (ℕ_discrete j k)
                (λ here.
                let there = ap (get_elem? homes) here ∙ set_here s.homes k slot inside in
                (pg, there, long ∙ ap (page_len asked) (sym here)))
                (λ differs. waits_still 0 j slot differs (omega (arith, lt, length-set s.homes k slot)) word);
            known = known_put 0 (gone_from asked k 0) refl;
          }

-- whatever is found: the exchange
abbrev Claims : Asked → State Slot View → ℕ → ℕ → ℕ → ℕ → Type 0
Claims asked s id k met n =
    (w : View) × (a : Act Slot) × act.Valid s.homes [] a × Holds asked (stepped s k n id [] w a)
    × claims (step 0 k 0 1 none) (at_page asked k 0 met, []) (get_or s.words k 0) (w, act.carried_after [] a)

pub claim_allowed : (asked : Asked) (n id k met : ℕ) → k < n
    → Allows (Holds asked) n id (at_page asked k 0 met, []) k (λ found. either (found == 0) 1 found)
    (claims (step n k 0 1 none) (at_page asked k 0 met, []))
claim_allowed asked n id k met lt = λ s h many at bound.
    let inside : k < length s.homes = omega (arith, many, lt) in
    let v : View = at_page asked k 0 met in
    let word = get_or s.words k 0 in
    let has = taken asked s h id v at k inside refl in
    let has_none = same asked s h id v at k inside in
    exchanged word 0 1 (λ m. Claims asked s id k met m)
    (λ free.
    let wait = h.waits k inside free in (
      at_page asked k 1 0,
      act.takes k (Some wait.0),
      wait.1,
      has free,
      ((λ _. (wait.0, refl, wait.2)), (λ busy. absurd (busy free))),
    ))
    (λ busy. (seeing v k word, act.keeps, tt, has_none, ((λ free. absurd (busy free)), (λ _. refl))))

pub publish_allowed : (asked : Asked) (n id k : ℕ) (page : MutBor (List ℕ)) → k < n → page.now ≡ slid_page asked k
    → Allows (Holds asked) n id (at_page asked k 1 0, (k, Some page) ∷ []) k (λ _. 2)
    (λ _. publishes (step n k 2 0 none) (at_page asked k 1 0, (k, Some page) ∷ []) 2)
publish_allowed asked n id k page lt slid = λ s h many at bound.
    let inside : k < length s.homes = omega (arith, many, lt) in
    let holds = published asked s h id (at_page asked k 1 0) at k inside refl refl in
    (at_page asked k 2 2, act.keeps, tt, holds, (refl, (page, refl, slid)))

pub put_back_allowed : (asked : Asked) (n id k : ℕ) (page : MutBor (List ℕ)) → k < n
    → length page.now ≡ page_len asked k
    → Allows (Holds asked) n id (at_page asked k 1 0, (k, Some page) ∷ []) k (λ _. 0)
    (λ _. puts_back (step n k 0 0 none) (at_page asked k 1 0, (k, Some page) ∷ []) 0)
put_back_allowed asked n id k page lt long = λ s h many at bound.
    let inside : k < length s.homes = omega (arith, many, lt) in
    let holds = back asked s h id (at_page asked k 1 0) at k inside refl refl page long in
    (gone_from asked k 0, act.gives, tt, holds, (refl, refl))

pub walk_allowed : (asked : Asked) (n id k : ℕ) (m : Me Slot View) → k < n
    → Allows (Holds asked) n id m k (λ found. found) (walks (step n k 0 0 none) m)
walk_allowed asked n id k m lt = λ s h many at bound.
    let v = m.0 in
    let word = get_or s.words k 0 in
    let inside : k < length s.homes = omega (arith, many, lt) in
    let stands = h.known.stands id v at in
    let stays = same asked s h id v at k inside in
    dite (ℕ_discrete k v.known.below)
    (λ next. dite (ℕ_discrete word 2)
    (λ two.
    let knows_more = learnt knows s.words s.views h.known id v at (more v k) refl refl in
    let holds = quiet asked s h id v at k inside (more v k) (knows_more (further s.words k v.known stands next two)) in
    (more v k, act.keeps, tt, holds, ((λ _ _. refl), ap (met_at k) (sym two))))
    (λ other. (seeing v k word, act.keeps, tt, stays, ((λ _ two. absurd (other two)), refl))))
    (λ apart. (seeing v k word, act.keeps, tt, stays, ((λ next. absurd (apart next)), refl)))
