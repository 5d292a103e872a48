-- The steps on the turns keep the rule.
use Rattle.std.proofs.Common.{◌≡◌, ℕ, ◌+◌, ◌<◌, ◌==◌, List, [], length, get_or, set, cond, sym, refl, ap, ◌∙◌, subst, arith, length-set}
use mathlib.Core.Option.{some, none}
use mathlib.Core.Logic.{dite}
use native.Mathlib.Decide.{ℕ_discrete}
use lib.ListN.{get_elem?}
use prog.Atomic.{either}
use Rattle.atomic_table.specs.Table.{State, Act, Me, Allows, Enters, opening, step, stepped}
use Rattle.atomic_table.specs.Table as act
use Rattle.atomic_table.proofs.Lists.{exchanged}
use Rattle.first_touch.specs.Known.{Known, known_at, met_at, AreKnown}
use Rattle.first_touch.specs.Turning.{Holds, at_page, gone_from, first_view, looks, claims, puts_back, publishes, walks}
use Rattle.first_touch.specs.declared.turn_view.TurnView.{TurnView}
use Rattle.first_touch.proofs.Knowing.{alone, found, further, joined, learnt, moved, never_one, nobody_aware, others_unaware}
use Rattle.first_touch.proofs.Lists.{set_same}

-- a thread that holds no slot
abbrev S : Type 0
S = Unit {0}

abbrev knows : TurnView → Known
knows v = v.known

-- who found this word of page k
abbrev seeing : TurnView → ℕ → ℕ → TurnView
seeing v k word = record { known = v.known; met = met_at k word }

-- who also knows that page k is home, where it found 2, and all pages below it
abbrev more : TurnView → ℕ → TurnView
more v k =
    record { known = record { page = v.known.page; stand = v.known.stand; below = k + 1 }; met = met_at k 2 }

pub opens : (pages : ℕ) (words : List ℕ) → length words ≡ pages → ((k : ℕ) → get_or words k 0 ≡ 0)
    → Holds pages (opening words [] (first_view pages))
opens pages words count zeros = record { many = count; known = alone knows words (first_view pages) 0 refl zeros }

pub look_allowed : (pages n k : ℕ)
    → Enters (Holds pages) n k (λ found w. looks (step n k 0 0 none) (first_view pages, []) found (w, []))
look_allowed pages n k = λ s h many bound.
    let word = get_or s.words k 0 in
    let w : TurnView = at_page k (cond (word == 2) 2 0) word in
    let known = joined knows s.words s.views h.known w (never_one (word == 2)) (found s.words k) in
    (w, record { many = h.many; known = known }, refl)

module _ (pages : ℕ) (s : State S TurnView) (h : Holds pages s) (id : ℕ) (v : TurnView) where
  -- the word of page k is n, and the thread knows this
  abbrev put : ℕ → ℕ → TurnView → State S TurnView
  put k n w = record { words = set s.words k n; homes = s.homes; views = set s.views id w }

  module _ (at : get_elem? s.views id ≡ some v) (k : ℕ) (inside : k < pages) where
    within : k < length s.words
    within = omega (arith, inside, h.many)

    -- the word stays
    pub quiet : (w : TurnView) → AreKnown knows s.words (set s.views id w) → Holds pages (put k (get_or s.words k 0) w)
    quiet w known =
        let P : List ℕ → Type 0 = λ ws. Holds pages
        (record { words = ws; homes = s.homes; views = set s.views id w }) in
        subst P (sym (set_same s.words k within)) (record { many = h.many; known = known })

    -- the thread finds the word, and knows no more of pages than before
    pub same : Holds pages (put k (get_or s.words k 0) (seeing v k (get_or s.words k 0)))
    same =
        let w = seeing v k (get_or s.words k 0) in
        quiet w (learnt knows s.words s.views h.known id v at w refl refl (h.known.stands id v at))

    -- the page waited, and the thread has it
    pub taken : v.known.stand ≡ 0 → get_or s.words k 0 ≡ 0 → Holds pages (put k 1 (at_page k 1 0))
    taken idle free = record {
      many = length-set s.words k 1 ∙ h.many;
      known = moved knows s.words s.views h.known id v at k 1 (at_page k 1 0) within refl
          (λ is. omega (arith, is, idle))
          (λ x other ne there. nobody_aware knows s.words s.views h.known k free x other there);
    }

    -- the thread has the page, and its word becomes n
    pub changed_by : v.known.stand ≡ 1 → v.known.page ≡ k → (n : ℕ) (w : TurnView) → w.known ≡ known_at k n
        → Holds pages (put k n w)
    changed_by one page n w is = record {
      many = length-set s.words k n ∙ h.many;
      known = moved knows s.words s.views h.known id v at k n w within is
          (λ two. omega (arith, two, one))
          (others_unaware knows s.words s.views h.known id v at k one page);
    }

-- whatever is found: the exchange
abbrev Claims : ℕ → State S TurnView → ℕ → ℕ → ℕ → ℕ → Type 0
Claims pages s id k met n =
    (w : TurnView) × (a : Act S) × act.Valid s.homes [] a × Holds pages (stepped s k n id [] w a)
    × claims (step 0 k 0 1 none) (at_page k 0 met, []) (get_or s.words k 0) (w, act.carried_after [] a)

pub claim_allowed : (pages n id k met : ℕ) → k < pages
    → Allows (Holds pages) n id (at_page k 0 met, []) k (λ found. either (found == 0) 1 found)
    (claims (step n k 0 1 none) (at_page k 0 met, []))
claim_allowed pages n id k met inside = λ s h many at bound.
    let v : TurnView = at_page k 0 met in
    let word = get_or s.words k 0 in
    let has = taken pages s h id v at k inside refl in
    let has_none = same pages s h id v at k inside in
    exchanged word 0 1 (λ m. Claims pages s id k met m)
    (λ free. (at_page k 1 0, act.keeps, tt, has free, ((λ _. refl), (λ busy. absurd (busy free)))))
    (λ busy. (seeing v k word, act.keeps, tt, has_none, ((λ free. absurd (busy free)), (λ _. refl))))

pub publish_allowed : (pages n id k : ℕ) → k < pages
    → Allows (Holds pages) n id (at_page k 1 0, []) k (λ _. 2)
    (λ _. publishes (step n k 2 0 none) (at_page k 1 0, []) 2)
publish_allowed pages n id k inside = λ s h many at bound.
    let w = at_page k 2 2 in
    (w, act.keeps, tt, changed_by pages s h id (at_page k 1 0) at k inside refl refl 2 w refl, refl)

pub put_back_allowed : (pages n id k : ℕ) → k < pages
    → Allows (Holds pages) n id (at_page k 1 0, []) k (λ _. 0)
    (λ _. puts_back (step n k 0 0 none) (at_page k 1 0, []) 0)
put_back_allowed pages n id k inside = λ s h many at bound.
    let w = gone_from k 0 in
    (w, act.keeps, tt, changed_by pages s h id (at_page k 1 0) at k inside refl refl 0 w refl, (refl, refl))

pub walk_allowed : (pages n id k : ℕ) (m : Me S TurnView) → k < pages
    → Allows (Holds pages) n id m k (λ found. found) (walks (step n k 0 0 none) m)
walk_allowed pages n id k m inside = λ s h many at bound.
    let v = m.0 in
    let word = get_or s.words k 0 in
    let stands = h.known.stands id v at in
    let stays = same pages s h id v at k inside in
    dite (ℕ_discrete k v.known.below)
    (λ next. dite (ℕ_discrete word 2)
    (λ two.
    let knows_more = learnt knows s.words s.views h.known id v at (more v k) refl refl in
    let holds = quiet pages s h id v at k inside (more v k) (knows_more (further s.words k v.known stands next two)) in
    (more v k, act.keeps, tt, holds, ((λ _ _. refl), ap (met_at k) (sym two))))
    (λ other. (seeing v k word, act.keeps, tt, stays, ((λ _ two. absurd (other two)), refl))))
    (λ apart. (seeing v k word, act.keeps, tt, stays, ((λ next. absurd (apart next)), refl)))
