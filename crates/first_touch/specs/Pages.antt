-- The pages as a table of atomic words, a slot for each, in which the page lies while its word is 0.
use Rattle.std.specs.Prelude.{◌≡◌, ◌≢◌, ℕ, ◌+◌, ◌<◌, ◌==◌, List, [], ◌∷◌, length, slice_index, cond, Option, Some}
use Rattle.std.specs.Borrow.{MutBor}
use mathlib.Core.Option.{some}
use lib.ListN.{get_elem?}
use Rattle.atomic_table.specs.Table.{Me, State, Step}
use Rattle.first_touch.specs.Asked.{Asked, page_len, slid_page}
use Rattle.first_touch.specs.Known.{known_at, met_at, put_back_at, AreKnown}
use Rattle.first_touch.specs.declared.view.View.{View}

-- what a slot holds: a page of the memory, or nothing
abbrev pub Slot : Type 0
Slot = Option (MutBor (List ℕ))

-- page k waits in its slot
abbrev pub IsWaiting : Asked → List (mathlib.Core.Option.Option Slot) → ℕ → Type 0
IsWaiting asked homes k =
    (page : MutBor (List ℕ)) × (get_elem? homes k ≡ some (some (Some page))) × (length page.now ≡ page_len asked k)

-- The rule: a page whose word is 0 waits in its slot, with room for its words, and what threads know of pages is so.
pub record Holds (asked : Asked) (s : State Slot View) : Type 0 where
  pub many : length s.words ≡ length s.homes
  pub waits : (k : ℕ) → k < length s.homes → slice_index s.words k ≡ 0 → IsWaiting asked s.homes k
  pub known : AreKnown (λ (v : View). v.known) s.words s.views

-- who has page k, or knows that it is home, and found this word there last
abbrev pub at_page : Asked → ℕ → ℕ → ℕ → View
at_page asked k stand word = record { about = asked; known = known_at k stand; met = met_at k word }

-- who put page k back, and found or wrote this word at that step: it has no page, and knows of none
abbrev pub gone_from : Asked → ℕ → ℕ → View
gone_from asked k word = record { about = asked; known = known_at k 0; met = put_back_at k word }

-- who knows nothing yet
abbrev pub first_view : Asked → View
first_view asked = at_page asked 0 0 0

-- who loads the word of a page knows that it is home, if it is
abbrev pub looks : Step Slot → Me Slot View → ℕ → Me Slot View → Type 0
looks step before found after = after.0 ≡ at_page before.0.about step.word (cond (found == 2) 2 0) found

-- who finds 0 has the page; who does not has none
abbrev pub claims : Step Slot → Me Slot View → ℕ → Me Slot View → Type 0
claims step before found after =
    (found ≡ 0
    → (page : MutBor (List ℕ)) × (after ≡ (at_page before.0.about step.word 1 0, (step.word, Some page) ∷ []))
    × (length page.now ≡ page_len before.0.about step.word))
    × (found ≢ 0 → after.0 ≡ at_page before.0.about step.word 0 found)

-- Who puts a page back had it until this step, and has none from now on. Only who stores 0 sees 0 here: while a thread
-- has a page, its word is 1, so that is what each step finds that loads or exchanges it.
abbrev pub puts_back : Step Slot → Me Slot View → ℕ → Me Slot View → Type 0
puts_back step before found after =
    (before.0.known ≡ known_at step.word 1) × (after.0 ≡ gone_from before.0.about step.word found)

-- the page that was taken from slot k lies there again, and its words are those that slide there
abbrev pub IsSlidThere : Asked → ℕ → List (ℕ × Slot) → Type 0
IsSlidThere asked k carried =
    (page : MutBor (List ℕ)) × (carried ≡ (k, Some page) ∷ []) × (page.now ≡ slid_page asked k)

-- Who publishes a page knows that it is home. At this step its words are those that slide there.
abbrev pub publishes : Step Slot → Me Slot View → ℕ → Me Slot View → Type 0
publishes step before found after =
    (after ≡ (at_page before.0.about step.word 2 2, before.1)) × IsSlidThere before.0.about step.word before.1

-- who found all pages below this one home, and finds this one home, knows it of one page more
abbrev pub walks : Step Slot → Me Slot View → ℕ → Me Slot View → Type 0
walks step before found after =
    (step.word ≡ before.0.known.below → found ≡ 2 → after.0.known.below ≡ step.word + 1)
    × (after.0.met ≡ met_at step.word found)
