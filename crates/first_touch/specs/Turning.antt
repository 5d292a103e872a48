-- The turns as a table of atomic words without slots. The pages themselves lie with the caller.
use Rattle.std.specs.Prelude.{◌≡◌, ◌≢◌, ℕ, ◌+◌, ◌==◌, [], length, cond}
use Rattle.atomic_table.specs.Table.{Me, State, Step}
use Rattle.first_touch.specs.Known.{known_at, met_at, put_back_at, AreKnown}
use Rattle.first_touch.specs.declared.turn_view.TurnView.{TurnView}

-- The rule, of so many pages: what threads know of the words is so.
pub record Holds (pages : ℕ) (s : State (Unit {0}) TurnView) : Type 0 where
  pub many : length s.words ≡ pages
  pub known : AreKnown (λ (v : TurnView). v.known) s.words s.views

-- who has page k, or knows that it is home, and found this word there last
abbrev pub at_page : ℕ → ℕ → ℕ → TurnView
at_page k stand word = record { known = known_at k stand; met = met_at k word }

-- who put page k back, and found or wrote this word at that step: it has no page, and knows of none
abbrev pub gone_from : ℕ → ℕ → TurnView
gone_from k word = record { known = known_at k 0; met = put_back_at k word }

-- who knows nothing yet
abbrev pub first_view : ℕ → TurnView
first_view pages = at_page 0 0 0

-- who loads the word of a page knows that it is home, if it is
abbrev pub looks : Step (Unit {0}) → Me (Unit {0}) TurnView → ℕ → Me (Unit {0}) TurnView → Type 0
looks step before found after = after.0 ≡ at_page step.word (cond (found == 2) 2 0) found

-- who finds 0 has the page; who does not has none
abbrev pub claims : Step (Unit {0}) → Me (Unit {0}) TurnView → ℕ → Me (Unit {0}) TurnView → Type 0
claims step before found after =
    (found ≡ 0 → after ≡ (at_page step.word 1 0, [])) × (found ≢ 0 → after.0 ≡ at_page step.word 0 found)

-- Who puts a page back had it until this step, and has none from now on. Only who stores 0 sees 0 here: while a thread
-- has a page, its word is 1, so that is what each step finds that loads or exchanges it.
abbrev pub puts_back : Step (Unit {0}) → Me (Unit {0}) TurnView → ℕ → Me (Unit {0}) TurnView → Type 0
puts_back step before found after =
    (before.0.known ≡ known_at step.word 1) × (after.0 ≡ gone_from step.word found)

-- who publishes a page knows that it is home
abbrev pub publishes : Step (Unit {0}) → Me (Unit {0}) TurnView → ℕ → Me (Unit {0}) TurnView → Type 0
publishes step before found after = after.0 ≡ at_page step.word 2 2

-- who found all pages below this one home, and finds this one home, knows it of one page more
abbrev pub walks : Step (Unit {0}) → Me (Unit {0}) TurnView → ℕ → Me (Unit {0}) TurnView → Type 0
walks step before found after =
    (step.word ≡ before.0.known.below → found ≡ 2 → after.0.known.below ≡ step.word + 1)
    × (after.0.met ≡ met_at step.word found)
