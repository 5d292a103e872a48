-- One page of a slide: its turn, its words, and that it is home.
use Rattle.std.specs.Prelude.{◌≡◌, ℕ, ◌<◌, ◌≤◌, ◌⊎◌, List, length, MatchOption, Option, Some}
use Rattle.first_touch.specs.Asked.{slid_page}
use Rattle.first_touch.specs.Seen.{asked_of, page_id, IsPutBack, IsSeenBusy, Seen, TurnDesk}
use Rattle.first_touch.specs.TurnAnswers.{IsAsItWas, IsTurnFault}
use Rattle.first_touch.specs.declared.turns.TurnFault.{TurnFault}
use Rattle.first_touch.specs.declared.turns.TurnFault.TheVariants as turn
use Rattle.handle_base.specs.Answers.{bare, done, of_slide}
use Rattle.handle_base.specs.Statuses.{no_such_page, no_turn, not_built, other_length, page_busy, page_home, turn_taken}
use Rattle.handle_base.specs.HandleKinds.{pages_in, Asks}
use Rattle.handle_base.specs.Paged.{having, turn_in, Paged}
use Rattle.handle_base.specs.declared.answer.Answer.{Answer}
use Rattle.handle_base.specs.declared.kept.Kept.{Kept}
use Rattle.handle_base.specs.declared.pages.Has.{Has}
use Rattle.handle_base.specs.declared.pages.Has.TheVariants as has

-- P of the pages that the handle keeps before and after; or it keeps none, and stays, and R
abbrev pub Touches : (Paged → Paged → Answer → Type 0) → Type 0 → Option Kept → Option Kept → Answer → Type 0
Touches P R from left a = Asks 0 pages_in (λ p b. (q : Paged) × (pages_in left ≡ Some q) × P p q b) ((left ≡ from) × R) from a

-- The handle has the turn for page k. Or it has none: there is no such page; or it knows that the page is home; or it
-- saw that another handle had it.
abbrev pub ClaimsFree : ℕ → Paged → Paged → Answer → Type 0
ClaimsFree k p q a =
    ((k < p.turns.pages) × (q ≡ having p.turns (has.Turn (page_id p.turns.id k))) × (a ≡ done 0))
    ⊎ ((p.turns.pages ≤ k) × (q ≡ p) × (a ≡ bare no_such_page k))
    ⊎ ((k < p.turns.pages) × (q ≡ having p.turns (has.Home (page_id p.turns.id k))) × (a ≡ bare page_home k))
    ⊎ ((k < p.turns.pages) × ((seen : Seen) × (q ≡ having p.turns (has.Sight seen)) × IsSeenBusy p.turns.id k seen × (a ≡ bare page_busy k)))

-- the same of a handle that may have a turn already: then nothing changes
abbrev pub Claims : ℕ → Paged → Paged → Answer → Type 0
Claims k p q a = MatchOption (turn_in p.has) (ClaimsFree k p q a) (λ j. (q ≡ p) × (a ≡ bare turn_taken j))

-- a page was not built
abbrev pub of_turn : TurnFault → Answer
of_turn (turn.OtherRoom room) = bare other_length room
of_turn (turn.Slide fault) = of_slide fault

-- The memory has the words that slide to page k out of these words, and the handle may publish it. Or the answer says
-- why not, and the handle has put the page back, as it saw.
abbrev pub BuildsAt : ℕ → List ℕ → List ℕ → List ℕ → TurnDesk → Paged → Answer → Type 0
BuildsAt k words before after turns q a =
    ((q ≡ having turns (has.Filled (page_id turns.id k))) × (after ≡ slid_page (asked_of turns words) k) × (a ≡ done 0))
    ⊎ ((seen : Seen) × (fault : TurnFault) × (q ≡ having turns (has.Sight seen)) × IsPutBack turns.id k seen
    × (a ≡ of_turn fault) × IsTurnFault (asked_of turns words) k (length before) fault × IsAsItWas fault before after)

-- nothing changes, since the handle has not the turn for a page that is not built yet
abbrev pub HasNoTurn : List ℕ → List ℕ → Paged → Paged → Answer → Type 0
HasNoTurn before after p q a = (after ≡ before) × (q ≡ p) × (a ≡ bare no_turn 0)

-- the same of a handle that has this
abbrev pub BuildsIn : List ℕ → List ℕ → List ℕ → TurnDesk → Has → Paged → Answer → Type 0
BuildsIn words before after turns has.Nothing q a = HasNoTurn before after (having turns has.Nothing) q a
BuildsIn words before after turns (has.Sight sight) q a = HasNoTurn before after (having turns (has.Sight sight)) q a
BuildsIn words before after turns (has.Home home) q a = HasNoTurn before after (having turns (has.Home home)) q a
BuildsIn words before after turns (has.Turn turn) q a = BuildsAt turn.page words before after turns q a
BuildsIn words before after turns (has.Filled filled) q a = HasNoTurn before after (having turns (has.Filled filled)) q a

abbrev pub Builds : List ℕ → List ℕ → List ℕ → Paged → Paged → Answer → Type 0
Builds words before after p q a = BuildsIn words before after p.turns p.has q a

-- The page that was built is home, as the handle knows now. Or nothing changes: the page is not built, or there is no
-- turn.
abbrev pub PublishesIn : TurnDesk → Has → Paged → Answer → Type 0
PublishesIn turns has.Nothing q a = (q ≡ having turns has.Nothing) × (a ≡ bare no_turn 0)
PublishesIn turns (has.Sight sight) q a = (q ≡ having turns (has.Sight sight)) × (a ≡ bare no_turn 0)
PublishesIn turns (has.Home home) q a = (q ≡ having turns (has.Home home)) × (a ≡ bare no_turn 0)
PublishesIn turns (has.Turn turn) q a = (q ≡ having turns (has.Turn turn)) × (a ≡ bare not_built turn.page)
PublishesIn turns (has.Filled filled) q a = (q ≡ having turns (has.Home filled)) × (a ≡ done 0)

abbrev pub Publishes : Paged → Paged → Answer → Type 0
Publishes p q a = PublishesIn p.turns p.has q a
