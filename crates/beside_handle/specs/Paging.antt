-- A slide page by page: its beginning, its shares and its end.
use Rattle.std.specs.Prelude.{◌≡◌, ℕ, ◌<◌, ◌⊎◌, MatchOption, Option, None, Some}
use Rattle.rest_marks.specs.Places.{Found}
use Rattle.first_touch.specs.Beginning.{AreBegun}
use Rattle.first_touch.specs.Seen.{IsSeenAway, Seen, TurnDesk}
use Rattle.handle_base.specs.Answers.{bare, done}
use Rattle.handle_base.specs.Statuses.{no_size, not_home, out_of_memory, still_shared}
use Rattle.handle_base.specs.HandleKinds.{pages_in, survey_in, Asks, Fills}
use Rattle.handle_base.specs.Paged.{having, turn_in, Paged}
use Rattle.handle_base.specs.declared.answer.Answer.{Answer}
use Rattle.handle_base.specs.declared.kept.Kept.{Kept}
use Rattle.handle_base.specs.declared.pages.Has.TheVariants as has

-- the handle keeps pages of these turns, and has no turn
abbrev pub KeepsFree : TurnDesk → Option Kept → Type 0
KeepsFree turns now = pages_in now ≡ Some (having turns has.Nothing)

-- a page has no words; or memory ran out, and it has some
abbrev pub IsUnbegun : ℕ → Answer → Type 0
IsUnbegun size a = ((size ≡ 0) × (a ≡ bare no_size 0)) ⊎ ((0 < size) × (a ≡ bare out_of_memory 0))

-- The survey went into turns, in pages of so many words; the answer has their number. Or its handle keeps it still,
-- that of the pages is empty, and the answer says why.
abbrev pub BeginsFrom : ℕ → Found → Option Kept → Option Kept → Answer → Type 0
BeginsFrom size found left now a =
    ((turns : TurnDesk) × (left ≡ None) × KeepsFree turns now × AreBegun found size turns × (a ≡ done turns.pages))
    ⊎ ((survey_in left ≡ Some found) × (now ≡ None) × IsUnbegun size a)

-- the same for what the handles keep
abbrev pub BeginsPages : ℕ → Option Kept → Option Kept → Option Kept → Option Kept → Answer → Type 0
BeginsPages size from left to new a =
    Asks 0 survey_in (λ found b. Fills 1 (λ now c. BeginsFrom size found left now c) (left ≡ from) to new b) ((left ≡ from) × (new ≡ to)) from a

-- the second handle, which was empty, keeps the same pages then and has no turn, or there is no memory
abbrev pub SharesPages : Option Kept → Option Kept → Option Kept → Answer → Type 0
SharesPages from to new a =
    Asks 0 pages_in (λ p b. Fills 1 (λ now c. (KeepsFree p.turns now × (c ≡ done 0)) ⊎ ((now ≡ None) × (c ≡ bare out_of_memory 0))) (Unit {0}) to new b) (new ≡ to) from a

-- why turns are not ended, and what their handle keeps then: it saw that a page was not home; or another handle keeps a
-- share
abbrev pub IsLeft : TurnDesk → Paged → Answer → Type 0
IsLeft turns q a =
    ((k : ℕ) × (seen : Seen) × (q ≡ having turns (has.Sight seen)) × (k < turns.pages) × IsSeenAway turns.id k seen × (a ≡ bare not_home k))
    ⊎ ((q ≡ having turns has.Nothing) × (a ≡ bare still_shared 0))

-- The pages are gone, and the survey is back; or they stay.
abbrev pub EndsFree : TurnDesk → Option Kept → Option Kept → Answer → Type 0
EndsFree turns left now a =
    ((left ≡ None) × (survey_in now ≡ Some turns.found) × (a ≡ done 0))
    ⊎ ((now ≡ None) × ((q : Paged) × (pages_in left ≡ Some q) × IsLeft turns q a))

-- the same of a handle that may have a turn: then its page is not home, and nothing changes
abbrev pub EndsOf : Paged → Option Kept → Option Kept → Option Kept → Answer → Type 0
EndsOf p from left now a =
    MatchOption (turn_in p.has) (EndsFree p.turns left now a) (λ k. (left ≡ from) × (now ≡ None) × (a ≡ bare not_home k))

-- the same for what the handles keep
abbrev pub EndsPages : Option Kept → Option Kept → Option Kept → Option Kept → Answer → Type 0
EndsPages from left to new a =
    Asks 0 pages_in (λ p b. Fills 1 (λ now c. EndsOf p from left now c) (left ≡ from) to new b) ((left ≡ from) × (new ≡ to)) from a
