-- What contracts see of desks, of turns and of pages.
use Rattle.std.specs.Prelude.{◌≡◌, ◌≢◌, ℕ, Bool, true, List}
use Rattle.atomic_table.specs.Seated.{TableId}
use Rattle.rest_marks.specs.Places.{Found}
use Rattle.first_touch.specs.Asked.{Asked, slid_page}
use Rattle.first_touch.specs.Known.{Met}

-- of a desk: what slides there, in how many pages, and which table it is
pub record Desked : Type 0 where
  pub asked : Asked
  pub pages : ℕ
  pub id : TableId

-- of turns: what was found, how many words a page has, how many pages there are, and which table it is
pub record TurnDesk : Type 0 where
  pub found : Found
  pub size : ℕ
  pub pages : ℕ
  pub id : TableId

-- what slides there, out of these words
abbrev pub asked_of : TurnDesk → List ℕ → Asked
asked_of turns words = record { found = turns.found; words = words; size = turns.size }

-- which page it is: the table of its desk or of its turns, and its number
pub record PageId : Type 0 where
  pub desk : TableId
  pub page : ℕ

abbrev pub page_id : TableId → ℕ → PageId
page_id desk k = record { desk = desk; page = k }

-- the word of a page as a thread saw it at one of its steps, and whether the thread put the page back at this step: it
-- had the page till then, and has it no more
pub record Seen : Type 0 where
  pub desk : TableId
  pub page : ℕ
  pub word : ℕ
  pub put_back : Bool

abbrev pub seen_at : TableId → Met → Seen
seen_at desk met = record { desk = desk; page = met.page; word = met.word; put_back = met.put_back }

-- a thread saw that page k of the table of this name did not wait: another thread had it, or it was home
pub record IsSeenBusy (desk : TableId) (k : ℕ) (seen : Seen) : Type 0 where
  pub same : seen.desk ≡ desk
  pub page : seen.page ≡ k
  pub busy : seen.word ≢ 0

-- a thread saw that page k of the table of this name was not home
pub record IsSeenAway (desk : TableId) (k : ℕ) (seen : Seen) : Type 0 where
  pub same : seen.desk ≡ desk
  pub page : seen.page ≡ k
  pub away : seen.word ≢ 2

-- a thread put page k of the table of this name back, and saw that it waited
pub record IsPutBack (desk : TableId) (k : ℕ) (seen : Seen) : Type 0 where
  pub same : seen.desk ≡ desk
  pub page : seen.page ≡ k
  pub waits : seen.word ≡ 0
  pub put_back : seen.put_back ≡ true

-- of a page that was built: its desk, its number, and its words
pub record BuiltPage : Type 0 where
  pub desk : Desked
  pub page : ℕ
  pub words : List ℕ

-- page k of a desk, with the words that slide there
abbrev pub built_page : Desked → ℕ → BuiltPage
built_page desk k = record { desk = desk; page = k; words = slid_page desk.asked k }
