-- A page that a thread has and built.
use Rattle.std.specs.Prelude.{◌≡◌, ◌<◌}
use Rattle.first_touch.specs.Asked.{slid_page}
use Rattle.first_touch.specs.Seen.{BuiltPage}
use Rattle.first_touch.specs.Having.{HasPage}
use Rattle.first_touch.specs.declared.built.Taken.{Taken}

-- the page, as the thread knows it
abbrev pub as_built : Taken → BuiltPage
as_built taken = record {
  desk = record { asked = taken.seat.me.0.about; pages = taken.seat.table_id.words; id = taken.seat.table_id };
  page = taken.k;
  words = taken.page.now;
}

-- it has the page, whose words are those that slide there
pub record IsBuilt (taken : Taken) : Type 0 where
  pub inside : taken.k < taken.seat.table_id.words
  pub has : HasPage taken.seat.me.0.about taken.seat.table_id taken.k taken
  pub slid : taken.page.now ≡ slid_page taken.seat.me.0.about taken.k
