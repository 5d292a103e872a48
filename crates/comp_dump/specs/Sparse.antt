-- Pages in the memory of a dump: those that were built, each with its number. A page without one was never built.
use Rattle.std.specs.Prelude.{◌≡◌, ℕ, ◌<◌, ◌==◌, List, [], ◌∷◌, length, map, slice_index, Option, Some, None, if◌then◌else◌}
use Rattle.std.specs.List.{range_with_len}
use Rattle.comp_dump.specs.Dumped.{BuiltPage}

-- the page that has this number
abbrev pub numbered : List ℕ → List BuiltPage → ℕ → Option BuiltPage
numbered [] pages p = None
numbered (number ∷ numbers) [] p = None
numbered (number ∷ numbers) (page ∷ pages) p = if number == p then Some page else numbered numbers pages p

-- all pages below `count`, by number
unfoldable pub spread : ℕ → List ℕ → List BuiltPage → List (Option BuiltPage)
spread count numbers pages = map (numbered numbers pages) (range_with_len 0 count)

abbrev pub AreRising : List ℕ → Type 0
AreRising numbers = (i j : ℕ) → i < j → j < length numbers → slice_index numbers i < slice_index numbers j

-- each page has a number, the numbers rise, and all are below `count`
pub record AreNumbered (count : ℕ) (numbers : List ℕ) (pages : List BuiltPage) : Type 0 where
  pub long : length numbers ≡ length pages
  pub rising : AreRising numbers
  pub below : (i : ℕ) → i < length numbers → slice_index numbers i < count
