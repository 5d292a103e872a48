-- A watermark that is raised, by a handle.
use Rattle.std.specs.Prelude.{◌≡◌, ℕ, ◌<◌, ◌≤◌, ◌⊎◌, true, List}
use Rattle.heap_layout.specs.declared.edition.Edition.{Edition}
use Rattle.heap_layout.specs.Bits.{bit}
use Rattle.young_heap.specs.Raising.{AreRaisable, RefusesRaise}
use Rattle.young_heap.specs.Rows.{IsInRow}
use Rattle.young_heap.specs.Tables.{Watermarked}
use Rattle.young_heap.specs.Young.{AreKeptBelow, AreOld}
use Rattle.young_heap.specs.declared.fault.RaiseFault.{RaiseFault}
use Rattle.young_heap.specs.declared.fault.RaiseFault.TheVariants as raise
use Rattle.handle_base.specs.Answers.{bare, done}
use Rattle.handle_base.specs.Statuses.{below_watermark, few_words, not_a_row, short_tables, too_large}
use Rattle.rest_handle.specs.Resting.{OfEdition}
use Rattle.handle_base.specs.declared.answer.Answer.{Answer}

-- a watermark was not raised
abbrev pub of_raise : RaiseFault → Answer
of_raise raise.TooLarge = bare too_large 0
of_raise (raise.ShortTables room) = bare short_tables room
of_raise (raise.FewWords end) = bare few_words end
of_raise (raise.BelowWatermark watermark) = bare below_watermark watermark
of_raise (raise.NotARow i) = bare not_a_row i

-- The watermark went up to word `end`, and of the objects that became old the bits of the first words are set, and no
-- others there. Whatever was old is so still.
pub record AreRaised (edition : Edition) (words : List ℕ) (end : ℕ) (t u : Watermarked) : Type 0 where
  pub raisable : AreRaisable edition words t end
  pub watermark : u.watermark ≡ end
  pub survived : u.survived ≡ end
  pub old : AreOld edition words t.starts t.watermark → AreOld edition words u.starts end
  pub starts : (j : ℕ) → t.watermark ≤ j → j < end → bit u.starts j ≡ true
      → IsInRow edition words end t.watermark j
  pub all : (j : ℕ) → IsInRow edition words end t.watermark j → bit u.starts j ≡ true
  pub starts_stay : AreKeptBelow t.watermark t.starts u.starts
  pub room : u.room ≡ t.room

-- It went up, and the answer has it; or it cannot, the tables are as they were, and the answer says why.
abbrev pub RaisesOf : Edition → List ℕ → ℕ → Watermarked → Watermarked → Answer → Type 0
RaisesOf edition words end t u a =
    ((a ≡ done end) × AreRaised edition words end t u)
    ⊎ ((u ≡ t) × (AreRaisable edition words t end → ⊥)
    × ((fault : RaiseFault) × (a ≡ of_raise fault) × RefusesRaise edition words t end fault))

-- words of edition n, or there is no such edition
abbrev pub Raises : ℕ → List ℕ → ℕ → Watermarked → Watermarked → Answer → Type 0
Raises n words end t u a = OfEdition n (λ edition. RaisesOf edition words end t u a) (u ≡ t) a
