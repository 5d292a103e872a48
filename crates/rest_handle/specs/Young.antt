-- Young collections by handles: by tables that know a watermark.
use Rattle.std.specs.Prelude.{◌≡◌, ℕ, ◌<◌, ◌≤◌, ◌⊎◌, Bool, true, false, List, [], length, slice_index, Option, None, Some}
use Rattle.std.specs.List.Sorted.{IsPermutation}
use Rattle.heap_layout.specs.declared.edition.Edition.{Edition}
use Rattle.reachability.specs.Queue.{has}
use Rattle.stopped_heap.specs.Collecting.{HasCollected}
use Rattle.young_heap.specs.Aging.{IsAgingCollected, RefusesAging}
use Rattle.young_heap.specs.Cards.{is_dirty, AreCleanCards, AreUnasked}
use Rattle.young_heap.specs.Dirty.{AreMade}
use Rattle.young_heap.specs.Listing.{AreFields}
use Rattle.young_heap.specs.OldFaults.{IsOldFaultOf}
use Rattle.young_heap.specs.Tables.{IsCollectedBy, RefusesAll, RefusesYoung, RefusesYoungBy, Watermarked}
use Rattle.young_heap.specs.Young.{is_below_led, AreKeptBelow, AreOld, AreRemembered}
use Rattle.young_heap.specs.declared.fault.OldFault.{OldFault}
use Rattle.young_heap.specs.declared.fault.OldFault.TheVariants as unkept
use Rattle.young_heap.specs.declared.fault.YoungFault.{YoungFault}
use Rattle.young_heap.specs.declared.fault.YoungFault.TheVariants as young
use Rattle.handle_base.specs.Answers.{bare, done, of_survey}
use Rattle.handle_base.specs.Statuses.{few_cards, few_words, leads_above, not_a_field, not_a_row, out_of_memory, short_tables, too_large}
use Rattle.handle_base.specs.HandleKinds.{old_in, Asks}
use Rattle.rest_handle.specs.Resting.{OfEdition}
use Rattle.handle_base.specs.declared.answer.Answer.{Answer}
use Rattle.handle_base.specs.declared.kept.Kept.{Kept}

-- a heap was not collected by tables with a watermark
abbrev pub of_young : YoungFault → Answer
of_young young.TooLarge = bare too_large 0
of_young (young.ShortTables room) = bare short_tables room
of_young (young.FewWords watermark) = bare few_words watermark
of_young (young.FewCards count) = bare few_cards count
of_young (young.NotAField i) = bare not_a_field i
of_young (young.Survey fault) = of_survey fault

-- the words below the watermark are not as they have to be kept
abbrev pub of_old : OldFault → Answer
of_old (unkept.NotARow i) = bare not_a_row i
of_old (unkept.LeadsAbove i) = bare leads_above i

-- P of the tables that the handle keeps before and after; or it keeps none, and stays, and R
abbrev pub ChangesOld : (Watermarked → Watermarked → Answer → Type 0) → Type 0 → Option Kept → Option Kept → Answer → Type 0
ChangesOld P R from left a = Asks 0 old_in (λ t b. (u : Watermarked) × (old_in left ≡ Some u) × P t u b) ((left ≡ from) × R) from a

-- the handle keeps tables with room for so many words, and watermark 0; or there is no memory
abbrev pub ReservesOld : ℕ → Option Kept → Answer → Type 0
ReservesOld words now a =
    ((t : Watermarked) × (old_in now ≡ Some t) × (t.room ≡ words) × (t.watermark ≡ 0) × (t.survived ≡ 0) × (a ≡ done 0))
    ⊎ ((now ≡ None) × (a ≡ bare out_of_memory 0))

-- the answer has the watermark
abbrev pub SaysWatermark : Watermarked → Answer → Type 0
SaysWatermark t a = a ≡ done t.watermark

-- The whole heap was collected within its words; all that lives is old then, and leads to old objects alone.
pub record HasCollectedAll (edition : Edition) (before after roots new_roots : List ℕ) (t u : Watermarked) (live : ℕ) : Type 0 where
  pub collected : HasCollected edition before roots live new_roots before after
  pub watermark : u.watermark ≡ live
  pub survived : u.survived ≡ live
  pub old : AreOld edition after u.starts live
  pub remembered : AreRemembered edition after u.starts live [] []
  pub order : live ≤ length before
  pub room : u.room ≡ t.room

-- It was, and the answer has its live words; or words, roots and tables are as they were, and the answer says why.
abbrev pub CollectsAllOf : Edition → List ℕ → List ℕ → List ℕ → List ℕ → Watermarked → Watermarked → Answer → Type 0
CollectsAllOf edition before after roots new_roots t u a =
    ((live : ℕ) × (a ≡ done live) × HasCollectedAll edition before after roots new_roots t u live)
    ⊎ ((after ≡ before) × (new_roots ≡ roots) × (u ≡ t) × ((fault : YoungFault) × (a ≡ of_young fault) × RefusesAll edition before roots t.room fault))

-- a heap of edition n, or there is no such edition
abbrev pub CollectsAll : ℕ → List ℕ → List ℕ → List ℕ → List ℕ → Watermarked → Watermarked → Answer → Type 0
CollectsAll n before after roots new_roots t u a =
    OfEdition n (λ edition. CollectsAllOf edition before after roots new_roots t u a) ((after ≡ before) × (new_roots ≡ roots) × (u ≡ t)) a

-- X, if the mutators kept what a young collection believes: no header of an old object changed, and each reference and
-- weak word of an old object that is not asked for, by its card or by a list, leads below the watermark
abbrev pub IfKept : Edition → List ℕ → Watermarked → (ℕ → Bool) → Type 0 → Type 0
IfKept edition words t asked X =
    AreOld edition words t.starts t.watermark → AreUnasked edition words t.starts t.watermark asked → X

-- What is young was collected within the words, by what is asked for. If the mutators kept what is believed, it was
-- collected rightly, and all that lives is old then, and leads to old objects alone. Whatever they did: of the words
-- below the watermark only those changed that are asked for and do not lead below.
pub record HasCollectedAsked (edition : Edition) (before after : List ℕ) (asked : ℕ → Bool) (roots new_roots : List ℕ)
    (t u : Watermarked) (live : ℕ) : Type 0 where
  pub collected : IfKept edition before t asked
      (IsCollectedBy edition before roots t.starts t.watermark asked live new_roots after)
  pub watermark : u.watermark ≡ live
  pub survived : u.survived ≡ live
  pub old : IfKept edition before t asked (AreOld edition after u.starts live)
  pub remembered : IfKept edition before t asked (AreRemembered edition after u.starts live [] [])
  pub order : (t.watermark ≤ live) × (live ≤ length before)
  pub unasked_stay : (j : ℕ) → j < t.watermark → asked j ≡ false → slice_index after j ≡ slice_index before j
  pub below_stay : (j : ℕ) → j < t.watermark
      → is_below_led edition t.starts t.watermark (slice_index before j) ≡ true
      → slice_index after j ≡ slice_index before j
  pub starts_stay : AreKeptBelow t.watermark t.starts u.starts
  pub room : u.room ≡ t.room

-- the room of the tables, their watermark, how many words the last collection left, and where old objects start are as
-- they were
pub record AreAsBefore (t u : Watermarked) : Type 0 where
  pub room : u.room ≡ t.room
  pub watermark : u.watermark ≡ t.watermark
  pub survived : u.survived ≡ t.survived
  pub starts : AreKeptBelow t.watermark t.starts u.starts

-- It was collected by cards, and the answer has the words that are there then; or words, roots and tables are as they
-- were, and the answer says why.
abbrev pub CollectsYoungOf : Edition → List ℕ → List ℕ → List ℕ → List ℕ → List ℕ → Watermarked → Watermarked → Answer → Type 0
CollectsYoungOf edition before after cards roots new_roots t u a =
    ((live : ℕ) × (a ≡ done live) × HasCollectedAsked edition before after (is_dirty cards) roots new_roots t u live)
    ⊎ ((after ≡ before) × (new_roots ≡ roots) × AreAsBefore t u × ((fault : YoungFault) × (a ≡ of_young fault) × RefusesYoung edition before roots t cards fault))

-- a heap of edition n, or there is no such edition
abbrev pub CollectsYoung : ℕ → List ℕ → List ℕ → List ℕ → List ℕ → List ℕ → Watermarked → Watermarked → Answer → Type 0
CollectsYoung n before after cards roots new_roots t u a =
    OfEdition n (λ edition. CollectsYoungOf edition before after cards roots new_roots t u a) ((after ≡ before) × (new_roots ≡ roots) × (u ≡ t)) a

-- It was collected by a list, all of which are references and weak words of old objects, or refused, as by cards. The
-- list is in some order then, `sorted`.
abbrev pub CollectsYoungByOf : Edition → List ℕ → List ℕ → List ℕ → List ℕ → List ℕ → List ℕ → Watermarked → Watermarked → Answer → Type 0
CollectsYoungByOf edition before after list sorted roots new_roots t u a =
    IsPermutation list sorted
    × (((live : ℕ) × (a ≡ done live) × HasCollectedAsked edition before after (has list) roots new_roots t u live
    × (AreOld edition before t.starts t.watermark → AreFields edition before t.starts t.watermark list))
    ⊎ ((after ≡ before) × (new_roots ≡ roots) × AreAsBefore t u × ((fault : YoungFault) × (a ≡ of_young fault) × RefusesYoungBy edition before roots t list fault)))

-- a heap of edition n, or there is no such edition
abbrev pub CollectsYoungBy : ℕ → List ℕ → List ℕ → List ℕ → List ℕ → List ℕ → List ℕ → Watermarked → Watermarked → Answer → Type 0
CollectsYoungBy n before after list sorted roots new_roots t u a =
    OfEdition n (λ edition. CollectsYoungByOf edition before after list sorted roots new_roots t u a) ((after ≡ before) × (sorted ≡ list) × (new_roots ≡ roots) × (u ≡ t)) a

-- What is young was collected by cards, but the new watermark parts the objects that the last collection left from
-- those that were allocated since, which stay young; and the cards, `made`, are made anew: if the mutators kept what is
-- believed, just those are dirty that have a word of an old object that does not lead below.
pub record HasAged (edition : Edition) (before after cards made roots new_roots : List ℕ) (t u : Watermarked)
    (live : ℕ) : Type 0 where
  pub collected : IfKept edition before t (is_dirty cards)
      (IsCollectedBy edition before roots t.starts t.watermark (is_dirty cards) live new_roots after)
  pub aged : IfKept edition before t (is_dirty cards)
      (IsAgingCollected edition before roots t cards live u.watermark new_roots after)
  pub watermark : (t.watermark ≤ u.watermark) × (u.watermark ≤ t.survived)
  pub survived : u.survived ≡ live
  pub old : IfKept edition before t (is_dirty cards) (AreOld edition after u.starts u.watermark)
  pub remade : IfKept edition before t (is_dirty cards) (AreMade edition after u.starts u.watermark made)
  pub clean : IfKept edition before t (is_dirty cards) (AreCleanCards edition after u.starts u.watermark made)
  pub order : (u.watermark ≤ live) × (live ≤ length before)
  pub clean_stay : (j : ℕ) → j < t.watermark → is_dirty cards j ≡ false → slice_index after j ≡ slice_index before j
  pub below_stay : (j : ℕ) → j < t.watermark
      → is_below_led edition t.starts t.watermark (slice_index before j) ≡ true
      → slice_index after j ≡ slice_index before j
  pub starts_stay : AreKeptBelow t.watermark t.starts u.starts
  pub room : u.room ≡ t.room

-- It was collected so, and the answer has the words that are there then; or words, cards, roots and tables are as they
-- were, and the answer says why.
abbrev pub CollectsAgingOf : Edition → List ℕ → List ℕ → List ℕ → List ℕ → List ℕ → List ℕ → Watermarked → Watermarked → Answer → Type 0
CollectsAgingOf edition before after cards made roots new_roots t u a =
    ((live : ℕ) × (a ≡ done live) × HasAged edition before after cards made roots new_roots t u live)
    ⊎ ((after ≡ before) × (made ≡ cards) × (new_roots ≡ roots) × AreAsBefore t u × ((fault : YoungFault) × (a ≡ of_young fault) × RefusesAging edition before roots t cards fault))

-- a heap of edition n, or there is no such edition
abbrev pub CollectsAging : ℕ → List ℕ → List ℕ → List ℕ → List ℕ → List ℕ → List ℕ → Watermarked → Watermarked → Answer → Type 0
CollectsAging n before after cards made roots new_roots t u a =
    OfEdition n (λ edition. CollectsAgingOf edition before after cards made roots new_roots t u a) ((after ≡ before) × (made ≡ cards) × (new_roots ≡ roots) × (u ≡ t)) a

-- The mutators kept what a young collection by these cards believes; or they did not, and the answer has a fault that
-- is there.
abbrev pub ChecksOldOf : Edition → List ℕ → List ℕ → Watermarked → Answer → Type 0
ChecksOldOf edition words cards t a =
    ((a ≡ done 0) × AreOld edition words t.starts t.watermark × AreCleanCards edition words t.starts t.watermark cards)
    ⊎ (IfKept edition words t (is_dirty cards) ⊥ × ((fault : OldFault) × (a ≡ of_old fault) × IsOldFaultOf edition words t.starts t.watermark cards fault))

-- words of edition n, or there is no such edition
abbrev pub ChecksOld : ℕ → List ℕ → List ℕ → Watermarked → Answer → Type 0
ChecksOld n words cards t a = OfEdition n (λ edition. ChecksOldOf edition words cards t a) (Unit {0}) a
