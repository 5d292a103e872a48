-- Words that are listed, in rising order.
use Rattle.std.proofs.Common.{◌≡◌, ◌≢◌, ℕ, ◌<◌, ◌≤◌, ◌⊎◌, ◌==◌, Bool, true, false, List, length, get_or, inl, inr, sym, ap, subst, ◌∙◌, arith}
use Rattle.std.specs.List.Sorted.{IsNonDecreasing, IsPermutation}
use Rattle.std.proofs.lemmas.Bool.{cases_Bool, cases_lt}
use Rattle.std.proofs.lemmas.List.Sorted.{list_any-IsPermutation}
use mathlib.Core.Path.{fun_ext}
use Rattle.heap_layout.specs.declared.edition.Edition.{Edition}
use Rattle.heap_layout.specs.Header.{refs_of, weak_of}
use Rattle.heap_layout.specs.Heap.{header_at}
use Rattle.reachability.specs.Queue.{has}
use Rattle.reachability.proofs.Queues.{place-of}
use Rattle.rest_marks.specs.declared.fault.SurveyFault.TheVariants as survey
use Rattle.young_heap.specs.Cards.{IsOwner}
use Rattle.young_heap.specs.Listing.{IsField, IsListedAmiss}
use Rattle.young_heap.specs.Tables.{AreFitting, IsFaultBy, IsListFault, RefusesRoom, RefusesYoungBy, Watermarked}
use Rattle.young_heap.specs.Young.{AreOld}
use Rattle.young_heap.specs.declared.remembering.Owner.{Owner}
use Rattle.young_heap.specs.declared.fault.YoungFault.{YoungFault}
use Rattle.young_heap.specs.declared.fault.YoungFault.TheVariants.{TooLarge, ShortTables, FewWords, FewCards, NotAField, Survey}
use Rattle.young_heap.proofs.Gathering.{owner-is}

-- in whatever order they are listed
pub listed-alike : (list sorted : List ℕ) → IsPermutation list sorted → has list ≡ has sorted
listed-alike list sorted moved = fun_ext (λ i. list_any-IsPermutation (λ j. i == j) list sorted moved)

-- between those before and the next one none is listed
pub none-listed : (list : List ℕ) → IsNonDecreasing list → (k next : ℕ) → ((m : ℕ) → m < k → get_or list m 0 < next) → (i : ℕ) → next ≤ i
    → (k < length list → i < get_or list k 0) → has list i ≡ false
none-listed list rises k next before i from to = elim (cases_Bool (has list i)) [
  | inr none ↦ none
  | inl there ↦ absurd (
      let at = place-of list i there in
      elim (cases_lt at.0 k) [
        | inl earlier ↦ (let low = before at.0 earlier in omega (arith, low, at.2, from))
        | inr later ↦ (let up = rises k at.0 0 later at.1 in let high = to (omega (arith, later, at.1)) in omega (arith, up, high, at.2))
      ])
]

module _ (edition : Edition) (words starts : List ℕ) (old : ℕ) where
  -- a word behind the watermark is none of an old object
  pub behind-amiss : (list : List ℕ) (j : ℕ) → has list j ≡ true → old ≤ j → IsListedAmiss edition words starts old list j
  behind-amiss list j listed past = (
    listed,
    λ row field.
        let inside = row.inside field.0 field.1 field.2 in
        omega (arith, inside, field.4, past),
  )

  -- nor is one of its owner that is neither a reference nor a weak word
  pub owner-amiss : (list : List ℕ) (owner : Owner) (j : ℕ) → has list j ≡ true → (AreOld edition words starts old → IsOwner edition words starts old owner j)
      → (AreOld edition words starts old → j < owner.end) → (j ≤ owner.start) ⊎ (owner.last_weak < j) → IsListedAmiss edition words starts old list j
  owner-amiss list owner j listed owner_is inside out = (
    listed,
    λ row field.
        let is = owner_is row in
        let i = field.0 in
        let own = owner-is edition words starts old row owner j i is (inside row) field.1 field.2 (omega (arith, field.3)) (omega (arith, field.4)) in
        let refs = ap (λ (n : ℕ). refs_of (header_at edition words n)) own in
        let weak = ap (λ (n : ℕ). weak_of (header_at edition words n)) own in
        elim out [
          | inl before ↦ omega (arith, before, own, field.3)
          | inr behind ↦ omega (arith, behind, own, field.4, refs, weak, is.last_ref, is.last_weak)
        ],
  )

  -- one that is either is a field
  pub owner-field : (owner : Owner) (j : ℕ) → IsOwner edition words starts old owner j → owner.start < j → j ≤ owner.last_weak → IsField edition words starts old j
  owner-field owner j is from to = (owner.start, is.low, is.start, from, omega (arith, to, is.last_ref, is.last_weak))

-- why no collection begins is why one by a list is refused
pub room-listed : (edition : Edition) (words roots : List ℕ) (tables : Watermarked) (list : List ℕ) (fault : YoungFault)
    → RefusesRoom edition words roots tables.room fault → RefusesYoungBy edition words roots tables list fault
room-listed edition words roots tables list TooLarge is = is
room-listed edition words roots tables list (ShortTables most) is = is
room-listed edition words roots tables list (FewWords old) is = absurd is
room-listed edition words roots tables list (FewCards count) is = absurd is
room-listed edition words roots tables list (NotAField k) is = absurd is
room-listed edition words roots tables list (Survey fault) is = absurd is

-- and so is a fault of the words that are listed
pub fault-listed : (edition : Edition) (words roots : List ℕ) (tables : Watermarked) (list sorted : List ℕ) → has list ≡ has sorted
    → AreFitting edition words roots tables.room → tables.watermark ≤ length words → (fault : YoungFault) → fault ≢ Survey survey.OutOfMemory
    → IsListFault edition words roots tables.starts tables.watermark sorted fault → RefusesYoungBy edition words roots tables list fault
fault-listed edition words roots tables list sorted same fitting within TooLarge never is = absurd is
fault-listed edition words roots tables list sorted same fitting within (ShortTables most) never is = absurd is
fault-listed edition words roots tables list sorted same fitting within (FewWords old) never is = absurd is
fault-listed edition words roots tables list sorted same fitting within (FewCards count) never is = absurd is
fault-listed edition words roots tables list sorted same fitting within (NotAField k) never is =
    (fitting, within, (ap (λ (p : ℕ → Bool). p k) same ∙ is.0, is.1))
fault-listed edition words roots tables list sorted same fitting within (Survey fault) never is = (
  fitting,
  within,
  subst (λ (p : ℕ → Bool). AreOld edition words tables.starts tables.watermark → (k : ℕ) → p k ≡ true → IsField edition words tables.starts tables.watermark k) (sym same) is.0,
  subst (λ (p : ℕ → Bool). IsFaultBy edition words roots tables.starts tables.watermark p fault) (sym same) is.1,
  (λ out. never (ap Survey out)),
)
