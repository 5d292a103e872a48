-- Why a page is refused.
use Rattle.std.proofs.Common.{◌≡◌, ℕ, ◌*◌, List, subst}
use Rattle.rest_marks.specs.Places.{Found, IsSlideFault}
use Rattle.rest_marks.specs.declared.fault.SlideFault.{SlideFault}
use Rattle.first_touch.specs.Asked.{Asked, page_len, IsPageFault}

-- a fault of the part that is page k
pub page-fault : (asked : Asked) (k first count : ℕ) (found : Found) (words : List ℕ) (fault : SlideFault) → found ≡ asked.found → words ≡ asked.words → first ≡ k * asked.size
    → count ≡ page_len asked k → IsSlideFault found words first count fault → IsPageFault asked k fault
page-fault asked k first count found words fault found_is words_is begins counted is =
    subst (λ (f : Found). IsSlideFault f asked.words (k * asked.size) (page_len asked k) fault) found_is
    (subst (λ (ws : List ℕ). IsSlideFault found ws (k * asked.size) (page_len asked k) fault) words_is
    (subst (λ (n : ℕ). IsSlideFault found words n (page_len asked k) fault) begins
    (subst (λ (n : ℕ). IsSlideFault found words first n fault) counted is)))
