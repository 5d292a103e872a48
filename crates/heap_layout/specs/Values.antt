-- What a root, a reference or a weak word may be besides null and the address of an object. In edition four it may be
-- an immediate: a word with its top bit set, which leads nowhere. The other editions have no immediates.
use Rattle.std.specs.Prelude.{◌≡◌, ℕ, ◌^◌, ◌==◌, ◌||◌, Bool, true, false, nat_le}
use Rattle.heap_layout.specs.declared.edition.Edition.{Edition}
use Rattle.heap_layout.specs.declared.edition.Edition.TheVariants.{One, Two, Three, Four}

abbrev pub is_immediate : Edition → ℕ → Bool
is_immediate One word = false
is_immediate Two word = false
is_immediate Three word = false
is_immediate Four word = nat_le (2 ^ 63) word

abbrev pub IsImmediate : Edition → ℕ → Type 0
IsImmediate edition word = is_immediate edition word ≡ true

-- whether a word is an immediate or passes the test
abbrev pub or_immediate : Edition → (ℕ → Bool) → ℕ → Bool
or_immediate edition test word = is_immediate edition word || test word

-- whether a root, a reference or a weak word leads to no object: it is null or an immediate
abbrev pub leads_nowhere : Edition → ℕ → Bool
leads_nowhere edition word = (word == 0) || is_immediate edition word

abbrev pub LeadsNowhere : Edition → ℕ → Type 0
LeadsNowhere edition word = leads_nowhere edition word ≡ true
