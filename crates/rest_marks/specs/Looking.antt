-- What the tables say of a word.
use Rattle.std.specs.Prelude.{ℕ, ◌+◌, ◌-◌, ◌^◌, ◌==◌, List, cond}
use Rattle.heap_layout.specs.declared.edition.Edition.{Edition}
use Rattle.heap_layout.specs.Bits.{bit}
use Rattle.heap_layout.specs.Values.{is_immediate}
use Rattle.mark_tables.specs.LiveWords.{live_below}
use Rattle.reachability.specs.Queue.{is_address}

-- where a reference to a live object leads after the collection, by the indices of the live words; an immediate stays
abbrev pub led_to : Edition → List ℕ → ℕ → ℕ
led_to edition indices reference =
    cond (is_immediate edition reference) reference (cond (reference == 0) 0 (2 ^ 32 + live_below indices (reference - 2 ^ 32)))

-- where any word leads after the collection: an immediate stays, and another word becomes null if it is not the address
-- of a live object, which `heads` says
abbrev pub kept_by : Edition → List ℕ → List ℕ → ℕ → ℕ
kept_by edition heads indices word =
    cond (is_immediate edition word) word (cond (is_address (bit heads) word) (2 ^ 32 + live_below indices (word - 2 ^ 32)) 0)
