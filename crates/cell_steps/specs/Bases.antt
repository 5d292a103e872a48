-- The words that a page begins with, as a builder makes them anew.
use Rattle.std.specs.Prelude.{◌≡◌, ℕ, List, replicate, cond, nat_lt, Option, None, Some}
use Rattle.heap_layout.specs.Heap.{Heap, live}
use Rattle.page_plan.specs.Sliding as sliding
use Rattle.comp_journal.specs.Journal.{Journaled}
use Rattle.cell_steps.specs.View.{Slot}

-- the words that page p begins with: those that sliding the heap defines, or zeros if it comes after the slid words
abbrev pub base_in : Heap → ℕ → List ℕ
base_in heap p = cond (nat_lt p (sliding.pages (live heap))) (sliding.page (live heap) p) (replicate 64 0)

-- a page that was built began with the words that the heap defines for page p
abbrev pub HasBaseIn : Heap → ℕ → Slot → Type 0
HasBaseIn heap p None = Unit {0}
HasBaseIn heap p (Some page) = page.page.base ≡ base_in heap p

-- what a page began with, and all writes into it; None if it was never built
abbrev pub journaled : Slot → Option Journaled
journaled None = None
journaled (Some page) = Some page.page
