-- When a ledger is gathered without refusal.
use Rattle.std.proofs.Common.{◌≡◌, ℕ, ◌+◌, ◌≤◌, List, map, sum, sym, ◌∙◌, subst, arith}
use mathlib.Core.Option.{some}
use lib.ListN.{get_elem?}
use Rattle.page_cells.proofs.Rows.{at_map, at_map_back}
use Rattle.comp_access.proofs.HandRows.{at_some}
use Rattle.comp_ledger.specs.Ledgers.{live_of, capacity_of, share_count, GatherRefused}
use Rattle.comp_ledger.specs.Shares.{numbers_of, total_posted, NoneMissing}
use Rattle.comp_ledger.specs.Shares.{number_of as number_of_share}
use Rattle.comp_ledger.specs.declared.ledger.Ledger.{Ledger}
use Rattle.comp_ledger.specs.declared.share.Share.{Share}
use Rattle.comp_ledger.specs.declared.fault.LedgerFault.{LedgerFault}
use Rattle.comp_ledger.specs.declared.fault.LedgerFault.TheVariants.{OverCapacity, ShareMissing}
use Rattle.comp_mutator.specs.Orders.{number_of_mutator, IsInOrder}
use Rattle.comp_mutator.specs.declared.mutator.Mutator.{Mutator}

-- the shares of mutators in order are all there
pub has_all : {L : Type 0} (given row : List (Mutator L)) (n : ℕ) → IsInOrder n given row → (shares : List (Share L)) → numbers_of shares ≡ map number_of_mutator row → NoneMissing n shares
has_all {L} given row n is_row shares e k lt =
    let m = at_some row k (omega (arith, is_row.count, lt)) in
    let there = subst (λ (l : List ℕ). get_elem? l k ≡ some (number_of_mutator m.0)) (sym e) (at_map number_of_mutator row k m.0 m.1) in
    let share = at_map_back number_of_share shares k (number_of_mutator m.0) there in
    (share.0, (k, share.1), share.2 ∙ is_row.numbers k m.0 m.1)

-- a ledger is gathered without refusal if all shares are there and the words fit
pub not_refused : {L : Type 0} (ledger : Ledger L) (shares : List (Share L)) (last : List ℕ) (fault : LedgerFault) → GatherRefused ledger shares last fault → NoneMissing (share_count ledger) shares
    → live_of ledger + total_posted shares + sum last ≤ capacity_of ledger → ⊥
not_refused ledger shares last OverCapacity h all fits = omega (arith, h.1, fits)
not_refused ledger shares last (ShareMissing k) h all fits = h.missing (all k h.below)
