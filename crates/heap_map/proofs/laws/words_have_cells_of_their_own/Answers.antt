use Rattle.std.proofs.Common.{◌≡◌, ℕ, ◌/◌, ◌%◌, ap, arith}
use Rattle.heap_map.specs.declared.layout.Cell.{Cell}
use Rattle.heap_map.proofs.laws.words_have_cells_of_their_own.Goals as goal

pub returns : goal.returns
returns c = λ i j same.
    let columns : i % 64 ≡ j % 64 = ap (λ (cell : Cell). cell.column) same in
    let rows : i / 64 ≡ j / 64 = ap (λ (cell : Cell). cell.row) same in
    omega (arith, columns, rows)
