use Rattle.std.proofs.Common.{◌≡◌, bit_and, inl, inr, w64, arith}
use Rattle.std.specs.Int.{bit_at, bit_not}
use Rattle.std.proofs.lemmas.Bool.{cases_eq}
use Rattle.std.proofs.lemmas.Nat.Bits.{bit_at_and, bit_at_or, bit_at_not, bit_at-lt}
use Rattle.rest_marks.proofs.runs.odd_words.Goals as goal

pub returns-clause-odd : goal.returns-clause-odd
returns-clause-odd c = λ k lt one.
    let head = c.args.head in
    let block = c.args.block in
    let behind = c.args.behind in
    let dead = bit_and head (bit_not w64 block) in
    let live = bit_and block (bit_not w64 head) in
    let lone = bit_and live (bit_not w64 behind) in
    elim (cases_eq (bit_at dead k) 1) [
      | inl is ↦ inl (omega (arith, is, bit_at_and head (bit_not w64 block) k, bit_at_not w64 block k (omega arith) (omega (arith, lt)), bit_at-lt block k, bit_at-lt head k))
      | inr other ↦ (
          let set : bit_at lone k ≡ 1 = omega (arith, other, one, bit_at_or dead lone k, bit_at-lt dead k, bit_at-lt lone k) in
          inr (
            omega (arith, set, bit_at_and live (bit_not w64 behind) k, bit_at_and block (bit_not w64 head) k, bit_at_not w64 head k (omega arith) (omega (arith, lt)), bit_at-lt block k, bit_at-lt head k, bit_at-lt live k),
            omega (arith, set, bit_at_and live (bit_not w64 behind) k, bit_at_not w64 behind k (omega arith) (omega (arith, lt)), bit_at-lt behind k),
          ))
    ]

pub returns-clause-live : goal.returns-clause-live
returns-clause-live c = λ k lt none.
    let head = c.args.head in
    let block = c.args.block in
    let dead = bit_and head (bit_not w64 block) in
    let lone = bit_and (bit_and block (bit_not w64 head)) (bit_not w64 c.args.behind) in
    omega (arith, none, bit_at_or dead lone k, bit_at_and head (bit_not w64 block) k, bit_at_not w64 block k (omega arith) (omega (arith, lt)), bit_at-lt block k, bit_at-lt head k)

pub returns-clause-begun : goal.returns-clause-begun
returns-clause-begun c = λ k lt none.
    let head = c.args.head in
    let block = c.args.block in
    let behind = c.args.behind in
    let dead = bit_and head (bit_not w64 block) in
    let live = bit_and block (bit_not w64 head) in
    let lone = bit_and live (bit_not w64 behind) in
    elim (cases_eq (bit_at behind k) 1) [
      | inl is ↦ inr is
      | inr other ↦ inl (
          let unset : bit_at lone k ≡ 0 = omega (arith, none, bit_at_or dead lone k) in
          let dull : bit_at live k ≡ 0 = omega (arith, unset, other, bit_at_and live (bit_not w64 behind) k, bit_at_not w64 behind k (omega arith) (omega (arith, lt)), bit_at-lt behind k, bit_at-lt live k) in
          omega (arith, dull, bit_at_and block (bit_not w64 head) k, bit_at_not w64 head k (omega arith) (omega (arith, lt)), bit_at-lt block k, bit_at-lt head k))
    ]
