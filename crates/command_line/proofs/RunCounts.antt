-- The numbers of mutators and of fresh pages of `replay`, `race` and `next`, and of its workers.
use Rattle.std.proofs.Common.{ℕ, ◌≤◌, arith, codes}
use Rattle.std.specs.Prelude.{IfSome}
use Rattle.clap.specs.Words.{one_text}
use Rattle.clap.specs.declared.parser.matches.Found.{Found}
use Rattle.command_line.specs.Forms.{fresh, mutators, workers}
use Rattle.command_line.specs.Given.{IsNumber, IsNumberOr, Takes}
use Rattle.command_line.proofs.Found.{bounded_number, within_bounds}

module _ (f : Found) (fits : IfSome (one_text f (codes "mutators")) (Takes mutators.takes)) where
  -- what `--mutators` takes is a number
  pub mutators_number : IfSome (one_text f (codes "mutators")) (λ text. (n : ℕ) × IsNumber text n)
  mutators_number = bounded_number 1 64 (one_text f (codes "mutators")) fits

  -- the number of mutators is from 1 to 64
  pub mutators_within : (n : ℕ) → IsNumberOr 2 (one_text f (codes "mutators")) n → (1 ≤ n) × (n ≤ 64)
  mutators_within n h = within_bounds (one_text f (codes "mutators")) 2 1 64 n (omega arith) (omega arith) fits h

module _ (f : Found) (fits : IfSome (one_text f (codes "fresh")) (Takes fresh.takes)) where
  -- what `--fresh` takes is a number
  pub fresh_number : IfSome (one_text f (codes "fresh")) (λ text. (n : ℕ) × IsNumber text n)
  fresh_number = bounded_number 0 4096 (one_text f (codes "fresh")) fits

  -- there are at most 4,096 fresh pages
  pub fresh_within : (n : ℕ) → IsNumberOr 64 (one_text f (codes "fresh")) n → n ≤ 4096
  fresh_within n h = (within_bounds (one_text f (codes "fresh")) 64 0 4096 n (omega arith) (omega arith) fits h).1

module _ (f : Found) (fits : IfSome (one_text f (codes "workers")) (Takes workers.takes)) where
  -- what `--workers` takes is a number
  pub workers_number : IfSome (one_text f (codes "workers")) (λ text. (n : ℕ) × IsNumber text n)
  workers_number = bounded_number 1 64 (one_text f (codes "workers")) fits

  -- the number of workers is from 1 to 64
  pub workers_among : (n : ℕ) → IsNumberOr 2 (one_text f (codes "workers")) n → (1 ≤ n) × (n ≤ 64)
  workers_among n h = within_bounds (one_text f (codes "workers")) 2 1 64 n (omega arith) (omega arith) fits h
