-- The limits of all editions are those of edition three, or smaller.
use Rattle.std.proofs.Common.{ℕ, ◌+◌, ◌/◌, ◌^◌, ◌≤◌, arith}
use Rattle.heap_layout.specs.declared.edition.Edition.{Edition}
use Rattle.heap_layout.specs.declared.edition.Edition.TheVariants.{One, Two, Three, Four}
use Rattle.heap_layout.specs.Limits.{most_words, most_pages, most_fresh_pages, most_roots, most_object_words}

pub words_most : (edition : Edition) → most_words edition ≤ 2 ^ 31
words_most One = omega arith
words_most Two = omega arith
words_most Three = omega arith
words_most Four = omega arith

pub roots_most : (edition : Edition) → most_roots edition ≤ 2 ^ 20
roots_most One = omega arith
roots_most Two = omega arith
roots_most Three = omega arith
roots_most Four = omega arith

pub object_most : (edition : Edition) → most_object_words edition ≤ 2 ^ 31
object_most One = omega arith
object_most Two = omega arith
object_most Three = omega arith
object_most Four = omega arith

-- an object of 1,024 words is not too long
pub object_least : (edition : Edition) → 1024 ≤ most_object_words edition
object_least One = omega arith
object_least Two = omega arith
object_least Three = omega arith
object_least Four = omega arith

pub pages_most : (edition : Edition) → most_pages edition ≤ 2 ^ 25
pages_most One = omega arith
pages_most Two = omega arith
pages_most Three = omega arith
pages_most Four = omega arith

pub fresh_pages_most : (edition : Edition) → most_fresh_pages edition ≤ 2 ^ 20
fresh_pages_most One = omega arith
fresh_pages_most Two = omega arith
fresh_pages_most Three = omega arith
fresh_pages_most Four = omega arith

-- in every edition there may be 4,096 fresh pages
pub fresh_pages_least : (edition : Edition) → 4096 ≤ most_fresh_pages edition
fresh_pages_least One = omega arith
fresh_pages_least Two = omega arith
fresh_pages_least Three = omega arith
fresh_pages_least Four = omega arith

-- the words of a heap fill no more pages than there may be
pub pages_fit : (edition : Edition) (words : ℕ) → words ≤ most_words edition → (words + 63) / 64 ≤ most_pages edition
pages_fit One words few = omega arith
pages_fit Two words few = omega arith
pages_fit Three words few = omega arith
pages_fit Four words few = omega arith
