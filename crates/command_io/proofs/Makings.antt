-- Files that are not made; and dumps that have the same parts.
use Rattle.std.proofs.Common.{◌≡◌, ℕ, List, Option}
use Rattle.heap_layout.specs.declared.edition.Edition.{Edition}
use Rattle.comp_dump.specs.Dumped.{BuiltPage, Dumped}

-- dumps that have the same parts are the same
pub same_parts : (e e' : Edition) (m m' n n' t t' : ℕ) (r r' : List ℕ) (p p' : List (Option BuiltPage)) (b b' : List (List ℕ))
    → e ≡ e' → m ≡ m' → n ≡ n' → r ≡ r' → p ≡ p' → b ≡ b' → t ≡ t'
    → (let one : Dumped = record { edition = e; mutators = m; fresh = n; roots = r; pages = p; builds = b; total = t } in
    let other : Dumped = record { edition = e'; mutators = m'; fresh = n'; roots = r'; pages = p'; builds = b'; total = t' } in one ≡ other)
same_parts e e' m m' n n' t t' r r' p p' b b' ee em en er ep eb et = cc
