-- How often lists of builds name a page.
use Rattle.std.proofs.Common.{◌≡◌, ℕ, suc, ◌+◌, ◌<◌, min, List, drop, length, get_or, sym, ap, ◌∙◌, arith}
use Rattle.std.proofs.Math.Seq.{drop-cons}
use Rattle.comp_history.specs.Lists.{times}
use Rattle.comp_history.specs.Builds.{named}

-- one more list was counted
pub list_counted : (p : ℕ) (lists : List (List ℕ)) (i : ℕ) (d list : List ℕ) (old new all : ℕ) → i < length lists → list ≡ get_or lists i d
    → new ≡ min (old + times p list) 2 → min (old + named p (drop i lists)) 2 ≡ all → min (new + named p (drop (i + 1) lists)) 2 ≡ all
list_counted p lists i d list old new all inside is one before =
    let next : i + 1 ≡ suc i = omega arith in
    let parts : named p (drop i lists) ≡ times p list + named p (drop (i + 1) lists) =
    ap (named p) (drop-cons lists i d inside)
    ∙ ap (λ (l : List ℕ). times p l + named p (drop (suc i) lists)) (sym is)
    ∙ ap (λ (k : ℕ). times p list + named p (drop k lists)) (sym next) in
    omega (arith, parts, one, before)
