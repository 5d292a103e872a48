-- Runs at the front of a buffer, each by its two ends.
use Rattle.std.proofs.Common.{◌≡◌, ℕ, ◌+◌, ◌*◌, ◌<◌, ◌≤◌, List, [], ◌∷◌, ◌++◌, length, take, drop, get_or, set, sym, ap, ◌∙◌, arith, length-append, length-drop, append-nil}
use Rattle.std.specs.List.{flat_map}
use Rattle.std.proofs.lemmas.List.{append_assoc, drop-drop, length-take-le, length_push, set_at, take_more}
use Rattle.std.proofs.lemmas.List.Concat.{flat_map-append}
use Rattle.pinned_heap.specs.declared.run.Run.{Run}
use Rattle.rest_handle.specs.Pinning.{run_ends}

-- two words are put behind the first n
put-two : (p xs : List ℕ) (n a b : ℕ) → length p ≡ n → 2 ≤ length xs → set (set (p ++ xs) n a) (n + 1) b ≡ (p ++ a ∷ b ∷ []) ++ drop 2 xs
put-two p [] n a b long enough = absurd (omega (arith, enough))
put-two p (x ∷ []) n a b long enough = absurd (omega (arith, enough))
put-two p (x ∷ y ∷ ys) n a b long enough =
    ap (λ (zs : List ℕ). set zs (n + 1) b) (set_at p x (y ∷ ys) a n long ∙ sym (append_assoc p (a ∷ []) (y ∷ ys)))
    ∙ set_at (p ++ a ∷ []) y ys b (n + 1) (length_push p a ∙ ap (λ (m : ℕ). m + 1) long)
    ∙ append_assoc p (a ∷ []) (b ∷ ys)
    ∙ sym (append_assoc p (a ∷ b ∷ []) ys)

-- each run has two words
length-listed : (runs : List Run) → length (flat_map run_ends runs) ≡ 2 * length runs
length-listed [] = omega arith
length-listed (run ∷ runs) = omega (arith, length-append (run_ends run) (flat_map run_ends runs), length-listed runs)

-- one run more
pub one-more : (runs : List Run) (before : List ℕ) (k : ℕ) (d run : Run) → k < length runs → 2 * length runs ≤ length before → run ≡ get_or runs k d
    → set (set (flat_map run_ends (take k runs) ++ drop (2 * k) before) (2 * k) run.start) (2 * k + 1) run.end ≡ flat_map run_ends (take (k + 1) runs) ++ drop (2 * (k + 1)) before
one-more runs before k d run inside room is =
    let first = flat_map run_ends (take k runs) in
    let long : length first ≡ 2 * k = length-listed (take k runs) ∙ ap (λ (n : ℕ). 2 * n) (length-take-le k runs (omega (arith, inside))) in
    let enough : 2 ≤ length (drop (2 * k) before) = omega (arith, length-drop (2 * k) before, inside, room) in
    let more : take (k + 1) runs ≡ take k runs ++ run ∷ [] = take_more runs k d inside ∙ ap (λ (y : Run). take k runs ++ y ∷ []) (sym is) in
    let front : flat_map run_ends (take (k + 1) runs) ≡ first ++ run_ends run =
    ap (flat_map run_ends) more ∙ flat_map-append run_ends (take k runs) (run ∷ []) ∙ ap (λ (rest : List ℕ). first ++ rest) (append-nil (run_ends run)) in
    let next : 2 * k + 2 ≡ 2 * (k + 1) = omega arith in
    put-two first (drop (2 * k) before) (2 * k) run.start run.end long enough
    ∙ ap (λ (xs : List ℕ). (first ++ run_ends run) ++ xs) (drop-drop 2 (2 * k) before ∙ ap (λ (n : ℕ). drop n before) next)
    ∙ ap (λ (xs : List ℕ). xs ++ drop (2 * (k + 1)) before) (sym front)
