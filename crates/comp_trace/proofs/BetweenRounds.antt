-- A line between two rounds of meetings: its mutator then knows all that the mutators did, before the line and after
-- it.
use Rattle.std.proofs.Common.{◌≡◌, ◌≢◌, ℕ, ◌<◌, ◌≤◌, List, [], ◌∷◌, ◌++◌, refl, sym, ap, subst, ◌∙◌, arith}
use Rattle.std.specs.List.{All}
use Rattle.std.proofs.lemmas.List.{append-nil}
use native.Mathlib.Decide.{ℕ_discrete}
use mathlib.Core.Logic.{dite}
use Rattle.comp_mutator.specs.Entry.{Entry}
use Rattle.comp_mutator.specs.Lists.{by, on, Rises, StartsWith}
use Rattle.comp_mutator.specs.Locks.{Journals}
use Rattle.comp_mutator.specs.Passes.{did, number_of, seen}
use Rattle.comp_mutator.specs.Pass.{Pass}
use Rattle.comp_mutator.specs.Steps.{Steps}
use Rattle.comp_mutator.proofs.Joined.{by_none}
use Rattle.comp_mutator.proofs.Growing.{begins_then}
use Rattle.comp_mutator.proofs.Meetings.{between}
use Rattle.comp_mutator.specs.CellViews.{Works}
use Rattle.comp_trace.specs.WrittenEntries.{AreMerged, WrittenEntries, IsMerged}
use Rattle.comp_trace.specs.RoundsOfMeetings.{Met}
use Rattle.comp_trace.specs.Lines.{IsAboveAll}
use Rattle.comp_trace.proofs.Merging.{by_between, merged_by, merged_more, merged_once, IsOneMore}

-- what passes did
abbrev pub dids : (ℕ → Pass) → WrittenEntries
dids passes k = did (passes k)

-- These are all n passes of a table, by their numbers.
pub record IsCrew (table : Steps) (n : ℕ) (passes : ℕ → Pass) : Type 0 where
  pub numbers : (k : ℕ) → k < n → number_of (passes k) ≡ k
  pub works : (k : ℕ) → k < n → Works table n (passes k)

module _ (table : Steps) (n i : ℕ) (inside : i < n) (first met acted last : ℕ → Pass)
    (crew_first : IsCrew table n first) (crew_met : IsCrew table n met) (crew_last : IsCrew table n last)
    (before : Met n i first met) (after : Met n i acted last)
    (others : (k : ℕ) → k ≢ i → acted k ≡ met k) (more : (p : ℕ) → StartsWith (seen (acted i) p) (seen (met i) p))
  where
    -- what mutator k had seen, mutator i has seen when it acted
    within : (k p : ℕ) → k < n → StartsWith (seen (acted i) p) (seen (acted k) p)
    within k p lt = dite (ℕ_discrete k i)
        (λ is. subst (λ (x : ℕ). StartsWith (seen (acted i) p) (seen (acted x) p)) (sym is) ([], sym (append-nil (seen (acted i) p))))
        (λ not. begins_then (seen (acted k) p) (seen (met i) p) (seen (acted i) p) (subst (λ (x : Pass). StartsWith (seen (met i) p) (seen x p)) (sym (others k not)) (before.within k p lt)) (more p))

    -- it sees nothing more in the second round
    settled : (p : ℕ) → seen (last i) p ≡ seen (acted i) p
    settled p =
        let one = after.longest p in
        between (seen (acted i) p) (seen (last i) p) (seen (acted i) p) (after.other i p inside) (subst (λ (l : List Entry). StartsWith (seen (acted i) p) l) (sym one.2) (within one.0 p one.1)) refl

    -- then all have seen the same
    pub all_seen : (k p : ℕ) → k < n → seen (last k) p ≡ seen (acted i) p
    all_seen k p lt = between (seen (acted i) p) (seen (last k) p) (seen (acted i) p) (after.other k p lt) (subst (λ (l : List Entry). StartsWith l (seen (last k) p)) (settled p) (after.within k p lt)) refl

    own_last : (k p : ℕ) → k < n → by k (seen (acted i) p) ≡ on p (did (last k))
    own_last k p lt = ap (by k) (sym (all_seen k p lt)) ∙ ap (λ (x : ℕ). by x (seen (last k) p)) (sym (crew_last.numbers k lt)) ∙ ((crew_last.works k lt).remembers p).own

    none_last : (k p : ℕ) → n ≤ k → by k (seen (acted i) p) ≡ []
    none_last k p le =
        let some : 0 < n = omega (arith, inside) in
        ap (by k) (sym (all_seen 0 p some)) ∙ ((crew_last.works 0 some).remembers p).strangers (crew_last.numbers 0 some) k le

    -- all that the mutators did after the line
    pub known_after : AreMerged n (dids last) (seen (acted i))
    known_after p = record {
      rises = let r = ((crew_last.works i inside).remembers p).rises in (r.0, subst (λ (l : List Entry). Rises 0 l r.0) (settled p) r.1);
      own = λ k lt. own_last k p lt;
      strangers = λ k le. none_last k p le;
    }

    -- then all have seen exactly what they all did
    pub seen_all : (journals : Journals) → AreMerged n (dids last) journals → (k p : ℕ) → k < n → seen (last k) p ≡ journals p
    seen_all journals merged k p lt = all_seen k p lt ∙ merged_once n (dids last) p (seen (acted i) p) (journals p) (known_after p) (merged p)

    -- all that the mutators did before it
    pub known_before : ((k : ℕ) → k < n → k ≢ i → did (last k) ≡ did (first k)) → did (met i) ≡ did (first i) → AreMerged n (dids first) (seen (met i))
    known_before same mine p = record {
      rises = ((crew_met.works i inside).remembers p).rises;
      own = λ k lt. dite (ℕ_discrete k i)
          (λ is. ap (λ (x : ℕ). by x (seen (met i) p)) (is ∙ sym (crew_met.numbers i inside)) ∙ ((crew_met.works i inside).remembers p).own ∙ ap (on p) mine ∙ ap (λ (x : ℕ). on p (did (first x))) (sym is))
          (λ not. by_between k (seen (first k) p) (seen (met i) p) (seen (acted i) p) (on p (did (first k))) (before.more k p lt) (more p)
          (ap (λ (x : ℕ). by x (seen (first k) p)) (sym (crew_first.numbers k lt)) ∙ ((crew_first.works k lt).remembers p).own)
          (own_last k p lt ∙ ap (on p) (same k lt not)));
      strangers = λ k le. by_none k (seen (acted i) p) (seen (met i) p) (more p) (none_last k p le);
    }

    -- After a line that writes nothing it has seen exactly the merged journals.
    pub reads_all : (journals : Journals) → AreMerged n (dids first) journals → ((k : ℕ) → k < n → did (last k) ≡ did (first k)) → (p : ℕ) → seen (acted i) p ≡ journals p
    reads_all journals merged same p =
        let now : IsMerged n (dids last) p (journals p) = merged_by n (dids first) (dids last) p (journals p) (λ k lt. sym (same k lt)) (merged p) in
        merged_once n (dids last) p (seen (acted i) p) (journals p) (known_after p) now

    -- After a line that writes an entry it has seen exactly these and the entry, and the stamp of the entry is above
    -- all others.
    pub writes_all : (journals : Journals) → AreMerged n (dids first) journals → (p : ℕ) (e : Entry) → did (met i) ≡ did (first i) → IsOneMore n (dids first) (dids last) i p e → e.writer ≡ i
        → IsAboveAll (seen (met i)) e.stamp → IsAboveAll journals e.stamp × ((q : ℕ) → seen (acted i) q ≡ journals q ++ on q ((p, e) ∷ []))
    writes_all journals merged p e mine one writer above =
        let was : (q : ℕ) → seen (met i) q ≡ journals q = λ q. merged_once n (dids first) q (seen (met i) q) (journals q) (known_before (λ k lt not. one.1 k lt not) mine q) (merged q) in
        let high : IsAboveAll journals e.stamp = λ q. subst (λ (j : List Entry). All (λ (x : Entry). x.stamp < e.stamp) j) (was q) (above q) in (
          high,
          λ q. merged_once n (dids last) q (seen (acted i) q) (journals q ++ on q ((p, e) ∷ [])) (known_after q)
              (merged_more n (dids first) (dids last) i p q e (journals q) one inside writer (high q) (merged q)),
        )
