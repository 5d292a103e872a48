-- All mutators of a space meet: two rounds of meetings by the first one.
use Rattle.std.proofs.Common.{◌≡◌, ℕ, ◌<◌, List, length, map, get_or, set, sym, ap, subst, ◌∙◌, arith}
use Rattle.std.proofs.lemmas.List.{length-map, set-get_or}
use mathlib.Core.Option.{some}
use lib.ListN.{get_elem?}
use Rattle.comp_mutator.specs.Builder.{Ghosts}
use Rattle.comp_mutator.specs.Lists.{on}
use Rattle.comp_mutator.specs.Passes.{did, seen}
use Rattle.comp_mutator.specs.Pass.{Pass}
use Rattle.comp_mutator.specs.Mutators.{pass_of, setup_of, AreMutatorsOf}
use Rattle.comp_mutator.specs.declared.mutator.Mutator.{Mutator}
use Rattle.comp_mutator.specs.declared.space.Space.{Space}
use Rattle.comp_mutator.proofs.Growing.{grows_none, grows_then}
use Rattle.comp_mutator.proofs.Rows.{at_map_back}
use Rattle.comp_mutator.proofs.Sums.{is_inside, read_at}
use Rattle.comp_trace.specs.AllMet.{HaveAllMet, HaveOnlyMet, OnlyMet}
use Rattle.comp_trace.specs.AllMutators.{AreAll}
use Rattle.comp_trace.specs.RoundsOfMeetings.{row, DidNothing, HasMetAll, Learns}
use Rattle.comp_trace.specs.WrittenEntries.{written_by_each, HaveAll, HaveSeen, HaveStart, IsMerged}
use Rattle.comp_trace.proofs.Merging.{merged_by}
use Rattle.comp_trace.proofs.RowLists.{row_at, written_at}
use Rattle.comp_trace.proofs.StepLists.{all_last, has_start, nothing_done, seen_last}

-- The mutators before, between and after the two rounds; m is the first one between them.
module _ {L B : Type 0} {g : Ghosts B} (space : Space L B g) (first met last : List (Mutator L)) (m : Mutator L) (at : get_elem? met 0 ≡ some m)
    (all : AreAll space first) (inside : 0 < length first)
    (met_of : AreMutatorsOf space met) (met_long : length met ≡ length first) (before : HasMetAll 0 first met)
    (last_of : AreMutatorsOf space last) (last_long : length last ≡ length met) (after : HasMetAll 0 met last)
  where
    is : m ≡ get_or met 0 m
    is = sym (read_at met 0 m m at)

    same : set met 0 m ≡ met
    same = subst (λ (x : Mutator L). set met 0 x ≡ met) (sym is) (set-get_or met 0 m)

    learns : Learns (pass_of (get_or met 0 m)) (pass_of m)
    learns = subst (λ (x : Mutator L). Learns (pass_of x) (pass_of m)) is (grows_none (pass_of m), λ h. h)

    second_long : length last ≡ length (set met 0 m)
    second_long = last_long ∙ sym (ap length same)

    second : HasMetAll 0 (set met 0 m) last
    second = subst (λ (l : List (Mutator L)). HasMetAll 0 l last) (sym same) after

    long : length last ≡ length first
    long = last_long ∙ met_long

    pub all_met : AreAll space last
    all_met = all_last space 0 first met last m m all inside is met_of met_long before learns last_of second_long second

    nothing : DidNothing first last
    nothing = nothing_done space 0 first met last m m all inside is met_of met_long before learns last_of second_long second (ap (λ (x : Mutator L). did (pass_of x)) is)

    start : HaveStart (setup_of space) first
    start = has_start space 0 first met last m m all inside is met_of met_long before learns last_of second_long second

    have : HaveAll last start.0
    have p =
        subst (λ (n : ℕ). IsMerged n (written_by_each last) p (start.0 p)) (sym long)
        (merged_by (length first) (written_by_each first) (written_by_each last) p (start.0 p) (λ k lt. sym (nothing k lt)) (start.1 p))

    known : HaveSeen last start.0
    known = seen_last space 0 first met last m m all inside is met_of met_long before learns last_of second_long second start.0 have

    pub have_met : HaveAllMet (setup_of space) (map pass_of last)
    have_met = record {
      journals = start.0;
      own = λ k pass there p.
          let x = at_map_back pass_of last k pass there in
          (have p).own k (is_inside last k x.0 x.1) ∙ ap (on p) (written_at last x.0 k (is_inside last k x.0 x.1) ∙ ap did (row_at last x.0 x.0 k x.1 ∙ x.2));
      strangers = λ k p le. (have p).strangers k (omega (arith, le, length-map last pass_of));
      rises = λ p. (have p).rises;
      lawful = start.2;
      seen = λ k pass there p. let x = at_map_back pass_of last k pass there in subst (λ (y : Pass). seen y p ≡ start.0 p) x.2 (known k x.0 x.1 p);
    }

    pub only_met : HaveOnlyMet first last
    only_met = record {
      count = long;
      each = λ k x y was now.
          let lt : k < length first = is_inside first k x was in
          let there : k < length met = omega (arith, lt, met_long) in
          let one = before m in
          let two = after m in
          subst (λ (z : Pass). OnlyMet z (pass_of y)) (row_at first m x k was)
          (subst (λ (z : Pass). OnlyMet (row m first k) z) (row_at last m y k now)
          (record {
            grows = grows_then (row m first k) (row m met k) (row m last k) (one.grows k lt) (two.grows k there);
            did = two.did k there ∙ one.did k lt;
            builds = two.builds k there ∙ one.builds k lt;
          }));
    }
