-- A round of meetings, one after the other.
use Rattle.std.proofs.Common.{◌≡◌, ◌≢◌, ℕ, ◌+◌, ◌%◌, ◌<◌, ◌≤◌, Bool, true, false, cond, nat_lt, List, length, refl, sym, ap, subst, ◌∙◌, arith, inl, inr}
use Rattle.std.specs.Prelude.{◌⊎◌}
use native.Mathlib.Decide.{ℕ_discrete}
use mathlib.Core.Logic.{dite, ⊎_elim}
use Rattle.comp_mutator.specs.Entry.{Entry}
use Rattle.comp_mutator.specs.Lists.{StartsWith}
use Rattle.comp_mutator.specs.Passes.{builds_of, did, number_of, seen, turns_of, HasSeenBuilt, IsNotMade, KnowsFresh, Rests}
use Rattle.comp_mutator.specs.Pass.{Pass}
use Rattle.comp_mutator.specs.Calls.{Grows, Meets}
use Rattle.comp_mutator.proofs.Growing.{begins_then, grows_none, grows_then, same_begins}
use Rattle.comp_trace.specs.RoundsOfMeetings.{Met}

-- One meeting: each of the two has then seen, of each page, what one of the two had seen.
pub record IsMeeting (other_old old other_new new : Pass) : Type 0 where
  pub grows_other : Grows other_old other_new
  pub grows : Grows old new
  pub did_other : did other_new ≡ did other_old
  pub did : did new ≡ did old
  pub builds_other : builds_of other_new ≡ builds_of other_old
  pub builds : builds_of new ≡ builds_of old
  pub same : (p : ℕ) → seen other_new p ≡ seen new p
  pub longer : (p : ℕ) → (seen new p ≡ seen other_old p) ⊎ (seen new p ≡ seen old p)
  pub starts : (p offset : ℕ) → KnowsFresh other_old p offset → KnowsFresh new p offset
  pub built : (p : ℕ) → HasSeenBuilt other_old p → HasSeenBuilt new p
  pub tells_built : (p : ℕ) → HasSeenBuilt old p → HasSeenBuilt other_new p
  pub turns : (q : ℕ) → turns_of other_old q ≤ turns_of new q
  pub tells_turns : (q : ℕ) → turns_of old q ≤ turns_of other_new q
  pub own_turns : turns_of other_new (number_of other_old) ≡ turns_of other_old (number_of other_old)
  pub even : Rests other_old → turns_of other_old (number_of other_old) % 2 ≡ 0
  pub strangers : (q : ℕ) → IsNotMade other_old q → turns_of other_new q ≡ 0

one_of : (test : Bool) (j a b : List Entry) → j ≡ cond test b a → (j ≡ b) ⊎ (j ≡ a)
one_of true j a b e = inl e
one_of false j a b e = inr e

pub meeting_of : (other_old old other_new new : Pass) → Meets old other_old other_new → Meets other_old old new → ((p : ℕ) → seen other_new p ≡ seen new p) → IsMeeting other_old old other_new new
meeting_of other_old old other_new new other m same = record {
  grows_other = other.grows;
  grows = m.grows;
  did_other = other.did;
  did = m.did;
  builds_other = other.builds;
  builds = m.builds;
  same = same;
  longer = λ p. one_of (nat_lt (length (seen old p)) (length (seen other_old p))) (seen new p) (seen old p) (seen other_old p) (m.seen p);
  starts = m.knows.starts;
  built = m.knows.built;
  tells_built = other.knows.built;
  turns = m.knows.turns;
  tells_turns = other.knows.turns;
  own_turns = other.own_turns;
  even = other.even;
  strangers = other.strangers;
}

-- Mutator i met those others whose numbers are below j.
pub record MetBelow (n i j : ℕ) (old new : ℕ → Pass) : Type 0 where
  pub did : (k : ℕ) → k < n → did (new k) ≡ did (old k)
  pub builds : (k : ℕ) → k < n → builds_of (new k) ≡ builds_of (old k)
  pub grows : (k : ℕ) → k < n → Grows (old k) (new k)
  pub more : (k p : ℕ) → k < n → k < j → StartsWith (seen (new i) p) (seen (old k) p)
  pub other : (k p : ℕ) → k < n → k < j → StartsWith (seen (new k) p) (seen (old i) p)
  pub within : (k p : ℕ) → k < n → k < j → StartsWith (seen (new i) p) (seen (new k) p)
  pub starts : (k p offset : ℕ) → k < n → k < j → KnowsFresh (old k) p offset → KnowsFresh (new i) p offset
  pub built : (k p : ℕ) → k < n → k < j → HasSeenBuilt (old k) p → HasSeenBuilt (new i) p
  pub other_built : (k p : ℕ) → k < n → k < j → HasSeenBuilt (old i) p → HasSeenBuilt (new k) p
  pub turns : (k q : ℕ) → k < n → k < j → turns_of (old k) q ≤ turns_of (new i) q
  pub other_turns : (k q : ℕ) → k < n → k < j → turns_of (old i) q ≤ turns_of (new k) q
  pub own_turns : (k : ℕ) → k < n → k < j → k ≢ i → turns_of (new k) (number_of (old k)) ≡ turns_of (old k) (number_of (old k))
  pub even : (k : ℕ) → k < n → k < j → k ≢ i → Rests (old k) → turns_of (old k) (number_of (old k)) % 2 ≡ 0
  pub strangers : (k q : ℕ) → k < n → k < j → k ≢ i → IsNotMade (old k) q → turns_of (new k) q ≡ 0
  pub later : (k : ℕ) → j ≤ k → k ≢ i → new k ≡ old k
  pub longest : (p : ℕ) → (k : ℕ) × (k < n) × (seen (new i) p ≡ seen (old k) p)

pub met_none : (n i : ℕ) (old : ℕ → Pass) → i < n → MetBelow n i 0 old old
met_none n i old inside = record {
  did = λ k lt. refl;
  builds = λ k lt. refl;
  grows = λ k lt. grows_none (old k);
  more = λ k p lt no. absurd (omega arith);
  other = λ k p lt no. absurd (omega arith);
  within = λ k p lt no. absurd (omega arith);
  starts = λ k p offset lt no. absurd (omega arith);
  built = λ k p lt no. absurd (omega arith);
  other_built = λ k p lt no. absurd (omega arith);
  turns = λ k q lt no. absurd (omega arith);
  other_turns = λ k q lt no. absurd (omega arith);
  own_turns = λ k lt no. absurd (omega arith);
  even = λ k lt no. absurd (omega arith);
  strangers = λ k q lt no. absurd (omega arith);
  later = λ k le not. refl;
  longest = λ p. (i, inside, refl);
}

-- all have been met
pub met_all : (n i : ℕ) (old new : ℕ → Pass) → MetBelow n i n old new → Met n i old new
met_all n i old new h = record {
  did = h.did;
  builds = h.builds;
  grows = h.grows;
  more = λ k p lt. h.more k p lt lt;
  other = λ k p lt. h.other k p lt lt;
  within = λ k p lt. h.within k p lt lt;
  starts = λ k p offset lt. h.starts k p offset lt lt;
  built = λ k p lt. h.built k p lt lt;
  other_built = λ k p lt. h.other_built k p lt lt;
  turns = λ k q lt. h.turns k q lt lt;
  other_turns = λ k q lt. h.other_turns k q lt lt;
  own_turns = λ k lt. h.own_turns k lt lt;
  even = λ k lt. h.even k lt lt;
  strangers = λ k q lt. h.strangers k q lt lt;
  longest = h.longest;
}

-- one more: mutator j, which is another than i
module _ (n i j : ℕ) (inside : i < n) (there : j < n) (unlike : j ≢ i) (old new after : ℕ → Pass) (h : MetBelow n i j old new)
    (meeting : IsMeeting (new j) (new i) (after j) (after i)) (rest : (k : ℕ) → k ≢ i → k ≢ j → after k ≡ new k)
  where
    grown : (k : ℕ) → Grows (new k) (after k)
    grown k = dite (ℕ_discrete k i) (λ is. subst (λ (x : ℕ). Grows (new x) (after x)) (sym is) meeting.grows)
        (λ not. dite (ℕ_discrete k j) (λ is. subst (λ (x : ℕ). Grows (new x) (after x)) (sym is) meeting.grows_other)
        (λ no. subst (λ (x : Pass). Grows (new k) x) (sym (rest k not no)) (grows_none (new k))))

    kept : (k : ℕ) → did (after k) ≡ did (new k)
    kept k = dite (ℕ_discrete k i) (λ is. subst (λ (x : ℕ). did (after x) ≡ did (new x)) (sym is) meeting.did)
        (λ not. dite (ℕ_discrete k j) (λ is. subst (λ (x : ℕ). did (after x) ≡ did (new x)) (sym is) meeting.did_other)
        (λ no. ap did (rest k not no)))

    kept_builds : (k : ℕ) → builds_of (after k) ≡ builds_of (new k)
    kept_builds k = dite (ℕ_discrete k i) (λ is. subst (λ (x : ℕ). builds_of (after x) ≡ builds_of (new x)) (sym is) meeting.builds)
        (λ not. dite (ℕ_discrete k j) (λ is. subst (λ (x : ℕ). builds_of (after x) ≡ builds_of (new x)) (sym is) meeting.builds_other)
        (λ no. ap builds_of (rest k not no)))

    mine : (p : ℕ) → StartsWith (seen (after i) p) (seen (new i) p)
    mine p = meeting.grows.seen p

    -- what holds below j and at j holds below j + 1
    below : (P : ℕ → Type 0) → ((k : ℕ) → k < j → P k) → P j → (k : ℕ) → k < j + 1 → P k
    below P lower at k lt = dite (ℕ_discrete k j) (λ is. subst P (sym is) at) (λ no. lower k (omega arith))

    pub met_more : MetBelow n i (j + 1) old after
    met_more = record {
      did = λ k lt. kept k ∙ h.did k lt;
      builds = λ k lt. kept_builds k ∙ h.builds k lt;
      grows = λ k lt. grows_then (old k) (new k) (after k) (h.grows k lt) (grown k);
      more = λ k p lt. below (λ (x : ℕ). StartsWith (seen (after i) p) (seen (old x) p))
          (λ x low. begins_then (seen (old x) p) (seen (new i) p) (seen (after i) p) (h.more x p (omega arith) low) (mine p))
          (subst (λ (x : Pass). StartsWith (seen (after i) p) (seen x p)) (h.later j (omega arith) unlike) (subst (λ (l : List Entry). StartsWith l (seen (new j) p)) (meeting.same p) (meeting.grows_other.seen p))) k;
      other = λ k p lt. below (λ (x : ℕ). StartsWith (seen (after x) p) (seen (old i) p))
          (λ x low. begins_then (seen (old i) p) (seen (new x) p) (seen (after x) p) (h.other x p (omega arith) low) ((grown x).seen p))
          (subst (λ (l : List Entry). StartsWith l (seen (old i) p)) (sym (meeting.same p)) (begins_then (seen (old i) p) (seen (new i) p) (seen (after i) p) ((h.grows i inside).seen p) (mine p))) k;
      within = λ k p lt. below (λ (x : ℕ). StartsWith (seen (after i) p) (seen (after x) p))
          (λ x low. dite (ℕ_discrete x i)
          (λ is. same_begins (seen (after i) p) (seen (after x) p) (ap (λ (y : ℕ). seen (after y) p) (sym is)))
          (λ not. subst (λ (y : Pass). StartsWith (seen (after i) p) (seen y p)) (sym (rest x not (λ is. absurd (omega (arith, low, is))))) (begins_then (seen (new x) p) (seen (new i) p) (seen (after i) p) (h.within x p (omega arith) low) (mine p))))
          (same_begins (seen (after i) p) (seen (after j) p) (sym (meeting.same p))) k;
      starts = λ k p offset lt. below (λ (x : ℕ). KnowsFresh (old x) p offset → KnowsFresh (after i) p offset)
          (λ x low knows. meeting.grows.starts p offset (h.starts x p offset (omega arith) low knows))
          (λ knows. meeting.starts p offset (subst (λ (x : Pass). KnowsFresh x p offset) (sym (h.later j (omega arith) unlike)) knows)) k;
      built = λ k p lt. below (λ (x : ℕ). HasSeenBuilt (old x) p → HasSeenBuilt (after i) p)
          (λ x low saw. meeting.grows.built p (h.built x p (omega arith) low saw))
          (λ saw. meeting.built p (subst (λ (x : Pass). HasSeenBuilt x p) (sym (h.later j (omega arith) unlike)) saw)) k;
      other_built = λ k p lt. below (λ (x : ℕ). HasSeenBuilt (old i) p → HasSeenBuilt (after x) p)
          (λ x low saw. (grown x).built p (h.other_built x p (omega arith) low saw))
          (λ saw. meeting.tells_built p ((h.grows i inside).built p saw)) k;
      turns = λ k q lt. below (λ (x : ℕ). turns_of (old x) q ≤ turns_of (after i) q)
          (λ x low. let a = h.turns x q (omega arith) low in let b = meeting.grows.turns q in omega (arith, a, b))
          (let a = meeting.turns q in let b = ap (λ (x : Pass). turns_of x q) (h.later j (omega arith) unlike) in omega (arith, a, b)) k;
      other_turns = λ k q lt. below (λ (x : ℕ). turns_of (old i) q ≤ turns_of (after x) q)
          (λ x low. let a = h.other_turns x q (omega arith) low in let b = (grown x).turns q in omega (arith, a, b))
          (let a = (h.grows i inside).turns q in let b = meeting.tells_turns q in omega (arith, a, b)) k;
      own_turns = λ k lt. below (λ (x : ℕ). x ≢ i → turns_of (after x) (number_of (old x)) ≡ turns_of (old x) (number_of (old x)))
          (λ x low not. ap (λ (y : Pass). turns_of y (number_of (old x))) (rest x not (λ is. absurd (omega (arith, low, is)))) ∙ h.own_turns x (omega arith) low not)
          (λ not. let same = h.later j (omega arith) unlike in
          subst (λ (y : Pass). turns_of (after j) (number_of y) ≡ turns_of y (number_of y)) same meeting.own_turns) k;
      even = λ k lt. below (λ (x : ℕ). x ≢ i → Rests (old x) → turns_of (old x) (number_of (old x)) % 2 ≡ 0)
          (λ x low. h.even x (omega arith) low)
          (λ not. subst (λ (y : Pass). Rests y → turns_of y (number_of y) % 2 ≡ 0) (h.later j (omega arith) unlike) meeting.even) k;
      strangers = λ k q lt. below (λ (x : ℕ). x ≢ i → IsNotMade (old x) q → turns_of (after x) q ≡ 0)
          (λ x low not none. ap (λ (y : Pass). turns_of y q) (rest x not (λ is. absurd (omega (arith, low, is)))) ∙ h.strangers x q (omega arith) low not none)
          (λ not. subst (λ (y : Pass). IsNotMade y q → turns_of (after j) q ≡ 0) (h.later j (omega arith) unlike) (meeting.strangers q)) k;
      later = λ k le not. rest k not (λ is. absurd (omega (arith, le, is))) ∙ h.later k (omega arith) not;
      longest = λ p. ⊎_elim
          (λ other. (j, there, other ∙ ap (λ (x : Pass). seen x p) (h.later j (omega arith) unlike)))
          (λ kept. let one = h.longest p in (one.0, one.1, kept ∙ one.2))
          (meeting.longer p);
    }

-- mutator i does not meet itself
pub met_itself : (n i : ℕ) (old new : ℕ → Pass) → i < n → MetBelow n i i old new → MetBelow n i (i + 1) old new
met_itself n i old new inside h = record {
  did = h.did;
  builds = h.builds;
  grows = h.grows;
  longest = h.longest;
  more = λ k p lt low. dite (ℕ_discrete k i) (λ is. subst (λ (x : ℕ). StartsWith (seen (new i) p) (seen (old x) p)) (sym is) ((h.grows i inside).seen p)) (λ no. h.more k p lt (omega arith));
  other = λ k p lt low. dite (ℕ_discrete k i) (λ is. subst (λ (x : ℕ). StartsWith (seen (new x) p) (seen (old i) p)) (sym is) ((h.grows i inside).seen p)) (λ no. h.other k p lt (omega arith));
  within = λ k p lt low. dite (ℕ_discrete k i) (λ is. same_begins (seen (new i) p) (seen (new k) p) (ap (λ (y : ℕ). seen (new y) p) (sym is))) (λ no. h.within k p lt (omega arith));
  starts = λ k p offset lt low. dite (ℕ_discrete k i) (λ is knows. (h.grows i inside).starts p offset (subst (λ (x : ℕ). KnowsFresh (old x) p offset) is knows)) (λ no. h.starts k p offset lt (omega arith));
  built = λ k p lt low. dite (ℕ_discrete k i) (λ is saw. (h.grows i inside).built p (subst (λ (x : ℕ). HasSeenBuilt (old x) p) is saw)) (λ no. h.built k p lt (omega arith));
  other_built = λ k p lt low. dite (ℕ_discrete k i) (λ is saw. subst (λ (x : ℕ). HasSeenBuilt (new x) p) (sym is) ((h.grows i inside).built p saw)) (λ no. h.other_built k p lt (omega arith));
  turns = λ k q lt low. dite (ℕ_discrete k i) (λ is. let a = (h.grows i inside).turns q in omega (arith, a, ap (λ (x : ℕ). turns_of (old x) q) is)) (λ no. h.turns k q lt (omega arith));
  other_turns = λ k q lt low. dite (ℕ_discrete k i) (λ is. let a = (h.grows i inside).turns q in omega (arith, a, ap (λ (x : ℕ). turns_of (new x) q) is)) (λ no. h.other_turns k q lt (omega arith));
  own_turns = λ k lt low not. h.own_turns k lt (omega (arith, low, not)) not;
  even = λ k lt low not. h.even k lt (omega (arith, low, not)) not;
  strangers = λ k q lt low not. h.strangers k q lt (omega (arith, low, not)) not;
  later = λ k le not. h.later k (omega arith) not;
}
