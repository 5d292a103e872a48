-- The headers that were copied are still those of the queue when it gets longer.
use Rattle.std.proofs.Common.{◌≡◌, ℕ, ◌-◌, ◌<◌, ◌≤◌, Bool, List, length, get_or, fold, inl, inr, sym, ap, subst, ◌∙◌, arith}
use Rattle.std.proofs.lemmas.Bool.{cases_lt}
use Rattle.reachability.specs.Queue.{after_word}
use Rattle.reachability.proofs.Queues.{places}
use Rattle.rest_marks.specs.Following.{IsAhead}
use Rattle.rest_marks.specs.declared.following.Ahead.{Ahead}

-- no object is taken out of the queue
pub all-stay : (row : ℕ → Bool) (queue words : List ℕ) → length queue ≤ length (fold (after_word row) queue words)
all-stay row queue words = elim (cases_lt 0 (length queue)) [
  | inl some ↦ let last = places row queue words (length queue - 1) (omega (arith, some)) in omega (arith, some, last.0)
  | inr none ↦ omega (arith, none)
]

-- before the first look
pub ahead-none : (words queue headers : List ℕ) (ahead : Ahead) → ahead.from ≡ ahead.to → ahead.to ≤ length queue → IsAhead words queue headers ahead
ahead-none words queue headers ahead none within = record {
  room = omega (arith, none);
  within = within;
  copied = λ k from to inside. absurd (omega (arith, none, from, to));
}

-- if each object stays at its place
pub ahead-stays : (words old new headers : List ℕ) (ahead : Ahead) → IsAhead words old headers ahead
    → ((k : ℕ) → k < length old → (k < length new) × (get_or new k 0 ≡ get_or old k 0)) → IsAhead words new headers ahead
ahead-stays words old new headers ahead is stays = record {
  room = is.room;
  within = elim (cases_lt 0 ahead.to) [
    | inl some ↦ omega (arith, some, (stays (ahead.to - 1) (omega (arith, some, is.within))).0)
    | inr none ↦ omega (arith, none)
  ];
  copied = λ k first last inside.
      let same = (stays k (omega (arith, last, is.within))).1 in
      is.copied k first last (subst (λ (n : ℕ). n < length words) same inside) ∙ ap (λ (n : ℕ). get_or words n 0) (sym same);
}

-- after an object was followed
pub ahead-on : (row : ℕ → Bool) (words old references new headers : List ℕ) (ahead : Ahead) → IsAhead words old headers ahead
    → new ≡ fold (after_word row) old references → IsAhead words new headers ahead
ahead-on row words old references new headers ahead is from =
    subst (λ (xs : List ℕ). IsAhead words xs headers ahead) (sym from)
    (ahead-stays words old (fold (after_word row) old references) headers ahead is (places row old references))
