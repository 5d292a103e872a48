-- Texts that stand in a text, and how it grows.
use Rattle.std.proofs.Common.{◌≡◌, ℕ, zero, suc, ◌+◌, List, [], ◌∷◌, ◌++◌, refl, sym, ap, ◌∙◌, subst, append_assoc, append-nil, add-one, length, arith}
use Rattle.std.specs.Prelude.{Result, Ok, Err, OnOk}
use Rattle.heap_map.specs.Cells.{Adds, StandIn, in_turn}

-- they stand there also if text comes before, or after
pub stand_behind : (parts : List (List ℕ)) (a b : List ℕ) → StandIn parts b → StandIn parts (a ++ b)
stand_behind [] a b h = tt
stand_behind (part ∷ parts) a b (before, after, is, stand) =
    (a ++ before, after, ap (λ (t : List ℕ). a ++ t) is ∙ sym (append_assoc a before (part ++ after)), stand)

pub stand_before : (parts : List (List ℕ)) (a b : List ℕ) → StandIn parts a → StandIn parts (a ++ b)
stand_before [] a b h = tt
stand_before (part ∷ parts) a b (before, after, is, stand) =
    (before, after ++ b, ap (λ (t : List ℕ). t ++ b) is ∙ append_assoc before (part ++ after) b ∙ ap (λ (t : List ℕ). before ++ t) (append_assoc part after b), stand_before parts after b stand)

-- those of one text and then those of another
pub stand_both : (p q : List (List ℕ)) (a b : List ℕ) → StandIn p a → StandIn q b → StandIn (p ++ q) (a ++ b)
stand_both [] q a b h k = stand_behind q a b k
stand_both (part ∷ parts) q a b (before, after, is, stand) k =
    (before, after ++ b, ap (λ (t : List ℕ). t ++ b) is ∙ append_assoc before (part ++ after) b ∙ ap (λ (t : List ℕ). before ++ t) (append_assoc part after b), stand_both parts q after b stand k)

-- nothing was added
pub adds_none : (a b : List ℕ) → b ≡ a → Adds [] a b
adds_none a b same = record { added = []; is = same ∙ sym (append-nil a); stand = tt }

-- any text was added
pub adds_any : (a b t : List ℕ) → b ≡ a ++ t → Adds [] a b
adds_any a b t is = record { added = t; is = is; stand = tt }

-- one text was added
pub adds_one : (a b t : List ℕ) → b ≡ a ++ t → Adds (t ∷ []) a b
adds_one a b t is = record { added = t; is = is; stand = ([], [], sym (append-nil t), tt) }

-- one addition after another
pub adds_then : (p q : List (List ℕ)) (a b c : List ℕ) → Adds p a b → Adds q b c → Adds (p ++ q) a c
adds_then p q a b c first second = record {
  added = first.added ++ second.added;
  is = second.is ∙ ap (λ (t : List ℕ). t ++ second.added) first.is ∙ append_assoc a first.added second.added;
  stand = stand_both p q first.added second.added first.stand second.stand;
}

-- one more turn
pub adds_turn : (n : ℕ) (of : ℕ → List (List ℕ)) (a b c : List ℕ) → Adds (in_turn n of) a b → Adds (of n) b c → Adds (in_turn (n + 1) of) a c
adds_turn n of a b c first second = rw add-one (adds_then (in_turn n of) (of n) a b c first second)

-- what follows from what holds on success
pub on_ok : {T E : Type 0} (r : Result T E) (P Q : Type 0) → (P → Q) → OnOk r P → OnOk r Q
on_ok (Ok _) P Q f p = f p
on_ok (Err _) P Q f p = tt

-- text that follows, and text that goes before, takes nothing away
pub adds_more : (p : List (List ℕ)) (a b c : List ℕ) → Adds p a b → Adds [] b c → Adds p a c
adds_more p a b c first second = record {
  added = first.added ++ second.added;
  is = second.is ∙ ap (λ (t : List ℕ). t ++ second.added) first.is ∙ append_assoc a first.added second.added;
  stand = stand_before p first.added second.added first.stand;
}

-- all turns
pub all_turns : (n m : ℕ) (of : ℕ → List (List ℕ)) (a b : List ℕ) → n ≡ m → Adds (in_turn n of) a b → Adds (in_turn m of) a b
all_turns n m of a b same drawn = subst (λ (k : ℕ). Adds (in_turn k of) a b) same drawn
