-- The turns of passes after a step.
use Rattle.std.proofs.Common.{◌≡◌, ℕ, ◌+◌, ◌%◌, ◌<◌, ◌≤◌, ◌≢◌, ◌⊎◌, List, [], ◌∷◌, ◌++◌, get_or, set, sym, refl, ap, ◌∙◌, ⊎_elim, arith, subst, get_or-set_other}
use mathlib.Core.Logic.{dite}
use native.Mathlib.Decide.{ℕ_discrete}
use mathlib.Core.Option as maybe
use lib.ListN.{get_elem?}
use Rattle.atomic_table.proofs.Lists.{at_set, at_snoc, set_else, at_longer}
use Rattle.cell_steps.specs.Setup.{Setup, pages}
use Rattle.cell_steps.specs.Lists.{look}
use Rattle.cell_steps.specs.Turns.{own_turns, MadeTurns, AreMade, HasAllTurns, IsNewest, Counts, Turns}
use Rattle.cell_steps.specs.Whole.{nobody}
use Rattle.cell_steps.specs.declared.view.View.{View}
use Rattle.cell_steps.proofs.Sums.{look-same, look-other}
use Rattle.cell_steps.proofs.LocksKept.{now_at}

-- no two views are of the same pass
abbrev pub IsSingle : List View → Type 0
IsSingle views = (i j : ℕ) (v w : View) → get_elem? views i ≡ maybe.some v → get_elem? views j ≡ maybe.some w → 0 < v.known.port → v.known.port ≡ w.known.port → i ≡ j

-- A step of the seat `id`. v is its view before, w its view after.
pub record Steps (u : Setup) (words words' : List ℕ) (views : List View) (id : ℕ) (v w : View) : Type 0 where
  pub port : w.known.port ≡ v.known.port
  pub own : 0 < v.known.port → own_turns v ≤ own_turns w
  pub made : AreMade (set views id w) w.turns
  pub told : AreMade (set views id w) w.told
  pub rests : 0 < w.known.port → w.at ≡ 0 → own_turns w % 2 ≡ 0
  pub moves : 0 < w.known.port → (p : ℕ) → w.at ≡ p + 1 → own_turns w % 2 ≡ 1
  pub finds : 0 < w.known.port → HasAllTurns (set views id w) w.turns → (p n : ℕ) → IsNewest w p n → p < pages u → get_or words' p 0 ≡ n
  -- for another pass that still knows of all turns, no state word has changed
  pub others : (j : ℕ) (x : View) → j ≢ id → get_elem? views j ≡ maybe.some x → 0 < x.known.port → HasAllTurns (set views id w) x.turns
      → (p : ℕ) → p < pages u → get_or words' p 0 ≡ get_or words p 0

module _ (views : List View) (id : ℕ) (v w : View) (at_id : get_elem? views id ≡ maybe.some v) (port : w.known.port ≡ v.known.port)
    (own : 0 < v.known.port → own_turns v ≤ own_turns w) where
  -- turns that were made stay made
  pub made_stays : (turns : List (ℕ × ℕ)) → AreMade views turns → AreMade (set views id w) turns
  made_stays turns h k lt some =
      let m = h k lt some in
      dite (ℕ_discrete m.0 id)
      (λ e. let is : m.1 ≡ v = maybe.some-injective m.1 v (sym m.2 ∙ ap (get_elem? views) e ∙ at_id) in
      let mine : v.known.port ≡ k = ap (λ (x : View). x.known.port) (sym is) ∙ m.3 in
      let more = own (omega arith) in
      (id, w, now_at views id v w at_id, port ∙ mine, omega (arith, m.4, more, ap own_turns is)))
      (λ other. (m.0, m.1, set_else views id m.0 w other ∙ m.2, m.3, m.4))

  -- what has all turns after the step had all before
  pub all_before : (turns : List (ℕ × ℕ)) → HasAllTurns (set views id w) turns → HasAllTurns views turns
  all_before turns h j x e lt = dite (ℕ_discrete j id)
      (λ same. let is : x ≡ v = maybe.some-injective x v (sym e ∙ ap (get_elem? views) same ∙ at_id) in
      let here : x.known.port ≡ v.known.port = ap (λ (y : View). y.known.port) is in
      let now = h id w (now_at views id v w at_id) (omega arith) in
      let more = own (omega arith) in
      let at = ap (look 0 turns) (here ∙ sym port) in
      omega (arith, now, more, at, ap own_turns is))
      (λ other. h j x (set_else views id j w other ∙ e) lt)

-- what passes know of turns is true after the step
pub turns_after : (u : Setup) (words words' : List ℕ) (views : List View) (id : ℕ) (v w : View) → get_elem? views id ≡ maybe.some v
    → Steps u words words' views id v w → Turns u words views → Turns u words' (set views id w)
turns_after u words words' views id v w at_id s turns = record {
  counts = λ j x e. ⊎_elim
      (λ t. subst (Counts u words' (set views id w)) t.1 record { made = s.made; told = s.told; rests = s.rests; moves = s.moves; finds = s.finds })
      (λ t. let old = turns.counts j x t.1 in record {
        made = made_stays views id v w at_id s.port s.own x.turns old.made;
        told = made_stays views id v w at_id s.port s.own x.told old.told;
        rests = old.rests;
        moves = old.moves;
        finds = λ lt all p n newest inside. s.others j x t.0 t.1 lt all p inside ∙ old.finds lt (all_before views id v w at_id s.port s.own x.turns all) p n newest inside;
      })
      (at_set views id j w x e);
}

-- The turns of which a pass knows, the state word that it found or left last, and its page stay the same.
pub record SameTurns (v w : View) : Type 0 where
  pub port : w.known.port ≡ v.known.port
  pub turns : w.turns ≡ v.turns
  pub last : w.last ≡ v.last
  pub at : w.at ≡ v.at

-- what holds after a step that changes no state word, and nothing of this
pub turns_still : (u : Setup) (words words' : List ℕ) (views : List View) (id : ℕ) (v w : View) → get_elem? views id ≡ maybe.some v
    → ((p : ℕ) → p < pages u → get_or words' p 0 ≡ get_or words p 0) → AreMade views w.told → SameTurns v w → Turns u words views → Turns u words' (set views id w)
turns_still u words words' views id v w at_id words_same told same turns =
    let old = turns.counts id v at_id in
    let own : own_turns w ≡ own_turns v = ap (look 0 w.turns) same.port ∙ ap (λ l. look 0 l v.known.port) same.turns in
    let more : 0 < v.known.port → own_turns v ≤ own_turns w = λ lt. omega arith in
    turns_after u words words' views id v w at_id record {
      port = same.port;
      own = more;
      made = made_stays views id v w at_id same.port more w.turns (subst (AreMade views) (sym same.turns) old.made);
      told = made_stays views id v w at_id same.port more w.told told;
      rests = λ lt at. let was = old.rests (omega (arith, same.port)) (sym same.at ∙ at) in omega arith;
      moves = λ lt p at. let was = old.moves (omega (arith, same.port)) p (sym same.at ∙ at) in omega arith;
      finds = λ lt all p n newest inside. words_same p inside ∙ old.finds (omega (arith, same.port)) (subst (HasAllTurns views) same.turns (all_before views id v w at_id same.port more w.turns all)) p n (newest.0, sym same.last ∙ newest.1) inside;
      others = λ j x ne e lt all p inside. words_same p inside;
    } turns

-- what holds after a step on a word that is no state word
pub turns_elsewhere : (u : Setup) (words : List ℕ) (views : List View) (id : ℕ) (v w : View) (i n : ℕ) → get_elem? views id ≡ maybe.some v → pages u ≤ i
    → w.told ≡ v.told → SameTurns v w → Turns u words views → Turns u (set words i n) (set views id w)
turns_elsewhere u words views id v w i n at_id high told same turns =
    turns_still u words (set words i n) views id v w at_id (λ p lt. get_or-set_other words i p n 0 (λ e. omega (arith, e, lt)))
    (subst (AreMade views) (sym told) (turns.counts id v at_id).told) same turns

-- what holds after a view changed, and no word did
pub turns_viewed : (u : Setup) (words : List ℕ) (views : List View) (id : ℕ) (v w : View) → get_elem? views id ≡ maybe.some v → w.told ≡ v.told
    → SameTurns v w → Turns u words views → Turns u words (set views id w)
turns_viewed u words views id v w at_id told same turns =
    turns_still u words words views id v w at_id (λ p lt. refl) (subst (AreMade views) (sym told) (turns.counts id v at_id).told) same turns

-- A new view that has no page. Only the view of a note knows of turns.
pub record Enters (views : List View) (x : View) : Type 0 where
  pub made : AreMade views x.turns
  pub told : AreMade views x.told
  pub none : 0 < x.known.port → x.turns ≡ []
  pub last : x.last ≡ []
  pub at : x.at ≡ 0

-- a list with elements is not empty
pub has_newest : (x : View) (p n : ℕ) → x.last ≡ [] → IsNewest x p n → ⊥
has_newest x p n none newest = let two = sym none ∙ newest.1 in cc

-- no turns were made
none_made : (views : List View) → AreMade views []
none_made views port lt some = absurd (omega arith)

-- a new view that knows of no turns
pub enters_new : (views : List View) (x : View) → x.turns ≡ [] → x.told ≡ [] → x.last ≡ [] → x.at ≡ 0 → Enters views x
enters_new views x none untold last at = record {
  made = subst (AreMade views) (sym none) (none_made views);
  told = subst (AreMade views) (sym untold) (none_made views);
  none = λ lt. none;
  last = last;
  at = at;
}

-- what holds after a note was taken in
pub turns_spent : (u : Setup) (words : List ℕ) (views : List View) (id : ℕ) (w : View) → get_elem? views id ≡ maybe.some w → w.known.port ≡ 0 → Turns u words views
    → Turns u words (set views id nobody)
turns_spent u words views id w at_id port turns = turns_after u words words views id w nobody at_id record {
  port = sym port;
  own = λ lt. absurd (omega arith);
  made = none_made (set views id nobody);
  told = none_made (set views id nobody);
  rests = λ lt. absurd (omega arith);
  moves = λ lt. absurd (omega arith);
  finds = λ lt. absurd (omega arith);
  others = λ j x ne e lt all p inside. refl;
} turns

-- what passes know of turns is true with one view more
pub turns_joined : (u : Setup) (words : List ℕ) (views : List View) (x : View) → Enters views x → Turns u words views → Turns u words (views ++ x ∷ [])
turns_joined u words views x new turns =
    let stays : (t : List (ℕ × ℕ)) → AreMade views t → AreMade (views ++ x ∷ []) t = λ t h k lt some. let m = h k lt some in (m.0, m.1, at_longer views (x ∷ []) m.0 m.1 m.2, m.3, m.4) in
    record {
      counts = λ j y e. ⊎_elim
          (λ t. let old = turns.counts j y t in record {
            made = stays y.turns old.made;
            told = stays y.told old.told;
            rests = old.rests;
            moves = old.moves;
            finds = λ lt all p n newest inside. old.finds lt (λ i z at some. all i z (at_longer views (x ∷ []) i z at) some) p n newest inside;
          })
          (λ t. subst (Counts u words (views ++ x ∷ [])) t record {
            made = stays x.turns new.made;
            told = stays x.told new.told;
            rests = λ lt at. ap (λ l. look 0 l x.known.port % 2) (new.none lt);
            moves = λ lt p at. absurd (omega (arith, at, new.at));
            finds = λ lt all p n newest inside. absurd (has_newest x p n new.last newest);
          })
          (at_snoc views x y j e);
    }

-- The seat of a pass takes page p, or leaves it, and makes n of its state word. `before` has turns that were made.
pub record Turning (u : Setup) (words : List ℕ) (views : List View) (v w : View) (p n : ℕ) (before : List (ℕ × ℕ)) : Type 0 where
  pub pass : 0 < v.known.port
  pub port : w.known.port ≡ v.known.port
  pub turns : w.turns ≡ (v.known.port, own_turns v + 1) ∷ before
  pub made : AreMade views before
  pub told : w.told ≡ v.told
  pub last : (older : List (ℕ × ℕ)) × (w.last ≡ (p, n) ∷ older)
  pub here : get_or words p 0 ≡ n
  pub at : ((w.at ≡ 0) × (v.at ≡ p + 1)) ⊎ ((w.at ≡ p + 1) × (v.at ≡ 0))

-- the first pair of a list
newest_same : (l a b : List (ℕ × ℕ)) (p q n m : ℕ) → l ≡ (p, n) ∷ a → l ≡ (q, m) ∷ b → (p ≡ q) × (n ≡ m)
newest_same l a b p q n m e f =
    let both : (p, n) ∷ a ≡ (q, m) ∷ b = sym e ∙ f in
    let head : List (ℕ × ℕ) → ℕ × ℕ = λ x. elim x [ [] ↦ (0, 0) | y ∷ ys ↦ y ] in
    (ap (λ x. (head x).0) both, ap (λ x. (head x).1) both)

-- the pass finds the word that it found or left last
pub finds_newest : (words : List ℕ) (w : View) (p n : ℕ) → ((before : List (ℕ × ℕ)) × (w.last ≡ (p, n) ∷ before)) → get_or words p 0 ≡ n
    → (q m : ℕ) → IsNewest w q m → get_or words q 0 ≡ m
finds_newest words w p n last here q m newest =
    let same = newest_same w.last last.0 newest.0 p q n m last.1 newest.1 in
    ap (λ k. get_or words k 0) (sym same.0) ∙ here ∙ same.1

-- what holds after a turn
pub turns_moved : (u : Setup) (words words' : List ℕ) (views : List View) (id : ℕ) (v w : View) (p n : ℕ) (base : List (ℕ × ℕ)) → get_elem? views id ≡ maybe.some v
    → IsSingle views → Turning u words' views v w p n base → Turns u words views → Turns u words' (set views id w)
turns_moved u words words' views id v w p n base at_id single t turns =
    let old = turns.counts id v at_id in
    let now = now_at views id v w at_id in
    let own : own_turns w ≡ own_turns v + 1 = ap (look 0 w.turns) t.port ∙ ap (λ l. look 0 l v.known.port) t.turns ∙ look-same 0 (own_turns v + 1) base v.known.port in
    let more : 0 < v.known.port → own_turns v ≤ own_turns w = λ lt. omega arith in
    turns_after u words words' views id v w at_id record {
      port = t.port;
      own = more;
      made = λ k lt some. dite (ℕ_discrete k v.known.port)
          (λ e. (id, w, now, t.port ∙ sym e, omega (arith, ap (look 0 w.turns) (e ∙ sym t.port))))
          (λ ne. let same : look 0 w.turns k ≡ look 0 base k = ap (λ l. look 0 l k) t.turns ∙ look-other 0 (own_turns v + 1) base v.known.port k ne in
          subst (MadeTurns (set views id w) k) (sym same) (made_stays views id v w at_id t.port more base t.made k lt (omega (arith, some, same))));
      told = made_stays views id v w at_id t.port more w.told (subst (AreMade views) (sym t.told) old.told);
      rests = λ lt at. ⊎_elim (λ (a : (w.at ≡ 0) × (v.at ≡ p + 1)). let was = old.moves t.pass p a.1 in omega arith) (λ (a : (w.at ≡ p + 1) × (v.at ≡ 0)). absurd (omega (arith, at, a.0))) t.at;
      moves = λ lt q at. ⊎_elim (λ (a : (w.at ≡ 0) × (v.at ≡ p + 1)). absurd (omega (arith, at, a.0))) (λ (a : (w.at ≡ p + 1) × (v.at ≡ 0)). let was = old.rests t.pass a.1 in omega arith) t.at;
      finds = λ lt all q m newest inside. finds_newest words' w p n t.last t.here q m newest;
      others = λ j x ne e lt all q inside.
          let known = all id w now (omega (arith, t.pass, t.port)) in
          let theirs = (turns.counts j x e).made w.known.port (omega (arith, t.pass, t.port)) (omega (arith, known, own)) in
          let same : theirs.0 ≡ id = single theirs.0 id theirs.1 v theirs.2 at_id (omega (arith, theirs.3, t.port, t.pass)) (theirs.3 ∙ t.port) in
          let is : theirs.1 ≡ v = maybe.some-injective theirs.1 v (sym theirs.2 ∙ ap (get_elem? views) same ∙ at_id) in
          absurd (omega (arith, known, own, theirs.4, ap own_turns is));
    } turns
