-- What a pass knows of turns after a load or an exchange on a state word.
use Rattle.std.proofs.lemmas.Bool.{cases_lt}
use Rattle.std.proofs.lemmas.List.{set-set}
use Rattle.std.proofs.Common.{◌≡◌, ℕ, zero, suc, ◌/◌, ◌<◌, ◌≤◌, ◌≢◌, ◌⊎◌, inl, inr, false, List, [], ◌∷◌, get_or, set, sym, refl, ap, ◌∙◌, ⊎_elim, arith, subst}
use mathlib.Core.Logic.{dite}
use native.Mathlib.Decide.{ℕ_discrete}
use mathlib.Core.Option as maybe
use lib.ListN.{get_elem?}
use Rattle.atomic_table.specs.Table.{State}
use Rattle.cell_steps.specs.Setup.{Setup, pages}
use Rattle.cell_steps.specs.Lists.{look}
use Rattle.cell_steps.specs.View.{Slot}
use Rattle.cell_steps.specs.Locks.{Journals}
use Rattle.cell_steps.specs.Turns.{own_turns, AreMade, HasAllTurns, IsNewest, Turns}
use Rattle.cell_steps.specs.Whole.{Kept}
use Rattle.cell_steps.specs.Plays.{Counted, Notices}
use Rattle.cell_steps.specs.declared.view.View.{View}
use Rattle.cell_steps.proofs.Sums.{look-same, look-other}
use Rattle.cell_steps.proofs.LocksKept.{now_at}
use Rattle.cell_steps.proofs.TurnsKept.{made_stays, turns_after}
use Rattle.cell_steps.proofs.ViewMoves.{kept_looked}

-- the turns that all passes made
pub turns_in : List View → List (ℕ × ℕ)
turns_in [] = []
turns_in (v ∷ vs) = (v.known.port, own_turns v) ∷ turns_in vs

-- some view has this port and made as many turns
abbrev pub HasTurns : List View → ℕ → ℕ → Type 0
HasTurns views port n = (j : ℕ) × (w : View) × (get_elem? views j ≡ maybe.some w) × (w.known.port ≡ port) × (n ≡ own_turns w)

-- one view more
has_next : (v : View) (vs : List View) (port n : ℕ) → HasTurns vs port n → HasTurns (v ∷ vs) port n
has_next v vs port n h = (suc h.0, h.1, h.2, h.3, h.4)

-- the first view has this port
has_first : (v : View) (vs : List View) (port : ℕ) → port ≡ v.known.port → HasTurns (v ∷ vs) port (look 0 (turns_in (v ∷ vs)) port)
unfolding turns_in
has_first v vs port e = (0, v, refl, sym e, ap (look 0 ((v.known.port, own_turns v) ∷ turns_in vs)) e ∙ look-same 0 (own_turns v) (turns_in vs) v.known.port)

-- another view has it
has_other : (v : View) (vs : List View) (port : ℕ) → port ≢ v.known.port → HasTurns vs port (look 0 (turns_in vs) port) → HasTurns (v ∷ vs) port (look 0 (turns_in (v ∷ vs)) port)
unfolding turns_in
has_other v vs port ne h = subst (HasTurns (v ∷ vs) port) (sym (look-other 0 (own_turns v) (turns_in vs) v.known.port port ne)) (has_next v vs port (look 0 (turns_in vs) port) h)

-- turns of a port are those of a view
turns_made : (views : List View) (port : ℕ) → 0 < look 0 (turns_in views) port → HasTurns views port (look 0 (turns_in views) port)
unfolding turns_in
turns_made [] port some = absurd (omega arith)
turns_made (v ∷ vs) port some = dite (ℕ_discrete port v.known.port)
    (λ e. has_first v vs port e)
    (λ ne. let other : look 0 (turns_in (v ∷ vs)) port ≡ look 0 (turns_in vs) port = look-other 0 (own_turns v) (turns_in vs) v.known.port port ne in
    has_other v vs port ne (turns_made vs port (omega (arith, some, other))))

-- the turns of a view are found
turns_found : (views : List View) (j : ℕ) (x : View) → get_elem? views j ≡ maybe.some x → HasTurns views x.known.port (look 0 (turns_in views) x.known.port)
turns_found [] j x e = absurd (maybe.some-ne-none x (sym e))
turns_found (v ∷ vs) zero x e = has_first v vs x.known.port (ap (λ (y : View). y.known.port) (sym (maybe.some-injective v x e)))
turns_found (v ∷ vs) (suc j) x e = dite (ℕ_discrete x.known.port v.known.port)
    (λ same. has_first v vs x.known.port same)
    (λ ne. has_other v vs x.known.port ne (turns_found vs j x e))

-- a pass whose turns are not all among these
abbrev pub Unknown : List View → List (ℕ × ℕ) → Type 0
Unknown views turns = (j : ℕ) × (x : View) × (get_elem? views j ≡ maybe.some x) × (0 < x.known.port) × (look 0 turns x.known.port < own_turns x)

-- these are all turns of one view more
all_next : (v : View) (vs : List View) (turns : List (ℕ × ℕ)) → (0 < v.known.port → own_turns v ≤ look 0 turns v.known.port) → HasAllTurns vs turns → HasAllTurns (v ∷ vs) turns
all_next v vs turns here rest zero x e = subst (λ (y : View). 0 < y.known.port → own_turns y ≤ look 0 turns y.known.port) (maybe.some-injective v x e) here
all_next v vs turns here rest (suc j) x e = rest j x e

-- these are all turns, or some pass made more
all_or_not : (views : List View) (turns : List (ℕ × ℕ)) → HasAllTurns views turns ⊎ Unknown views turns
all_or_not [] turns = inl (λ j x e. absurd (maybe.some-ne-none x (sym e)))
all_or_not (v ∷ vs) turns = ⊎_elim
    (λ (rest : HasAllTurns vs turns). ⊎_elim
    (λ (lt : look 0 turns v.known.port < own_turns v). dite (ℕ_discrete v.known.port 0)
    (λ z. inl (all_next v vs turns (λ some. absurd (omega arith)) rest))
    (λ ne. inr (0, v, refl, omega arith, lt)))
    (λ (le : own_turns v ≤ look 0 turns v.known.port). inl (all_next v vs turns (λ some. le) rest))
    (cases_lt (look 0 turns v.known.port) (own_turns v)))
    (λ (h : Unknown vs turns). inr (suc h.0, h.1, h.2, h.3, h.4))
    (all_or_not vs turns)

module _ (u : Setup) (s : State Slot View) (js : Journals) (id : ℕ) (v : View) (k : Kept u s js) (turns : Turns u s.words s.views)
    (at_id : get_elem? s.views id ≡ maybe.some v) (pass : 0 < v.known.port) where
  -- the turns of a pass
  turns_of_pass : (j : ℕ) (x : View) → get_elem? s.views j ≡ maybe.some x → 0 < x.known.port → look 0 (turns_in s.views) x.known.port ≡ own_turns x
  turns_of_pass j x e lt =
      let found = turns_found s.views j x e in
      let same : found.0 ≡ j = k.locks.single found.0 j found.1 x found.2 e (omega (arith, found.3, lt)) found.3 in
      let is : found.1 ≡ x = maybe.some-injective found.1 x (sym found.2 ∙ ap (get_elem? s.views) same ∙ e) in
      found.4 ∙ ap own_turns is

  -- turns that were made are among these
  made_within : (known : List (ℕ × ℕ)) → AreMade s.views known → (port : ℕ) → 0 < port → look 0 known port ≤ look 0 (turns_in s.views) port
  made_within known made port lt = dite (ℕ_discrete (look 0 known port) 0)
      (λ z. omega arith)
      (λ ne. let m = made port lt (omega arith) in
      let of = turns_of_pass m.0 m.1 m.2 (omega (arith, m.3, lt)) in
      omega (arith, m.4, of, ap (look 0 (turns_in s.views)) m.3))

  -- what the pass knows of turns if it knows of all
  pub counted : Counted v (turns_in s.views)
  counted =
      let mine = turns.counts id v at_id in
      record {
        more = made_within v.turns mine.made;
        told = made_within v.told mine.told;
        own = turns_of_pass id v at_id pass;
        rests = mine.rests pass;
        strangers = λ port makes le. dite (ℕ_discrete (look 0 (turns_in s.views) port) 0)
            (λ z. z)
            (λ ne. let m = turns_made s.views port (omega arith) in
            let below = (k.ended.closes id v at_id).ports makes m.0 m.1 m.2 in
            absurd (omega (arith, below, m.3, le)));
      }

  -- and with the state word of page p
  pub notices : (p : ℕ) → p < pages u → Notices v p (get_or s.words p 0) (turns_in s.views)
  notices p lt =
      let mine = turns.counts id v at_id in
      record {
        counted = counted;
        busy = λ more.
            let x = (k.locks.cells p lt).out more in
            let h = (k.locks.placed x.0 x.1 x.2).at p x.3 in
            let half : get_or s.words p 0 / 2 ≡ x.1.known.port = omega (arith, h.word, h.mode) in
            let odd = (turns.counts x.0 x.1 x.2).moves h.port p x.3 in
            let of = turns_of_pass x.0 x.1 x.2 h.port in
            omega (arith, odd, of, ap (look 0 (turns_in s.views)) half);
        news = λ n newest other. ⊎_elim
            (λ (all : HasAllTurns s.views v.turns). absurd (other (mine.finds pass all p n newest lt)))
            (λ (h : Unknown s.views v.turns).
            let of = turns_of_pass h.0 h.1 h.2 h.3 in
            let own = turns_of_pass id v at_id pass in (
              h.1.known.port,
              h.3,
              (λ same. let i : h.0 ≡ id = k.locks.single h.0 id h.1 v h.2 at_id h.3 same in
                  let is : h.1 ≡ v = maybe.some-injective h.1 v (sym h.2 ∙ ap (get_elem? s.views) i ∙ at_id) in
                  omega (arith, h.4, ap own_turns is, ap (look 0 v.turns) same)),
              omega (arith, h.4, of),
            ))
            (all_or_not s.views v.turns);
      }

  -- these turns were made
  pub are_made : AreMade s.views (turns_in s.views)
  are_made port lt some = let m = turns_made s.views port some in (m.0, m.1, m.2, m.3, omega (arith, m.4))

  -- what holds after the pass knows of all turns
  pub turns_noticed : (w : View) → w.known.port ≡ v.known.port → w.turns ≡ turns_in s.views → w.told ≡ v.told → w.at ≡ v.at
      → ((p n : ℕ) → IsNewest w p n → p < pages u → get_or s.words p 0 ≡ n) → Turns u s.words (set s.views id w)
  turns_noticed w port now told at newest =
      let old = turns.counts id v at_id in
      let own : own_turns w ≡ own_turns v = ap (look 0 w.turns) port ∙ ap (λ l. look 0 l v.known.port) now ∙ turns_of_pass id v at_id pass in
      let more : 0 < v.known.port → own_turns v ≤ own_turns w = λ lt. omega arith in
      turns_after u s.words s.words s.views id v w at_id record {
        port = port;
        own = more;
        made = made_stays s.views id v w at_id port more w.turns (subst (AreMade s.views) (sym now) are_made);
        told = made_stays s.views id v w at_id port more w.told (subst (AreMade s.views) (sym told) old.told);
        rests = λ lt at'. let was = old.rests pass (sym at ∙ at') in omega arith;
        moves = λ lt p at'. let was = old.moves pass p (sym at ∙ at') in omega arith;
        finds = λ lt all p n is inside. newest p n is inside;
        others = λ j x ne e lt all p inside. refl;
      } turns

-- the rule does not depend on what a view knows of turns
pub kept_turned : (u : Setup) (s : State Slot View) (js : Journals) (id : ℕ) (v w : View) (now told : List (ℕ × ℕ)) → get_elem? s.views id ≡ maybe.some v → w.ended ≡ false
    → Kept u record { words = s.words; homes = s.homes; views = set s.views id w } js
    → Kept u record { words = s.words; homes = s.homes; views = set s.views id record w { turns = now; told = told } } js
kept_turned u s js id v w now told at_id goes k =
    let x : View = record w { turns = now; told = told } in
    let here = now_at s.views id v w at_id in
    subst (λ (views : List View). Kept u record { words = s.words; homes = s.homes; views = views } js) (set-set s.views id w x)
    (kept_looked u record { words = s.words; homes = s.homes; views = set s.views id w } js id w x k here goes (k.words.stores id w here).heard record {
      about = refl;
      at = refl;
      mode = refl;
      owes = refl;
      ended = refl;
      learnt = refl;
      port = refl;
      next = refl;
      seen = refl;
      did = refl;
      builds = refl;
      built = (k.locks.placed id w here).built;
      starts = k.starts.known id w here;
      late = refl;
      laid = refl;
      last = λ p lt e. e;
      heard = k.heard id w here;
    })
