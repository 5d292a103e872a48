-- The rule after a turn, and after a load or an exchange that was lost.
use Rattle.std.proofs.Common.{◌≡◌, ℕ, ◌+◌, ◌<◌, ◌⊎◌, false, List, ◌∷◌, length, get_or, set, sym, refl, ap, arith, subst, get_or-set_same}
use mathlib.Core.Option as maybe
use lib.ListN.{get_elem?}
use lib.Seq.{set-get_or}
use Rattle.atomic_table.specs.Table.{State}
use Rattle.cell_steps.specs.Setup.{Setup, pages}
use Rattle.cell_steps.specs.View.{Slot}
use Rattle.cell_steps.specs.Locks.{Journals}
use Rattle.cell_steps.specs.Turns.{own_turns, AreMade, Turns}
use Rattle.cell_steps.specs.Whole.{Kept, Keeps}
use Rattle.cell_steps.specs.Plays.{noticing}
use Rattle.cell_steps.specs.declared.view.View.{View}
use Rattle.cell_steps.proofs.TurnsKept.{turns_moved, finds_newest}
use Rattle.cell_steps.proofs.Noticed.{turns_in, turns_noticed, kept_turned}
use Rattle.cell_steps.proofs.PageMoves.{paged}

-- A step with which the seat takes page p or leaves it, and makes n of its state word. v is its view before, w its view
-- after, but for its turns.
pub record Turned (u : Setup) (s : State Slot View) (v w : View) (p n turns : ℕ) (before : List (ℕ × ℕ)) : Type 0 where
  pub inside : p < pages u
  pub pass : 0 < v.known.port
  pub ended : w.ended ≡ false
  pub port : w.known.port ≡ v.known.port
  pub told : w.told ≡ v.told
  pub last : w.last ≡ (p, n) ∷ v.last
  pub at : ((w.at ≡ 0) × (v.at ≡ p + 1)) ⊎ ((w.at ≡ p + 1) × (v.at ≡ 0))
  pub own : turns ≡ own_turns v
  pub made : AreMade s.views before

-- the rule holds after a turn
pub keeps_turned : (u : Setup) (s : State Slot View) (js : Journals) (id : ℕ) (v w : View) (p n own : ℕ) (h : maybe.Option Slot) (base : List (ℕ × ℕ)) (k : Kept u s js)
    → Turns u s.words s.views → get_elem? s.views id ≡ maybe.some v → Turned u s v w p n own base → Kept u (paged s p n h id w) js
    → Keeps u (paged s p n h id record w { turns = (v.known.port, own + 1) ∷ base })
keeps_turned u s js id v w p n own h base k turns at_id t now =
    let inside : p < length s.words = omega (arith, t.inside, k.locks.wide) in
    record {
      journals = js;
      kept = kept_turned u record { words = set s.words p n; homes = set s.homes p h; views = s.views } js id v w ((v.known.port, own + 1) ∷ base) w.told at_id t.ended now;
      turns = turns_moved u s.words (set s.words p n) s.views id v record w { turns = (v.known.port, own + 1) ∷ base } p n base at_id k.locks.single record {
        pass = t.pass;
        port = t.port;
        turns = ap (λ x. (v.known.port, x + 1) ∷ base) t.own;
        made = t.made;
        told = t.told;
        last = (v.last, t.last);
        here = get_or-set_same s.words p n 0 inside;
        at = t.at;
      } turns;
    }

-- the rule holds after a word is written back unchanged
pub keeps_written : (u : Setup) (s : State Slot View) (js : Journals) (homes : List (maybe.Option Slot)) (views : List View) (p : ℕ)
    → Kept u record { words = set s.words p (get_or s.words p 0); homes = homes; views = views } js → Turns u s.words views
    → Keeps u record { words = set s.words p (get_or s.words p 0); homes = homes; views = views }
keeps_written u s js homes views p k t = record { journals = js; kept = k; turns = subst (λ (ws : List ℕ). Turns u ws views) (sym (set-get_or s.words p 0)) t }

-- the rule holds after a step on word p that changes no word and finds the state word of page p. w is the view after,
-- but for its turns.
pub keeps_noticed : (u : Setup) (s : State Slot View) (js : Journals) (id : ℕ) (v w : View) (p : ℕ) (k : Kept u s js)
    → Turns u s.words s.views → get_elem? s.views id ≡ maybe.some v → 0 < v.known.port → w.ended ≡ false → w.known.port ≡ v.known.port → w.told ≡ v.told → w.at ≡ v.at
    → w.last ≡ (p, get_or s.words p 0) ∷ v.last
    → Kept u record { words = set s.words p (get_or s.words p 0); homes = s.homes; views = set s.views id w } js
    → Keeps u record { words = set s.words p (get_or s.words p 0); homes = s.homes; views = set s.views id (noticing w (turns_in s.views)) }
keeps_noticed u s js id v w p k turns at_id pass goes port told at last now =
    keeps_written u s js s.homes (set s.views id (noticing w (turns_in s.views))) p
    (kept_turned u record { words = set s.words p (get_or s.words p 0); homes = s.homes; views = s.views } js id v w (turns_in s.views) w.told at_id goes now)
    (turns_noticed u s js id v k turns at_id pass (noticing w (turns_in s.views)) port refl told at
    (λ q m newest inside. finds_newest s.words (noticing w (turns_in s.views)) p (get_or s.words p 0) (v.last, last) refl q m newest))
