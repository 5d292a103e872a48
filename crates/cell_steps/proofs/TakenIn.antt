-- What a pass knows after it heard what another one knew, and took it in.
use Rattle.std.proofs.Common.{◌≡◌, ℕ, ◌%◌, ◌≤◌, Bool, true, false, cond, List, [], ◌∷◌, sym, refl, ap, ◌∙◌, arith, subst, eqb, ltb, ne_eqb, true≢false, ◌≢◌}
use Rattle.cell_steps.specs.Setup.{Setup, pages}
use Rattle.cell_steps.specs.Lists.{look, times, only, by, on, longer, StartsWith}
use Rattle.cell_steps.specs.View.{Known}
use Rattle.cell_steps.specs.Locks.{seen_of}
use Rattle.cell_steps.specs.Starts.{NamesFresh}
use Rattle.cell_steps.specs.Knowing.{Grows, TakesIn, TakesTurns}
use Rattle.cell_steps.specs.Plays.{is_others, noticing, Counted, after_load, after_first, taking_in, heard_of, Agrees}
use Rattle.cell_steps.specs.declared.view.View.{View}
use Rattle.cell_steps.proofs.Sums.{total-append}
use Rattle.cell_steps.proofs.Noticed.{counted}
use Rattle.cell_steps.proofs.Knows.{names_more}
use Rattle.cell_steps.proofs.Meetings.{first_still, names_last, seen_taken}

-- a list that may be longer has no fewer of an element
times_cond : (b : Bool) (q x : ℕ) (l : List ℕ) → times q l ≤ times q (cond b (x ∷ l) l)
times_cond true q x l = omega arith
times_cond false q x l = omega arith

-- a list that may have one more element has no more of another
times_other : (b : Bool) (q x : ℕ) (l : List ℕ) → q ≢ x → times q (cond b (x ∷ l) l) ≡ times q l
times_other true q x l ne = let none : only q x ≡ 0 = ap (λ b. cond b 1 0) (ne_eqb q x ne) in omega (arith, none)
times_other false q x l ne = refl

-- what a load of the first word leaves; b says whether it is the state word of a page
record Firsts (v : View) (b : Bool) (w : View) : Type 0 where
  grows : Grows v w
  did : w.known.did ≡ v.known.did
  builds : w.known.builds ≡ v.known.builds
  lost : (q : ℕ) → (q ≡ 0 → b ≡ false) → times q w.lost ≡ times q v.lost
  seen : w.known.seen ≡ v.known.seen
  heard : w.heard ≡ v.heard
  starts : w.known.starts ≡ v.known.starts
  about : w.about ≡ v.about
  at : w.at ≡ v.at
  mode : w.mode ≡ v.mode
  owes : w.owes ≡ v.owes
  late : w.late ≡ v.late

firsts : (v : View) (b : Bool) (n : ℕ) → Firsts v b (cond b (after_load v 0 n) v)
firsts v true n = record {
  grows = record {
    about = refl;
    port = refl;
    next = refl;
    built = λ q some. omega (arith, some, times_cond (eqb (n % 2) 1) q 0 v.known.built);
    lost = λ q. times_cond (is_others v n) q 0 v.lost;
    starts = λ p offset h. h;
    turns = λ port lt. omega arith;
  };
  did = refl;
  builds = refl;
  lost = λ q elsewhere. times_other (is_others v n) q 0 v.lost (λ z. true≢false (elsewhere z));
  seen = refl;
  heard = refl;
  starts = refl;
  about = refl;
  at = refl;
  mode = refl;
  owes = refl;
  late = refl;
}
firsts v false n = record {
  grows = record { about = refl; port = refl; next = refl; built = λ q some. some; lost = λ q. omega arith; starts = λ p offset h. h; turns = λ port lt. omega arith };
  did = refl;
  builds = refl;
  lost = λ q elsewhere. refl;
  seen = refl;
  heard = refl;
  starts = refl;
  about = refl;
  at = refl;
  mode = refl;
  owes = refl;
  late = refl;
}

-- the view v, which heard this from a note
abbrev pub told_this : View → Known → List (ℕ × ℕ) → View
told_this v other said = record v { heard = other; told = said }

-- What a pass with the view v knows after hearing this of another and taking it in, with the load that found n.
pub met : (v : View) (other : Known) (n : ℕ) (said now : List (ℕ × ℕ)) → Agrees (told_this v other said) → Counted (told_this v other said) now
    → TakesIn v other (noticing (taking_in (after_first (told_this v other said) n)) now)
met v other n said now a counted =
    let h = told_this v other said in
    let b = ltb 0 (pages v.about) in
    let w1 = after_first h n in
    let w = noticing (taking_in w1) now in
    let f = firsts h b n in
    let mine : (q : ℕ) → seen_of w1 q ≡ seen_of v q = λ q. ap (λ l. look [] l q) f.seen in
    let theirs : (q : ℕ) → heard_of w1 q ≡ look [] other.seen q = λ q. ap (λ (k : Known). look [] k.seen q) f.heard in
    let seen : (q : ℕ) → seen_of w q ≡ longer (seen_of v q) (look [] other.seen q) = λ q.
    seen_taken w1 q ∙ ap (λ l. longer l (heard_of w1 q)) (mine q) ∙ ap (λ l. longer (seen_of v q) l) (theirs q) in
    let about : w.about ≡ v.about = f.about in
    record {
      grows = record {
        about = about;
        port = f.grows.port;
        next = f.grows.next;
        built = λ q some. let more = f.grows.built q some in omega (arith, total-append (only q) w1.heard.built w1.known.built, more);
        lost = f.grows.lost;
        starts = λ p offset known. let same = f.grows.starts p offset known in names_more w1.about w1.known.starts w1.heard.starts p offset same;
        turns = counted.more;
      };
      stored = λ none. f.late ∙ none;
      did = f.did;
      builds = f.builds;
      lost = λ q none. f.lost q (λ z. ap (ltb 0) (none z));
      seen = seen;
      begins = λ q. subst (λ l. StartsWith l (seen_of v q)) (sym (seen q)) (a.begins q);
      others = λ q. subst (λ l. StartsWith l (look [] other.seen q)) (sym (seen q)) (a.heard q);
      built = λ q some. let same = ap (λ (k : Known). times q k.built) f.heard in omega (arith, total-append (only q) w1.heard.built w1.known.built, same);
      starts = λ p offset named. names_last w1.about w1.known.starts w1.heard.starts p offset
          (subst (λ (k : Known). NamesFresh w1.about k.starts p offset) (sym f.heard) (subst (λ (t : Setup). NamesFresh t other.starts p offset) (sym f.about) named));
      held = λ p at mode. seen p ∙ a.held p at mode;
      own = λ j port q. ap (by j) (seen q) ∙ a.own j port q ∙ ap (on q) (sym f.did);
      strangers = λ j lt le q. ap (by j) (seen q) ∙ a.strangers j lt le q;
    }

-- What it knows of turns then.
pub met_turns : (v : View) (other : Known) (n : ℕ) (said now : List (ℕ × ℕ)) → Counted (told_this v other said) now
    → TakesTurns v said (noticing (taking_in (after_first (told_this v other said) n)) now)
met_turns v other n said now counted =
    let b = ltb 0 (pages v.about) in
    let still = first_still (told_this v other said) b n in
    record { turns = counted.told; own = ap (look 0 now) still.port ∙ counted.own; rests = counted.rests; strangers = counted.strangers }
