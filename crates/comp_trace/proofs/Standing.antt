-- The state of a replay after one line more.
use Rattle.std.proofs.Common.{◌≡◌, ℕ, zero, suc, ◌+◌, ◌<◌, ◌==◌, cond, List, [], ◌∷◌, ◌++◌, length, replicate, get_or, set, refl, sym, ap, subst, ◌∙◌, arith, append_assoc, eq-eqb, ne_eqb, get_or-set_same, get_or-set_other}
use Rattle.std.proofs.lemmas.List.{append-nil}
use Rattle.std.proofs.lemmas.List.Elements.{filter-append}
use native.Mathlib.Decide.{ℕ_discrete}
use mathlib.Core.Logic.{dite}
use mathlib.Core.Option.{some-injective}
use Rattle.comp_mutator.specs.Entry.{Entry}
use Rattle.comp_mutator.specs.Lists.{but, on}
use Rattle.comp_mutator.specs.Locks.{Journals}
use Rattle.comp_mutator.specs.Setup.{Setup}
use Rattle.comp_mutator.specs.Pass.{Pass}
use Rattle.comp_mutator.proofs.Sums.{is_inside, there_at}
use Rattle.comp_mutator.proofs.Growing.{begins_then, grows_none, grows_then}
use Rattle.comp_mutator.specs.Calls.{Grows, KnowsToo}
use Rattle.comp_mutator.specs.Passes.{seen}
use Rattle.comp_mutator.specs.Merged.{written_by}
use Rattle.comp_mutator.proofs.OwnPages.{on_append}
use Rattle.comp_mutator.specs.Mutators.{pass_of}
use Rattle.comp_mutator.specs.declared.mutator.Mutator.{Mutator}
use Rattle.comp_mutator.specs.Refusal.{Refusal}
use Rattle.comp_trace.specs.Acting.{null_registers, registers_after, shown_at}
use Rattle.comp_trace.specs.LineBuilds.{built_after, touched, BuildOn, HaveBuilt, HaveSeenBuilt, SeeBuiltOn}
use Rattle.comp_trace.specs.WrittenEntries.{written_by_each, AreMerged, WrittenEntries, HaveSeen, HaveSeenAll, HaveStart, IsMerged, KnowTheirs}
use Rattle.comp_trace.specs.Replays.{CannotGoOn, GoesOn, RanTo, HasReplayed}
use Rattle.comp_trace.specs.RoundsOfMeetings.{Advances, AreLater, DidNothing, IsTurnedDown, Learns, RanLine, WasTurnedDown}
use Rattle.comp_trace.specs.Runs.{beginning, Does, Moment, Runs}
use Rattle.comp_trace.specs.Lines.{with_entries, Acts}
use Rattle.comp_trace.specs.declared.text.line.Action.{Action}
use Rattle.comp_trace.specs.declared.text.line.Line.{Line}
use Rattle.comp_trace.specs.declared.steps.shown.Shown.{Shown}
use Rattle.comp_trace.proofs.Merging.{merged_by, merged_still}

-- a run goes on by one line
runs_more : (u : Setup) (start : Journals) (n : ℕ) (lines : List Line) (line : Line) (before now after : Moment)
    → Runs u start n lines before now → Does u start (n + length lines) line now after → Runs u start n (lines ++ line ∷ []) before after
runs_more u start n [] line before now after run does =
    (after, subst (λ (m : Moment). Does u start n line m after) run (subst (λ (k : ℕ). Does u start k line now after) (omega arith) does), refl)
runs_more u start n (first ∷ lines) line before now after run does =
    (run.0, run.1, runs_more u start (n + 1) lines line run.0 now after run.2 (subst (λ (k : ℕ). Does u start k line now after) (let e : n + suc (length lines) ≡ n + 1 + length lines = omega arith in e) does))

written_append : (k : ℕ) (xs ys : List (ℕ × Entry)) → written_by k (xs ++ ys) ≡ written_by k xs ++ written_by k ys
written_append k xs ys = filter-append (λ (x : ℕ × Entry). x.1.writer == k) xs ys

-- the journals with the entries so far, and then with those of a line
further : (start : Journals) (added new : List (ℕ × Entry)) → with_entries (with_entries start added) new ≡ with_entries start (added ++ new)
further start added new = λ i p. (append_assoc (start p) (on p added) (on p new) ∙ ap (λ (l : List Entry). start p ++ l) (sym (on_append p added new))) i

all_null : (n m : ℕ) → m < n → get_or (replicate n null_registers) m [] ≡ null_registers
all_null zero m lt = absurd (omega (arith, lt))
all_null (suc n) zero lt = refl
all_null (suc n) (suc m) lt = all_null n m (omega (arith, lt))

-- before the first line
pub stands_first : (u : Setup) (n : ℕ) (start : Journals) (first : WrittenEntries) (items : List (List ℕ)) → AreMerged n first start → items ≡ replicate n null_registers
    → HasReplayed u n start first first [] items [] beginning
stands_first u n start first items merged null = record {
  ran = record { runs = refl; did = λ k lt. sym (append-nil (first k)); shows = refl };
  merged = λ p. merged_still n first p (start p) (merged p);
  hold = λ m lt. ap (λ (l : List (List ℕ)). get_or l m []) null ∙ all_null n m lt;
}

module _ (u : Setup) (n : ℕ) (start : Journals) (first written : WrittenEntries) (now : Moment) (lines : List Line) (line : Line) (items : List (List ℕ)) (shown : List Shown) (own : List ℕ)
    (inside : line.mutator < n) (wide : length items ≡ n) (is : own ≡ get_or items line.mutator []) (stands : HasReplayed u n start first written lines items shown now)
  where
    -- what the registers hold
    pub held : own ≡ now.registers line.mutator
    held = is ∙ stands.hold line.mutator inside

    pub line_stands : (later : WrittenEntries) (number answer : ℕ) (registers : List ℕ) (showing : List Shown) → number ≡ 1 + length lines
        → ((journals : Journals) → AreMerged n written journals → Advances u n line.mutator written later journals line.action own answer)
        → registers ≡ registers_after line.action own answer → showing ≡ shown ++ shown_at number line.action answer
        → (after : Moment) × HasReplayed u n start first later (lines ++ line ∷ []) (set items line.mutator registers) showing after
        × (after.built ≡ built_after now.built line.mutator (touched u line.action own answer))
    line_stands later number answer registers showing counted advances set_is shows =
        let m = line.mutator in
        let did = advances (with_entries start now.added) stands.merged in
        let after : Moment = record {
          registers = but now.registers m (registers_after line.action (now.registers m) answer);
          added = now.added ++ did.added;
          shown = now.shown ++ shown_at number line.action answer;
          built = built_after now.built m (touched u line.action (now.registers m) answer);
        } in (
          after,
          record {
            ran = record {
              runs = runs_more u start 1 lines line beginning now after stands.ran.runs
                  (subst (λ (k : ℕ). Does u start k line now after) counted
                  (record { answer = answer; new = did.added; acts = subst (λ (r : List ℕ). Acts u (with_entries start now.added) m line.action r did.added answer) held did.acts; registers = refl; added = refl; shown = refl; built = refl }));
              did = λ k lt. did.did k lt ∙ ap (λ (l : List (ℕ × Entry)). l ++ written_by k did.added) (stands.ran.did k lt) ∙ append_assoc (first k) (written_by k now.added) (written_by k did.added)
                  ∙ ap (λ (l : List (ℕ × Entry)). first k ++ l) (sym (written_append k now.added did.added));
              shows = shows ∙ ap (λ (l : List Shown). l ++ shown_at number line.action answer) stands.ran.shows;
            };
            merged = subst (AreMerged n later) (further start now.added did.added) did.merged;
            hold = λ k lt. dite (ℕ_discrete k m)
                (λ same. ap (λ (x : ℕ). get_or (set items m registers) x []) same ∙ get_or-set_same items m registers [] (omega (arith, inside, wide)) ∙ set_is ∙ ap (λ (r : List ℕ). registers_after line.action r answer) held
                ∙ sym (ap (λ t. cond t (registers_after line.action (now.registers m) answer) (now.registers k)) (eq-eqb k m same)))
                (λ other. get_or-set_other items m k registers [] other ∙ stands.hold k lt ∙ sym (ap (λ t. cond t (registers_after line.action (now.registers m) answer) (now.registers k)) (ne_eqb k m other)));
          },
          ap (λ (r : List ℕ). built_after now.built m (touched u line.action r answer)) (sym held),
        )

-- with the index of the mutator made of the line's number
module _ {L : Type 0} (u : Setup) (before after : List (Mutator L)) (line : Line) (items : List (List ℕ)) (own : List ℕ) (i : ℕ)
    (at : i ≡ line.mutator) (inside : line.mutator < length before) (wide : length items ≡ length before) (is : own ≡ get_or items i [])
  where
    is_there : own ≡ get_or items line.mutator []
    is_there = is ∙ ap (λ (k : ℕ). get_or items k []) at

    pub goes_on : (number answer : ℕ) (registers : List ℕ) (shown showing : List Shown) → RanLine u i before after line.action own answer → registers ≡ registers_after line.action own answer
        → showing ≡ shown ++ shown_at number line.action answer → BuildOn i (touched u line.action own answer) before after → SeeBuiltOn i (touched u line.action own answer) before after
        → GoesOn u line number before after items (set items i registers) shown showing
    goes_on number answer registers shown showing ran set_is shows builds sees start first lines now counted stands =
        let n = length before in
        let one = line_stands u n start first (written_by_each before) now lines line items shown own inside wide is_there stands (written_by_each after) number answer registers showing counted
        (λ journals merged. subst (λ (k : ℕ). Advances u n k (written_by_each before) (written_by_each after) journals line.action own answer) at (ran journals merged)) set_is shows in (
          one.0,
          subst (λ (k : ℕ). HasReplayed u n start first (written_by_each after) (lines ++ line ∷ []) (set items k registers) showing one.0) (sym at) one.1,
          λ built. subst (HaveBuilt after) (ap (λ (k : ℕ). built_after now.built k (touched u line.action own answer)) at ∙ sym one.2) (builds now.built built),
          λ known. subst (HaveSeenBuilt after) (ap (λ (k : ℕ). built_after now.built k (touched u line.action own answer)) at ∙ sym one.2) (sees now.built known),
        )

    pub cannot_go_on : (shown : List Shown) (refusal : Refusal) → WasTurnedDown u i before after line.action own refusal → CannotGoOn u line before after items shown refusal
    cannot_go_on shown refusal cause start first lines now stands =
        let journals = with_entries start now.added in
        subst (λ (r : List ℕ). IsTurnedDown u line.mutator before after journals line.action r refusal)
        (held u (length before) start first (written_by_each before) now lines line items shown own inside wide is_there stands)
        (subst (λ (k : ℕ). IsTurnedDown u k before after journals line.action own refusal) at (cause journals stands.merged))

-- ---- mutators over several lines

pub later_none : {L : Type 0} (mutators : List (Mutator L)) → AreLater mutators mutators
later_none mutators = record {
  count = refl;
  learn = λ k before after was is. let same = some-injective before after (sym was ∙ is) in subst (λ m. Learns (pass_of before) (pass_of m)) same (grows_none (pass_of before), λ h. h);
}

learns_then : (a b c : Pass) → Learns a b → Learns b c → Learns a c
learns_then a b c h k = (grows_then a b c h.0 k.0, λ made. k.1 (h.1 made))

pub later_then : {L : Type 0} (a b c : List (Mutator L)) → AreLater a b → AreLater b c → AreLater a c
later_then a b c h k = record {
  count = k.count ∙ h.count;
  learn = λ j before after was is.
      let middle = there_at b j (omega (arith, is_inside a j before was, h.count)) in
      learns_then (pass_of before) (pass_of middle.0) (pass_of after) (h.learn j before middle.0 was middle.1) (k.learn j middle.0 after middle.1 is);
}

-- each still knows what it made
know_later : {L : Type 0} (a b : List (Mutator L)) → AreLater a b → KnowTheirs a → KnowTheirs b
know_later a b h made j m at =
    let was = there_at a j (omega (arith, is_inside b j m at, h.count)) in
    (h.learn j was.0 m was.1 at).1 (made j was.0 was.1)

-- all have seen built, later on, what they had seen built
pub seen_built_later : {L : Type 0} (a b : List (Mutator L)) (built : List (ℕ × ℕ)) → AreLater a b → HaveSeenBuilt a built → HaveSeenBuilt b built
seen_built_later a b built h known p there j m at =
    let was = there_at a j (omega (arith, is_inside b j m at, h.count)) in
    (h.learn j was.0 m was.1 at).0.built p (known p there j was.0 was.1)

-- a pass that knows what another one knows knows what that one knew earlier
knows_since : (a b c : Pass) → Grows a b → KnowsToo b c → KnowsToo a c
knows_since a b c h k = record {
  seen = λ p. begins_then (seen a p) (seen b p) (seen c p) (h.seen p) (k.seen p);
  built = λ p z. k.built p (h.built p z);
  starts = λ p offset z. k.starts p offset (h.starts p offset z);
  turns = λ q. let first = h.turns q in let then = k.turns q in omega (arith, first, then);
}

-- what was refused since a later start was refused since the first; and what held of the pass at the call still holds
pub refused_since : {L : Type 0} (u : Setup) (i : ℕ) (first before after : List (Mutator L)) (journals : Journals) (action : Action) (registers : List ℕ) (refusal : Refusal) → AreLater first before
    → (h : IsTurnedDown u i before after journals action registers refusal) → (Q : Pass → Type 0) → Q h.old → (t : IsTurnedDown u i first after journals action registers refusal) × Q t.old
refused_since u i first before after journals action registers refusal later h Q q = (
  record {
    old = h.old;
    new = h.new;
    wrote_none = h.wrote_none;
    saw_none = h.saw_none;
    began = λ m at.
        let now = there_at before i (omega (arith, is_inside first i m at, later.count)) in
        grows_then (pass_of m) (pass_of now.0) h.old (later.learn i m now.0 at now.1).0 (h.began now.0 now.1);
    met = λ k m at.
        let now = there_at before k (omega (arith, is_inside first k m at, later.count)) in
        knows_since (pass_of m) (pass_of now.0) h.old (later.learn k m now.0 at now.1).0 (h.met k now.0 now.1);
    did = h.did;
    knows = h.knows;
    starts = λ made. h.starts (know_later first before later made);
    grows = h.grows;
    refuses = h.refuses;
    ends = h.ends;
  },
  q,
)

-- mutators that have seen all that they did have seen all that the replay added
pub seen_there : {L : Type 0} (u : Setup) (start : Journals) (first written : WrittenEntries) (lines : List Line) (items : List (List ℕ)) (shown : List Shown) (n : ℕ) (after : List (Mutator L)) (now : Moment)
    → HaveSeenAll after → length after ≡ n → ((k : ℕ) → k < n → written_by_each after k ≡ written k) → HasReplayed u n start first written lines items shown now
    → HaveSeen after (with_entries start now.added)
seen_there u start first written lines items shown n after now seen long same h = seen (with_entries start now.added) (λ p.
    merged_by (length after) written (written_by_each after) p (with_entries start now.added p) (λ k lt. sym (same k (omega (arith, lt, long))))
    (subst (λ (c : ℕ). IsMerged c written p (with_entries start now.added p)) (sym long) (h.merged p)))

-- it ran to that moment, whatever the mutators learnt since
pub ran_to : (u : Setup) (n : ℕ) (start : Journals) (first written later : WrittenEntries) (lines : List Line) (shown : List Shown) (now : Moment) → RanTo u n start first written lines shown now
    → ((k : ℕ) → k < n → later k ≡ written k) → RanTo u n start first later lines shown now
ran_to u n start first written later lines shown now h same = record { runs = h.runs; did = λ k lt. same k lt ∙ h.did k lt; shows = h.shows }

-- the state of a replay, written with equal numbers and lists
pub restand : (u : Setup) (n m : ℕ) (start : Journals) (first written : WrittenEntries) (lines : List Line) (items others : List (List ℕ)) (shown : List Shown) (now : Moment) → n ≡ m → items ≡ others
    → HasReplayed u n start first written lines items shown now → HasReplayed u m start first written lines others shown now
restand u n m start first written lines items others shown now long same h =
    subst (λ (k : ℕ). HasReplayed u k start first written lines others shown now) long (subst (λ (l : List (List ℕ)). HasReplayed u n start first written lines l shown now) same h)

-- if the mutators did nothing since, they have the same start
pub start_same : {L : Type 0} (u : Setup) (old new : List (Mutator L)) → length new ≡ length old → DidNothing old new → HaveStart u new → HaveStart u old
start_same u old new long same h =
    (h.0, λ p. subst (λ (n : ℕ). IsMerged n (written_by_each old) p (h.0 p)) long (merged_by (length new) (written_by_each new) (written_by_each old) p (h.0 p) (λ k lt. same k (omega (arith, lt, long))) (h.1 p)), h.2)

pub replicate_more : {A : Type 0} (n : ℕ) (x : A) → replicate n x ++ x ∷ [] ≡ replicate (n + 1) x
replicate_more {A} n x = more n ∙ ap (λ (k : ℕ). replicate k x) (let e : suc n ≡ n + 1 = omega arith in e)
  where
    more : (k : ℕ) → replicate k x ++ x ∷ [] ≡ replicate (suc k) x
    more zero = refl
    more (suc k) = ap (λ l. x ∷ l) (more k)
