use Rattle.std.proofs.Common.{◌≡◌, ◌+◌, ◌<◌, ◌≤◌, ℕ, List, [], ◌∷◌, ◌++◌, length, length-append, length-set, replicate, drop, get_or, Option, Some, None, Vec, Global, vec_capacity, refl, sym, ap, subst, ◌∙◌, arith, append-nil}
use Rattle.std.proofs.lemmas.List.{drop_all, length-replicate}
use Rattle.std.proofs.lemmas.List.Elements.{All-get_or}
use Rattle.comp_trace.specs.declared.text.line.Line.{Line}
use Rattle.comp_trace.specs.declared.text.line.Action.TheVariants.{Root}
use Rattle.comp_trace.specs.declared.steps.shown.Shown.{Shown}
use Rattle.commands.specs.TraceTasks.{AreByLine}
use Rattle.commands.proofs.Walking.{left_all, left_of, listed, none_there, shown_by, printed_after, printed_by_line, walk_on, walked}
use Rattle.commands.proofs.by_line.by_line.Goals as goal
use Rattle.commands.proofs.by_line.by_line.Goals.{in-Some, in_default}

-- a default line
abbrev no_line : Line
no_line = record { mutator = 0; action = Root 0 0 }

pub loop-at-init : goal.loop-at-init
loop-at-init c = record {
  walk = ap (λ (l : List Shown). l ++ walked 1 c.args.lines.now (left_of c.args.runs.now (replicate 64 0))) c.requires.room.0
      ∙ ap (walked 1 c.args.lines.now) (left_all c.args.runs.now);
  few = omega (arith, ap length c.requires.room.0);
  room = refl;
  slots = let none : ℕ = 0 in length-replicate 64 none;
}

pub loop-at-preserved : goal.loop-at-preserved
loop-at-preserved c =
    let lines = c.args.lines.now in
    let runs = c.args.runs.now in
    let next = c.loop-at.next in
    let at = c.loop-at.at in
    let m = c.from-m.result in
    let i = c.loop-at.invariant in
    let out = c.loop-at.shown.items in
    let lt : at < length lines = omega arith in
    let by : m ≡ (let line : Line = get_or lines at no_line in line.mutator) = c.from-m.ensures in
    let within : (let line : Line = get_or lines at no_line in line.mutator < length runs) = All-get_or (λ (line : Line). line.mutator < length runs) lines at no_line lt c.requires.inside in
    let inside : m < length runs = subst (λ (k : ℕ). k < length runs) (sym by) within in
    let few : m < length next = omega (arith, inside, i.slots, c.requires.few) in
    let step = walk_on lines runs next at m no_line c.index-runs-m.result c.shown_at.result out (walked 1 lines (shown_by runs)) lt by few inside c.index-runs-m.is c.shown_at.ensures.value i.walk in
    let behind = λ (after : List ℕ). walked (at + 1 + 1) (drop (at + 1) lines) (left_of runs after) in
    elim c.match-shown_at.branch [
      | in-Some w ↦
          let is : c.shown_at.result ≡ Some w.in-Some.value = w.in-Some.is in
          let items : c.match-shown_at.shown.items ≡ out ++ w.in-Some.value ∷ [] = ap (λ (v : Vec Shown Global). v.items) w.shown-is ∙ w.push_reserved.ensures.items in
          let shown_at : c.match-shown_at.shown.items ≡ out ++ listed c.shown_at.result = items ∙ ap (λ (o : Option Shown). out ++ listed o) (sym is) in
          let after : c.match-shown_at.next ≡ printed_after c.shown_at.result next m = w.next-is ∙ ap (λ (o : Option Shown). printed_after o next m) (sym is) in
          record {
            walk = ap (λ (l : List Shown). l ++ behind c.match-shown_at.next) shown_at ∙ ap (λ (n : List ℕ). (out ++ listed c.shown_at.result) ++ behind n) after ∙ step;
            few = omega (arith, ap length items, length-append out (w.in-Some.value ∷ []), i.few);
            room = ap vec_capacity w.shown-is ∙ w.push_reserved.ensures.capacity ∙ i.room;
            slots = ap length w.next-is ∙ length-set next m (get_or next m 0 + 1) ∙ i.slots;
          }
      | in_default w ↦
          let is : c.shown_at.result ≡ None = none_there c.shown_at.result (λ one e. w.in_default.not-Some one e) in
          let shown_at : c.match-shown_at.shown.items ≡ out ++ listed c.shown_at.result =
          ap (λ (v : Vec Shown Global). v.items) w.shown-is ∙ sym (append-nil out) ∙ ap (λ (o : Option Shown). out ++ listed o) (sym is) in
          let after : c.match-shown_at.next ≡ printed_after c.shown_at.result next m = w.next-is ∙ ap (λ (o : Option Shown). printed_after o next m) (sym is) in
          record {
            walk = ap (λ (l : List Shown). l ++ behind c.match-shown_at.next) shown_at ∙ ap (λ (n : List ℕ). (out ++ listed c.shown_at.result) ++ behind n) after ∙ step;
            few = omega (arith, ap (λ (v : Vec Shown Global). length v.items) w.shown-is, i.few);
            room = ap vec_capacity w.shown-is ∙ i.room;
            slots = ap length w.next-is ∙ i.slots;
          }
    ]

pub returns : goal.returns
returns c =
    let lines = c.args.lines.now in
    let runs = c.args.runs.now in
    let at = c.loop-at.at in
    let out = c.loop-at.shown.items in
    let all : length lines ≤ at = omega arith in
    let end : out ≡ walked 1 lines (shown_by runs) =
    sym (append-nil out) ∙ ap (λ (ls : List Line). out ++ walked (at + 1) ls (left_of runs c.loop-at.next)) (sym (drop_all at lines all)) ∙ c.loop-at.invariant.walk in
    subst (AreByLine runs) (sym end) (printed_by_line lines runs c.requires.own)
