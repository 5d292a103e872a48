-- What a call that failed left of its text: a beginning.
use Rattle.std.proofs.Common.{◌≡◌, ℕ, ◌+◌, Bool, List, ◌++◌, length, take, drop, Option, Result, Ok, Err, OnErr, IfErr, refl, sym, subst, ap, ◌∙◌, append_assoc}
use Rattle.std.proofs.KnownBytes.{Appends-trans}
use Rattle.std.proofs.lemmas.List.{take_at, take-append-drop}
use Rattle.std.proofs.Math.Seq.{take-append-add}
use Rattle.std.specs.Io.KnownBytes.{Appends, Keeps}
use Rattle.heap_layout.specs.Counted.{AppendsBeginning}
use Rattle.heap_layout.specs.Writing.{AppendsSome}
use Rattle.command_io.specs.declared.refusal.CommandRefusal.{CommandRefusal}
use Rattle.command_io.specs.declared.refusal.CommandRefusal.TheVariants.{CannotPrint}
use Rattle.command_io.proofs.Written.{unflushed}

pub of_part : (before after : Option (List ℕ)) (was is : Bool) (part : List ℕ) → AppendsBeginning before after was is part → AppendsSome before after part
of_part before after was is part h = record { taken = h.taken; bytes = h.bytes }

-- a beginning of a text is one of a longer text
pub begun_longer : (a b : Option (List ℕ)) (part more : List ℕ) → AppendsSome a b part → AppendsSome a b (part ++ more)
begun_longer a b part more h =
    let front = take h.taken part in
    let rest = drop h.taken part in
    let split : part ++ more ≡ front ++ (rest ++ more) = ap (λ (l : List ℕ). l ++ more) (sym (take-append-drop h.taken part)) ∙ append_assoc front rest more in
    let same : take (length front) (part ++ more) ≡ front = ap (λ (l : List ℕ). take (length front) l) split ∙ take_at front (rest ++ more) (length front) refl in
    record { taken = length front; bytes = subst (Appends a b) (sym same) h.bytes }

-- a text, and then a beginning of another
pub begun_then : (a b c : Option (List ℕ)) (part more : List ℕ) → Appends a b part → AppendsSome b c more → AppendsSome a c (part ++ more)
begun_then a b c part more first h = record {
  taken = length part + h.taken;
  bytes = subst (Appends a c) (sym (take-append-add part more h.taken)) (Appends-trans a b c part (take h.taken more) first h.bytes);
}

-- a beginning of a text that stands in the midst of a longer one
pub begun_amid : (a b c : Option (List ℕ)) (first part rest whole : List ℕ) → whole ≡ first ++ part ++ rest → Appends a b first → AppendsSome b c part → AppendsSome a c whole
begun_amid a b c first part rest whole is printed h = subst (AppendsSome a c) (sym is) (begun_longer a c (first ++ part) rest (begun_then a b c first part printed h))

-- the same of a call that may have failed
pub begun_after : (a b c : Option (List ℕ)) (part more : List ℕ) (result : Result (Unit {0}) CommandRefusal) → Appends a b part → OnErr result (AppendsSome b c more) → OnErr result (AppendsSome a c (part ++ more))
begun_after a b c part more (Ok _) first h = tt
begun_after a b c part more (Err refusal) first h = begun_then a b c part more first h

-- all of a text, if what follows it keeps it
pub begun_kept : (a b c : Option (List ℕ)) (part : List ℕ) (result : Result (Unit {0}) CommandRefusal) → Appends a b part → Keeps b c → OnErr result (AppendsSome a c part)
begun_kept a b c part (Ok _) first kept = tt
begun_kept a b c part (Err refusal) first kept = unflushed a b c part first kept

-- why a call failed that only the output can fail, of which something holds
pub failed_by : (P : CommandRefusal → Type 0) (Q : Type 0) → (Q → P CannotPrint) → (result : Result (Unit {0}) CommandRefusal) → OnErr result (result ≡ Err CannotPrint) → OnErr result Q → IfErr result P
failed_by P Q f (Ok _) cause h = tt
failed_by P Q f (Err refusal) cause h = let is : refusal ≡ CannotPrint = cc in subst P (sym is) (f h)

-- what follows of what an Err left
pub err_left : (P Q : Type 0) → (P → Q) → (result : Result (Unit {0}) CommandRefusal) → OnErr result P → OnErr result Q
err_left P Q f (Ok _) h = tt
err_left P Q f (Err refusal) h = f h
