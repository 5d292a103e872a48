-- What was read through the reader of a file.
use Rattle.std.proofs.Common.{◌≡◌, ℕ, List, Option, Result, Ok, Err, IfErr, IfOk, inr, subst, sym}
use Rattle.command_io.specs.Disk.{Disk, RefusesFile, SomeFile}
use Rattle.command_io.specs.declared.refusal.Input.{Input}
use Rattle.command_io.specs.declared.refusal.CommandRefusal.{CommandRefusal}

-- what follows of what was read from the bytes that the reader had
pub of_file : {T F W R : Type 0} (disk : Disk F W) (input : Input) (path : List ℕ) (remaining : R → Option (List ℕ)) (given inner : R) (P : T → Option (List ℕ) → Type 0) (read result : Result T CommandRefusal)
    → disk.holds input path (remaining given) → inner ≡ given → IfOk read (λ x. P x (remaining inner)) → result ≡ read → IfOk result (λ x. SomeFile disk input path (P x))
of_file {T} disk input path remaining given inner P (Ok x) result holds same h is = subst (λ (r : Result T CommandRefusal). IfOk r (λ y. SomeFile disk input path (P y))) (sym is) (remaining given, holds, subst (λ reader. P x (remaining reader)) same h)
of_file {T} disk input path remaining given inner P (Err refusal) result holds same h is = subst (λ (r : Result T CommandRefusal). IfOk r (λ y. SomeFile disk input path (P y))) (sym is) tt

-- why nothing was read, by the bytes that the reader had
pub refused_file : {T F W R : Type 0} (disk : Disk F W) (input : Input) (path : List ℕ) (remaining : R → Option (List ℕ)) (given inner : R) (P : CommandRefusal → Option (List ℕ) → Type 0) (read result : Result T CommandRefusal)
    → disk.holds input path (remaining given) → inner ≡ given → IfErr read (λ refusal. P refusal (remaining inner)) → result ≡ read → IfErr result (RefusesFile disk input path P)
refused_file {T} disk input path remaining given inner P (Ok x) result holds same h is = subst (λ (r : Result T CommandRefusal). IfErr r (RefusesFile disk input path P)) (sym is) tt
refused_file {T} disk input path remaining given inner P (Err refusal) result holds same h is =
    subst (λ (r : Result T CommandRefusal). IfErr r (RefusesFile disk input path P)) (sym is) (inr (remaining given, holds, subst (λ reader. P refusal (remaining reader)) same h))
