-- What is read to the end: nothing follows it, or what follows it is refused.
use Rattle.std.proofs.Common.{◌≡◌, ◌∙◌, ℕ, ◌<◌, List, [], ◌∷◌, ◌++◌, length, Option, Some, None, IfSome, Result, Ok, Err, ap, append-nil, arith, refl, subst, sym}
use Rattle.std.specs.Io.KnownBytes.{Consumes, IsAtEnd}
use Rattle.comp_dump.specs.declared.fault.DumpFault.{DumpFault}
use Rattle.comp_dump.specs.declared.fault.DumpFault.TheVariants.{TrailingBytes, OutOfMemory, Device}
use Rattle.comp_dump.specs.DumpReading.{Reading, ended, whole, Fails, RefusesEnd, Stops}
use Rattle.comp_dump.proofs.Readings.{Spells}

-- all bytes are those that were consumed, if none is left
pub consumed_all : (a b : Option (List ℕ)) (front : List ℕ) → Consumes a b front → IsAtEnd b → IfSome a (λ bytes. bytes ≡ front)
consumed_all None b front read end = tt
consumed_all (Some xs) None front read end = absurd read
consumed_all (Some xs) (Some ys) front read end = read ∙ ap (λ (rest : List ℕ). front ++ rest) end ∙ append-nil front

module _ {A : Type 0} (reading : Reading A) (front : List ℕ) (x : A) (spells : Spells reading front x) where
  ends_not : (rest : List ℕ) → 0 < length rest → ended x rest ≡ Err TrailingBytes
  ends_not [] some = absurd (omega arith)
  ends_not (byte ∷ rest) some = refl

  -- all of it, and at least one byte more
  pub refused_longer : (rest : List ℕ) → 0 < length rest → whole (reading (front ++ rest)) ≡ Err TrailingBytes
  refused_longer rest some = ap whole (spells.again rest) ∙ ends_not rest some

  -- all of it
  pub read_exactly : whole (reading front) ≡ Ok x
  read_exactly = ap (λ (bytes : List ℕ). whole (reading bytes)) (sym (append-nil front)) ∙ ap whole (spells.again [])

  refused_rest : (rest : List ℕ) (fault : DumpFault) → RefusesEnd fault rest → Fails fault (whole (reading (front ++ rest)))
  refused_rest rest TrailingBytes h = refused_longer rest h
  refused_rest rest Device h = tt
  refused_rest rest _ h = absurd h

  -- the end was not found after it
  pub stops_after : (a b : Option (List ℕ)) (fault : DumpFault) → Consumes a b front → IfSome b (RefusesEnd fault) → IfSome a (λ bytes. Fails fault (whole (reading bytes)))
  stops_after None b fault read h = tt
  stops_after (Some xs) None fault read h = absurd read
  stops_after (Some xs) (Some ys) fault read h = subst (λ (bytes : List ℕ). Fails fault (whole (reading bytes))) (sym read) (refused_rest ys fault h)

fails_whole : {A : Type 0} (read : Result (A × List ℕ) DumpFault) (fault : DumpFault) → Fails fault read → Fails fault (whole read)
fails_whole read OutOfMemory h = tt
fails_whole read Device h = tt
fails_whole read fault h = ap whole h

-- it stops before the end
pub stops_before : {A : Type 0} (reading : Reading A) (a : Option (List ℕ)) (fault : DumpFault) → Stops reading a fault → IfSome a (λ bytes. Fails fault (whole (reading bytes)))
stops_before reading None fault h = tt
stops_before reading (Some bytes) fault h = fails_whole (reading bytes) fault h
