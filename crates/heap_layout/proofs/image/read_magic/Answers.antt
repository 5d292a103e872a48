use Rattle.std.proofs.Common.{◌≡◌, ◌≢◌, ◌^◌, ◌<◌, ℕ, Bool, List, length, get_or, take, refl, sym, ap, ◌∙◌, subst, arith}
use Rattle.std.specs.Io.KnownBytes.{Consumes}
use Rattle.std.proofs.KnownBytes.{Consumes-trans}
use Rattle.std.proofs.lemmas.Bool.{not-true, not-false}
use Rattle.std.proofs.lemmas.Bool.Decides.{not_from_Decides}
use Rattle.std.proofs.lemmas.List.{take_all}
use Rattle.std.proofs.lemmas.Slice.Eq.{bytes_eq-Decides}
use Rattle.byteorder.specs.Endian.{little_number}
use Rattle.heap_layout.specs.Encoding.{magic, four_bytes, version}
use Rattle.heap_layout.specs.Versions.{version_of, IsRead}
use Rattle.heap_layout.specs.declared.edition.Edition.{Edition}
use Rattle.heap_layout.specs.declared.edition.Edition.TheVariants.{One, Two, Three, Four}
use Rattle.heap_layout.proofs.Numbers.{four_bytes-read}
use Rattle.heap_layout.proofs.Reading.{cut_in_magic, cut_in_version, other_magic, other_version, handed_on, failure_handed_on}
use Rattle.heap_layout.proofs.image.read_magic.Goals as goal

pub returns-in_err-read_part-clause-cause : goal.returns-in_err-read_part-clause-cause
returns-in_err-read_part-clause-cause g c = handed_on _ _ _ c.from_residual.ensures.1 (cut_in_magic c.args.large _ _ c.in_err-read_part.ensures.cut)

pub returns-in_err-read_part-clause-counts : goal.returns-in_err-read_part-clause-counts
returns-in_err-read_part-clause-counts g c = failure_handed_on _ _ _ _ _ c.from_residual.ensures.1 refl c.in_err-read_part.ensures.counts

pub returns-then-ne-clause-cause : goal.returns-then-ne-clause-cause
returns-then-ne-clause-cause g c =
    let read = c.read_part.new.buf in
    let other : read ≢ magic = not_from_Decides _ (bytes_eq-Decides read magic) (not-true _ (sym c.ne.ensures ∙ c.if-ne.true)) in
    other_magic c.args.large _ _ read c.in_ok-read_part.ensures.read (omega arith) other

pub returns-in_err-read_part-2-clause-cause : goal.returns-in_err-read_part-2-clause-cause
returns-in_err-read_part-2-clause-cause g c =
    let same : c.read_part.new.buf ≡ magic = (bytes_eq-Decides c.read_part.new.buf magic).0 (not-false _ (sym c.ne.ensures ∙ c.if-ne.false)) in
    handed_on _ _ _ c.from_residual-in_err-read_part-2.ensures.1
    (cut_in_version c.args.large _ _ _ (subst (Consumes _ _) same c.in_ok-read_part.ensures.read) c.in_err-read_part-2.ensures.cut)

pub returns-in_err-read_part-2-clause-counts : goal.returns-in_err-read_part-2-clause-counts
returns-in_err-read_part-2-clause-counts g c =
    failure_handed_on _ _ _ _ _ c.from_residual-in_err-read_part-2.ensures.1 c.in_ok-read_part.ensures.counts c.in_err-read_part-2.ensures.counts

-- four bytes are the bytes of the number that they encode
version_bytes : (bytes : List ℕ) (n : ℕ) → length bytes ≡ 4 → ((i : ℕ) → get_or bytes i 0 < 2 ^ 8) → n ≡ little_number 4 bytes → bytes ≡ four_bytes n
version_bytes bytes n long small read =
    let whole : take 4 bytes ≡ bytes = take_all 4 bytes (omega arith) in
    sym whole ∙ sym (four_bytes-read bytes 0 4 n small (omega arith) (omega arith) (read ∙ ap (little_number 4) (sym whole)))

-- if no edition has the version n, the bytes of n are no version
not_version : (large : Bool) (bytes : List ℕ) (n : ℕ) → n ≡ little_number 4 bytes → ((edition : Edition) → IsRead large edition → version_of edition ≢ n)
    → (edition : Edition) → IsRead large edition → bytes ≢ version edition
not_version large bytes n read none One known is = none One known (sym (read ∙ ap (little_number 4) is))
not_version large bytes n read none Two known is = none Two known (sym (read ∙ ap (little_number 4) is))
not_version large bytes n read none Three known is = none Three known (sym (read ∙ ap (little_number 4) is))
not_version large bytes n read none Four known is = none Four known (sym (read ∙ ap (little_number 4) is))

pub returns-in-Some-clause-read : goal.returns-in-Some-clause-read
returns-in-Some-clause-read g c =
    let same : c.read_part.new.buf ≡ magic = (bytes_eq-Decides c.read_part.new.buf magic).0 (not-false _ (sym c.ne.ensures ∙ c.if-ne.false)) in
    let bytes = version_bytes c.read_part-2.new.buf c.read_u32.result (omega arith) c.read_part-2.ensures.small c.read_u32.ensures in
    let reported : c.read_part-2.new.buf ≡ version c.in-Some.edition = bytes ∙ ap four_bytes (sym c.in-Some.ensures.found) in
    Consumes-trans _ _ _ magic (version c.in-Some.edition) (subst (Consumes _ _) same c.in_ok-read_part.ensures.read) (subst (Consumes _ _) reported c.in_ok-read_part-2.ensures.read)

pub returns-in-None-clause-cause : goal.returns-in-None-clause-cause
returns-in-None-clause-cause g c =
    let same : c.read_part.new.buf ≡ magic = (bytes_eq-Decides c.read_part.new.buf magic).0 (not-false _ (sym c.ne.ensures ∙ c.if-ne.false)) in
    let read = c.read_part-2.new.buf in
    other_version c.args.large _ _ _ read (subst (Consumes _ _) same c.in_ok-read_part.ensures.read) c.in_ok-read_part-2.ensures.read (omega arith)
    (not_version c.args.large read c.read_u32.result c.read_u32.ensures c.in-None.ensures.none)
