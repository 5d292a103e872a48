-- The verdict of an audit that finds no fault.
use Rattle.std.proofs.Common.{◌≡◌, [], refl}
use Rattle.comp_audit.specs.Judged.{Judges}
use Rattle.comp_audit.specs.declared.verdict.Verdict.{Verdict}
use Rattle.comp_audit.specs.declared.verdict.Verdict.TheVariants.{Yes, No}

-- without a fault the verdict is yes
pub is_yes : (verdict : Verdict) → Judges [] verdict → verdict ≡ Yes
is_yes Yes judged = refl
is_yes (No fault) judged = absurd judged
