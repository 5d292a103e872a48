use Rattle.std.proofs.Common.{◌≡◌, ◌∙◌, ℕ, Bool, List, Option, None, true, false, min, subst, sym, ap, arith}
use Rattle.std.proofs.lemmas.List.{get_or_default}
use Rattle.comp_history.specs.Builds.{named}
use Rattle.comp_dump.specs.Dumped.{BuiltPage}
use Rattle.comp_audit.specs.Checks.{build_faults, unless, is_claimed}
use Rattle.comp_audit.specs.Reported.{IsFirst}
use Rattle.comp_dump.specs.declared.fault.AuditFault.TheVariants.{BuildUnclaimed}
use Rattle.comp_audit.proofs.Reporting.{first_here, none_here}
use Rattle.comp_audit.proofs.checks.claims.check_builds.Goals as goal

pub returns-then-not-is_claimed : goal.returns-then-not-is_claimed
returns-then-not-is_claimed c =
    let builds = c.args.dump.now.builds in
    let p = c.loop-p.p in
    let counts = c.in_ok-counts.counts.items in
    let count : c.index.result.now ≡ min (named p builds) 2 =
    c.index.ensures ∙ get_or_default counts p c.index.result.now 0 (omega (arith, c.in_ok-counts.ensures.length)) ∙ c.in_ok-counts.ensures.counts p ∙ ap (λ (l : List (List ℕ)). min (named p l) 2) c.builds.ensures in
    let test : is_claimed builds (p, c.page.result) ≡ false = sym (c.is_claimed.ensures builds p count) ∙ c.if-not-is_claimed.true in
    subst (λ (records : List (Option BuiltPage)). IsFirst (build_faults builds records) (BuildUnclaimed p)) c.pages-records.ensures
    (first_here (λ (slot : ℕ × Option BuiltPage). unless (is_claimed builds slot) (BuildUnclaimed slot.0)) p c.pages-records.result.now c.page.result _ (omega arith)
    (c.page.ensures ∙ get_or_default c.pages-records.result.now p None c.page.result (omega arith)) c.loop-p.invariant (BuildUnclaimed p) (ap (λ (b : Bool). unless b (BuildUnclaimed p)) test))

pub loop-p-preserved : goal.loop-p-preserved
loop-p-preserved c =
    let builds = c.args.dump.now.builds in
    let p = c.loop-p.p in
    let counts = c.in_ok-counts.counts.items in
    let count : c.index.result.now ≡ min (named p builds) 2 =
    c.index.ensures ∙ get_or_default counts p c.index.result.now 0 (omega (arith, c.in_ok-counts.ensures.length)) ∙ c.in_ok-counts.ensures.counts p ∙ ap (λ (l : List (List ℕ)). min (named p l) 2) c.builds.ensures in
    let test : is_claimed builds (p, c.page.result) ≡ true = sym (c.is_claimed.ensures builds p count) ∙ c.if-not-is_claimed.false in
    none_here (λ (slot : ℕ × Option BuiltPage). unless (is_claimed builds slot) (BuildUnclaimed slot.0)) p c.pages-records.result.now c.page.result _ (omega arith)
    (c.page.ensures ∙ get_or_default c.pages-records.result.now p None c.page.result (omega arith)) c.loop-p.invariant (ap (λ (b : Bool). unless b (BuildUnclaimed p)) test)
