-- The contracts of reads and writes: extended back over an earlier call, which wrote nothing, and for a call that is
-- refused before any page is taken.
use Rattle.std.proofs.Common.{◌≡◌, ◌⊎◌, ℕ, Result, true, sym, ◌∙◌, subst, inl}
use Rattle.std.specs.Result.{IfOk, IsErrAnd, IsErrOf}
use Rattle.std.proofs.lemmas.Result.{err_from_is_err_and, IfErr-weaker, IfOk-weaker, on_err_weaker, on_ok_weaker}
use Rattle.heap_layout.specs.Kinds.{refers}
use Rattle.heap_layout.specs.declared.kind.Kind.{Kind}
use Rattle.cell_steps.specs.Setup.{Setup}
use Rattle.cell_steps.specs.Starts.{IsForwardingAddress}
use Rattle.cell_steps.specs.Passes.{did, KnowsStart, MayRefer}
use Rattle.cell_steps.specs.declared.pass.Pass.{Pass}
use Rattle.page_cells.specs.Calls.{Grows}
use Rattle.page_cells.proofs.Growing.{grows_then}
use Rattle.comp_access.specs.Fields.{HasSlidFieldOn}
use Rattle.comp_access.specs.Finds.{IsEarly}
use Rattle.comp_access.specs.Reads.{BuildsNothing, FieldRefused}
use Rattle.comp_access.specs.ReadCalls.{IsRead}
use Rattle.comp_access.specs.WriteCalls.{IsWrite}
use Rattle.comp_access.specs.declared.refusal.Refusal.{Refusal}
use Rattle.comp_access.specs.declared.refusal.Refusal.TheVariants.{Busy}
use Rattle.comp_access.proofs.Answering.{err_anyway, same_refusal}
use Rattle.comp_access.proofs.Building.{BuildsOneOf}
use Rattle.comp_access.proofs.Earlier.{may_build_then, reference_refused_then, refused_then, write_refused_then, Saw}
use Rattle.comp_access.proofs.Growing.{known_more, writes_after}
use Rattle.comp_access.proofs.Judging.{early_unjudged}

module _ (u : Setup) (kind : Kind) (object field : ℕ) (answer : Result ℕ Refusal) where
  module _ (a b c : Pass) (h : Grows a b) (same : did b ≡ did a) (built : BuildsOneOf (HasSlidFieldOn u kind object field) a b)
      (saw : Saw u object a b) (knows : (x : ℕ) → KnowsStart a x → KnowsStart b x) (places : IsForwardingAddress u.heap object → KnowsStart b object) where
    -- a read after the earlier call
    pub read_then : IsRead u b c kind object field answer → IsRead u a c kind object field answer
    read_then r = record {
      grows = grows_then a b c h r.grows;
      did = r.did ∙ same;
      word = r.word;
      known = r.known;
      builds = on_ok_weaker answer (may_build_then u kind object field a b c h r.grows built) r.builds;
      refused = IfErr-weaker answer _ _ (refused_then u kind object field a b c h r.grows built saw knows places) r.refused;
      alone = r.alone;
      free = λ q busy known. r.free q busy (known_more a b h q known);
      slid = r.slid;
      unseen = r.unseen;
    }

    -- A write after the earlier call, which built no page unless the value may be stored.
    pub write_then : (value : ℕ) → (refers kind ≡ true → BuildsNothing a b ⊎ MayRefer b value) → IsWrite u b c kind object field value answer → IsWrite u a c kind object field value answer
    write_then value judged w = record {
      grows = grows_then a b c h w.grows;
      wrote = IfOk-weaker answer _ _ (writes_after u kind object field a b c h same value) w.wrote;
      target = w.target;
      builds = on_ok_weaker answer (may_build_then u kind object field a b c h w.grows built) w.builds;
      did = on_err_weaker answer (λ now. now ∙ same) w.did;
      data_refused = λ is. IfErr-weaker answer _ _ (write_refused_then u kind object field a b c h w.grows built saw knows places) (w.data_refused is);
      reference_refused = λ is. IfErr-weaker answer _ _ (reference_refused_then u kind object field a b c h w.grows built saw knows places value (judged is)) (w.reference_refused is);
      alone = w.alone;
    }

  module _ (a b : Pass) (refusal : Refusal) (passed : IsErrAnd answer (λ x. x ≡ refusal)) (h : Grows a b) (same : did b ≡ did a)
      (early : IsEarly refusal) (why : FieldRefused u a b kind object field refusal) where
    -- nothing is promised of a word or of a stamp
    no_word : (P : ℕ → Type 0) → IfOk answer P
    no_word P = let p = err_from_is_err_and answer passed in subst (λ (r : Result ℕ Refusal). IfOk r P) (sym p.1) tt

    not_busy : (q : ℕ) → IsErrOf answer (Busy q) → ⊥
    not_busy q busy = subst IsEarly (same_refusal answer refusal (Busy q) passed busy) early

    -- a read that is refused before any page is taken
    pub early_read : IsRead u a b kind object field answer
    early_read = record {
      grows = h;
      did = same;
      word = no_word _;
      known = λ _. no_word _;
      builds = no_word _;
      refused = err_anyway answer _ refusal passed why;
      alone = λ _. not_busy;
      free = λ q busy _. not_busy q busy;
      slid = λ q busy. absurd (not_busy q busy);
      unseen = λ q busy _. not_busy q busy;
    }

    -- a write that is refused before any page is taken
    pub early_write : (value : ℕ) → IsWrite u a b kind object field value answer
    early_write value = record {
      grows = h;
      wrote = no_word _;
      target = λ _. no_word _;
      builds = no_word _;
      did = err_anyway answer _ refusal passed same;
      data_refused = λ _. err_anyway answer _ refusal passed (inl why);
      reference_refused = λ _. err_anyway answer _ refusal passed (inl (inl why, early_unjudged b value refusal early));
      alone = λ _. not_busy;
    }
