-- What the whole audit's yes means.
use Rattle.std.proofs.Common.{◌≡◌, ◌∙◌, ◌-◌, ◌*◌, ◌<◌, ℕ, Bool, true, List, [], ◌++◌, cond, length, take, replicate, get_or, is_some, Option, Some, None, ap, arith, refl, sym, true≢false}
use Rattle.std.specs.List.{flat_map}
use Rattle.std.proofs.lemmas.Bool.{lt-ltb}
use Rattle.heap_layout.specs.Heap.{Heap, live, IsClosed}
use Rattle.heap_layout.proofs.Rows.{append-none, unless-none}
use Rattle.page_plan.specs.Sliding as sliding
use Rattle.page_plan.specs.Sliding.{page, slid_words}
use Rattle.page_plan.proofs.Objects.{slid-length}
use Rattle.comp_dump.specs.Journal.{replayed}
use Rattle.comp_dump.specs.Entry.{Entry}
use Rattle.comp_dump.specs.Setup.{Setup, base_of}
use Rattle.comp_dump.specs.Dumped.{BuiltPage, Dumped, IsStored}
use Rattle.comp_dump.specs.declared.fault.AuditFault.TheVariants.{PageMissing}
use Rattle.comp_audit.specs.Checks.{journal_of, setup_for}
use Rattle.comp_audit.specs.Judged.{whole_faults}
use Rattle.comp_audit.specs.Meant.{journals_of, IsLawfulDump}
use Rattle.comp_audit.specs.WholeAudit.{replayed_words, words_of, IsUnwritten, UnwrittenIsSlid, WholeIsReplayed}
use Rattle.comp_audit.proofs.Clock.{range_none}
use Rattle.comp_audit.proofs.Joined.{all_pages, joined_from, range_same}
use Rattle.comp_audit.proofs.Sound.{yes_is_sound}

module _ (heap : Heap) (dump : Dumped) (closed : IsClosed heap) (stored : IsStored dump) (none : whole_faults heap dump ≡ []) where
  abbrev u : Setup
  u = setup_for heap dump.fresh dump.mutators

  abbrev n : ℕ
  n = sliding.pages (live heap)

  lawful : IsLawfulDump u dump
  lawful = (yes_is_sound heap dump closed stored (append-none _ _ none).0).lawful

  -- each compacted page was built
  there : (p : ℕ) → p < n → is_some (get_or dump.pages p None) ≡ true
  there p lt = unless-none (is_some (get_or dump.pages p None)) (PageMissing p) (range_none _ 0 n p (append-none _ _ none).1 (omega arith) (omega (arith, lt)))

  -- and its words are what its journal makes of its base
  words_are : (p : ℕ) (kept : Option BuiltPage) → get_or dump.pages p None ≡ kept → is_some kept ≡ true → words_of kept ≡ replayed (base_of u p) (journal_of kept)
  words_are p None at some = absurd (true≢false (sym some))
  words_are p (Some built) at some = lawful.words p built at

  pub whole_replayed : flat_map words_of (take n dump.pages) ≡ replayed_words heap dump
  whole_replayed = joined_from (λ (p : ℕ). replayed (base_of u p) (journals_of dump p)) 0 n dump.pages (omega (arith, lawful.slots))
      (λ p lt. words_are p (get_or dump.pages p None) refl (there p lt) ∙ ap (λ (q : ℕ). replayed (base_of u q) (journals_of dump q)) (omega arith))

  -- the base of a compacted page
  base_is : (p : ℕ) → p < n → base_of u p ≡ page (live heap) p
  base_is p lt = ap (λ (b : Bool). cond b (page (live heap) p) (replicate 64 0)) (lt-ltb p n lt)

  pub whole_slid : IsUnwritten heap dump → flat_map words_of (take n dump.pages) ≡ slid_words (live heap) ++ replicate (64 * n - length (slid_words (live heap))) 0
  unfolding page
  whole_slid unwritten = whole_replayed
      ∙ range_same (λ (p : ℕ). replayed (base_of u p) (journals_of dump p)) (page (live heap)) 0 n
      (λ p lt. ap (λ (j : List Entry). replayed (base_of u p) j) (unwritten p (omega (arith, lt))) ∙ base_is p (omega (arith, lt)))
      ∙ all_pages (slid_words (live heap)) n (omega (arith, slid-length heap closed))

pub whole_is_replayed : WholeIsReplayed
whole_is_replayed heap dump closed stored none = whole_replayed heap dump closed stored none

pub unwritten_is_slid : UnwrittenIsSlid
unwritten_is_slid heap dump closed stored none unwritten = whole_slid heap dump closed stored none unwritten
