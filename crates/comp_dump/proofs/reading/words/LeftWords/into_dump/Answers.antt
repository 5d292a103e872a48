use Rattle.std.proofs.Common.{◌≡◌, ◌∙◌, ℕ, List, [], ◌∷◌, ◌++◌, ap, arith, length, subst, sym}
use Rattle.std.specs.List.{range_with_len}
use Rattle.comp_cycles.specs.CellEnds.{lists as items_of}
use Rattle.comp_dump.specs.Dumped.{IsStored}
use Rattle.comp_dump.specs.WordsEncoding.{WordsFile, dump_of_words, pages_filled}
use Rattle.comp_dump.proofs.LeftWords.{cut_long, dump_parts, few_pages, words_stored}
use Rattle.comp_dump.proofs.reading.words.LeftWords.into_dump.Goals as goal

pub cut_pages-requires : goal.cut_pages-requires
cut_pages-requires c =
    let file : WordsFile = record { edition = c.self.inside.edition; roots = c.self.inside.roots.items; words = c.self.inside.words.items } in
    omega (arith, ap pages_filled c.deref.ensures.value, few_pages file c.self.invariant)

pub overflow_cast-len : goal.overflow_cast-len
overflow_cast-len c =
    let file : WordsFile = record { edition = c.self.inside.edition; roots = c.self.inside.roots.items; words = c.self.inside.words.items } in
    let long : c.len.result ≡ pages_filled c.deref.result.now = cut_long c.deref.result.now c.len.result c.in_ok-pages.pages c.in_ok-pages.ensures c.len.ensures in
    omega (arith, long, ap pages_filled c.deref.ensures.value, few_pages file c.self.invariant)

pub from_parts-requires : goal.from_parts-requires
from_parts-requires c =
    let file : WordsFile = record { edition = c.self.inside.edition; roots = c.self.inside.roots.items; words = c.self.inside.words.items } in
    let words : List ℕ = c.deref.result.now in
    let long : c.len.result ≡ pages_filled words = cut_long words c.len.result c.in_ok-pages.pages c.in_ok-pages.ensures c.len.ensures in
    let lists : items_of c.push_reserved.new.self.items ≡ range_with_len 0 (pages_filled words) ∷ [] =
    ap items_of (c.push_reserved.ensures.items ∙ ap (λ front. front ++ c.in_ok-builds.builds ∷ []) c.in_ok-lists.ensures.items)
    ∙ ap (λ (list : List ℕ). list ∷ []) (c.in_ok-builds.ensures ∙ ap (range_with_len 0) long) in
    subst IsStored (sym (dump_parts file words c.owned.result (items_of c.push_reserved.new.self.items) c.len-2.result c.deref.ensures.value (c.owned.ensures ∙ c.in_ok-pages.ensures) lists
    (omega (arith, c.len-2.ensures, c.self.inside.words.ok, ap length c.deref.ensures.value)))) (words_stored file c.self.invariant)

pub returns-clause-dump : goal.returns-clause-dump
returns-clause-dump c =
    let file : WordsFile = record { edition = c.self.inside.edition; roots = c.self.inside.roots.items; words = c.self.inside.words.items } in
    let words : List ℕ = c.deref.result.now in
    let long : c.len.result ≡ pages_filled words = cut_long words c.len.result c.in_ok-pages.pages c.in_ok-pages.ensures c.len.ensures in
    let lists : items_of c.push_reserved.new.self.items ≡ range_with_len 0 (pages_filled words) ∷ [] =
    ap items_of (c.push_reserved.ensures.items ∙ ap (λ front. front ++ c.in_ok-builds.builds ∷ []) c.in_ok-lists.ensures.items)
    ∙ ap (λ (list : List ℕ). list ∷ []) (c.in_ok-builds.ensures ∙ ap (range_with_len 0) long) in
    c.from_parts.ensures
    ∙ dump_parts file words c.owned.result (items_of c.push_reserved.new.self.items) c.len-2.result c.deref.ensures.value (c.owned.ensures ∙ c.in_ok-pages.ensures) lists
    (omega (arith, c.len-2.ensures, c.self.inside.words.ok, ap length c.deref.ensures.value)) ∙ ap dump_of_words c.self.view_is
