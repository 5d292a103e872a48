-- The kinds of the words of a fresh page, entry by entry.
use Rattle.std.proofs.Common.{◌≡◌, ℕ, suc, ◌+◌, ◌<◌, ◌≤◌, List, [], ◌∷◌, ◌++◌, length, take, drop, get_or, sym, ap, subst, ◌∙◌, arith, append-nil, take-append-drop, length-append}
use Rattle.std.proofs.Math.Seq.{drop-cons}
use Rattle.std.proofs.lemmas.List.{take_more}
use Rattle.heap_layout.specs.declared.edition.Edition.{Edition}
use Rattle.heap_layout.specs.Header.{header_of}
use Rattle.heap_layout.specs.declared.kind.Kind.{Kind}
use Rattle.heap_layout.specs.declared.kind.Kind.TheVariants.{Header, Reference, Weak, Data}
use Rattle.comp_journal.specs.declared.entry.Entry.{Entry}
use Rattle.cell_steps.specs.Setup.{Setup}
use Rattle.cell_steps.specs.Lawful.{kinds_by, kinds_in, filled, Fits, LawfulAfter}
use Rattle.page_cells.proofs.Heads.{kinds_append, kinds_long, one_on}

-- the kinds with one more entry
pub kinds_more : (edition : Edition) (j : List Entry) (i : ℕ) (d : Entry) → i < length j
    → kinds_in edition (take (i + 1) j) ≡ kinds_in edition (take i j) ++ kinds_by edition (get_or j i d).kind (get_or j i d).value
kinds_more edition j i d inside =
    ap (kinds_in edition) (take_more j i d inside)
    ∙ kinds_append edition (take i j) (get_or j i d ∷ [])
    ∙ ap (λ (rest : List Kind). kinds_in edition (take i j) ++ rest) (append-nil (kinds_by edition (get_or j i d).kind (get_or j i d).value))

-- a journal gives at least as many words to objects as a prefix of it
pub filled_front : (edition : Edition) (j : List Entry) (i : ℕ) (d : Entry) → i < length j → filled edition (take i j) + length (kinds_by edition (get_or j i d).kind (get_or j i d).value) ≤ filled edition j
filled_front edition j i d inside =
    let e = get_or j i d in
    let parts : kinds_in edition j ≡ kinds_in edition (take i j) ++ (kinds_by edition e.kind e.value ++ kinds_in edition (drop (suc i) j)) =
    ap (kinds_in edition) (sym (take-append-drop i j) ∙ ap (λ (rest : List Entry). take i j ++ rest) (drop-cons j i d inside))
    ∙ kinds_append edition (take i j) (e ∷ drop (suc i) j) in
    omega (
      arith,
      ap length parts,
      length-append (kinds_in edition (take i j)) (kinds_by edition e.kind e.value ++ kinds_in edition (drop (suc i) j)),
      length-append (kinds_by edition e.kind e.value) (kinds_in edition (drop (suc i) j)),
    )

-- an entry that may follow others has room on its page
room_kept : (u : Setup) (p : ℕ) (before : List Entry) (k : Kind) (writer offset value : ℕ) → filled u.heap.edition before ≤ 64 → Fits u p before k writer offset value
    → filled u.heap.edition before + length (kinds_by u.heap.edition k value) ≤ 64
room_kept u p before Header writer offset value le h = omega (arith, h.offset_is, h.ends, kinds_long (header_of u.heap.edition value))
room_kept u p before Reference writer offset value le h = omega (arith, le)
room_kept u p before Weak writer offset value le h = omega (arith, le)
room_kept u p before Data writer offset value le h = omega (arith, le)

-- the objects of a lawful journal have room on their page
pub room_on : (u : Setup) (p : ℕ) (before es : List Entry) → filled u.heap.edition before ≤ 64 → LawfulAfter u p before es → filled u.heap.edition (before ++ es) ≤ 64
room_on u p before [] le h = subst (λ (l : List Entry). filled u.heap.edition l ≤ 64) (sym (append-nil before)) le
room_on u p before (e ∷ es) le h =
    let more : filled u.heap.edition (before ++ e ∷ []) ≡ filled u.heap.edition before + length (kinds_by u.heap.edition e.kind e.value) =
    ap length (kinds_append u.heap.edition before (e ∷ []) ∙ ap (λ (rest : List Kind). kinds_in u.heap.edition before ++ rest) (append-nil (kinds_by u.heap.edition e.kind e.value)))
    ∙ length-append (kinds_in u.heap.edition before) (kinds_by u.heap.edition e.kind e.value) in
    let kept = room_kept u p before e.kind e.writer e.offset e.value le h.0 in
    subst (λ (l : List Entry). filled u.heap.edition l ≤ 64) (sym (one_on before es e)) (room_on u p (before ++ e ∷ []) es (omega (arith, more, kept)) h.1)
