-- The text of an explanation and of its parts, without a line feed at the end.
use Rattle.std.specs.Prelude.{ℕ, zero, Bool, cond, List, [], ◌++◌, Option, Some, None, codes, slice_index}
use Rattle.std.specs.List.{flat_map, range_with_len}
use Rattle.std.specs.Fmt.{decimal}
use Rattle.heap_layout.specs.Versions.{version_of}
use Rattle.heap_layout.specs.declared.kind.Kind.{Kind}
use Rattle.heap_layout.specs.declared.kind.Kind.TheVariants.{Header, Reference, Weak, Data}
use Rattle.comp_journal.specs.declared.entry.Entry.{Entry}
use Rattle.comp_audit.specs.declared.explanation.SlidObject.{SlidObject}
use Rattle.comp_audit.specs.declared.explanation.OutOfPlace.{OutOfPlace}
use Rattle.comp_audit.specs.declared.explanation.WrongWordAt.{WrongWordAt}
use Rattle.comp_audit.specs.declared.explanation.LooseEntry.{LooseEntry}
use Rattle.comp_audit.specs.declared.explanation.LooseWordAt.{LooseWordAt}
use Rattle.comp_audit.specs.declared.explanation.HeadCause.{HeadCause}
use Rattle.comp_audit.specs.declared.explanation.HeadCause.TheVariants as head
use Rattle.comp_audit.specs.declared.explanation.RootAt.{RootAt}
use Rattle.comp_audit.specs.declared.explanation.BadEntryAt.{BadEntryAt}
use Rattle.comp_audit.specs.declared.explanation.EntryCause.{EntryCause}
use Rattle.comp_audit.specs.declared.explanation.EntryCause.TheVariants as why
use Rattle.comp_audit.specs.declared.explanation.Totals.{Totals}
use Rattle.comp_audit.specs.declared.explanation.StampUses.{StampUses}
use Rattle.comp_audit.specs.declared.explanation.StampLost.{StampLost}
use Rattle.comp_audit.specs.declared.explanation.Claims.{Claims}
use Rattle.comp_audit.specs.declared.explanation.MissingPage.{MissingPage}
use Rattle.comp_audit.specs.declared.explanation.Explanation.{Explanation}
use Rattle.comp_audit.specs.declared.explanation.Explanation.TheVariants as told

-- A text and the rest after it. It groups to the right.
infixr 65 ◌then◌
abbrev pub ◌then◌ : List ℕ → List ℕ → List ℕ
text then rest = text ++ rest

-- the text of a value that there may be; nothing if there is none
abbrev pub text_of_some : {A : Type 0} → (A → List ℕ) → Option A → List ℕ
text_of_some text None = []
text_of_some text (Some value) = text value

-- of how many pages how many are built, and the entries
abbrev pub counts_text : ℕ → ℕ → ℕ → List ℕ
counts_text built pages entries = codes "built " then decimal built then codes " of " then decimal pages then codes " pages\nentries " then decimal entries

-- a marked object, where it slides, and its header
abbrev pub object_text : SlidObject → List ℕ
object_text object =
    codes "object " then decimal object.number then codes " at index " then decimal object.index then codes ", address " then decimal object.address then codes ", header " then decimal object.header

-- the first object out of place, and the word at its address
abbrev pub out_of_place_text : OutOfPlace → List ℕ
out_of_place_text found =
    codes "first out of place: object " then decimal found.object.number then codes " at index " then decimal found.object.index then codes ", should start at " then decimal found.object.address then codes ", there is " then decimal found.is

-- the line of a marked object
abbrev pub object_line : SlidObject → List ℕ
object_line object = codes "\n" then object_text object

-- the line of the first object out of place
abbrev pub out_of_place_line : OutOfPlace → List ℕ
out_of_place_line found = codes "\n" then out_of_place_text found

-- a wrong word and the right one; on lines of their own the object that has it, and the first object out of place
abbrev pub wrong_word_text : WrongWordAt → List ℕ
wrong_word_text word =
    codes "page " then decimal word.page then codes " offset " then decimal word.offset then codes " has " then decimal word.is then codes ", not " then decimal word.should_be then text_of_some object_line word.object then text_of_some out_of_place_line word.out_of_place

-- what an entry writes
abbrev pub kind_text : Kind → List ℕ
kind_text Header = codes "header"
kind_text Reference = codes "reference"
kind_text Weak = codes "weak word"
kind_text Data = codes "data word"

-- why an entry does not fit
abbrev pub cause_text : EntryCause → List ℕ
cause_text (why.StampNotAbove stamp) = codes "its stamp is not above " then decimal stamp
cause_text why.NoFreshPage = codes "it is a header, and its page is not fresh"
cause_text (why.OtherMaker maker) = codes "it is a header, and its page is of mutator " then decimal maker
cause_text (why.NotNext end) = codes "it is a header, and the objects before it end at offset " then decimal end
cause_text (why.PastPage end) = codes "its object would end at offset " then decimal end then codes ", past the page"
cause_text (why.OtherWord None) = codes "the word at its offset belongs to no object"
cause_text (why.OtherWord (Some kind)) = codes "the word at its offset is a " then kind_text kind
cause_text why.LeadsNowhere = codes "no object starts at its value"
cause_text (why.LeadsAhead stamp) = codes "it leads to an object whose header has stamp " then decimal stamp

-- entry k of page p
abbrev pub entry_text : ℕ → ℕ → Entry → List ℕ
entry_text p k entry =
    codes "entry " then decimal k then codes " of page " then decimal p then codes ": stamp " then decimal entry.stamp then codes ", writer " then decimal entry.writer then codes ", " then kind_text entry.kind then codes ", offset " then decimal entry.offset then codes ", value " then decimal entry.value

-- the line that says why an entry does not fit
abbrev pub cause_line : EntryCause → List ℕ
cause_line cause = codes "\nwhy: " then cause_text cause

-- the lines of the last entry of page p at the offset of a word: the entry, and why it does not fit, if it does not
abbrev pub writer_lines : ℕ → LooseEntry → List ℕ
writer_lines p loose = codes "\nwritten by " then entry_text p loose.number loose.entry then text_of_some cause_line loose.cause

-- a word that leads to no object; on lines of their own the last entry at its offset, and why it does not fit
abbrev pub loose_word_text : LooseWordAt → List ℕ
loose_word_text word = codes "page " then decimal word.page then codes " offset " then decimal word.offset then codes " has " then decimal word.is then codes ", where no object starts" then text_of_some (writer_lines word.page) word.entry

-- a root, and the right one
abbrev pub root_text : RootAt → List ℕ
root_text root = codes "root " then decimal root.number then codes " is " then decimal root.is then codes ", not " then decimal root.should_be

-- what is wrong with a head
abbrev pub head_text : HeadCause → List ℕ
head_text (head.Edition is should_be) = codes "edition " then decimal (version_of is) then codes ", not " then decimal (version_of should_be)
head_text (head.Pages is should_be) = codes "pages " then decimal is then codes ", not " then decimal should_be
head_text (head.Roots is should_be) = codes "roots " then decimal is then codes ", not " then decimal should_be
head_text (head.Root root) = root_text root

-- a total, and the right one
abbrev pub totals_text : Totals → List ℕ
totals_text totals = codes "live words " then decimal totals.is then codes ", not " then decimal totals.should_be

-- the line of mutator k, whose list of builds names a page so many times; nothing if it does not name it
abbrev pub claim_line : ℕ → ℕ → List ℕ
claim_line k zero = []
claim_line k times = codes "\nmutator " then decimal k then codes " names it " then decimal times then codes " times"

-- the lines of the 64 mutators, of which each names a page so many times
abbrev pub claim_lines : List ℕ → List ℕ
claim_lines by = flat_map (λ k. claim_line k (slice_index by k)) (range_with_len 0 64)

-- whether a page is built
abbrev pub built_text : Bool → List ℕ
built_text is_built = cond is_built (codes "built") (codes "not built")

-- whether a page is built, and how often it is named; on lines of their own the mutators that name it
abbrev pub claims_text : Claims → List ℕ
claims_text claims = codes "page " then decimal claims.page then codes " is " then built_text claims.is_built then codes ", and named " then decimal claims.named then codes " times" then claim_lines claims.by

-- how many entries have a stamp, and the pages of the first and of the last of them
abbrev pub uses_text : StampUses → List ℕ
uses_text uses =
    decimal uses.entries then codes " entries have stamp " then decimal uses.stamp then codes ", the first on page " then decimal uses.first_page then codes ", the last on page " then decimal uses.last_page

-- of how many entries none has a stamp
abbrev pub lost_text : StampLost → List ℕ
lost_text lost = codes "none of " then decimal lost.entries then codes " entries has stamp " then decimal lost.stamp

-- the line of the stamp of the entry before
abbrev pub stamp_before_line : ℕ → List ℕ
stamp_before_line stamp = codes "\nthe entry before it has stamp " then decimal stamp

-- the line of an entry's page: the mutator that makes objects there, if one does, and where those before the entry end
abbrev pub page_line : Option ℕ → ℕ → List ℕ
page_line None filled = codes "\nits page is compacted"
page_line (Some maker) filled = codes "\nits page is of mutator " then decimal maker then codes ", and the objects before it end at offset " then decimal filled

-- an entry that does not fit; on lines of their own the stamp before it, its page, and the cause
abbrev pub bad_entry_text : BadEntryAt → List ℕ
bad_entry_text bad = entry_text bad.page bad.number bad.entry then text_of_some stamp_before_line bad.stamp_before then page_line bad.maker bad.filled then cause_line bad.cause

-- a page that was never built, and how many there are
abbrev pub missing_text : MissingPage → List ℕ
missing_text missing = codes "page " then decimal missing.page then codes " of " then decimal missing.compacted then codes " was never built"

-- what is wrong, by cases on the fault
abbrev pub explanation_text : Explanation → List ℕ
explanation_text (told.WrongWord word) = wrong_word_text word
explanation_text (told.LooseReference word) = loose_word_text word
explanation_text (told.BadEntry bad) = bad_entry_text bad
explanation_text (told.StampRepeated uses) = uses_text uses
explanation_text (told.StampMissing lost) = lost_text lost
explanation_text (told.WrongTotal totals) = totals_text totals
explanation_text (told.BuildUnclaimed claims) = claims_text claims
explanation_text (told.WrongHead cause) = head_text cause
explanation_text (told.PageMissing missing) = missing_text missing
explanation_text told.NoSuchFault = codes "the dump does not have this fault"
