-- Which pages the lines of a trace build. Each page is built by the mutator of the first line that touches it.
use Rattle.std.specs.Prelude.{◌≡◌, ◌⊎◌, ℕ, ◌==◌, Bool, true, cond, List, [], ◌∷◌, ◌++◌, Option, None, Some, filter, map, option_map, slice_index}
use Rattle.std.specs.List.{list_any}
use mathlib.Core.Option.{some}
use lib.ListN.{get_elem?}
use Rattle.heap_layout.specs.Heap.{live}
use Rattle.heap_layout.specs.declared.kind.Kind.{Kind}
use Rattle.heap_layout.specs.declared.kind.Kind.TheVariants.{Reference, Weak, Data}
use Rattle.heap_layout.specs.Header.{Head}
use Rattle.comp_mutator.specs.Sliding.{shape_at}
use Rattle.comp_mutator.specs.Lists.{times, Each}
use Rattle.comp_mutator.specs.Passes.{builds_of, HasSeenBuilt}
use Rattle.comp_mutator.specs.Setup.{Setup}
use Rattle.comp_mutator.specs.Pass.{Pass}
use Rattle.comp_mutator.specs.Objects.{page_at}
use Rattle.comp_mutator.specs.Fields.{field_address}
use Rattle.comp_mutator.specs.Mutators.{pass_of}
use Rattle.comp_mutator.specs.Reads.{BuildsNothing, MayBuild}
use Rattle.comp_mutator.specs.declared.mutator.Mutator.{Mutator}
use Rattle.comp_trace.specs.declared.text.line.Action.{Action}
use Rattle.comp_trace.specs.declared.text.line.Action.TheVariants.{Root, Load, Get, Store, Put, New, Nil, Immediate}

-- the kind of the field that a load or a store names
abbrev pub kind_if : Bool → Kind
kind_if weak = cond weak Weak Reference

-- the page of a field of a slid object. None for other objects: an object that a line made is on a page that is built
-- already
abbrev pub slid_page : Setup → Kind → ℕ → ℕ → Option ℕ
slid_page u kind object field = option_map (λ (header : Head). page_at (field_address kind object header field)) (shape_at (live u.heap) object)

-- the page that a line may have to build, if its call gave this answer: the page of a slid object's field, or of the
-- object that the line makes
abbrev pub touched : Setup → Action → List ℕ → ℕ → Option ℕ
touched u (Root to root) registers answer = None
touched u (Load weak to object field) registers answer = slid_page u (kind_if weak) (slice_index registers object) field
touched u (Get object field) registers answer = slid_page u Data (slice_index registers object) field
touched u (Store weak object field value) registers answer = slid_page u (kind_if weak) (slice_index registers object) field
touched u (Put object field value) registers answer = slid_page u Data (slice_index registers object) field
touched u (New to refs weak data_words tag) registers answer = Some (page_at answer)
touched u (Nil to) registers answer = None
touched u (Immediate to payload) registers answer = None

-- the page is among the built ones, each of which is listed with the mutator that built it
abbrev pub is_built : List (ℕ × ℕ) → ℕ → Bool
is_built built p = list_any (λ (x : ℕ × ℕ). x.1 == p) built

-- what was built after a line of mutator m touched this page: the mutator builds the page if nobody had
abbrev pub built_after : List (ℕ × ℕ) → ℕ → Option ℕ → List (ℕ × ℕ)
built_after built m None = built
built_after built m (Some p) = cond (is_built built p) built (built ++ (m, p) ∷ [])

-- the pages that mutator k built, in order
abbrev pub built_by : ℕ → List (ℕ × ℕ) → List ℕ
built_by k built = map (λ (x : ℕ × ℕ). x.1) (filter (λ (x : ℕ × ℕ). x.0 == k) built)

-- a call that touched this page built no other page, and its pass has then seen this page built
abbrev pub BuildsTouched : Option ℕ → Pass → Pass → Type 0
BuildsTouched None old new = BuildsNothing old new
BuildsTouched (Some p) old new = MayBuild p old new × HasSeenBuilt new p

-- all these mutators have seen these pages built
abbrev pub HaveSeenBuilt : {L : Type 0} → List (Mutator L) → List (ℕ × ℕ) → Type 0
HaveSeenBuilt {L} mutators built = (p : ℕ) → is_built built p ≡ true → Each mutators (λ (m : Mutator L). HasSeenBuilt (pass_of m) p)

-- The mutators built exactly these pages, each its own in this order, and all of them know it.
pub record BuiltJust {L : Type 0} (mutators : List (Mutator L)) (built : List (ℕ × ℕ)) : Type 0 where
  pub own : (k : ℕ) (m : Mutator L) → get_elem? mutators k ≡ some m → builds_of (pass_of m) ≡ built_by k built
  pub known : HaveSeenBuilt mutators built

-- there is a page that all of them have seen built, and that none of them built; if they are all the mutators of a
-- space, there is none in the end
abbrev pub HaveStrangePage : {L : Type 0} → List (Mutator L) → Type 0
HaveStrangePage {L} mutators = (p : ℕ) × Each mutators (λ (m : Mutator L). HasSeenBuilt (pass_of m) p × (times p (builds_of (pass_of m)) ≡ 0))

-- the mutators built exactly these pages, unless there is a page that all have seen built and none of them built
abbrev pub HaveBuilt : {L : Type 0} → List (Mutator L) → List (ℕ × ℕ) → Type 0
HaveBuilt mutators built = BuiltJust mutators built ⊎ HaveStrangePage mutators

-- the mutator at index i touched this page: how that changes what the mutators built
abbrev pub BuildOn : {L : Type 0} → ℕ → Option ℕ → List (Mutator L) → List (Mutator L) → Type 0
BuildOn i page before after = (built : List (ℕ × ℕ)) → HaveBuilt before built → HaveBuilt after (built_after built i page)

-- how it changes what all of them have seen built, whoever built it
abbrev pub SeeBuiltOn : {L : Type 0} → ℕ → Option ℕ → List (Mutator L) → List (Mutator L) → Type 0
SeeBuiltOn i page before after = (built : List (ℕ × ℕ)) → HaveSeenBuilt before built → HaveSeenBuilt after (built_after built i page)
