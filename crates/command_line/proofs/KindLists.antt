-- Lists of the kinds of an error: those of the first step that fails, and lists without the kind of an answer.
use Rattle.std.proofs.Common.{◌≡◌, ◌∙◌, ◌⊎◌, Bool, cond, true, false, refl, sym, ap, [], ◌∷◌, inl, inr, true≢false}
use Rattle.std.specs.List.{list_any}
use Rattle.std.proofs.lemmas.Bool.{or_parts}
use Rattle.clap.specs.Kinds.{IsAmong, Kinds, or_else}
use Rattle.clap.specs.declared.error.kind.ErrorKind.{ErrorKind}
use Rattle.clap.specs.declared.error.kind.ErrorKind.TheVariants as kind

-- if nothing follows the first step, the kinds are those of the first
pub or_else_nil : (kinds : Kinds) → or_else kinds [] ≡ kinds
or_else_nil [] = refl
or_else_nil (k ∷ kinds) = refl

-- which of three comes first does not hang on how they are bracketed
pub or_else_in : (a b c : Kinds) → or_else (or_else a b) c ≡ or_else a (or_else b c)
or_else_in [] b c = refl
or_else_in (k ∷ ks) b c = refl

-- after a step that fails, no other is asked
pub or_else_twice : (a b c : Kinds) (k : ErrorKind) → or_else (or_else a (k ∷ b)) c ≡ or_else a (k ∷ b)
or_else_twice [] b c k = refl
or_else_twice (x ∷ xs) b c k = refl

-- if neither of two steps fails by any kind, both pass
pub neither : (a b : Kinds) → or_else a b ≡ [] → (a ≡ []) × (b ≡ [])
neither [] b e = (refl, e)
neither (k ∷ ks) b e = absurd cc

-- one kind is not none
pub one_kind : (k : ErrorKind) → k ∷ [] ≡ [] → ⊥
one_kind k e = cc

-- nor are kinds among which there is one
pub some_kind : (k : ErrorKind) (kinds : Kinds) → IsAmong k kinds → kinds ≡ [] → ⊥
some_kind k [] among e = among
some_kind k (x ∷ xs) among e = cc

-- a kind of the first or else the second is of one of them
pub among_or : (k : ErrorKind) (a b : Kinds) → IsAmong k (or_else a b) → IsAmong k a ⊎ IsAmong k b
among_or k [] b h = inr h
among_or k (x ∷ xs) b h = inl h

-- the kind is that of an answer: help, or the version
abbrev pub is_answer : ErrorKind → Bool
is_answer kind.DisplayHelp = true
is_answer kind.DisplayVersion = true
is_answer _ = false

-- none of the kinds is
abbrev pub NoAnswer : Kinds → Type 0
NoAnswer kinds = list_any is_answer kinds ≡ false

-- then no kind of an answer is among them
pub no_answer_among : (k : ErrorKind) → is_answer k ≡ true → (kinds : Kinds) → NoAnswer kinds → IsAmong k kinds → ⊥
no_answer_among k answers [] none h = h
no_answer_among k answers (x ∷ xs) none (inl e) = true≢false (sym answers ∙ ap is_answer e ∙ (or_parts (is_answer x) (list_any is_answer xs) none).0)
no_answer_among k answers (x ∷ xs) none (inr h) = no_answer_among k answers xs (or_parts (is_answer x) (list_any is_answer xs) none).1 h

-- if there is none in either of two lists, there is none in the first or else the second
pub no_answer_or : (a b : Kinds) → NoAnswer a → NoAnswer b → NoAnswer (or_else a b)
no_answer_or [] b h i = i
no_answer_or (k ∷ ks) b h i = h

-- nor in the one that a test chooses
pub no_answer_cond : (t : Bool) (a b : Kinds) → NoAnswer a → NoAnswer b → NoAnswer (cond t a b)
no_answer_cond true a b h i = h
no_answer_cond false a b h i = i

-- the kinds refuse words: there is one, that of help only if a word is for help, and that of the version never
pub record Refuses (helps : Bool) (kinds : Kinds) : Type 0 where
  pub some : kinds ≡ [] → ⊥
  pub help : IsAmong kind.DisplayHelp kinds → helps ≡ true
  pub version : IsAmong kind.DisplayVersion kinds → ⊥

-- so do kinds without that of an answer
pub refuses_calm : (helps : Bool) (k : ErrorKind) (kinds : Kinds) → NoAnswer (k ∷ kinds) → Refuses helps (k ∷ kinds)
refuses_calm helps k kinds none = record {
  some = λ e. cc;
  help = λ h. absurd (no_answer_among kind.DisplayHelp refl (k ∷ kinds) none h);
  version = λ h. no_answer_among kind.DisplayVersion refl (k ∷ kinds) none h;
}

-- the kind is that of help if a word is for it
pub refuses_help : (helps : Bool) → helps ≡ true → Refuses helps (kind.DisplayHelp ∷ [])
refuses_help helps is = record { some = λ e. cc; help = λ _. is; version = λ h. go h }
  where
    go : IsAmong kind.DisplayVersion (kind.DisplayHelp ∷ []) → ⊥
    go (inl same) = cc
    go (inr none) = none

-- what refuses after a step without an answer refuses with it
pub refuses_after : (helps : Bool) (a b : Kinds) → NoAnswer a → Refuses helps b → Refuses helps (or_else a b)
refuses_after helps [] b none h = h
refuses_after helps (k ∷ ks) b none h = refuses_calm helps k ks none

-- and what refuses first
pub refuses_first : (helps : Bool) (a b : Kinds) → Refuses helps a → Refuses helps (or_else a b)
refuses_first helps [] b h = absurd (h.some refl)
refuses_first helps (k ∷ ks) b h = h

-- with more words for help
pub refuses_more : (helps more : Bool) (kinds : Kinds) → (helps ≡ true → more ≡ true) → Refuses helps kinds → Refuses more kinds
refuses_more helps more kinds then h = record { some = h.some; help = λ x. then (h.help x); version = h.version }
