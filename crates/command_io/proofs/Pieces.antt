-- A text that is read piece by piece.
use Rattle.std.proofs.Common.{◌≡◌, ℕ, List, [], ◌++◌, Option, Some, None, IfSome, ap, ◌∙◌, append-nil}
use Rattle.std.specs.Io.KnownBytes.{Consumes, IsAtEnd}

-- if a reader is at its end, and gave nothing more, the text is whole
pub whole_text : (a b c : Option (List ℕ)) (text last : List ℕ) → Consumes a b text → Consumes b c last → IsAtEnd c → last ≡ [] → IfSome a (λ bytes. bytes ≡ text)
whole_text None b c text last p q e none = tt
whole_text (Some x) None c text last p q e none = absurd p
whole_text (Some x) (Some y) None text last p q e none = absurd q
whole_text (Some x) (Some y) (Some z) text last p q e none = p ∙ ap (λ (l : List ℕ). text ++ l) (q ∙ ap (λ (l : List ℕ). l ++ z) none ∙ e) ∙ append-nil text
