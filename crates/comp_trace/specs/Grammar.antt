-- What the text of a trace says, line by line.
use Rattle.std.specs.Prelude.{◌≡◌, ℕ, ◌+◌, ◌^◌, ◌==◌, ◌&&◌, ◌||◌, Bool, true, false, List, [], ◌∷◌, Option, None, Some, Result, Ok, Err, length, min, is_ok, nat_le, nat_lt, slice_index, codes, option_map, option_and_then, if◌then◌else◌}
use Rattle.std.specs.List.{slice_split, list_all, list_any}
use Rattle.std.specs.Str.{bytes_eq}
use Rattle.std.specs.Char.{is_ascii_digit}
use Rattle.std.specs.Str.Parse.{digits_value}
use Rattle.comp_trace.specs.declared.text.fault.TraceFault.{TraceFault}
use Rattle.comp_trace.specs.declared.text.fault.TraceFault.TheVariants.{BadLine, NoSuchMutator, NoSuchRegister, NumberTooLarge, NoSuchRoot, OutOfMemory}
use Rattle.comp_trace.specs.declared.text.line.Action.{Action}
use Rattle.comp_trace.specs.declared.text.line.Action.TheVariants.{Root, Load, Get, Store, Put, New, Nil, Immediate}
use Rattle.comp_trace.specs.declared.text.line.Line.{Line}

-- the parts of a text, which is split at each byte that is this one
abbrev pub parts : ℕ → List ℕ → List (List ℕ)
parts byte text = slice_split (λ b. b == byte) text

-- the word is all digits, and the first is not 0 or is the only one
abbrev pub is_number : List ℕ → Bool
is_number word = (nat_lt 48 (slice_index word 0) || length word == 1) && list_all is_ascii_digit word

-- the number that the word writes, of any size
abbrev pub number_of : List ℕ → Option ℕ
number_of word = if is_number word then Some (digits_value 10 word) else None

-- the numbers that the words write, if each is a number
abbrev pub numbers_of : List (List ℕ) → Option (List ℕ)
numbers_of [] = Some []
numbers_of (word ∷ words) = option_and_then (λ (n : ℕ). option_map (λ (ns : List ℕ). n ∷ ns) (numbers_of words)) (number_of word)

-- the number, or 2 ^ 64 if it is larger; numbers from 2 ^ 64 on are past every bound
abbrev pub clipped : ℕ → ℕ
clipped n = min n (2 ^ 64)

-- what a line does, by its name and the numbers after the name
abbrev pub action_of : List ℕ → List ℕ → Option Action
action_of name (d ∷ []) = if bytes_eq name (codes "nil") then Some (Nil d) else None
action_of name (a ∷ b ∷ []) =
    if bytes_eq name (codes "root") then Some (Root a b)
    else (if bytes_eq name (codes "get") then Some (Get a b)
    else (if bytes_eq name (codes "imm") then Some (Immediate a b) else None))
action_of name (a ∷ b ∷ c ∷ []) =
    if bytes_eq name (codes "load") then Some (Load false a b c)
    else (if bytes_eq name (codes "store") then Some (Store false a b c)
    else (if bytes_eq name (codes "put") then Some (Put a b c)
    else (if bytes_eq name (codes "wload") then Some (Load true a b c)
    else (if bytes_eq name (codes "wstore") then Some (Store true a b c) else None))))
action_of name (a ∷ b ∷ c ∷ d ∷ []) = if bytes_eq name (codes "new") then Some (New a b 0 c d) else None
action_of name (a ∷ b ∷ c ∷ d ∷ e ∷ []) = if bytes_eq name (codes "wnew") then Some (New a b c d e) else None
action_of name _ = None

-- the line of this mutator, name and numbers
abbrev pub line_with : ℕ → List ℕ → List ℕ → Option Line
line_with mutator name numbers = option_map (λ (action : Action). record { mutator = mutator; action = action }) (action_of name numbers)

-- the line of these words, with numbers of any size: the mutator's number, the name, and the numbers of the name
abbrev pub line_of : List (List ℕ) → Option Line
line_of (mutator ∷ name ∷ words) =
    option_and_then (λ (m : ℕ). option_and_then (line_with m name) (numbers_of words)) (number_of mutator)
line_of _ = None

-- the registers that a line names
abbrev pub registers_of : Action → List ℕ
registers_of (Root to root) = to ∷ []
registers_of (Load weak to object field) = to ∷ object ∷ []
registers_of (Get object field) = object ∷ []
registers_of (Store weak object field value) = object ∷ value ∷ []
registers_of (Put object field value) = object ∷ []
registers_of (New to refs weak data_words tag) = to ∷ []
registers_of (Nil to) = to ∷ []
registers_of (Immediate to payload) = to ∷ []

-- a number of the line is too large for its type
abbrev pub is_too_large : Action → Bool
is_too_large (Root to root) = false
is_too_large (Load weak to object field) = nat_le (2 ^ 16) field
is_too_large (Get object field) = nat_le (2 ^ 16) field
is_too_large (Store weak object field value) = nat_le (2 ^ 16) field
is_too_large (Put object field value) = nat_le (2 ^ 16) field || nat_le (2 ^ 64) value
is_too_large (New to refs weak data_words tag) = nat_le (2 ^ 16) refs || (nat_le (2 ^ 16) weak || (nat_le (2 ^ 16) data_words || nat_le (2 ^ 32) tag))
is_too_large (Nil to) = false
is_too_large (Immediate to payload) = nat_le (2 ^ 63) payload

-- the roots that a line names
abbrev pub roots_of : Action → List ℕ
roots_of (Root to root) = root ∷ []
roots_of (Load weak to object field) = []
roots_of (Get object field) = []
roots_of (Store weak object field value) = []
roots_of (Put object field value) = []
roots_of (New to refs weak data_words tag) = []
roots_of (Nil to) = []
roots_of (Immediate to payload) = []

-- goes on with the value of an Ok, or keeps the fault
infixl 10 ◌>>=◌
abbrev pub ◌>>=◌ : {A B : Type 0} → Result A TraceFault → (A → Result B TraceFault) → Result B TraceFault
(Ok x) >>= f = f x
(Err fault) >>= f = Err fault

-- line n, or its first fault
abbrev pub judged : ℕ → ℕ → ℕ → Option Line → Result Line TraceFault
judged mutators roots n None = Err (BadLine n)
judged mutators roots n (Some line) =
    if nat_le mutators line.mutator then Err (NoSuchMutator n)
    else (if list_any (nat_le 16) (registers_of line.action) then Err (NoSuchRegister n)
    else (if is_too_large line.action then Err (NumberTooLarge n)
    else (if list_any (nat_le roots) (roots_of line.action) then Err (NoSuchRoot n)
    else Ok line)))

-- the line has no fault
abbrev pub is_within : ℕ → ℕ → Line → Bool
is_within mutators roots line = is_ok (judged mutators roots 0 (Some line))

-- the lines from line n on, or the first fault
abbrev pub read_from : ℕ → ℕ → ℕ → List (List ℕ) → Result (List Line) TraceFault
read_from mutators roots n [] = Ok []
read_from mutators roots n (last ∷ []) = if length last == 0 then Ok [] else Err (BadLine n)
read_from mutators roots n (text ∷ next ∷ more) =
    judged mutators roots n (line_of (parts 32 text)) >>= λ line.
    read_from mutators roots (n + 1) (next ∷ more) >>= λ lines. Ok (line ∷ lines)

-- the lines of a text, each ended by a line feed, or the first fault
abbrev pub trace_of : ℕ → ℕ → List ℕ → Result (List Line) TraceFault
trace_of mutators roots text = read_from mutators roots 1 (parts 10 text)

-- the answer is what was to be read, unless memory ran out
abbrev pub IsReadAs : {A B : Type 0} → (A → B) → Result A TraceFault → Result B TraceFault → Type 0
IsReadAs view (Ok x) read = read ≡ Ok (view x)
IsReadAs view (Err fault) read = IsReported fault read
  where
    IsReported : {B : Type 0} → TraceFault → Result B TraceFault → Type 0
    IsReported OutOfMemory read = Unit {0}
    IsReported fault read = read ≡ Err fault
