-- Words as clap's lexer reads them: a flag is a long one or a bundle of short ones, and another word is neither.
use Rattle.std.proofs.Common.{◌≡◌, ◌∙◌, ◌⊎◌, ◌==◌, ◌∷◌, ◌++◌, ◌+◌, ◌<◌, ℕ, suc, take, drop, Bool, List, Option, Some, None}
use Rattle.std.proofs.Common.{codes, true, false, refl, sym, ap, ap₂, subst, arith, [], length, get_or, inl, inr, true≢false, lt-ltb, eq-eqb}
use Rattle.std.specs.Prelude.{◌&&◌, nat_lt, not, slice_get, encode_utf8_all}
use Rattle.std.specs.List.{after_first, before_first, position_or_len}
use Rattle.std.specs.Str.{IsUtf8, bytes_eq, chars}
use Rattle.std.proofs.lemmas.Bool.{eqb-true}
use Rattle.std.proofs.lemmas.List.Folds.{list_any_at}
use Rattle.std.proofs.lemmas.Str.{IsCharBoundary-after_ascii, IsUtf8-drop, byte_from_char, encodes-chars}
use Rattle.clap.specs.Lexer.{has_byte, long_of, name_and_value, short_of}
use Rattle.clap.specs.Walk.{Text}
use Rattle.clap.proofs.CutLemmas.{Lacks, before_first-Lacks}
use Rattle.clap.proofs.LexerLemmas.{name_and_value-at, name_and_value-without}
use Rattle.clap.proofs.WalkLemmas.{both}
use Rattle.command_line.specs.AskedTasks.{is_help, is_version}
use Rattle.command_line.specs.Given.{is_flag}

-- ---- a word that is no flag

-- it is neither, by whether a hyphen stands first
plain_by : (t : Bool) (b : ℕ) (bs : Text) → (b == 45) ≡ t → is_flag (b ∷ bs) ≡ false → (long_of (b ∷ bs) ≡ None) × (short_of (b ∷ bs) ≡ None)
plain_by false b bs e h = (rw e, rw e)
plain_by true b [] e h = (rw e, rw e)
plain_by true b (c ∷ cs) e h = absurd (true≢false (sym (lt-ltb 1 (length (b ∷ c ∷ cs)) (omega arith)) ∙ rw e at h))

-- a word that is no flag is neither a long flag nor a bundle of short ones
pub plain_read : (word : Text) → is_flag word ≡ false → (long_of word ≡ None) × (short_of word ≡ None)
plain_read [] h = (refl, refl)
plain_read (b ∷ bs) h = plain_by (b == 45) b bs refl h

-- ---- a flag

-- a text in which the lexer finds no `=` has none
pub lacks : (text : Text) → has_byte 61 text ≡ false → Lacks 61 text
lacks text none i lt is = absurd (true≢false (sym (list_any_at (λ x. x == 61) text i 0 lt (eq-eqb (get_or text i 0) 61 is)) ∙ none))

-- a name, with its value after `=` if it has one
abbrev pub name_with : Text → Option Text → Text
name_with name None = name
name_with name (Some value) = name ++ 61 ∷ value

-- a text is its name with its value
split_name : (text : Text) → text ≡ name_with (name_and_value text).0 (name_and_value text).1
split_name text = go (has_byte 61 text) refl
  where
    cut : (xs : Text) → has_byte 61 xs ≡ true → xs ≡ before_first (λ x. x == 61) xs ++ 61 ∷ after_first (λ x. x == 61) xs
    cut [] h = absurd (true≢false (sym h))
    cut (x ∷ xs) h = here (x == 61) refl (cut xs)
      where
        here : (t : Bool) → (x == 61) ≡ t → (has_byte 61 xs ≡ true → xs ≡ before_first (λ y. y == 61) xs ++ 61 ∷ after_first (λ y. y == 61) xs)
            → x ∷ xs ≡ before_first (λ y. y == 61) (x ∷ xs) ++ 61 ∷ after_first (λ y. y == 61) (x ∷ xs)
        here true e later = rw e (ap (λ (y : ℕ). y ∷ xs) (eqb-true x 61 e))
        here false e later =
            let n = position_or_len (λ y. y == 61) xs in
            let step : position_or_len (λ y. y == 61) (x ∷ xs) ≡ suc n = rw e (omega arith) in
            let more : suc n + 1 ≡ suc (n + 1) = omega arith in
            ap (λ (ys : Text). x ∷ ys) (later (rw e at h))
            ∙ sym (ap₂ (λ k m. take k (x ∷ xs) ++ 61 ∷ drop m (x ∷ xs)) step (ap (λ k. k + 1) step ∙ more))

    go : (t : Bool) → has_byte 61 text ≡ t → text ≡ name_with (name_and_value text).0 (name_and_value text).1
    go true e = rw e (cut text e)
    go false e = rw e (sym (before_first-Lacks 61 text (lacks text e)))

-- the word is a long flag, and is for help or the version if it has that name and no value
pub record IsLong (word : Text) : Type 0 where
  pub name : Text
  pub value : Option Text
  pub read : long_of word ≡ Some (name, value)
  pub spelled : word ≡ codes "--" ++ name_with name value
  pub help : name ≡ codes "help" → value ≡ None → is_help word ≡ true
  pub version : name ≡ codes "version" → value ≡ None → is_version word ≡ true

-- the word is a bundle of short flags, and is for help if the first is `h`, and for the version if it is `V`
pub record IsBundle (word : Text) : Type 0 where
  pub byte : ℕ
  pub bytes : Text
  pub first : ℕ
  pub no_long : long_of word ≡ None
  pub read : short_of word ≡ Some (byte ∷ bytes)
  pub begins : slice_get (chars (byte ∷ bytes)) 0 ≡ Some first
  pub help : first ≡ 104 → is_help word ≡ true
  pub version : first ≡ 86 → is_version word ≡ true

-- a flag is a hyphen and at least one byte more
flag_bytes : (word : Text) → is_flag word ≡ true → (c : ℕ) × (cs : Text) × (word ≡ 45 ∷ c ∷ cs)
flag_bytes [] h = absurd (true≢false (sym h))
flag_bytes (b ∷ []) h = absurd (true≢false (sym (both _ _ h).1))
flag_bytes (b ∷ c ∷ cs) h = (c, cs, ap (λ x. x ∷ c ∷ cs) (eqb-true b 45 (both _ _ h).0))

-- a name without a value is the whole text
bare_name : (text : Text) → (name_and_value text).1 ≡ None → (name_and_value text).0 ≡ text
bare_name text h = go (has_byte 61 text) refl
  where
    go : (t : Bool) → has_byte 61 text ≡ t → (name_and_value text).0 ≡ text
    go true e = let found : Some (after_first (λ x. x == 61) text) ≡ None = rw e at h in absurd cc
    go false e = before_first-Lacks 61 text (lacks text e)

-- characters that spell a text have a first one, which is an ASCII character only if the first byte is
first_of_chars : (b : ℕ) (bs cs : List ℕ) → encode_utf8_all cs ≡ b ∷ bs → (x : ℕ) × (slice_get cs 0 ≡ Some x) × ((c : ℕ) → c < 128 → x ≡ c → b ≡ c)
first_of_chars b bs [] e = absurd cc
first_of_chars b bs (x ∷ xs) e =
    (x, refl, λ c ascii is. byte_from_char (b ∷ bs) (encode_utf8_all xs) c (sym e ∙ ap (λ y. encode_utf8_all (y ∷ xs)) is) ascii)

-- after a hyphen comes a first character, which is an ASCII character only if the first byte is
first_char : (b : ℕ) (bs : Text) → IsUtf8 (45 ∷ b ∷ bs) → (x : ℕ) × (slice_get (chars (b ∷ bs)) 0 ≡ Some x) × ((c : ℕ) → c < 128 → x ≡ c → b ≡ c)
first_char b bs utf8 =
    let behind : IsUtf8 (b ∷ bs) = IsUtf8-drop (45 ∷ b ∷ bs) 1 utf8 (IsCharBoundary-after_ascii (45 ∷ b ∷ bs) 0 utf8 (omega arith) (omega arith)) in
    first_of_chars b bs (chars (b ∷ bs)) (encodes-chars (b ∷ bs) behind)

-- two hyphens and the name `help` are for help
help_long : (c : ℕ) (text : Text) → c ≡ 45 → text ≡ codes "help" → is_help (45 ∷ c ∷ text) ≡ true
help_long c text e f = rw (e, f) refl

-- two hyphens and the name `version` are for the version
version_long : (c : ℕ) (text : Text) → c ≡ 45 → text ≡ codes "version" → is_version (45 ∷ c ∷ text) ≡ true
version_long c text e f = rw (e, f) refl

-- a flag that begins with a `V` is for the version
version_short : (c : ℕ) (cs : Text) → c ≡ 86 → is_version (45 ∷ c ∷ cs) ≡ true
version_short c cs e = rw e refl

-- and one that begins with an `h` is for help
help_short : (c : ℕ) (cs : Text) → c ≡ 104 → is_help (45 ∷ c ∷ cs) ≡ true
help_short c cs e = rw e refl

-- a hyphen and bytes are a long flag if another hyphen follows, and else a bundle
bytes_read : (c : ℕ) (cs : Text) → IsUtf8 (45 ∷ c ∷ cs) → bytes_eq (45 ∷ c ∷ cs) (codes "--") ≡ false → IsLong (45 ∷ c ∷ cs) ⊎ IsBundle (45 ∷ c ∷ cs)
bytes_read c cs utf8 dashes = go (c == 45) refl cs utf8 dashes
  where
    go : (t : Bool) → (c == 45) ≡ t → (cs : Text) → IsUtf8 (45 ∷ c ∷ cs) → bytes_eq (45 ∷ c ∷ cs) (codes "--") ≡ false → IsLong (45 ∷ c ∷ cs) ⊎ IsBundle (45 ∷ c ∷ cs)
    go true e [] utf8 dashes = absurd (true≢false (rw e at dashes))
    go true e (d ∷ ds) utf8 dashes = inl (record {
      name = (name_and_value (d ∷ ds)).0;
      value = (name_and_value (d ∷ ds)).1;
      read = rw e refl;
      spelled = ap₂ (λ (b : ℕ) (text : Text). 45 ∷ b ∷ text) (eqb-true c 45 e) (split_name (d ∷ ds));
      help = λ is none. help_long c (d ∷ ds) (eqb-true c 45 e) (sym (bare_name (d ∷ ds) none) ∙ is);
      version = λ is none. version_long c (d ∷ ds) (eqb-true c 45 e) (sym (bare_name (d ∷ ds) none) ∙ is);
    })
    go false e cs utf8 dashes =
        let first = first_char c cs utf8 in
        inr (record {
          byte = c;
          bytes = cs;
          first = first.0;
          no_long = rw e refl;
          read = rw e refl;
          begins = first.1;
          help = λ is. help_short c cs (first.2 104 (omega arith) is);
          version = λ is. version_short c cs (first.2 86 (omega arith) is);
        })

-- a flag other than `--` is a long flag or a bundle
pub flag_read : (word : Text) → IsUtf8 word → bytes_eq word (codes "--") ≡ false → is_flag word ≡ true → IsLong word ⊎ IsBundle word
flag_read word utf8 dashes flag =
    let bytes = flag_bytes word flag in
    subst (λ w. IsUtf8 w → bytes_eq w (codes "--") ≡ false → IsLong w ⊎ IsBundle w) (sym bytes.2) (bytes_read bytes.0 bytes.1) utf8 dashes

-- ---- a flag that is spelled out

-- a name that a flag can have: it is not empty, and has no `=`
abbrev pub is_name : Text → Bool
is_name name = nat_lt 0 (length name) && not (has_byte 61 name)

-- after two hyphens it is read, with no value
pub bare_read : (name : Text) → is_name name ≡ true → long_of (codes "--" ++ name) ≡ Some (name, None)
bare_read [] h = absurd (true≢false (sym h))
bare_read (x ∷ xs) h = ap (λ (p : Text × Option Text). Some p) (name_and_value-without (x ∷ xs) (lacks (x ∷ xs) (is_false _ (both _ _ h).1)))
  where
    is_false : (t : Bool) → not t ≡ true → t ≡ false
    is_false true e = sym e
    is_false false e = refl

-- or with one
pub value_read : (name value : Text) → is_name name ≡ true → long_of (codes "--" ++ (name ++ 61 ∷ value)) ≡ Some (name, Some value)
value_read [] value h = absurd (true≢false (sym h))
value_read (x ∷ xs) value h = ap (λ (p : Text × Option Text). Some p) (name_and_value-at (x ∷ xs) value (lacks (x ∷ xs) (is_false _ (both _ _ h).1)))
  where
    is_false : (t : Bool) → not t ≡ true → t ≡ false
    is_false true e = sym e
    is_false false e = refl

-- a word like this is not `--`
pub no_dashes : (name more : Text) → is_name name ≡ true → bytes_eq (codes "--" ++ (name ++ more)) (codes "--") ≡ false
no_dashes [] more h = absurd (true≢false (sym h))
no_dashes (x ∷ xs) more h = refl
