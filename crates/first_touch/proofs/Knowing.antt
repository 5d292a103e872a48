-- What threads know stays so at each step.
use Rattle.std.proofs.Common.{◌≡◌, ◌≢◌, ℕ, ◌+◌, ◌<◌, ◌==◌, Bool, true, false, List, [], ◌∷◌, ◌++◌, length, get_or, set, cond, sym, refl, ap, ◌∙◌, subst, ⊎_elim, arith, eq-eqb, ne_eqb, get_or-set_other}
use mathlib.Core.Option.{some, some-injective}
use mathlib.Core.Logic.{dite}
use native.Mathlib.Decide.{ℕ_discrete}
use lib.ListN.{get_elem?}
use Rattle.atomic_table.proofs.Lists.{at_set, set_here, set_else, at_longer, at_snoc}
use Rattle.first_touch.specs.Known.{Known, known_at, Stands, AreKnown}
use Rattle.first_touch.proofs.Lists.{changed, at_inside, only}

-- it knows nothing of page k
abbrev pub IsUnaware : ℕ → Known → Type 0
IsUnaware k v = (v.stand ≢ 0 → v.page ≢ k) × ((j : ℕ) → j < v.below → j ≢ k)

-- who knows nothing of a page knows as much after its word changes
unmoved : (words : List ℕ) (k n : ℕ) (v : Known) → Stands words v → IsUnaware k v → Stands (set words k n) v
unmoved words k n v stands unaware = (
  (λ some_. get_or-set_other words k v.page n 0 (unaware.0 some_) ∙ stands.0 some_),
  (λ j lt. get_or-set_other words k j n 0 (unaware.1 j lt) ∙ stands.1 j lt),
)

-- who knows nothing
pub nothing : (words : List ℕ) (k : ℕ) → Stands words (known_at k 0)
nothing words k = ((λ some_. absurd (some_ refl)), (λ j lt. absurd (omega (arith, lt))))

-- who finds this in the word of page k
pub found : (words : List ℕ) (k : ℕ) → Stands words (known_at k (cond (get_or words k 0 == 2) 2 0))
found words k =
    let n = get_or words k 0 in
    let P : Bool → Type 0 = λ b. Stands words (known_at k (cond b 2 0)) in
    dite (ℕ_discrete n 2)
    (λ home. subst P (sym (eq-eqb n 2 home)) ((λ _. home), (λ j lt. absurd (omega (arith, lt)))))
    (λ other. subst P (sym (ne_eqb n 2 other)) (nothing words k))

-- who only looked has no page
pub never_one : (b : Bool) → cond {A = ℕ} b 2 0 ≡ 1 → ⊥
never_one true h = omega (arith, h)
never_one false h = omega (arith, h)

-- one page more is home
pub further : (words : List ℕ) (k : ℕ) (v : Known) → Stands words v → k ≡ v.below → get_or words k 0 ≡ 2
    → Stands words (record { page = v.page; stand = v.stand; below = k + 1 })
further words k v stands next two = (
  stands.0,
  (λ j less. dite (ℕ_discrete j k)
      (λ is. ap (λ (p : ℕ). get_or words p 0) is ∙ two)
      (λ ne. stands.1 j (omega (arith, less, ne, next)))),
)

module _ {V : Type 0} (known : V → Known) where
  abbrev stand : V → ℕ
  stand v = (known v).stand

  abbrev page : V → ℕ
  page v = (known v).page

  -- who is alone knows nothing, and no page is home
  pub alone : (words : List ℕ) (w : V) (k : ℕ) → known w ≡ known_at k 0 → ((j : ℕ) → get_or words j 0 ≡ 0)
      → AreKnown known words (w ∷ [])
  alone words w k is zeros =
      let knows : Stands words (known w) = subst (Stands words) (sym is) (nothing words k) in
      record {
        stands = λ id v at. subst (λ (u : V). Stands words (known u)) (only w v id at) knows;
        once = λ id other v u at there one two same.
            let none_ : 0 ≡ stand v = sym (ap (λ (z : Known). z.stand) is) ∙ ap stand (only w v id at) in
            absurd (omega (arith, none_, one));
        home = λ j two. let zero_ = zeros j in absurd (omega (arith, zero_, two));
      }

  module _ (words : List ℕ) (views : List V) (h : AreKnown known words views) where
    -- a thread that has no page joins the others
    pub joined : (w : V) → stand w ≢ 1 → Stands words (known w) → AreKnown known words (views ++ w ∷ [])
    joined w not_one knows = record {
      stands = λ id v at. ⊎_elim
          (λ was. h.stands id v was)
          (λ is. subst (λ (u : V). Stands words (known u)) is knows)
          (at_snoc views w v id at);
      once = λ id other v u at there one two same. ⊎_elim
          (λ was. ⊎_elim
          (λ had. h.once id other v u was had one two same)
          (λ is. absurd (not_one (ap stand is ∙ two)))
          (at_snoc views w u other there))
          (λ is. absurd (not_one (ap stand is ∙ one)))
          (at_snoc views w v id at);
      home = λ j two.
          let was = h.home j two in
          (was.0, was.1, at_longer views (w ∷ []) was.0 was.1 was.2, was.3, was.4);
    }

    -- nobody knows anything of a page that waits
    pub nobody_aware : (k : ℕ) → get_or words k 0 ≡ 0 → (x : V) (other : ℕ) → get_elem? views other ≡ some x
        → IsUnaware k (known x)
    nobody_aware k free x other there =
        let stands = h.stands other x there in
        let word : (j : ℕ) → j ≡ k → get_or words j 0 ≡ 0 = λ j same. ap (λ (p : ℕ). get_or words p 0) same ∙ free in (
          (λ some_ same. some_ (sym (stands.0 some_) ∙ word (page x) same)),
          (λ j lt same. let two = stands.1 j lt in let zero_ = word j same in omega (arith, two, zero_)),
        )

    module _ (id : ℕ) (v : V) (at : get_elem? views id ≡ some v) where
      -- one thread knows something else, but has the page that it had, and knows it home if it did
      pub learnt : (w : V) → stand w ≡ stand v → page w ≡ page v → Stands words (known w)
          → AreKnown known words (set views id w)
      learnt w same_stand same_page knows = record {
        stands = λ other x there. ⊎_elim
            (λ is. subst (λ (u : V). Stands words (known u)) is.1 knows)
            (λ was. h.stands other x was.1)
            (at_set views id other w x there);
        once = λ a b x y there where_ one two same. ⊎_elim
            (λ is. ⊎_elim
            (λ is'. is.0 ∙ sym is'.0)
            (λ had.
            let has : stand v ≡ 1 = sym same_stand ∙ ap stand is.1 ∙ one in
            is.0 ∙ h.once id b v y at had.1 has two (sym same_page ∙ ap page is.1 ∙ same))
            (at_set views id b w y where_))
            (λ was. ⊎_elim
            (λ is'.
            let has : stand v ≡ 1 = sym same_stand ∙ ap stand is'.1 ∙ two in
            h.once a id x v was.1 at one has (same ∙ sym (ap page is'.1) ∙ same_page) ∙ sym is'.0)
            (λ had. h.once a b x y was.1 had.1 one two same)
            (at_set views id b w y where_))
            (at_set views id a w x there);
        home = λ j two. let was = h.home j two in dite (ℕ_discrete was.0 id)
            (λ here.
            let mine = some-injective v was.1 (sym at ∙ ap (get_elem? views) (sym here) ∙ was.2) in
            let here_now = set_here views id w (at_inside views id v at) in
            (id, w, here_now, same_stand ∙ ap stand mine ∙ was.3, same_page ∙ ap page mine ∙ was.4))
            (λ other. (was.0, was.1, set_else views id was.0 w other ∙ was.2, was.3, was.4));
      }

      -- of the page that a thread has nobody else knows anything
      pub others_unaware : (k : ℕ) → stand v ≡ 1 → page v ≡ k → (x : V) (other : ℕ) → other ≢ id
          → get_elem? views other ≡ some x → IsUnaware k (known x)
      others_unaware k one here x other ne there =
          let stands = h.stands other x there in
          let own = (h.stands id v at).0 (λ z. omega (arith, z, one)) ∙ one in
          let word : (j : ℕ) → j ≡ k → get_or words j 0 ≡ 1 = λ j same.
          ap (λ (p : ℕ). get_or words p 0) (same ∙ sym here) ∙ own in (
            (λ some_ same.
                ne (h.once other id x v there at (sym (stands.0 some_) ∙ word (page x) same) one (same ∙ sym here))),
            (λ j lt same. let two = stands.1 j lt in let one_ = word j same in omega (arith, two, one_)),
          )

      -- The word of page k becomes n, and the thread that does it is at page k with stand n. It knew no page home, and
      -- the others know nothing of page k.
      pub moved : (k n : ℕ) (w : V) → k < length words → known w ≡ known_at k n → stand v ≢ 2
          → ((x : V) (other : ℕ) → other ≢ id → get_elem? views other ≡ some x → IsUnaware k (known x))
          → AreKnown known (set words k n) (set views id w)
      moved k n w inside is idle unaware =
          let after = set words k n in
          let word : get_or after k 0 ≡ n = changed words k n inside in
          let here : page w ≡ k = ap (λ (u : Known). u.page) is in
          let now : stand w ≡ n = ap (λ (u : Known). u.stand) is in
          let at_k : Stands after (known_at k n) = ((λ _. word), (λ j lt. absurd (omega (arith, lt)))) in
          let knows : Stands after (known w) = subst (Stands after) (sym is) at_k in
          record {
            stands = λ other x there. ⊎_elim
                (λ mine. subst (λ (u : V). Stands after (known u)) mine.1 knows)
                (λ was. unmoved words k n (known x) (h.stands other x was.1) (unaware x other was.0 was.1))
                (at_set views id other w x there);
            once = λ a b x y there where_ one two same. ⊎_elim
                (λ mine. ⊎_elim
                (λ mine'. mine.0 ∙ sym mine'.0)
                (λ was.
                let far = (unaware y b was.0 was.1).0 (λ z. omega (arith, z, two)) in
                absurd (far (sym same ∙ sym (ap page mine.1) ∙ here)))
                (at_set views id b w y where_))
                (λ was. ⊎_elim
                (λ mine'.
                let far = (unaware x a was.0 was.1).0 (λ z. omega (arith, z, one)) in
                absurd (far (same ∙ sym (ap page mine'.1) ∙ here)))
                (λ had. h.once a b x y was.1 had.1 one two same)
                (at_set views id b w y where_))
                (at_set views id a w x there);
            home = λ j two. dite (ℕ_discrete j k)
                (λ same.
                let n_two : n ≡ 2 = sym word ∙ ap (λ (p : ℕ). get_or after p 0) (sym same) ∙ two in
                (id, w, set_here views id w (at_inside views id v at), now ∙ n_two, here ∙ sym same))
                (λ differs.
                let was = h.home j (sym (get_or-set_other words k j n 0 differs) ∙ two) in
                let other : was.0 ≢ id = λ same.
                let mine = some-injective v was.1 (sym at ∙ ap (get_elem? views) (sym same) ∙ was.2) in
                idle (ap stand mine ∙ was.3) in
                (was.0, was.1, set_else views id was.0 w other ∙ was.2, was.3, was.4));
          }
