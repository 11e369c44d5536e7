-- The part on notes: which steps keep it.
use Rattle.std.proofs.Common.{◌≡◌, ◌≢◌, ℕ, ◌+◌, ◌<◌, ◌≤◌, cond, List, [], ◌∷◌, sym, ap, ◌∙◌, subst, inl, inr, arith, Some, eq-eqb, ne_eqb}
use Rattle.std.specs.List.{AllByRecursion}
use Rattle.std.proofs.lemmas.Bool.{cases_eq}
use Rattle.rma_layout.specs.Placement.{Place}
use Rattle.window_rule.specs.View.{HeadNote}
use Rattle.window_rule.specs.Objects.{tag_of}
use Rattle.window_rule.specs.NotesHold.{IsNoted, IsSure}
use Rattle.window_rule.specs.Pool.{note_of, without_note, raised}

pub All-map : {X : Type 0} (P Q : X → Type 0) (xs : List X) → ((x : X) → P x → Q x)
    → AllByRecursion P xs → AllByRecursion Q xs
All-map P Q [] f h = tt
All-map P Q (x ∷ xs) f h = (f x h.0, All-map P Q xs f h.1)

-- what is said of the notes that are left
pub All-without : (P Q : HeadNote → Type 0) (rank : ℕ) (notes : List HeadNote)
    → ((note : HeadNote) → note.rank ≢ rank → P note → Q note) → AllByRecursion P notes
    → AllByRecursion Q (without_note notes rank)
All-without P Q rank [] f h = tt
All-without P Q rank (one ∷ more) f h =
    elim (cases_eq one.rank rank) [
      | inl same ↦ subst
          (λ b. AllByRecursion Q (cond b (without_note more rank) (one ∷ without_note more rank)))
          (sym (eq-eqb one.rank rank same)) (All-without P Q rank more f h.1)
      | inr ne ↦ subst (λ b. AllByRecursion Q
          (cond b (without_note more rank) (one ∷ without_note more rank)))
          (sym (ne_eqb one.rank rank ne)) (f one ne h.0, All-without P Q rank more f h.1)
    ]

pub note_is : (P : HeadNote → Type 0) (notes : List HeadNote) (rank : ℕ) (note : HeadNote)
    → note_of notes rank ≡ Some note → AllByRecursion P notes → P note × (note.rank ≡ rank)
note_is P [] rank note e h = absurd (cc e)
note_is P (one ∷ more) rank note e h =
    elim (cases_eq one.rank rank) [
      | inl same ↦
          let found : Some one ≡ Some note = sym
          (ap (λ b. cond b (Some one) (note_of more rank)) (eq-eqb one.rank rank same)) ∙ e in
          let is : one ≡ note = cc found in
          (subst P is h.0, sym (ap (λ (n : HeadNote). n.rank) is) ∙ same)
      | inr ne ↦ note_is P more rank note
          (sym (ap (λ b. cond b (Some one) (note_of more rank)) (ne_eqb one.rank rank ne)) ∙ e) h.1
    ]

-- the tag of one rank's head rises
module _ (heads after : ℕ → ℕ) (free free_after : ℕ → List Place) (rank : ℕ) (others : (other : ℕ)
    → other ≢ rank → after other ≡ heads other) (lists : (other : ℕ) → other ≢ rank
    → free_after other ≡ free other) where
  pub IsNoted-rise : tag_of (heads rank) < tag_of (after rank) → (note : HeadNote)
      → IsNoted heads free note → IsNoted after free_after note
  IsNoted-rise rises note h =
      elim (cases_eq note.rank rank) [
        | inl same ↦
            let was : tag_of (heads note.rank) ≡ tag_of (heads rank) = ap
            (λ r. tag_of (heads r)) same in
            let is : tag_of (after note.rank) ≡ tag_of (after rank) = ap
            (λ r. tag_of (after r)) same in
            record { tag = omega (arith, h.tag); same = λ e. absurd (omega (arith, h.tag)) }
        | inr ne ↦
            let is : after note.rank ≡ heads note.rank = others note.rank ne in
            let tags : tag_of (after note.rank) ≡ tag_of (heads note.rank) = ap tag_of is in
            record {
              tag = omega (arith, h.tag);
              same = λ e. let c = h.same (e ∙ tags) in
                  record {
                    head = c.head ∙ sym is;
                    list = c.list
                        ∙ sym (lists note.rank ne);
                    next = c.next;
                  };
            }
      ]

  -- another head of a rank whose note is forgotten, whatever its tag
  pub IsNoted-else : (note : HeadNote) → note.rank ≢ rank → IsNoted heads free note
      → IsNoted after free_after note
  IsNoted-else note ne h =
      let is : after note.rank ≡ heads note.rank = others note.rank ne in
      let tags : tag_of (after note.rank) ≡ tag_of (heads note.rank) = ap tag_of is in
      record {
        tag = omega (arith, h.tag);
        same = λ e. let c = h.same (e ∙ tags) in
            record {
              head = c.head ∙ sym is;
              list = c.list
                  ∙ sym (lists note.rank ne);
              next = c.next;
            };
      }

  bounds_raised : tag_of (after rank) ≡ tag_of (heads rank) + 1 → (bounds : List (ℕ × ℕ))
      → AllByRecursion (λ (one : ℕ × ℕ). tag_of (heads one.0) ≤ one.1) bounds
      → AllByRecursion (λ (one : ℕ × ℕ). tag_of (after one.0) ≤ one.1) (raised rank bounds)
  bounds_raised rises [] h = tt
  bounds_raised rises (one ∷ more) h = (
    elim (cases_eq one.0 rank) [
      | inl same ↦
          let was : tag_of (heads one.0) ≡ tag_of (heads rank) = ap (λ r. tag_of (heads r)) same in
          let is : tag_of (after one.0) ≡ tag_of (after rank) = ap (λ r. tag_of (after r)) same in
          subst (λ b. tag_of (after one.0) ≤ cond b (one.1 + 1) one.1)
          (sym (eq-eqb one.0 rank same)) (omega (arith, h.0))
      | inr ne ↦
          let is : tag_of (after one.0) ≡ tag_of (heads one.0) = ap tag_of (others one.0 ne) in
          subst (λ b. tag_of (after one.0) ≤ cond b (one.1 + 1) one.1) (sym (ne_eqb one.0 rank ne))
          (omega (arith, h.0))
    ],
    bounds_raised rises more h.1,
  )

  -- one step of the tag, as the view that is alone makes it
  pub IsSure-rise : tag_of (after rank) ≡ tag_of (heads rank) + 1
      → (rights : List ℕ) (notes : List HeadNote) (bounds : List (ℕ × ℕ))
      → IsSure heads (record { rights = rights; notes = notes; bounds = bounds })
      → IsSure after (record {
        rights = rights;
        notes = without_note notes rank;
        bounds = raised rank bounds;
      })
  IsSure-rise rises rights notes bounds h = record {
    now = All-without _ _ rank notes (λ note ne is. is ∙ sym (others note.rank ne)) h.now;
    bounds = bounds_raised rises bounds h.bounds;
  }

-- a note is forgotten
pub IsSure-less : (heads : ℕ → ℕ) (rank : ℕ) (rights : List ℕ) (notes : List HeadNote)
    (bounds : List (ℕ × ℕ))
    → IsSure heads (record { rights = rights; notes = notes; bounds = bounds })
    → IsSure heads (record { rights = rights; notes = without_note notes rank; bounds = bounds })
IsSure-less heads rank rights notes bounds h = record {
  now = All-without _ _ rank notes (λ note ne is. is) h.now;
  bounds = h.bounds;
}
