-- What one try to take a block tells.
use Rattle.std.proofs.Common.{◌≡◌, ◌≢◌, ℕ, ◌<◌, ◌==◌, true, false, cond, List, [], ◌∷◌, ◌++◌, refl, sym, ap, ◌∙◌, subst, inl, inr, Option, Some, None, eq-eqb}
use Rattle.std.specs.List.{AllByRecursion}
use Rattle.std.proofs.lemmas.Bool.{cases_Bool}
use Rattle.rma_layout.specs.Shape.{Shape}
use Rattle.rma_layout.specs.Placement.{Place}
use Rattle.object_words.specs.Blocks.{on_rank}
use Rattle.free_list.specs.Heads.{first_of}
use Rattle.free_list.specs.Lists.{number_to}
use Rattle.window_rule.specs.View.{View, HeadNote}
use Rattle.window_rule.specs.Known.{without_cells}
use Rattle.window_rule.specs.Partition.{places_of, times}
use Rattle.window_rule.specs.RoomHolds.{count_on}
use Rattle.window_rule.specs.Pool.{Heads, MayBeFree, MayPop, Nexts, missed, nexted, note_of, noted_next, popped, without_note}
use Rattle.window_rule.proofs.LockLemmas.{place_by_parts}
use Rattle.window_rule.proofs.Trails.{prefix-refl}
use Rattle.block_pool.specs.Moves.{Failed, FailedLast, IsUnworn, Looked, Unmoved}
use Rattle.block_pool.specs.Takes.{Pops}
use Rattle.block_pool.proofs.MovesKept.{unmoved-trans}

-- the first block of a list that isn't empty may be free
pub first_may_be_free : (shape : Shape) (home first : ℕ) (list : List Place)
    → first ≡ number_to list → AllByRecursion (MayBeFree shape home) list → first ≢ 0
    → MayBeFree shape home (on_rank home first)
first_may_be_free shape home first [] is free some = absurd (some is)
first_may_be_free shape home first (block ∷ more) is free some =
    subst (MayBeFree shape home) (place_by_parts block (on_rank home first) free.0.on (sym is)) free.0

pub noted_unmoved : {N : Type 0} (found : Option HeadNote) (block : Place) (next : ℕ)
    (view : View N) → Unmoved view (noted_next found block next view)
noted_unmoved None block next view = refl
noted_unmoved (Some note) block next view =
    elim (cases_Bool (first_of note.head == block.block)) [
      | inl same ↦ subst (Unmoved view)
          (sym (ap (λ b. cond b (nexted note next view) view) same)) refl
      | inr differ ↦ subst (Unmoved view)
          (sym (ap (λ b. cond b (nexted note next view) view) differ)) refl
    ]

pub noted_bounds : {N : Type 0} (found : Option HeadNote) (block : Place) (next : ℕ)
    (view : View N) → (noted_next found block next view).bounds ≡ view.bounds
noted_bounds None block next view = refl
noted_bounds (Some note) block next view = elim (first_of note.head == block.block) as
    (λ b. (cond b (nexted note next view) view).bounds ≡ view.bounds) [ true ↦ refl | false ↦ refl ]

noted_seen : {N : Type 0} (found : Option HeadNote) (block : Place) (next : ℕ) (view : View N)
    → ((noted_next found block next view).looks ≡ view.looks)
    × ((noted_next found block next view).misses ≡ view.misses)
noted_seen None block next view = (refl, refl)
noted_seen {N} (Some note) block next view =
    let P : View N → Type 0 = λ v. (v.looks ≡ view.looks) × (v.misses ≡ view.misses) in
    elim (cases_Bool (first_of note.head == block.block)) [
      | inl same ↦ subst P (sym (ap (λ b. cond b (nexted note next view) view) same)) (refl, refl)
      | inr differ ↦ subst P (sym (ap (λ b. cond b (nexted note next view) view) differ))
          (refl, refl)
    ]

module _ {N : Type 0} (shape : Shape) (home head : ℕ) (before one : View N)
    (told : Heads shape home before head one) where
  pub head_unmoved : Unmoved before one
  head_unmoved = subst (Unmoved before) (sym told.view) refl

  pub head_looked : Looked home head before one
  head_looked = record {
    earlier = before.looks;
    goes_on = prefix-refl before.looks;
    looks = ap (λ (v : View N). v.looks) told.view;
  }

  abbrev noted : HeadNote
  noted = record { rank = home; head = head; next = None; list = told.list }

  note_is : note_of one.notes home ≡ Some noted
  note_is = ap (λ (v : View N). note_of v.notes home) told.view
      ∙ ap (λ b. cond b (Some noted) (note_of (without_note before.notes home) home))
      (eq-eqb home home refl)

  module _ (some_block : first_of head ≢ 0) (block : Place)
      (block_is : block ≡ on_rank home (first_of head)) where
    pub head_block : MayBeFree shape home block
    head_block = subst (MayBeFree shape home) (sym block_is)
        (first_may_be_free shape home (first_of head) told.list told.first told.free some_block)

    module _ (next : ℕ) (two : View N) (nexts : Nexts shape block one next two) where
      pub next_unmoved : Unmoved before two
      next_unmoved = unmoved-trans before one two head_unmoved
          (subst (Unmoved one) (sym nexts.view)
          (noted_unmoved (note_of one.notes block.rank) block next one))

      next_looked_is : two.looks ≡ before.looks ++ record {
        rank = home;
        head = head;
        own_blocks = count_on home (places_of before.private);
      } ∷ []
      next_looked_is = ap (λ (v : View N). v.looks) nexts.view
          ∙ ((noted_seen (note_of one.notes block.rank) block next one).0
          ∙ ap (λ (v : View N). v.looks) told.view)

      next_misses : two.misses ≡ before.misses
      next_misses = ap (λ (v : View N). v.misses) nexts.view
          ∙ ((noted_seen (note_of one.notes block.rank) block next one).1
          ∙ ap (λ (v : View N). v.misses) told.view)

      nexted_is : two ≡ nexted noted next one
      nexted_is = nexts.view
          ∙ (ap (λ r. noted_next (note_of one.notes r) block next one)
          (ap (λ (p : Place). p.rank) block_is)
          ∙ (ap (λ found. noted_next found block next one) note_is
          ∙ ap (λ b. cond b (nexted noted next one) one)
          (eq-eqb (first_of head) block.block (sym (ap (λ (p : Place). p.block) block_is)))))

      note_after : note_of two.notes home ≡ Some (record noted { next = Some next })
      note_after = ap (λ (v : View N). note_of v.notes home) nexted_is
          ∙ ap (λ b. cond b (Some (record noted { next = Some next }))
          (note_of (without_note one.notes home) home)) (eq-eqb home home refl)

      pub may_pop : home < shape.ranks → IsUnworn head → MayPop shape two home head next
      may_pop on unworn = record {
        rank_is = on;
        knows = record { note = record noted { next = Some next }; noted = note_after; head_is = refl };
        knows_next = refl;
        some_block = some_block;
        tag = unworn;
        link = nexts.link;
      }

      module _ (three : View N) where
        pub pop_pops : IsUnworn head → three ≡ popped home block next two
            → times block (places_of two.private) ≡ 0 → Pops home block before three
        pop_pops unworn is nobodys =
            let before_two : two ≡ record before {
              notes = two.notes;
              bounds = two.bounds;
              misses = two.misses;
              looks = two.looks;
            } = next_unmoved in
            let P : View N → Type 0 = λ v. v ≡ record before {
              private = record { block = block; next = Some next } ∷ before.private;
              cells = without_cells before.cells block;
              notes = v.notes;
              bounds = v.bounds;
              misses = v.misses;
              looks = v.looks;
            } in
            record {
              head = head;
              looked = record {
                earlier = before.looks;
                goes_on = prefix-refl before.looks;
                looks = ap (λ (v : View N). v.looks) is ∙ next_looked_is;
              };
              unworn = unworn;
              block_is = block_is;
              nobodys = sym (ap (λ (v : View N). times block (places_of v.private)) before_two)
                  ∙ nobodys;
              next = next;
              view = subst P (sym (is ∙ (λ k. popped home block next (before_two k)))) refl;
            }

        miss_is : (found : ℕ) → three ≡ missed home head found two → three.misses ≡ before.misses
            ++ record { rank = home; loaded = head; found = found } ∷ []
        miss_is found is = ap (λ (v : View N). v.misses) is
            ∙ ap (λ l. l ++ record { rank = home; loaded = head; found = found } ∷ []) next_misses

        pub miss_refuses : IsUnworn head → (found : ℕ) → found ≢ head
            → three ≡ missed home head found two
            → (Looked home head before three × (first_of head ≢ 0) × IsUnworn head × (found ≢ head)
            × Failed home 1 before three × FailedLast home head found before three)
        miss_refuses unworn found ne is = (
          record {
            earlier = before.looks;
            goes_on = prefix-refl before.looks;
            looks = ap (λ (v : View N). v.looks) is ∙ next_looked_is;
          },
          some_block,
          unworn,
          ne,
          record {
            gained = record { rank = home; loaded = head; found = found } ∷ [];
            misses = miss_is found is;
            on_home = (refl, tt);
            as_many = refl;
          },
          record {
            earlier = before.misses;
            goes_on = prefix-refl before.misses;
            misses = miss_is found is;
          },
        )

        pub miss_unmoved : (found : ℕ) → three ≡ missed home head found two → Unmoved before three
        miss_unmoved found is = unmoved-trans before two three next_unmoved
            (subst (Unmoved two) (sym is) refl)
