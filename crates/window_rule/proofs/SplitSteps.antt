-- A rank is split in two.
use Rattle.std.proofs.Common.{◌≡◌, ◌≢◌, ℕ, ◌+◌, ◌<◌, cond, eqb, true, false, List, [], ◌∷◌, ◌++◌, map, length, set, refl, sym, ap, ◌∙◌, subst, inl, inr, arith}
use Rattle.std.proofs.lemmas.Bool.{cases_eq, true≢false}
use Rattle.std.proofs.lemmas.Bool.Decides.{nat_tests}
use Rattle.std.proofs.lemmas.List.Sums.{sum_by-cons}
use mathlib.Core.Option.{some}
use lib.ListN.{get_elem?}
use Rattle.atomic_table.specs.Table.{Splits}
use Rattle.atomic_table.proofs.Lists.{at_map, at_last, at_longer}
use Rattle.object_words.specs.Entries.{Entry}
use Rattle.rma_layout.specs.Shape.{Shape}
use Rattle.window_rule.specs.View.{View, spent}
use Rattle.window_rule.specs.Words.{Words, words_in}
use Rattle.window_rule.specs.RightsHold.{Stake, stake_of, right_count, AreRanks}
use Rattle.window_rule.specs.HistoryHolds.{is_among}
use Rattle.window_rule.specs.NotesHold.{StandsAlone}
use Rattle.window_rule.specs.Splits.{without_right, remaining, parted, MaySplit}
use Rattle.window_rule.specs.Lawful.{Holds, IsLawful, IsRuled, Ground}
use Rattle.window_rule.proofs.Sums.{one_in_sum, sum_below-zero}
use Rattle.window_rule.proofs.CommitSteps.{among-counts, among-below, below_length}
use Rattle.window_rule.proofs.OwnEntries.{OfOthers}
use Rattle.window_rule.proofs.Newcomers.{newcomer_keeps, set_and_last}
use Rattle.window_rule.proofs.Handovers.{IsHandover, handover_keeps}

abbrev one_at : ℕ → ℕ → ℕ
one_at right rank = cond (eqb right rank) 1 0

pub count-cons : (rank right : ℕ) (more : List ℕ)
    → right_count rank (right ∷ more) ≡ one_at right rank + right_count rank more
count-cons rank right more = sum_by-cons (λ r. one_at r rank) right more

module _ (rank : ℕ) where
  count_gone : (rights : List ℕ) → right_count rank (without_right rank rights) ≡ 0
  count_gone [] = refl
  count_gone (right ∷ more) =
      elim (cases_eq right rank) [
        | inl same ↦ ap (λ b. right_count rank
            (cond b (without_right rank more) (right ∷ without_right rank more)))
            (let t : eqb right rank ≡ true = grind (arith, nat_tests) in t) ∙ count_gone more
        | inr ne ↦
            ap (λ b. right_count rank
            (cond b (without_right rank more) (right ∷ without_right rank more)))
            (let t : eqb right rank ≡ false = grind (arith, nat_tests) in t)
            ∙ (let none : one_at right rank ≡ 0 = grind (arith, nat_tests) in omega
            (arith, count-cons rank right (without_right rank more), count_gone more))
      ]

  count_kept : (other : ℕ) → other ≢ rank → (rights : List ℕ)
      → right_count other (without_right rank rights) ≡ right_count other rights
  count_kept other ne [] = refl
  count_kept other ne (right ∷ more) =
      elim (cases_eq right rank) [
        | inl same ↦
            ap (λ b. right_count other
            (cond b (without_right rank more) (right ∷ without_right rank more)))
            (let t : eqb right rank ≡ true = grind (arith, nat_tests) in t)
            ∙ (let none : one_at right other ≡ 0 = grind (arith, nat_tests) in omega
            (arith, count-cons other right more, count_kept other ne more))
        | inr not ↦
            ap (λ b. right_count other
            (cond b (without_right rank more) (right ∷ without_right rank more)))
            (let t : eqb right rank ≡ false = grind (arith, nat_tests) in t)
            ∙ omega (
              arith,
              count-cons other right more,
              count-cons other right (without_right rank more),
              count_kept other ne more,
            )
      ]

  ranks_kept : (n : ℕ) (rights : List ℕ) → AreRanks n rights
      → AreRanks n (without_right rank rights)
  ranks_kept n [] h = tt
  ranks_kept n (right ∷ more) h = elim (eqb right rank) as
      (λ b. AreRanks n (cond b (without_right rank more) (right ∷ without_right rank more))) [
        | true ↦ ranks_kept n more h.1
        | false ↦ (h.0, ranks_kept n more h.1)
      ]

  not_among : (one : ℕ) (rights : List ℕ) → is_among one rights ≡ false
      → is_among one (without_right rank rights) ≡ false
  not_among one [] h = refl
  not_among one (right ∷ more) h =
      elim (cases_eq right one) [
        | inl same ↦ absurd
            (true≢false (let t : eqb right one ≡ true = grind (arith, nat_tests) in sym
            (ap (λ b. cond b true (is_among one more)) t) ∙ h))
        | inr ne ↦
            let t : eqb right one ≡ false = grind (arith, nat_tests) in
            let rest : is_among one more ≡ false = sym
            (ap (λ b. cond b true (is_among one more)) t) ∙ h in
            elim (eqb right rank) as
            (λ b. is_among one
            (cond b (without_right rank more) (right ∷ without_right rank more)) ≡ false) [
              | true ↦ not_among one more rest
              | false ↦ ap (λ b. cond b true (is_among one (without_right rank more))) t
                  ∙ not_among one more rest
            ]
      ]

  none_remain : {N : Type 0} (rights : List ℕ) (entries : List (Entry N)) → OfOthers rights entries
      → OfOthers (without_right rank rights) entries
  none_remain rights [] h = tt
  none_remain rights (entry ∷ rest) h =
      (not_among entry.rank rights h.0, none_remain rights rest h.1)

  none_of_one : {N : Type 0} (rights : List ℕ) → is_among rank rights ≡ true
      → (entries : List (Entry N)) → OfOthers rights entries → OfOthers (rank ∷ []) entries
  none_of_one rights held [] h = tt
  none_of_one rights held (entry ∷ rest) h = (
    elim (cases_eq rank entry.rank) [
      | inl same ↦ absurd (true≢false (sym held ∙ (ap (λ r. is_among r rights) same ∙ h.0)))
      | inr ne ↦ let t : eqb rank entry.rank ≡ false = grind (arith, nat_tests) in ap
          (λ b. cond b true false) t
    ],
    none_of_one rights held rest h.1,
  )

pub prefix_of_none : {E : Type 0} (xs ys : List E) → xs ++ ys ≡ [] → xs ≡ []
prefix_of_none [] ys e = refl
prefix_of_none (x ∷ xs) ys e = absurd (cc e)

module _ {N : Type 0} (fits : Shape → Entry N → Type 0) (shape : Shape) (words : Words)
    (views : List (View N)) (ground : Ground N) (h : Holds fits shape words views ground)
    (id : ℕ) (view : View N) (there : get_elem? views id ≡ some view) (rank commits : ℕ)
    (may : MaySplit view rank commits) where
  stake_there : get_elem? (map stake_of views) id ≡ some (stake_of view)
  stake_there = at_map stake_of views id view there

  ranks_of_view : AreRanks shape.ranks view.rights
  ranks_of_view = h.rights.are_ranks id (stake_of view) stake_there

  rank_below : rank < shape.ranks
  rank_below = among-below rank shape.ranks view.rights may.held ranks_of_view

  once : right_count rank view.rights ≡ 1
  once = omega (
    arith,
    among-counts rank view.rights may.held,
    h.rights.each_once rank rank_below,
    one_in_sum (λ (s : Stake). right_count rank s.rights) (map stake_of views) id
        (stake_of view) stake_there,
  )

  alone_no_more : ¬ StandsAlone shape (without_right rank view.rights)
  alone_no_more alone = omega (arith, alone rank rank_below, count_gone rank view.rights)

  rights_split : (other : ℕ)
      → right_count other (without_right rank view.rights) + right_count other
      (rank ∷ []) ≡ right_count other view.rights + 0
  rights_split other =
      elim (cases_eq other rank) [
        | inl same ↦
            let one : one_at rank other ≡ 1 = grind (arith, nat_tests) in
            let a : right_count other (without_right rank view.rights) ≡ right_count rank
            (without_right rank view.rights) = ap
            (λ r. right_count r (without_right rank view.rights)) same in
            let b : right_count other view.rights ≡ right_count rank view.rights = ap
            (λ r. right_count r view.rights) same in
            omega (arith, count-cons other rank [], count_gone rank view.rights, once)
        | inr ne ↦
            let none : one_at rank other ≡ 0 = grind (arith, nat_tests) in
            omega (arith, count-cons other rank [], count_kept rank other ne view.rights)
      ]

  hand : IsHandover shape words ground view spent (remaining rank commits view)
      (parted rank commits view)
  hand =
      let chronicle = h.history.each id view there in
      let noted = h.notes id view there in record {
        beside_one = refl;
        beside_other = refl;
        live = may.another;
        spent = λ none. absurd (cc none);
        rights = λ other below. rights_split other;
        one_ranks = ranks_kept rank shape.ranks view.rights ranks_of_view;
        other_ranks = (rank_below, tt);
        allowance = omega (arith, may.allowed);
        blocks = λ block. refl;
        one_known = h.own id view there;
        other_known = tt;
        one_cells = h.cells id view there;
        other_cells = λ block i word has e. absurd (cc e);
        one_held = h.holdings id view there;
        other_held = record {
          read = λ object known e. absurd (cc e);
          marked = λ object dirt e. absurd (cc e);
        };
        one_memory = h.memory id view there;
        other_memory = λ object known e. absurd (cc e);
        one_stock = h.room id view there;
        other_stock = λ r. omega (arith, sum_below-zero shape.blocks);
        one_notes = record { notes = noted.notes; alone = λ alone. absurd (alone_no_more alone) };
        other_notes = record { notes = tt; alone = λ alone. record { now = tt; bounds = tt } };
        one_chronicle = record {
          begins = chronicle.begins;
          own = refl;
          rest = none_remain rank view.rights chronicle.begins.0 chronicle.rest;
        };
        other_chronicle =
            record {
              begins = chronicle.begins;
              own = refl;
              rest = none_of_one rank view.rights may.held chronicle.begins.0 chronicle.rest;
            };
        one_heard = h.history.heard id view there;
        other_heard = tt;
        longest = λ longest. elim longest [
          | inl mine ↦ mine
          | inr none ↦ prefix_of_none view.seen chronicle.begins.0
              (chronicle.begins.1 ∙ sym none) ∙ none
        ];
      }

  pub split_lawful : IsLawful fits shape words
      (set views id (remaining rank commits view) ++ parted rank commits view ∷ [])
  split_lawful =
      let below = below_length views id view there in
      subst (IsLawful fits shape words)
      (set_and_last views id (remaining rank commits view) spent
      (parted rank commits view) below) (record {
        ground = _;
        holds = handover_keeps fits shape words (views ++ spent ∷ []) ground
            (newcomer_keeps fits shape words views ground h) id (length views) view spent
            (remaining rank commits view) (parted rank commits view)
            (at_longer views (spent ∷ []) id view there) (at_last views spent (length views) refl)
            (λ e. omega arith) hand;
      })

-- a split is one that the table allows
pub split_allowed : {S N : Type 0} (fits : Shape → Entry N → Type 0) (shape : Shape) (id : ℕ)
    (view : View N) (rank commits : ℕ) → MaySplit view rank commits
    → Splits (IsRuled {S = S} fits shape) id view (remaining rank commits view)
    (parted rank commits view)
split_allowed fits shape id view rank commits may state ruled there = record {
  sized = ruled.sized;
  lawful = split_lawful fits shape
      (words_in shape state.words)
      state.views ruled.lawful.ground ruled.lawful.holds id view there rank commits may;
}
