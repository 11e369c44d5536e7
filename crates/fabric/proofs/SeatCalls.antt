-- What a split and a join owe to the table, from what the window and the ranks are.
use Rattle.std.proofs.Common.{◌≡◌, ◌≢◌, ℕ, ◌<◌, Bool, false, List, [], length, get_or, set, sym, ap, ◌∙◌, subst, arith}
use Rattle.atomic_table.specs.Table.{Me, Splits, Joins}
use Rattle.atomic_table.specs.Seated.{TableId}
use Rattle.object_words.specs.Entries.{Entry}
use Rattle.rma_layout.specs.declared.word.Word.TheVariants.{Commit}
use Rattle.rma_layout.specs.Shape.{Shape}
use Rattle.rma_layout.proofs.WordLemmas.{number_of-lt}
use Rattle.window_rule.specs.View.{View, spent}
use Rattle.window_rule.specs.Splits.{MaySplit, IsIdle, remaining, parted, joined}
use Rattle.window_rule.specs.Spares.{SpareEnds, HasSpares}
use Rattle.window_rule.specs.Lawful.{IsRuled}
use Rattle.fabric.specs.Window.{WindowModel, RankModel, AreRights, IsSized, IsRank, any}
use Rattle.fabric.proofs.RightsKept.{held_below, rights_together, rights_without}
use Rattle.window_rule.proofs.SplitSteps.{split_allowed}
use Rattle.window_rule.proofs.JoinSteps.{first_none, join_allowed}
use Rattle.window_rule.proofs.KeptSpares.{spares_appended}

some_words : (table : TableId) (key geometry : Shape) → IsSized table key geometry → 0 < table.words
some_words table key geometry sized = omega (arith, number_of-lt geometry Commit tt, sized.words)

module _ {N : Type 0} (fits : Shape → Entry N → Type 0) (id : ℕ) (view : View N)
    (table seat : TableId) (key geometry : Shape) (window : WindowModel) (rank : RankModel N)
    (window_is : (let seen : WindowModel = record { id = table; shape = geometry } in
    seen ≡ window)) (sized : IsSized table key geometry)
    (shape : Shape) (ends : SpareEnds)
    (rank_is : (let seen : RankModel N =
    record { window = record { id = seat; shape = shape }; view = view; spares = ends } in
    seen ≡ rank)) where
  view_is : view ≡ rank.view
  view_is = ap (λ (r : RankModel N). r.view) rank_is

  same_table : rank.window ≡ window → seat ≡ table
  same_table e = ap (λ (r : RankModel N). r.window.id) rank_is
      ∙ (ap (λ (w : WindowModel). w.id) e ∙ sym (ap (λ (w : WindowModel). w.id) window_is))

  pub split_call : (right commits picked_right picked : ℕ) → rank.window ≡ window
      → (picked_right ≡ right) × (picked ≡ commits) → MaySplit rank.view right commits
      → (seat ≡ table) × (0 < table.words)
      × Splits (IsRuled {S = Unit {0}} fits key) id view (remaining picked_right picked view)
      (parted picked_right picked view)
  split_call right commits picked_right picked of_window is may = (
    same_table of_window,
    some_words table key geometry sized,
    split_allowed fits key id view picked_right picked
        (subst (λ v. MaySplit v picked_right picked) (sym view_is)
        (subst (λ r. MaySplit rank.view r picked) (sym is.0)
        (subst (MaySplit rank.view right) (sym is.1) may))),
  )

  pub join_call : (j : ℕ) (other : Me (Unit {0}) (View N)) (other_table : TableId)
      → view.rights ≢ [] → (rank.window ≡ window) × (other_table ≡ window.id)
      → (other.1 ≡ []) × IsIdle other.0
      → (seat ≡ table) × (other_table ≡ table) × (other.1 ≡ []) × (0 < table.words)
      × Joins (IsRuled {S = Unit {0}} fits key) id view j other.0 (joined view other.0) spent
  join_call j other other_table live of_window idle = (
    same_table of_window.0,
    of_window.1 ∙ sym (ap (λ (w : WindowModel). w.id) window_is),
    idle.0,
    some_words table key geometry sized,
    join_allowed fits key id j view other.0 live idle.1,
  )

-- after a split a rank is one still, with the spares that it had
pub split_keeps : {N : Type 0} {held : List Bool} (me after : Me (Unit {0}) (View N))
    (shape : Shape) (ends : SpareEnds) (right picked_right picked : ℕ) → picked_right ≡ right
    → MaySplit me.0 picked_right picked → IsRank shape me ends held
    → after ≡ (remaining picked_right picked me.0, me.1)
    → IsRank shape after ends (set held right false)
split_keeps {N} {held} me after shape ends right picked_right picked same may was is =
    let below : picked_right < 64 = held_below held me.0.rights picked_right was.rights may.held in
    record {
      slots = ap (λ (m : Me (Unit {0}) (View N)). m.1) is ∙ was.slots;
      live = λ none. may.another (sym (ap (λ (m : Me (Unit {0}) (View N)). m.0.rights) is) ∙ none);
      rights = subst (λ r. AreRights (set held r false) after.0.rights) same
          (subst (AreRights (set held picked_right false))
          (sym (ap (λ (m : Me (Unit {0}) (View N)). m.0.rights) is))
          (rights_without held me.0.rights picked_right below was.rights));
      has = subst (λ (m : Me (Unit {0}) (View N)). HasSpares shape m.0.private ends) (sym is) was.has;
    }

pub join_keeps : {N : Type 0} {held : List Bool} (me after : Me (Unit {0}) (View N))
    (other : View N) (others both : List Bool) (shape : Shape) (ends : SpareEnds)
    → length both ≡ 64
    → ((rank : ℕ) → get_or both rank false ≡ any (get_or held rank false) (get_or others rank false))
    → AreRights others other.rights → IsRank shape me ends held
    → after ≡ (joined me.0 other, me.1) → IsRank shape after ends both
join_keeps {N} {held} me after other others both shape ends sized each theirs was is = record {
  slots = ap (λ (m : Me (Unit {0}) (View N)). m.1) is ∙ was.slots;
  live = λ none. was.live
      (first_none _ _ (sym (ap (λ (m : Me (Unit {0}) (View N)). m.0.rights) is) ∙ none));
  rights = subst (AreRights both) (sym (ap (λ (m : Me (Unit {0}) (View N)). m.0.rights) is))
      (rights_together held others both me.0.rights other.rights sized each was.rights theirs);
  has = subst (λ (m : Me (Unit {0}) (View N)). HasSpares shape m.0.private ends) (sym is)
      (spares_appended shape me.0.private ends was.has other.private);
}
