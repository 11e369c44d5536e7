-- The entry that a commit makes, as a store tells it.
use Rattle.std.proofs.Common.{◌≡◌, ℕ, ◌<◌, ◌≤◌, min, List, [], ◌∷◌, ◌++◌, length, refl, sym, ap, ◌∙◌, arith, Some, length-append}
use Rattle.std.specs.List.{slice_get}
use mathlib.Core.List.{IsPrefix}
use Rattle.object_words.specs.Contents.{Contents}
use Rattle.object_words.specs.Entries.{Entry}
use Rattle.window_rule.specs.View.{View}
use Rattle.window_rule.specs.Commit.{entry_by}
use Rattle.window_rule.specs.RightsHold.{least_of}
use Rattle.window_rule.specs.Trails.{Follows}
use Rattle.window_rule.proofs.Trails.{prefix-trans}
use Rattle.fabric.specs.Window.{RankModel, WindowModel}
use Rattle.object_store.specs.Calls.{Commits}
use Rattle.object_store.specs.State.{least_from, least_right, next_entry}
use Rattle.object_txn.specs.declared.txn.Txn.{Txn}
use Rattle.object_txn.specs.Committing.{Enters, Recalls}
use Rattle.object_txn.specs.State.{window_state}
use Rattle.object_txn.specs.Tied.{IsNone}
use Rattle.object_txn.proofs.Explaining.{recalls_by}

least_among : (rank next : ℕ) (more : List ℕ) → least_from (min rank next) more ≡ min rank (least_of (next ∷ more))
least_among rank next [] = refl
least_among rank next (other ∷ more) =
    least_among (min rank next) other more ∙ min_both rank next (least_of (other ∷ more))
  where
    min_both : (a b c : ℕ) → min (min a b) c ≡ min a (min b c)
    min_both a b c = omega arith

pub least_same : (rights : List ℕ) → least_of rights ≡ least_right rights
least_same [] = refl
least_same (right ∷ []) = refl
least_same (right ∷ (next ∷ more)) = sym (least_among right next more)

last_at : {X : Type 0} (xs : List X) (x : X) → slice_get (xs ++ x ∷ []) (length xs) ≡ Some x
last_at [] x = refl
last_at (y ∷ xs) x = last_at xs x

prefix_length : {X : Type 0} (xs ys : List X) → IsPrefix xs ys → length xs ≤ length ys
prefix_length xs ys p = omega (arith, ap length p.1, length-append xs p.0)

module _ {N : Type 0} where
  pub recalls-then : (first mid last : View N) → Recalls first mid → Recalls mid last → Recalls first last
  recalls-then first mid last one two = record {
    rights = two.rights ∙ one.rights;
    seen = prefix-trans first.seen mid.seen last.seen one.seen two.seen;
    refusals = prefix-trans first.refusals mid.refusals last.refusals one.refusals two.refusals;
    misses = prefix-trans first.misses mid.misses last.misses one.misses two.misses;
    looks = prefix-trans first.looks mid.looks last.looks one.looks two.looks;
    takes = omega (arith, one.takes, two.takes);
  }

  -- the entry is that of the store before
  pub entry_same : (window : WindowModel) (first mid : RankModel N) (old new : Txn) (note : N) → Follows first.view mid.view → new.reads ≡ old.reads → new.writes ≡ old.writes
      → entry_by mid.view new.reads new.writes note ≡ next_entry (window_state window first old) note
  entry_same window first mid old new note follows reads writes =
      ap (λ (n : ℕ). record { rank = n; reads = new.reads; writes = new.writes; note = note }) (ap least_of follows.rights ∙ least_same first.view.rights)
      ∙ (ap (λ (r : Contents). record { rank = least_right first.view.rights; reads = r; writes = new.writes; note = note }) reads
      ∙ ap (λ (w : Contents). record { rank = least_right first.view.rights; reads = old.reads; writes = w; note = note }) writes)

  -- it is made between other steps
  module _ (window : WindowModel) (first mid entered last : RankModel N) (old new : Txn) (note : N) (number : ℕ) (entry : Entry N)
      (is : entry ≡ next_entry (window_state window first old) note) (before : Follows first.view mid.view)
      (enters : Enters entry mid.view number entered.view) (after : Follows entered.view last.view) (seen : last.view.seen ≡ entered.view.seen) where
    seen_is : last.view.seen ≡ enters.history ++ next_entry (window_state window first old) note ∷ []
    seen_is = seen ∙ (enters.seen ∙ ap (λ (e : Entry N). enters.history ++ e ∷ []) is)

    pub recalls_all : Recalls first.view last.view
    recalls_all = recalls-then first.view mid.view last.view (recalls_by first.view mid.view before)
        (recalls-then mid.view entered.view last.view enters.recalls (recalls_by entered.view last.view after))

    pub commits : IsNone new → 0 < first.view.allowance → Commits note (window_state window first old) (window_state window last new) number
    commits none allowed = record {
      entry = ap (λ (s : List (Entry N)). slice_get s number) seen_is
          ∙ (ap (slice_get (enters.history ++ next_entry (window_state window first old) note ∷ [])) enters.number_is
          ∙ last_at enters.history (next_entry (window_state window first old) note));
      behind = omega (
        arith,
        prefix_length first.view.seen mid.view.seen before.seen,
        prefix_length mid.view.seen enters.history enters.goes_on,
        enters.number_is,
      );
      last = omega (arith, ap length seen_is, length-append enters.history (next_entry (window_state window first old) note ∷ []), enters.number_is);
      own = after.own ∙ (enters.own ∙ ap (λ (o : List ℕ). o ++ number ∷ []) before.own);
      allowance = omega (arith, after.allowance, enters.allowance, before.allowance, allowed);
      ended = record { phase = none.phase; reads = none.reads; writes = none.writes };
      blocks = λ some. absurd (cc some);
    }
