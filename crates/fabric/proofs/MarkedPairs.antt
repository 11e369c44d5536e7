-- The worked transaction, from before the object was marked.
use Rattle.std.proofs.Common.{◌≡◌, ℕ, subst, sym}
use Rattle.rma_layout.specs.Placement.{Place}
use Rattle.window_rule.specs.View.{View, Marked, AsWriter}
use Rattle.window_rule.specs.Steps.{locked, tried}
use Rattle.window_rule.specs.Gate.{entered}
use Rattle.window_rule.specs.Pairs.{IsNext, pair_entry}

-- an entry that comes next for the view before the mark comes next for the view with it
pub next_of : {N : Type 0} (object : Place) (first second : ℕ) (note : N)
    (before view after : View N) (number : ℕ)
    → view ≡ tried (locked object Marked (entered AsWriter before))
    → IsNext (pair_entry before object first second note) before after number
    → IsNext (pair_entry view object first second note) view after number
next_of {N} object first second note before view after number is next =
    let marked : View N = tried (locked object Marked (entered AsWriter before)) in
    let at : IsNext (pair_entry marked object first second note) marked after number = record {
      history = next.history;
      goes_on = next.goes_on;
      number_is = next.number_is;
      seen = next.seen;
      allowance = next.allowance;
    } in
    subst (λ v. IsNext (pair_entry v object first second note) v after number) (sym is) at

-- and the other way
pub next_before : {N : Type 0} (object : Place) (first second : ℕ) (note : N)
    (before view after : View N) (number : ℕ)
    → view ≡ tried (locked object Marked (entered AsWriter before))
    → IsNext (pair_entry view object first second note) view after number
    → IsNext (pair_entry before object first second note) before after number
next_before {N} object first second note before view after number is next =
    let at = subst (λ v. IsNext (pair_entry v object first second note) v after number) is next in
    record {
      history = at.history;
      goes_on = at.goes_on;
      number_is = at.number_is;
      seen = at.seen;
      allowance = at.allowance;
    }
