-- Loops that take blocks for one object after the other.
use Rattle.std.proofs.Common.{◌≡◌, ℕ, suc, ◌+◌, ◌-◌, ◌<◌, ◌≤◌, Bool, true, false, cond, List, [], ◌∷◌, if◌then◌else◌, Option, Some, None, refl, sym, ap, ◌∙◌, arith}
use Rattle.std.specs.Prelude.{nat_lt, ◌==◌}
use Rattle.std.specs.List.{find, range_with_len}
use Rattle.std.proofs.lemmas.Bool.{lt-ltb, le-ltb}
use Rattle.std.proofs.lemmas.List.Sums.{sum_by-cons}
use Rattle.rma_layout.specs.Shape.{Shape}
use Rattle.graph_model.specs.Graph.{Graph}
use Rattle.graph_model.specs.Capacity.{short_at_make}
use Rattle.plain_graph.specs.declared.growth.Growth.{Growth}
use Rattle.plain_graph.specs.declared.rooms.Rooms.{Rooms}
use Rattle.plain_graph.specs.Rooms.{taken_on}
use Rattle.plain_graph.specs.Used.{FindsOn, amount_on, times}

plus_if : (b : Bool) (n m : ℕ) → (if b then n + m else n) ≡ n + (if b then m else 0)
plus_if true n m = refl
plus_if false n m = omega arith

minus_if : (b : Bool) (n m : ℕ) → (if b then n - m else n) ≡ n - (if b then m else 0)
minus_if true n m = refl
minus_if false n m = omega arith

amount-cons : (rank : ℕ) (amount : Growth → ℕ) (x : Growth) (left rest : List Growth) → left ≡ x ∷ rest
    → amount_on rank amount left ≡ (if x.rank == rank then amount x else 0) + amount_on rank amount rest
amount-cons rank amount x left rest is = ap (amount_on rank amount) is ∙ sum_by-cons (λ growth. if growth.rank == rank then amount growth else 0) x rest

times-cons : (rank x : ℕ) (left rest : List ℕ) → left ≡ x ∷ rest → times rank left ≡ (if x == rank then 1 else 0) + times rank rest
times-cons rank x left rest is = ap (times rank) is ∙ sum_by-cons (λ r. cond (r == rank) 1 0) x rest

-- some were taken for one more object
pub taken_more : (amount : Growth → ℕ) (x : Growth) (left rest : List Growth) (rank before now next : ℕ) → left ≡ x ∷ rest
    → next ≡ (if x.rank == rank then now + amount x else now) → now + amount_on rank amount left ≡ before → next + amount_on rank amount rest ≡ before
taken_more amount x left rest rank before now next is took sum =
    omega (arith, took ∙ plus_if (x.rank == rank) now (amount x), sum, amount-cons rank amount x left rest is)

pub given_more : (amount : Growth → ℕ) (x : Growth) (left rest : List Growth) (rank before now next : ℕ) → left ≡ x ∷ rest
    → next ≡ (if x.rank == rank then now - amount x else now) → now - amount_on rank amount left ≡ before → next - amount_on rank amount rest ≡ before
given_more amount x left rest rank before now next is gave sum =
    omega (arith, gave ∙ minus_if (x.rank == rank) now (amount x), sum, amount-cons rank amount x left rest is)

pub made_more : (x : ℕ) (left rest : List ℕ) (rank before now next : ℕ) → left ≡ x ∷ rest
    → next ≡ (if x == rank then now + 1 else now) → now + times rank left ≡ before → next + times rank rest ≡ before
made_more x left rest rank before now next is took sum =
    omega (arith, took ∙ plus_if (x == rank) now 1, sum, times-cons rank x left rest is)

module _ (shape : Shape) (g : Graph) (made left rest : List ℕ) (x : ℕ) (rooms : Rooms) (is : left ≡ x ∷ rest) (on : x < shape.ranks) (finds : FindsOn shape g made left rooms) where
  here : short_at_make shape g [] made ≡ cond (nat_lt shape.blocks (taken_on rooms x + 1)) (Some x) (short_at_make shape g (x ∷ finds.behind) rest)
  here = finds.same ∙ ap (short_at_make shape g finds.behind) is
      ∙ ap (λ n. cond (nat_lt shape.blocks (n + 1)) (Some x) (short_at_make shape g (x ∷ finds.behind) rest)) (sym (finds.taken x on))

  pub finds_short : shape.blocks ≤ taken_on rooms x → Some x ≡ short_at_make shape g [] made
  finds_short full =
      let more : shape.blocks < taken_on rooms x + 1 = omega (arith, full) in
      sym (here ∙ ap (λ b. cond b (Some x) (short_at_make shape g (x ∷ finds.behind) rest)) (lt-ltb shape.blocks (taken_on rooms x + 1) more))

  pub finds_more : (next : Rooms) → taken_on rooms x < shape.blocks → ((rank : ℕ) → taken_on next rank ≡ (if x == rank then taken_on rooms rank + 1 else taken_on rooms rank)) → FindsOn shape g made rest next
  finds_more next room took =
      let few : taken_on rooms x + 1 ≤ shape.blocks = omega (arith, room) in
      record {
        behind = x ∷ finds.behind;
        taken = λ rank below. omega (arith, took rank ∙ plus_if (x == rank) (taken_on rooms rank) 1, finds.taken rank below, times-cons rank x (x ∷ finds.behind) finds.behind refl);
        same = here ∙ ap (λ b. cond b (Some x) (short_at_make shape g (x ∷ finds.behind) rest)) (le-ltb shape.blocks (taken_on rooms x + 1) few);
      }

pub finds_all : (shape : Shape) (g : Graph) (made left : List ℕ) (rooms : Rooms) → left ≡ [] → FindsOn shape g made left rooms → None ≡ short_at_make shape g [] made
finds_all shape g made left rooms is finds = sym (finds.same ∙ ap (short_at_make shape g finds.behind) is)

-- the ranks from one on, where it isn't short
pub past_rank : (short : ℕ → Bool) (rank ranks : ℕ) (found : Option ℕ) → rank < ranks → short rank ≡ false
    → found ≡ find short (range_with_len rank (ranks - rank)) → found ≡ find short (range_with_len (rank + 1) (ranks - (rank + 1)))
past_rank short rank ranks found below room is =
    let len : ranks - rank ≡ suc (ranks - (rank + 1)) = omega (arith, below) in
    is ∙ ap (λ n. find short (range_with_len rank n)) len ∙ ap (λ b. cond b (Some rank) (find short (range_with_len (rank + 1) (ranks - (rank + 1))))) room

pub at_rank : (short : ℕ → Bool) (rank ranks : ℕ) (found : Option ℕ) → rank < ranks → short rank ≡ true
    → found ≡ find short (range_with_len rank (ranks - rank)) → Some rank ≡ found
at_rank short rank ranks found below full is =
    let len : ranks - rank ≡ suc (ranks - (rank + 1)) = omega (arith, below) in
    sym (is ∙ ap (λ n. find short (range_with_len rank n)) len ∙ ap (λ b. cond b (Some rank) (find short (range_with_len (rank + 1) (ranks - (rank + 1))))) full)
