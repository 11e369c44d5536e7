-- There is room for the objects that are left where one of them is rewritten.
use Rattle.std.proofs.Common.{◌≡◌, ◌≢◌, ℕ, ◌+◌, ◌-◌, ◌<◌, ◌≤◌, not, ◌&&◌, Bool, true, false, cond, List, [], ◌∷◌, ◌++◌, drop, take, length, inl, inr, refl, sym, ap, ◌∙◌, subst, arith, Option, Some, None, length-append}
use Rattle.std.specs.List.{AllByRecursion}
use Rattle.std.proofs.lemmas.Bool.{cases_eq}
use Rattle.std.proofs.lemmas.List.{take-append-drop}
use Rattle.rma_layout.specs.Shape.{Shape}
use Rattle.rma_layout.specs.Placement.{Place}
use Rattle.object_words.specs.Blocks.{content_blocks, is_reserved, on_rank as place_on, one_if}
use Rattle.object_words.specs.Contents.{Contents, content_of, is_empty}
use Rattle.window_rule.specs.View.{View, Dirt, Known}
use Rattle.window_rule.specs.Commit.{need_from, need_of}
use Rattle.window_rule.specs.Dirty.{dirt_of}
use Rattle.window_rule.specs.Objects.{chain_length}
use Rattle.window_rule.specs.RoomHolds.{asked_for, count_on, kept_of, sum_below}
use Rattle.window_rule.proofs.Counting.{sum_below-same}
use Rattle.window_rule.proofs.LockLemmas.{place_by_parts}
use Rattle.window_rule.proofs.Removals.{on-both}
use Rattle.window_rule.proofs.RoomKept.{count_all}
use Rattle.window_rule.proofs.Sums.{sum_below-except}
use Rattle.fabric.specs.Window.{RankModel}
use Rattle.object_moves.specs.Rewrites.{Rewrites, chain_of_first}
use Rattle.object_txn.specs.declared.plan.Plan.{Plan}
use Rattle.object_txn.specs.Plans.{HasRoom, IsReady}
use Rattle.object_txn.proofs.PlanFacts.{dirt_elsewhere, dirt_here, extras_are}

-- what the old words ask for and the new ones need beyond is in as many blocks as hold either
owed_by : (r ek ea : Bool) (k a n : ℕ) → 0 < n → cond (not r && ek) 0 k ≤ n → cond (not r && ea) 0 a ≤ n
    → cond (not r && ek) 0 k + (one_if (not r && ek) + cond r (a - k) (cond ea 0 (cond ek (a - 1) (a - k)))) ≤ n
owed_by true ek ea k a n some old new = omega (arith, old, new)
owed_by false true true k a n some old new = omega (arith, some)
owed_by false true false k a n some old new = omega (arith, some, new)
owed_by false false true k a n some old new = omega (arith, old)
owed_by false false false k a n some old new = omega (arith, old, new)

pub owed : (shape : Shape) (object : Place) (kept words : List ℕ) (n : ℕ) → 0 < n → chain_length shape object kept ≤ n → chain_length shape object words ≤ n
    → chain_length shape object kept + need_from shape object kept (Some words) ≤ n
owed shape object kept words n some old new =
    owed_by (is_reserved shape object.block) (is_empty kept) (is_empty words) (content_blocks shape kept) (content_blocks shape words) n some old new

count-take : (rank n : ℕ) (xs : List Place) → count_on rank (take n xs) ≤ count_on rank xs
count-take rank n xs = omega (arith, on-both rank (take n xs) (drop n xs), ap (count_on rank) (take-append-drop n xs))

all_left : (P : Place → Type 0) (xs ys : List Place) → AllByRecursion P (xs ++ ys) → AllByRecursion P xs
all_left P [] ys h = tt
all_left P (x ∷ xs) ys h = (h.0, all_left P xs ys h.1)

all_right : (P : Place → Type 0) (xs ys : List Place) → AllByRecursion P (xs ++ ys) → AllByRecursion P ys
all_right P [] ys h = h
all_right P (x ∷ xs) ys h = all_right P xs ys h.1

module _ {N : Type 0} (shape : Shape) (reads writes : Contents) (before after : RankModel N) (plan : Plan)
    (ready : IsReady shape reads writes before plan)
    (told : Rewrites shape plan.at (chain_of_first shape plan.at plan.blocks (content_of writes plan.at)) (content_of writes plan.at) before.view after.view) where
  abbrev words : List ℕ
  words = content_of writes plan.at

  abbrev chain : List Place
  chain = chain_of_first shape plan.at plan.blocks words

  abbrev dirt : Dirt
  dirt = record { object = plan.at; kept = told.known.content; blocks = chain; attached = Some words }

  -- a sum over the blocks of a rank, of what is detached there
  abbrev sum_of : (Place → Option Dirt → ℕ) → ℕ → View N → ℕ
  sum_of f rank view = sum_below shape.blocks (λ b. f (place_on rank b) (dirt_of view.dirty (place_on rank b)))

  sum_same : (f : Place → Option Dirt → ℕ) (rank : ℕ) → rank ≢ plan.at.rank → sum_of f rank before.view ≡ sum_of f rank after.view
  sum_same f rank ne = sum_below-same shape.blocks (λ b. f (place_on rank b) (dirt_of before.view.dirty (place_on rank b)))
      (λ b. f (place_on rank b) (dirt_of after.view.dirty (place_on rank b)))
      (λ b _. ap (f (place_on rank b)) (sym (dirt_elsewhere shape plan.at chain words before.view after.view told (place_on rank b)
      (λ e. ne (ap (λ (p : Place). p.rank) e)))))

  sum_more : (f : Place → Option Dirt → ℕ) (rank : ℕ) → rank ≡ plan.at.rank → f plan.at None ≡ 0
      → sum_of f rank after.view ≡ sum_of f rank before.view + f plan.at (Some dirt)
  sum_more f rank on none =
      let here : place_on rank plan.at.block ≡ plan.at = place_by_parts (place_on rank plan.at.block) plan.at on refl in
      let was : f (place_on rank plan.at.block) (dirt_of before.view.dirty (place_on rank plan.at.block)) ≡ 0 =
      ap (λ (p : Place). f p (dirt_of before.view.dirty p)) here ∙ (ap (f plan.at) ready.may.detach.clean ∙ none) in
      let now : f (place_on rank plan.at.block) (dirt_of after.view.dirty (place_on rank plan.at.block)) ≡ f plan.at (Some dirt) =
      ap (λ (p : Place). f p (dirt_of after.view.dirty p)) here ∙ ap (f plan.at) (dirt_here shape plan.at chain words before.view after.view told) in
      let sums = sum_below-except shape.blocks (λ b. f (place_on rank b) (dirt_of before.view.dirty (place_on rank b)))
      (λ b. f (place_on rank b) (dirt_of after.view.dirty (place_on rank b))) plan.at.block
      (λ k ne. ap (f (place_on rank k)) (dirt_elsewhere shape plan.at chain words before.view after.view told (place_on rank k)
      (λ e. ne (ap (λ (p : Place). p.block) e)))) ready.object.1 in
      omega (arith, sums, was, now)

  blocks_are : plan.blocks ≡ told.known.chain ++ ready.may.extras
  blocks_are = ready.may.are ∙ ap (λ (k : Known). k.chain ++ ready.may.extras)
      (sym (let e : Some told.known ≡ Some ready.may.known = sym told.was ∙ ready.may.is in let same : told.known ≡ ready.may.known = cc e in same))

  all_on : AllByRecursion (λ (b : Place). b.rank ≡ plan.at.rank) (told.known.chain ++ ready.may.extras)
  all_on = subst (AllByRecursion (λ (b : Place). b.rank ≡ plan.at.rank)) blocks_are ready.may.has.lies.one_rank

  extras_is : drop plan.kept plan.blocks ≡ ready.may.extras
  extras_is = extras_are shape plan.at plan.blocks plan.kept (content_of reads plan.at) words before ready.may

  pub room_less : (more : List Plan) → HasRoom shape (plan ∷ more) before.view → HasRoom shape more after.view
  room_less more was rank below = elim (cases_eq rank plan.at.rank) [
    | inl on ↦
        let asked = sum_more (asked_for shape) rank on refl in
        let needed = sum_more (need_of shape) rank on refl in
        let kept = sum_more (λ _ d. kept_of d) rank on refl in
        let chain_all : count_on rank chain ≡ length chain = subst (λ (r : ℕ). count_on r chain ≡ length chain) (sym on)
        (count_all plan.at.rank chain (all_left (λ (b : Place). b.rank ≡ plan.at.rank) chain (drop (chain_length shape plan.at words) plan.blocks)
        (subst (AllByRecursion (λ (b : Place). b.rank ≡ plan.at.rank)) (sym (take-append-drop (chain_length shape plan.at words) plan.blocks)) ready.may.has.lies.one_rank))) in
        let known_all : count_on rank told.known.chain ≡ length told.known.chain = subst (λ (r : ℕ). count_on r told.known.chain ≡ length told.known.chain) (sym on)
        (count_all plan.at.rank told.known.chain (all_left (λ (b : Place). b.rank ≡ plan.at.rank) told.known.chain ready.may.extras all_on)) in
        let extras_all : count_on rank ready.may.extras ≡ length ready.may.extras = subst (λ (r : ℕ). count_on r ready.may.extras ≡ length ready.may.extras) (sym on)
        (count_all plan.at.rank ready.may.extras (all_right (λ (b : Place). b.rank ≡ plan.at.rank) told.known.chain ready.may.extras all_on)) in
        let size : length plan.blocks ≡ length told.known.chain + length ready.may.extras = ap length blocks_are ∙ length-append told.known.chain ready.may.extras in
        let owes = owed shape plan.at told.known.content words (length plan.blocks) ready.some_block (omega (arith, told.full, size)) ready.may.has.enough in
        omega (arith, was rank below, asked, needed, kept, chain_all, known_all, extras_all, size, owes, told.as_many rank, ap (count_on rank) extras_is)
    | inr off ↦
        let asked = sum_same (asked_for shape) rank off in
        let needed = sum_same (need_of shape) rank off in
        let kept = sum_same (λ _ d. kept_of d) rank off in
        let fewer = count-take rank (chain_length shape plan.at words) plan.blocks in
        let both = ap (count_on rank) blocks_are ∙ on-both rank told.known.chain ready.may.extras in
        omega (arith, was rank below, asked, needed, kept, fewer, both, told.as_many rank, ap (count_on rank) extras_is)
  ]
