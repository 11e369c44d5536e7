-- Where one of some objects is rewritten, the others are ready still.
use Rattle.std.proofs.Common.{◌≡◌, ◌≢◌, ℕ, ◌+◌, ◌<◌, ◌≤◌, cond, List, [], ◌∷◌, drop, length, get_or, suc, inl, inr, refl, sym, ap, ◌∙◌, subst, arith, Option, Some, None}
use Rattle.std.specs.Option.{unwrap_or}
use Rattle.std.proofs.Math.Seq.{drop-append_seam, drop-cons}
use Rattle.std.proofs.lemmas.List.{take-append-drop}
use Rattle.std.specs.List.{AllByRecursion}
use Rattle.rma_layout.specs.Shape.{Shape}
use Rattle.rma_layout.specs.Placement.{Place, same_place}
use Rattle.object_words.specs.Blocks.{one_if}
use Rattle.object_words.specs.Contents.{Contents, content_of, words_at}
use Rattle.window_rule.specs.View.{View, Dirt, Known, OwnBlock}
use Rattle.window_rule.specs.Commit.{WasRead, attached_of}
use Rattle.window_rule.specs.ContentsHold.{Lasts}
use Rattle.window_rule.specs.Detach.{MayDetach}
use Rattle.window_rule.specs.Dirty.{dirt_of}
use Rattle.window_rule.specs.Known.{known_of, without_known}
use Rattle.window_rule.specs.Locks.{hold_of}
use Rattle.window_rule.specs.Objects.{chain_length}
use Rattle.window_rule.specs.Partition.{places_of, times}
use Rattle.window_rule.specs.Spares.{IsNoSpare}
use Rattle.window_rule.specs.StampsHold.{opened_of}
use Rattle.window_rule.proofs.JoinSteps.{times-append}
use Rattle.window_rule.proofs.LockLemmas.{place_cases, same_place-false, same_place-refl}
use Rattle.window_rule.proofs.Readings.{reading-stays}
use Rattle.fabric.specs.Window.{RankModel}
use Rattle.object_moves.specs.Rewrites.{MayRewrite, Rewrites, chain_of_first}
use Rattle.object_moves.proofs.RewriteFacts.{times-take}
use Rattle.object_txn.specs.declared.plan.Plan.{Plan}
use Rattle.object_txn.specs.Plans.{ArePlanned, AreWritten, IsReady, OnlyStored, objects_in, surplus_in, taken_for}

-- the extras are the blocks behind those of the chain
pub extras_are : {N : Type 0} (shape : Shape) (object : Place) (blocks : List Place) (kept : ℕ) (old words : List ℕ) (rank : RankModel N)
    (may : MayRewrite shape object blocks kept old words rank) → drop kept blocks ≡ may.extras
extras_are shape object blocks kept old words rank may =
    ap (λ n. drop n blocks) may.kept_is ∙ (ap (drop (length may.known.chain)) may.are ∙ drop-append_seam may.known.chain may.extras)

module _ {N : Type 0} (shape : Shape) (object : Place) (chain : List Place) (words : List ℕ) (before after : View N) (told : Rewrites shape object chain words before after) where
  abbrev new_dirt : Dirt
  new_dirt = record { object = object; kept = told.known.content; blocks = chain; attached = Some words }

  pub dirt_here : dirt_of after.dirty object ≡ Some new_dirt
  dirt_here = ap (λ (v : View N). dirt_of v.dirty object) told.view ∙ ap (λ b. cond b (Some new_dirt) (dirt_of before.dirty object)) (same_place-refl object)

  pub dirt_elsewhere : (other : Place) → other ≢ object → dirt_of after.dirty other ≡ dirt_of before.dirty other
  dirt_elsewhere other ne = ap (λ (v : View N). dirt_of v.dirty other) told.view
      ∙ ap (λ b. cond b (Some new_dirt) (dirt_of before.dirty other)) (same_place-false object other (λ e. ne (sym e)))

  known_still : (other : Place) → other ≢ object → known_of after.known other ≡ known_of before.known other
  known_still other ne = ap (λ (v : View N). known_of v.known other) told.view ∙ reading-stays before.known object other ne

  holds_still : (other : Place) → hold_of after.locks other ≡ hold_of before.locks other
  holds_still other = ap (λ (v : View N). hold_of v.locks other) told.view

  pub detaches_still : (other : Place) → other ≢ object → MayDetach before other → MayDetach after other
  detaches_still other ne may = record {
    marked = holds_still other ∙ may.marked;
    clean = dirt_elsewhere other ne ∙ may.clean;
    writer = ap (λ (v : View N). v.gate) told.view ∙ may.writer;
    opened = λ none. may.opened (sym (ap (λ (v : View N). opened_of v.stamps.opened other) told.view) ∙ none);
  }

  pub only_stored : (first : View N) → OnlyStored first before → OnlyStored first after
  only_stored first only = told.view ∙ ap (λ (v : View N). record v { dirty = new_dirt ∷ before.dirty; known = without_known before.known object; cells = after.cells; private = after.private }) only
      ∙ ap (λ (v : View N). record first { dirty = v.dirty; known = v.known; cells = v.cells; private = v.private }) (sym told.view)

  module _ (reads writes : Contents) where
    pub read_still : dirt_of before.dirty object ≡ None → (other : Place) (was : List ℕ) → WasRead before other was → WasRead after other was
    read_still clean other was read = elim (place_cases other object) [
      | inl here ↦ subst (λ (p : Place). WasRead after p was) (sym here) (at_object (subst (λ (p : Place). WasRead before p was) here read))
      | inr differ ↦ elsewhere differ read
    ]
      where
        some_known : (one two : Known) → Some one ≡ Some two → one ≡ two
        some_known one two e = cc e

        at_object : WasRead before object was → WasRead after object was
        at_object (inl (dirt, is, kept)) = absurd (cc (sym clean ∙ is))
        at_object (inr (known, is, content, lasts)) = inl (new_dirt, dirt_here, ap (λ (k : Known). k.content) (some_known told.known known (sym told.was ∙ is)) ∙ content)

        elsewhere : other ≢ object → WasRead before other was → WasRead after other was
        elsewhere ne (inl (dirt, is, kept)) = inl (dirt, dirt_elsewhere other ne ∙ is, kept)
        elsewhere ne (inr (known, is, content, lasts)) = inr (known, known_still other ne ∙ is, content, subst Lasts (sym (holds_still other)) lasts)

    pub written_more : (more : List Plan) (plan : Plan) → plan.at ≡ object → words_at writes object ≡ Some words → dirt_of before.dirty object ≡ None
        → AreWritten reads writes (plan ∷ more) before → AreWritten reads writes more after
    written_more more plan at is clean was = record {
      as_read = λ other old e. read_still clean other old (was.as_read other old e);
      as_written = λ other out. elim (place_cases other object) [
        | inl here ↦ ap (words_at writes) here ∙ (is ∙ (sym (ap attached_of dirt_here) ∙ ap (λ (p : Place). attached_of (dirt_of after.dirty p)) (sym here)))
        | inr differ ↦
            let gone : one_if (same_place plan.at other) ≡ 0 = ap one_if (same_place-false plan.at other (λ e. differ (sym e ∙ at))) in
            was.as_written other (omega (arith, gone, out)) ∙ ap attached_of (sym (dirt_elsewhere other differ))
      ];
      attached = λ other dirt e. elim (place_cases other object) [
        | inl here ↦ λ none. let same : Some words ≡ dirt.attached = ap attached_of (sym (ap (dirt_of after.dirty) here ∙ dirt_here) ∙ e) in cc (same ∙ none)
        | inr differ ↦ was.attached other dirt (sym (dirt_elsewhere other differ) ∙ e)
      ];
    }

module _ {N : Type 0} (shape : Shape) (reads writes : Contents) (before after : RankModel N) (plan : Plan)
    (ready : IsReady shape reads writes before plan)
    (told : Rewrites shape plan.at (chain_of_first shape plan.at plan.blocks (content_of writes plan.at)) (content_of writes plan.at) before.view after.view)
    (no_spare : (block : Place) → IsNoSpare shape before.view.private before.spares block → IsNoSpare shape after.view.private after.spares block) where
  abbrev chain : List Place
  chain = chain_of_first shape plan.at plan.blocks (content_of writes plan.at)

  pub same_known : told.known ≡ ready.may.known
  same_known = let e : Some told.known ≡ Some ready.may.known = sym told.was ∙ ready.may.is in cc e

  -- the blocks that were taken for others are the rank's own still
  pub taken_still : (more : List Plan) → ((block : Place) → taken_for block (plan ∷ more) ≤ times block (places_of before.view.private))
      → (block : Place) → taken_for block more ≤ times block (places_of after.view.private)
  taken_still more was block =
      let counted : times block plan.blocks ≡ times block ready.may.known.chain + times block ready.may.extras =
      ap (times block) ready.may.are ∙ times-append block ready.may.known.chain ready.may.extras in
      let behind = ap (times block) (extras_are shape plan.at plan.blocks plan.kept (content_of reads plan.at) (content_of writes plan.at) before ready.may) in
      let fewer : times block chain ≤ times block plan.blocks = times-take _ plan.blocks block in
      let known = ap (λ (k : Known). times block k.chain) same_known in
      omega (arith, was block, told.exchanged block, counted, behind, fewer, known)

  -- what is left over of it is the rank's own
  pub surplus_less : (all more : List Plan) → ((block : Place) → times block (surplus_in all) + taken_for block (plan ∷ more)
      ≤ times block (places_of before.view.private) + times block (surplus_in (plan ∷ more)))
      → (block : Place) → times block (surplus_in all) + taken_for block more ≤ times block (places_of after.view.private) + times block (surplus_in more)
  surplus_less all more was block =
      let counted : times block plan.blocks ≡ times block ready.may.known.chain + times block ready.may.extras =
      ap (times block) ready.may.are ∙ times-append block ready.may.known.chain ready.may.extras in
      let behind = ap (times block) (extras_are shape plan.at plan.blocks plan.kept (content_of reads plan.at) (content_of writes plan.at) before ready.may) in
      let split : times block plan.blocks ≡ times block chain + times block (drop plan.used plan.blocks) =
      sym (ap (times block) (take-append-drop (chain_length shape plan.at (content_of writes plan.at)) plan.blocks))
      ∙ (times-append block chain (drop (chain_length shape plan.at (content_of writes plan.at)) plan.blocks)
      ∙ ap (λ n. times block chain + times block (drop n plan.blocks)) (sym ready.used_is)) in
      let left = times-append block (drop plan.used plan.blocks) (surplus_in more) in
      let known = ap (λ (k : Known). times block k.chain) same_known in
      omega (arith, was block, told.exchanged block, counted, behind, split, left, known)

  -- each block that was taken went to its object, and what is left over of that is the rank's own
  pub exchanged_less : (all more : List Plan) (first : List OwnBlock) → ((block : Place) → times block (places_of before.view.private) + taken_for block all
      + times block (surplus_in (plan ∷ more)) ≡ times block (places_of first) + times block (surplus_in all) + taken_for block (plan ∷ more))
      → (block : Place) → times block (places_of after.view.private) + taken_for block all + times block (surplus_in more)
      ≡ times block (places_of first) + times block (surplus_in all) + taken_for block more
  exchanged_less all more first was block =
      let counted : times block plan.blocks ≡ times block ready.may.known.chain + times block ready.may.extras =
      ap (times block) ready.may.are ∙ times-append block ready.may.known.chain ready.may.extras in
      let behind = ap (times block) (extras_are shape plan.at plan.blocks plan.kept (content_of reads plan.at) (content_of writes plan.at) before ready.may) in
      let split : times block plan.blocks ≡ times block chain + times block (drop plan.used plan.blocks) =
      sym (ap (times block) (take-append-drop (chain_length shape plan.at (content_of writes plan.at)) plan.blocks))
      ∙ (times-append block chain (drop (chain_length shape plan.at (content_of writes plan.at)) plan.blocks)
      ∙ ap (λ n. times block chain + times block (drop n plan.blocks)) (sym ready.used_is)) in
      let left = times-append block (drop plan.used plan.blocks) (surplus_in more) in
      let known = ap (λ (k : Known). times block k.chain) same_known in
      omega (arith, was block, told.exchanged block, counted, behind, split, left, known)

  ready_still : (other : Plan) → other.at ≢ plan.at → ((block : Place) → times block (drop other.kept other.blocks) ≤ times block (places_of after.view.private))
      → IsReady shape reads writes before other → IsReady shape reads writes after other
  ready_still other ne there was = record {
    may = record {
      detach = detaches_still shape plan.at chain (content_of writes plan.at) before.view after.view told other.at ne was.may.detach;
      has = was.may.has;
      known = was.may.known;
      is = ap (λ (v : View N). known_of v.known other.at) told.view ∙ (reading-stays before.view.known plan.at other.at ne ∙ was.may.is);
      extras = was.may.extras;
      are = was.may.are;
      kept_is = was.may.kept_is;
      begins = was.may.begins;
      own = λ block h. omega (
        arith,
        h,
        there block,
        ap (times block) (extras_are shape other.at other.blocks other.kept (content_of reads other.at) (content_of writes other.at) before was.may),
      );
      no_spare = λ block h. no_spare block (was.may.no_spare block h);
    };
    used_is = was.used_is;
    some_block = was.some_block;
    written = was.written;
    object = was.object;
  }

  pub all_still : (more : List Plan) → times plan.at (objects_in more) ≡ 0 → ((block : Place) → taken_for block more ≤ times block (places_of after.view.private))
      → AllByRecursion (IsReady shape reads writes before) more → AllByRecursion (IsReady shape reads writes after) more
  all_still [] out there all = tt
  all_still (other ∷ more) out there all = (
    ready_still other (λ same. let here : one_if (same_place other.at plan.at) ≡ 1 = ap (λ p. one_if (same_place p plan.at)) same ∙ ap one_if (same_place-refl plan.at) in
        absurd (omega (arith, out, here))) (λ block. omega (arith, there block)) all.0,
    all_still more (omega (arith, out)) (λ block. omega (arith, there block)) all.1,
  )

  pub planned_less : (more : List Plan) → ArePlanned shape reads writes before (plan ∷ more) → ArePlanned shape reads writes after more
  planned_less more was =
      let here : one_if (same_place plan.at plan.at) ≡ 1 = ap one_if (same_place-refl plan.at) in
      let there = taken_still more was.taken in record {
        ready = all_still more (omega (arith, was.once plan.at, here)) there was.ready.1;
        once = λ object. omega (arith, was.once object);
        taken = there;
      }

-- the plans that are left
pub plans_left : (plans : List Plan) (j : ℕ) (plan : Plan) → j < length plans → plan ≡ get_or plans j plan → drop j plans ≡ plan ∷ drop (j + 1) plans
plans_left plans j plan below at =
    let next : suc j ≡ j + 1 = omega arith in
    drop-cons plans j plan below
    ∙ (ap (λ p. p ∷ drop (suc j) plans) (sym at) ∙ ap (λ n. plan ∷ drop n plans) next)

pub stands_there : (writes : Contents) (object : Place) → words_at writes object ≢ None → words_at writes object ≡ Some (content_of writes object)
stands_there writes object some = by_cases (words_at writes object) some
  where
    by_cases : (found : Option (List ℕ)) → found ≢ None → found ≡ Some (unwrap_or found [])
    by_cases None h = absurd (h refl)
    by_cases (Some words) h = refl
