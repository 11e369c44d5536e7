-- What taking a block for a new object tells.
use Rattle.std.proofs.Common.{◌≡◌, ◌≢◌, ℕ, ◌<◌, ◌≤◌, ◌==◌, not, ◌&&◌, cond, true, false, List, [], ◌∷◌, ◌++◌, length, ◌⊎◌, inl, inr, refl, sym, ap, ◌∙◌, subst, arith, append_assoc, length-append, zero, suc, Bool, ◌-◌, Option, Some, None, Result, Err}
use Rattle.std.specs.Prelude.{is_some}
use Rattle.std.specs.Option.{unwrap_or}
use Rattle.std.specs.List.{AllByRecursion, Contains, count_by}
use Rattle.std.proofs.lemmas.Bool.Decides.{nat_tests}
use Rattle.std.proofs.lemmas.List.Elements.{Contains-append_right}
use Rattle.std.proofs.lemmas.List.Sums.{sum_by-cons}
use Rattle.rma_layout.specs.Shape.{Shape}
use Rattle.rma_layout.specs.Placement.{Place, IsBlock, same_place}
use Rattle.object_words.specs.Blocks.{blocks_for, is_reserved, on_rank, one_if}
use Rattle.object_words.specs.Contents.{Contents, content_of, words_at}
use Rattle.object_words.specs.Entries.{Entry}
use Rattle.window_rule.specs.View.{View, Known, OwnBlock, Miss}
use Rattle.window_rule.specs.Known.{known_of}
use Rattle.window_rule.specs.Objects.{BeginsAt, chain_length, number_to}
use Rattle.window_rule.specs.Partition.{places_of, times}
use Rattle.window_rule.specs.Pool.{MayBeFree}
use Rattle.window_rule.specs.RightsHold.{IsAlone}
use Rattle.window_rule.specs.Spares.{SpareEnds, HasSpares, IsNoSpare, first_spare_of}
use Rattle.window_rule.specs.Truths.{IsTrueView}
use Rattle.window_rule.proofs.JoinSteps.{times-append}
use Rattle.window_rule.proofs.LockLemmas.{place_by_parts, place_cases, same_place-false, same_place-refl}
use Rattle.fabric.specs.Window.{RankModel}
use Rattle.block_pool.specs.Gives.{IsForUse}
use Rattle.block_pool.specs.Moves.{Looked}
use Rattle.block_pool.specs.Takes as takes
use Rattle.block_pool.specs.Takes.{Refuses}
use Rattle.block_pool.specs.declared.refused.PoolRefused.{PoolRefused}
use Rattle.block_pool.specs.declared.refused.PoolRefused.TheVariants as pool
use Rattle.object_txn.specs.Causes.{Explains, HasLooked}
use Rattle.object_txn.specs.declared.refused.TxnRefused.TheVariants.{Empty, PoolBusy, Worn}
use Rattle.object_txn.specs.Moves.{OwnsNoted}
use Rattle.object_txn.specs.Tied.{HasTaken, HasWritten, MayBeWritten, words_in}
use Rattle.object_txn.specs.declared.txn.Txn.{Txn}

-- an object with words has a block
pub some_blocks : (shape : Shape) (object : Place) (w : ℕ) (ws : List ℕ) → 0 < chain_length shape object (w ∷ ws)
some_blocks shape object w ws = elim (is_reserved shape object.block) as
    (λ b. 0 < cond (not b && false) 0 (blocks_for (length (w ∷ ws)) (shape.words - 1))) [ true ↦ omega arith | false ↦ omega arith ]

first_there : (object : Place) (chain : List Place) → BeginsAt object chain → 0 < length chain → 0 < times object chain
first_there object [] begins some = absurd (omega (arith, some))
first_there object (block ∷ more) begins some =
    let here : one_if (same_place block object) ≡ 1 = ap (λ p. one_if (same_place p object)) begins ∙ ap one_if (same_place-refl object) in
    omega (arith, here)

module _ {N : Type 0} (fits : Shape → Entry N → Type 0) (shape : Shape) (view : View N) (is : IsTrueView fits shape view) (object : Place)
    (own : 0 < times object (places_of view.private)) where
  empty_by : (known : Known) → known_of view.known object ≡ Some known → (content : List ℕ) → known.content ≡ content → content ≡ []
  empty_by known e [] same = refl
  empty_by known e (w ∷ ws) same =
      let some : 0 < length known.chain = omega (arith, is.full object known e, ap (chain_length shape object) same, some_blocks shape object w ws) in
      absurd (omega (arith, is.apart object known object e, first_there object known.chain (is.lies object known e).begins some, own))

  some_words : (one other : List ℕ) → Some one ≡ Some other → one ≡ other
  some_words one other e = cc e

  -- a block of a view's own begins no object with words
  pub own_is_empty : (known : Option Known) → known_of view.known object ≡ known → (words : List ℕ) → words_in known ≡ Some words → words ≡ []
  own_is_empty None e words h = absurd (cc h)
  own_is_empty (Some known) e words h = sym (some_words known.content words h) ∙ empty_by known e known.content refl

  pub read_is_empty : (reads : Contents) → ((words : List ℕ) → words_at reads object ≡ Some words → words_in (known_of view.known object) ≡ Some words)
      → content_of reads object ≡ []
  read_is_empty reads known = by_cases (words_at reads object) refl
    where
      by_cases : (found : Option (List ℕ)) → words_at reads object ≡ found → unwrap_or (words_at reads object) [] ≡ []
      by_cases None e = ap (λ o. unwrap_or o []) e
      by_cases (Some words) e = ap (λ o. unwrap_or o []) e ∙ own_is_empty (known_of view.known object) refl words (known words e)

  pub read_is_known : (reads : Contents) → ((words : List ℕ) → words_at reads object ≡ Some words → words_in (known_of view.known object) ≡ Some words)
      → is_some (words_at reads object) ≡ true → words_in (known_of view.known object) ≡ Some []
  read_is_known reads known some = by_cases (words_at reads object) refl some
    where
      by_cases : (found : Option (List ℕ)) → words_at reads object ≡ found → is_some found ≡ true → words_in (known_of view.known object) ≡ Some []
      by_cases None e h = absurd (cc h)
      by_cases (Some words) e h = known words e ∙ ap Some (own_is_empty (known_of view.known object) refl words (known words e))

pub none_there : (contents : Contents) (object : Place) → is_some (words_at contents object) ≡ false → words_at contents object ≡ None
none_there contents object = by_cases (words_at contents object)
  where
    by_cases : (found : Option (List ℕ)) → is_some found ≡ false → found ≡ None
    by_cases None h = refl
    by_cases (Some words) h = absurd (cc h)

pub noted_more : (old new : List Place) (block : Place) → new ≡ old ++ block ∷ [] → (other : Place) → times other old ≤ times other new
noted_more old new block is other = omega (arith, ap (times other) is, times-append other old (block ∷ []))

-- where no block has moved, none came to the view's own
pub owns_same : {N : Type 0} (before after : View N) (old new : List Place) → after.private ≡ before.private → new ≡ old → OwnsNoted before after old new
owns_same before after old new own same block = omega (arith, ap (λ (o : List OwnBlock). times block (places_of o)) own, ap (times block) same)

-- a block that was just taken may be written
pub made_may : (shape : Shape) (reads : Contents) (old new : List Place) (block : Place) → new ≡ old ++ block ∷ [] → MayBeWritten shape reads new block
made_may shape reads old new block is unreserved none =
    let here : one_if (same_place block block) ≡ 1 = ap one_if (same_place-refl block) in
    absurd (omega (arith, none, ap (times block) is, times-append block old (block ∷ []), here))

-- and wasn't written
pub unwritten_by : (shape : Shape) (txn : Txn) (block : Place) {home : ℕ} → MayBeFree shape home block → times block txn.taken.items ≡ 0
    → HasWritten shape txn.held txn.reads txn.writes txn.taken.items → content_of txn.reads block ≡ [] → words_at txn.writes block ≡ None
unwritten_by shape txn block free unnoted written unread = by_cases (words_at txn.writes block) refl
  where
    by_cases : (found : Option (List ℕ)) → words_at txn.writes block ≡ found → found ≡ None
    by_cases None e = refl
    by_cases (Some words) e = absurd (written.may block words e free.unreserved unnoted unread)

-- a refusal for failed exchanges is busy
pub never_busy : (result : Result Place PoolRefused) (refused : PoolRefused) (loaded seen : ℕ) → result ≡ Err refused → refused ≡ pool.PoolBusy loaded seen
    → takes.is_busy result ≡ false → ⊥
never_busy result refused loaded seen is why h = cc (sym (ap takes.is_busy (is ∙ ap Err why)) ∙ h)

-- the first spare of a home rank is a spare
pub first_is_spare : (shape : Shape) (own : List OwnBlock) (ends : SpareEnds) (home : ℕ) → home < 64 → HasSpares shape own ends
    → first_spare_of ends home ≢ 0 → IsNoSpare shape own ends (on_rank home (first_spare_of ends home)) → ⊥
first_is_spare shape own ends home below has some none =
    let spares = has.chains home below in
    by_list spares.0 refl (spares.1.first_is) (none spares.0 spares.1) (spares.1.places)
  where
    by_list : (list : List Place) → list ≡ list → first_spare_of ends home ≡ number_to list → times (on_rank home (first_spare_of ends home)) list ≡ 0
        → AllByRecursion (MayBeFree shape home) list → ⊥
    by_list [] _ first none may = some first
    by_list (block ∷ more) _ first none may =
        let same : block ≡ on_rank home (first_spare_of ends home) = place_by_parts block (on_rank home (first_spare_of ends home)) may.0.on (sym first) in
        let here : one_if (same_place block (on_rank home (first_spare_of ends home))) ≡ 1 = ap (λ p. one_if (same_place p (on_rank home (first_spare_of ends home)))) same
        ∙ ap one_if (same_place-refl (on_rank home (first_spare_of ends home))) in
        omega (arith, none, here)

module _ {N : Type 0} (shape : Shape) (home : ℕ) (before after : RankModel N) (block : Place) (items : List Place) where
  -- a block that was taken wasn't noted
  pub taken_is_new : home < 64 → HasSpares shape before.view.private before.spares → HasTaken shape before.view.private before.spares items
      → takes.TakesFree home block before after ⊎ takes.TakesSpare home block before after → times block items ≡ 0
  taken_is_new below has taken from = by_cases (times block items) refl
    where
      never : 0 < times block items → takes.TakesFree home block before after ⊎ takes.TakesSpare home block before after → ⊥
      never there (inl free) = omega (arith, taken.own block there, free.pops.nobodys)
      never there (inr spare) = first_is_spare shape before.view.private before.spares home below has spare.some_spare
          (subst (IsNoSpare shape before.view.private before.spares) spare.block_is (taken.no_spare block there))

      by_cases : (n : ℕ) → times block items ≡ n → n ≡ 0
      by_cases zero e = refl
      by_cases (suc n) e = absurd (never (omega (arith, e)) from)

  -- a block that was taken is noted
  pub owns_taken : (new : List Place) → new ≡ items ++ block ∷ [] → takes.TakesFree home block before after ⊎ takes.TakesSpare home block before after
      → OwnsNoted before.view after.view items new
  owns_taken new is (inl free) b = omega (arith, ap (λ (v : View N). times b (places_of v.private)) free.pops.view, ap (times b) is, times-append b items (block ∷ []))
  owns_taken new is (inr spare) b = omega (arith, ap (λ (v : View N). times b (places_of v.private)) spare.unmoved, ap (times b) is, times-append b items (block ∷ []))

  -- the blocks that are noted are for use
  pub taken_more : (new : List Place) → times block items ≡ 0 → new ≡ items ++ block ∷ [] → MayBeFree shape home block
      → 0 < times block (places_of after.view.private) → IsNoSpare shape after.view.private after.spares block
      → ((other : Place) → IsForUse shape before other → IsForUse shape after other)
      → HasTaken shape before.view.private before.spares items → HasTaken shape after.view.private after.spares new
  taken_more new unnoted noted free own no_spare stay taken =
      subst (HasTaken shape after.view.private after.spares) (sym noted) (record {
        own = λ other h. (ready other h).own;
        no_spare = λ other h. (ready other h).no_spare;
        blocks = λ other h. elim (place_cases other block) [
          | inl here ↦ subst (IsBlock shape) (sym here) free.is_block
          | inr differ ↦ taken.blocks other (was other differ h)
        ];
        once = λ other. elim (place_cases other block) [
          | inl here ↦ let none : times other items ≡ 0 = ap (λ p. times p items) here ∙ unnoted in
              let one : one_if (same_place block other) ≤ 1 = at_most (same_place block other) in
              omega (arith, times-append other items (block ∷ []), none, one)
          | inr differ ↦ let gone : one_if (same_place block other) ≡ 0 = ap one_if (same_place-false block other (λ e. differ (sym e))) in
              omega (arith, times-append other items (block ∷ []), taken.once other, gone)
        ];
      })
    where
      at_most : (b : Bool) → one_if b ≤ 1
      at_most true = omega arith
      at_most false = omega arith

      was : (other : Place) → other ≢ block → 0 < times other (items ++ block ∷ []) → 0 < times other items
      was other ne h =
          let gone : one_if (same_place block other) ≡ 0 = ap one_if (same_place-false block other (λ e. ne (sym e))) in
          omega (arith, times-append other items (block ∷ []), h, gone)

      ready : (other : Place) → 0 < times other (items ++ block ∷ []) → IsForUse shape after other
      ready other h = elim (place_cases other block) [
        | inl here ↦ subst (IsForUse shape after) (sym here) (record { own = own; no_spare = no_spare })
        | inr differ ↦ let there = was other differ h in stay other (record { own = taken.own other there; no_spare = taken.no_spare other there })
      ]

-- why no block was taken
module _ {N : Type 0} (shape : Shape) (home : ℕ) (before after : View N) where
  has_looked : (head : ℕ) → Looked home head before after → HasLooked home head before after
  has_looked head looked = record {
    gained = record {
      more = looked.goes_on.0 ++ record { rank = home; head = head; own_blocks = _ } ∷ [];
      is = sym (append_assoc before.looks looked.goes_on.0 _) ∙ (ap (λ l. l ++ record { rank = home; head = head; own_blocks = _ } ∷ []) looked.goes_on.1 ∙ sym looked.looks);
    };
    own_blocks = _;
    this = Contains-append_right looked.goes_on.0 _ _ (0, omega arith, refl);
  }

  abbrev on_home : Miss → ℕ
  on_home miss = cond (miss.rank == home) 1 0

  all_on_home : (misses : List Miss) → AllByRecursion (λ (miss : Miss). miss.rank ≡ home) misses → count_by (λ (miss : Miss). miss.rank == home) misses ≡ length misses
  all_on_home [] h = refl
  all_on_home (miss ∷ more) h =
      let same : miss.rank ≡ home = h.0 in
      let here : on_home miss ≡ 1 = grind (arith, nat_tests) in
      omega (arith, sum_by-cons on_home miss more, here, all_on_home more h.1)

  last_is_new : (old new earlier : List Miss) (miss : Miss) → old ++ new ≡ earlier ++ miss ∷ [] → 0 < length new → Contains new miss
  last_is_new [] new earlier miss e some = subst (λ l. Contains l miss) (sym e) (Contains-append_right earlier (miss ∷ []) miss (0, omega arith, refl))
  last_is_new (one ∷ old) new [] miss e some = absurd (omega (arith, some, ap length e, length-append old new))
  last_is_new (one ∷ old) new (first ∷ earlier) miss e some = last_is_new old new earlier miss (tails e) some
    where
      tails : one ∷ (old ++ new) ≡ first ∷ (earlier ++ miss ∷ []) → old ++ new ≡ earlier ++ miss ∷ []
      tails h = cc h

  pub explains_empty : (head : ℕ) → Refuses home 64 before after (pool.Empty head) → Explains shape before after (Empty home head)
  explains_empty head why = (has_looked head why.0, why.1, why.2)

  pub explains_worn : (head : ℕ) → Refuses home 64 before after (pool.Worn head) → Explains shape before after (Worn home head)
  explains_worn head why = (has_looked head why.0, why.1)

  pub explains_busy : (loaded seen : ℕ) → ¬ IsAlone shape before → Refuses home 64 before after (pool.PoolBusy loaded seen)
      → Explains shape before after (PoolBusy home loaded seen)
  explains_busy loaded seen not_alone why =
      let failed = why.4 in
      let last = why.5 in record {
        gained = record { more = failed.gained; is = sym failed.misses };
        this = last_is_new before.misses failed.gained last.earlier _ (sym failed.misses ∙ last.misses) (omega (arith, failed.as_many));
        many = omega (arith, all_on_home failed.gained failed.on_home, failed.as_many);
        not_alone = not_alone;
      }
