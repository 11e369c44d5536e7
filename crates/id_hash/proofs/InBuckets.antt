-- What a transaction finds in a bucket, and where the buckets lead once one is written.
use Rattle.std.proofs.Common.{eq-eqb, ◌≡◌, ◌≢◌, ℕ, ◌^◌, ◌<◌, ◌≤◌, Bool, true, false, cond, List, length, refl, sym, ap, subst, ◌∙◌, arith, eqb, not, ◌+◌, ◌*◌, None, Some, Option, IsSome}
use Rattle.std.specs.List.{AllByRecursion}
use Rattle.std.specs.Option.{MatchOption, option_map}
use Rattle.object_store.proofs.Working.{stays-then}
use Rattle.std.specs.Ordering.{eq_by_cmp}
use Rattle.rma_layout.specs.Shape.{Shape}
use Rattle.rma_layout.specs.Ranges.{IsInRange}
use Rattle.rma_layout.specs.Placement.{Place, FitsOneWord, bucket_of}
use Rattle.object_words.specs.Contents.{Contents, Agrees, place_cmp, content_of, with_words, overlay, IsByRisingObject}
use Rattle.object_words.proofs.Places.{in_order-with_words, place_ties_itself, places_equal}
use Rattle.std.specs.Ordering.{nat_cmp}
use Rattle.std.specs.Cmp.{nat_cmp_total}
use Rattle.std.specs.FinMap.{nat_cmp-IsAntisymmetric}
use Rattle.std.specs.FinMap.Entries.{find, find-put, find-where_key}
use Rattle.std.proofs.lemmas.Bool.Decides.{nat_tests}
use Rattle.graph_model.specs.Maps.{IsMap, at, with_at, without}
use Rattle.graph_model.proofs.Sets.{length-filter-le}
use Rattle.graph_model.proofs.Entries.{IsMap-put, All-put, IsMap-filter, All-filter}
use Rattle.graph_model.specs.Sizes.{most_words, is_too_large}
use Rattle.object_store.specs.State.{StoreState, committed}
use Rattle.object_store.specs.Sound.{StaysBegun}
use Rattle.object_store.specs.Calls.{WritesObject}
use Rattle.holder_codec.specs.declared.bucket_entry.BucketEntry.{BucketEntry}
use Rattle.holder_codec.specs.declared.bucket_holder.BucketHolder.{BucketHolder}
use Rattle.holder_codec.specs.Bucket.{IsBucketHolder, bucket_words}
use Rattle.holder_codec.specs.Represents.{VertexObjects, BucketsLead, IsBucket, entries_of}
use Rattle.holder_codec.proofs.Lengths.{bucket_same}
use Rattle.holder_codec.proofs.Leading.{buckets_fix_objects, entries_fit, bucket_is}
use Rattle.holder_codec.proofs.Buckets.{length-entries}
use Rattle.holder_codec.specs.Knowing.{MayBeAt}
use Rattle.id_hash.specs.Buckets.{takes_one_more, Leads, LeadsTo, Lacks, Has, StaysKnown, WhereverLed, Finds, TellsRoom, Adds, Removes, FindsBucket}
use Rattle.held_objects.specs.Knows.{Knows}
use Rattle.held_objects.specs.Held.{IsSpelled, FindsHolder}
use Rattle.held_objects.proofs.Knows.{before, knows_after, still}
use Rattle.id_hash.proofs.Knows.{leads_to_leads, leads_to_has, still_known}
use Rattle.id_hash.specs.Entries.{id_of, entry_for, with_entry, without_entry}
use Rattle.object_store.proofs.Working.{content_put}
use Rattle.rising_lists.proofs.Rising.{length-with_item}
use Rattle.id_hash.proofs.Entries.{entry_for-entries, none-entries, entries-with_at, entries-without, other_entries-with_at, other_entries-without, length-entries_of}

-- the bucket of an identifier has the spelling of the entries that lead from it
pub spells_entries : (shape : Shape) (contents : Contents) (vertices : VertexObjects) (id : ℕ) → IsInRange shape → BucketsLead shape contents vertices
    → content_of contents (bucket_of shape id) ≡ bucket_words (record { entries = entries_of shape vertices (bucket_of shape id) })
spells_entries shape contents vertices id ranges leads = leads.buckets (bucket_of shape id) (bucket_is shape id ranges)

pub bucket_entries : (shape : Shape) (contents : Contents) (vertices : VertexObjects) (id : ℕ) (bucket : BucketHolder) → IsInRange shape → BucketsLead shape contents vertices
    → IsBucketHolder bucket → content_of contents (bucket_of shape id) ≡ bucket_words bucket → bucket.entries ≡ entries_of shape vertices (bucket_of shape id)
bucket_entries shape contents vertices id bucket ranges leads holder words =
    ap (λ b. b.entries) (bucket_same bucket (record { entries = entries_of shape vertices (bucket_of shape id) }) holder (entries_fit shape contents vertices (bucket_of shape id) leads)
    (sym words ∙ spells_entries shape contents vertices id ranges leads))

-- where the buckets lead once one of them has other entries
pub leads_after : (shape : Shape) (contents writes : Contents) (vertices changed : VertexObjects) (id : ℕ) (words : List ℕ) → IsByRisingObject writes
    → BucketsLead shape (overlay contents writes) vertices
    → IsMap nat_cmp changed → AllByRecursion (λ entry. (entry.0 < 2 ^ 64) × FitsOneWord entry.1) changed
    → words ≡ bucket_words (record { entries = entries_of shape changed (bucket_of shape id) })
    → ((place : Place) → ¬ (place ≡ bucket_of shape id) → entries_of shape changed place ≡ entries_of shape vertices place)
    → length words ≤ most_words
    → BucketsLead shape (overlay contents (with_words writes (bucket_of shape id) words)) changed
leads_after shape contents writes vertices changed id words ordered leads rising each spelled others few = record {
  rising = rising;
  each = each;
  buckets = λ place is. content_put contents writes (bucket_of shape id) words place ordered ∙ spelled_cases place is (eq_by_cmp place_cmp place (bucket_of shape id)) refl;
  within = λ place is. few_cases place is (eq_by_cmp place_cmp place (bucket_of shape id)) (content_put contents writes (bucket_of shape id) words place ordered);
}
  where
    spelled_cases : (place : Place) → IsBucket shape place → (tie : Bool) → eq_by_cmp place_cmp place (bucket_of shape id) ≡ tie
        → cond tie words (content_of (overlay contents writes) place) ≡ bucket_words (record { entries = entries_of shape changed place })
    spelled_cases place is true tie = spelled ∙ ap (λ p. bucket_words (record { entries = entries_of shape changed p })) (sym (places_equal place (bucket_of shape id) tie))
    spelled_cases place is false tie =
        leads.buckets place is ∙ ap (λ entries. bucket_words (record { entries = entries })) (sym (others place (λ same. apart_at tie same)))
      where
        apart_at : eq_by_cmp place_cmp place (bucket_of shape id) ≡ false → place ≡ bucket_of shape id → ⊥
        apart_at tie same = let here = subst (λ p. eq_by_cmp place_cmp p (bucket_of shape id) ≡ true) (sym same) (place_ties_itself (bucket_of shape id)) in cc

    few_cases : (place : Place) → IsBucket shape place → (tie : Bool) → content_of (overlay contents (with_words writes (bucket_of shape id) words)) place ≡ cond tie words (content_of (overlay contents writes) place)
        → length (content_of (overlay contents (with_words writes (bucket_of shape id) words)) place) ≤ most_words
    few_cases place is true e = subst (λ ws. length ws ≤ most_words) (sym e) few
    few_cases place is false e = subst (λ ws. length ws ≤ most_words) (sym e) (leads.within place is)

-- the words of a bucket that takes one more are few enough
pub few_with : (bucket : BucketHolder) (entry : BucketEntry) → not (is_too_large (2 * (length bucket.entries + 1))) ≡ true
    → length (bucket_words (record { entries = with_entry entry bucket.entries })) ≤ most_words
few_with bucket entry takes =
    let room : 2 * (length bucket.entries + 1) ≤ most_words = grind (arith, nat_tests) in
    omega (arith, room, length-entries (with_entry entry bucket.entries), length-with_item id_of nat_cmp entry bucket.entries)

-- and so are those of one from which an entry is taken
pub few_without : (shape : Shape) (contents : Contents) (vertices : VertexObjects) (id other : ℕ) (bucket : BucketHolder) → IsInRange shape → BucketsLead shape contents vertices
    → bucket.entries ≡ entries_of shape vertices (bucket_of shape id) → length (bucket_words (record { entries = without_entry other bucket.entries })) ≤ most_words
few_without shape contents vertices id other bucket ranges leads entries =
    let words = spells_entries shape contents vertices id ranges leads ∙ ap (λ es. bucket_words (record { entries = es })) (sym entries) in
    let all : length (bucket_words bucket) ≤ most_words = subst (λ ws. length ws ≤ most_words) words (leads.within (bucket_of shape id) (bucket_is shape id ranges)) in
    omega (arith, all, length-entries bucket.entries, length-entries (without_entry other bucket.entries), length-filter-le (λ entry. not (eqb entry.id other)) bucket.entries)

-- where an identifier leads to an object too
pub leads_with : (shape : Shape) (contents writes : Contents) (vertices : VertexObjects) (id : ℕ) (object : Place) (bucket : BucketHolder) → id < 2 ^ 64 → FitsOneWord object
    → IsInRange shape → IsByRisingObject writes → BucketsLead shape (overlay contents writes) vertices → bucket.entries ≡ entries_of shape vertices (bucket_of shape id)
    → at vertices id ≡ None → (words : List ℕ) → words ≡ bucket_words (record { entries = with_entry (record { id = id; at = object }) bucket.entries }) → length words ≤ most_words
    → BucketsLead shape (overlay contents (with_words writes (bucket_of shape id) words)) (with_at vertices id object)
leads_with shape contents writes vertices id object bucket small fits ranges ordered leads entries absent words spelled few =
    leads_after shape contents writes vertices (with_at vertices id object) id words ordered leads
    (IsMap-put nat_cmp nat_cmp_total id object vertices leads.rising)
    (All-put nat_cmp nat_cmp-IsAntisymmetric (λ entry. (entry.0 < 2 ^ 64) × FitsOneWord entry.1) id object vertices (small, fits) leads.each)
    (spelled ∙ ap (λ entries. bucket_words (record { entries = entries }))
    (ap (with_entry (record { id = id; at = object })) entries ∙ sym (entries-with_at shape vertices id object leads.rising)))
    (λ place apart. other_entries-with_at shape vertices id object place apart leads.rising) few

-- where one leads nowhere
pub leads_without : (shape : Shape) (contents writes : Contents) (vertices : VertexObjects) (id : ℕ) (bucket : BucketHolder)
    → IsInRange shape → IsByRisingObject writes → BucketsLead shape (overlay contents writes) vertices → bucket.entries ≡ entries_of shape vertices (bucket_of shape id)
    → (words : List ℕ) → words ≡ bucket_words (record { entries = without_entry id bucket.entries }) → length words ≤ most_words
    → BucketsLead shape (overlay contents (with_words writes (bucket_of shape id) words)) (without vertices id)
leads_without shape contents writes vertices id bucket ranges ordered leads entries words spelled few =
    leads_after shape contents writes vertices (without vertices id) id words ordered leads
    (IsMap-filter nat_cmp (λ entry. not (eqb entry.0 id)) vertices leads.rising)
    (All-filter (λ entry. (entry.0 < 2 ^ 64) × FitsOneWord entry.1) (λ entry. (entry.0 < 2 ^ 64) × FitsOneWord entry.1) (λ entry. not (eqb entry.0 id)) (λ _ _ fits. fits) vertices leads.each)
    (spelled ∙ ap (λ entries. bucket_words (record { entries = entries }))
    (ap (without_entry id) entries ∙ sym (entries-without shape vertices id)))
    (λ place apart. other_entries-without shape vertices id place apart) few

-- ---- what is read of a bucket

-- each bucket holds one spelling of a bucket
pub spelled_bucket : {N : Type 0} {state : StoreState N} (id : ℕ) {object : Place} → object ≡ bucket_of state.shape id → IsInRange state.shape → Knows Leads state → Knows (IsSpelled IsBucketHolder bucket_words object) state
spelled_bucket {N} {state} id {object} here ranges leads = record {
  ordered = leads.ordered;
  always = λ store may.
      let led = leads.always store may in
      subst (λ (place : Place). IsSpelled IsBucketHolder bucket_words place state.shape (overlay store state.writes)) (sym here)
      (record { held = record { entries = entries_of state.shape led.vertices (bucket_of state.shape id) }; is = entries_fit state.shape (overlay store state.writes) led.vertices (bucket_of state.shape id) led.led; words = spells_entries state.shape (overlay store state.writes) led.vertices id ranges led.led });
}

pub finds_bucket : {N : Type 0} {old new : StoreState N} {id : ℕ} {object : Place} {bucket : BucketHolder} → object ≡ bucket_of old.shape id → FindsHolder IsBucketHolder bucket_words object old new bucket → FindsBucket id old new bucket
finds_bucket {N} {old} {new} {id} {object} {bucket} here read = let found = subst (λ (place : Place). FindsHolder IsBucketHolder bucket_words place old new bucket) here read in record {
  found = found;
  entries = λ store vertices agrees leads.
      bucket_entries old.shape (overlay store old.writes) vertices id bucket found.ranges leads found.is (found.words store agrees);
}

pub at-without : (vertices : VertexObjects) (id : ℕ) → at (without vertices id) id ≡ None
at-without vertices id =
    find-where_key nat_cmp (λ k. not (eqb k id)) id (λ other tied. ap (λ k. not (eqb k id)) (sym (nat_cmp-IsAntisymmetric id other tied))) vertices
    ∙ ap (λ b. cond (not b) (find nat_cmp id vertices) None) (eq-eqb id id refl)

tie_apart : (one other : ℕ) → one ≢ other → eq_by_cmp nat_cmp one other ≡ false
tie_apart one other apart = grind (arith, nat_tests)

tie_same : (one : ℕ) → eq_by_cmp nat_cmp one one ≡ true
tie_same one = grind (arith, nat_tests)

not_same : (one other : ℕ) → one ≢ other → eqb one other ≡ false
not_same one other apart = grind (arith, nat_tests)

at-put-here : (id : ℕ) (object : Place) (vertices : VertexObjects) → at (with_at vertices id object) id ≡ Some object
at-put-here id object vertices = find-put nat_cmp nat_cmp_total id id object vertices ∙ ap (λ b. cond b (Some object) (at vertices id)) (tie_same id)

at-put-other : (other id : ℕ) (object : Place) (vertices : VertexObjects) → other ≢ id → at (with_at vertices id object) other ≡ at vertices other
at-put-other other id object vertices apart = find-put nat_cmp nat_cmp_total other id object vertices ∙ ap (λ b. cond b (Some object) (at vertices other)) (tie_apart other id apart)

at-without-other : (vertices : VertexObjects) (id other : ℕ) → other ≢ id → at (without vertices id) other ≡ at vertices other
at-without-other vertices id other apart =
    find-where_key nat_cmp (λ k. not (eqb k id)) other (λ k tied. ap (λ k. not (eqb k id)) (sym (nat_cmp-IsAntisymmetric other k tied))) vertices
    ∙ ap (λ b. cond (not b) (find nat_cmp other vertices) None) (not_same other id apart)

pub few_made : {made other : BucketHolder} → made ≡ other → length (bucket_words other) ≤ most_words → length (bucket_words made) ≤ most_words
few_made is few = subst (λ b. length (bucket_words b) ≤ most_words) (sym is) few

-- ---- the calls, where the bucket was read

module _ {N : Type 0} {id : ℕ} {old mid : StoreState N} {bucket : BucketHolder} (read : FindsBucket id old mid bucket) where
  -- the entries as they stand
  pub now_entries : (vertices : VertexObjects) → BucketsLead old.shape (overlay (committed mid) old.writes) vertices → bucket.entries ≡ entries_of old.shape vertices (bucket_of old.shape id)
  now_entries vertices leads = read.entries (committed mid) vertices read.found.stands.agrees leads

  pub may_have_been : MayBeAt old.shape old.reads (committed mid)
  may_have_been = before read.found.looks.stays (committed mid) read.found.stands

  pub finds : (found : Option Place) → found ≡ option_map (λ entry. entry.at) (entry_for bucket.entries id) → Knows Leads old → Finds id old mid found
  finds found is leads = record {
    looks = read.found.looks;
    answer = answer;
    leads_to = leads_to;
    known = known_cases found leads_to;
    leads = still read.found.looks leads;
    others = still_known read.found.looks;
  }
    where
      answer : WhereverLed old mid (λ _ vertices. found ≡ at vertices id)
      answer store vertices agrees led =
          is ∙ (ap (λ entries. option_map (λ entry. entry.at) (entry_for entries id)) (read.entries store vertices agrees led) ∙ entry_for-entries old.shape vertices id)

      leads_to : Knows (LeadsTo id found) mid
      leads_to = knows_after read.found.looks.stays (still read.found.looks leads).ordered (λ store may agrees.
          let led = leads.always store may in
          let here = subst (λ (w : Contents). BucketsLead old.shape (overlay store w) led.vertices) (sym read.found.looks.writes) led.led in
          record { vertices = led.vertices; led = here; is = sym (answer store led.vertices agrees led.led) })

      known_cases : (o : Option Place) → Knows (LeadsTo id o) mid → MatchOption o (Knows (Lacks id) mid) (λ _. Knows (Has id) mid)
      known_cases None knows = knows
      known_cases (Some object) knows = leads_to_has knows

  room_answer : WhereverLed old mid (λ _ vertices. not (is_too_large (2 * (length bucket.entries + 1))) ≡ takes_one_more old.shape vertices id)
  room_answer store vertices agrees led =
      ap (λ entries. not (is_too_large (2 * (length entries + 1)))) (read.entries store vertices agrees led)
      ∙ ap (λ n. not (is_too_large (2 * (n + 1)))) (length-entries_of old.shape vertices (bucket_of old.shape id))

  pub has_room : Knows (Lacks id) old → TellsRoom id old mid (not (is_too_large (2 * (length bucket.entries + 1))))
  has_room absent = record {
    looks = read.found.looks;
    room = λ store vertices agrees led _. room_answer store vertices agrees led;
    absent = still read.found.looks absent;
    leads = leads_to_leads (still read.found.looks absent);
    others = still_known read.found.looks;
  }

  pub adds_nothing : (object : Place) → not (is_too_large (2 * (length bucket.entries + 1))) ≡ false → Knows (Lacks id) old → Adds id object old mid false
  adds_nothing object full absent = record {
    answer = λ store vertices agrees led _. sym full ∙ room_answer store vertices agrees led;
    leads_to = λ same. absurd cc;
    unchanged = λ _. read.found.looks;
    known = still read.found.looks absent;
    present = λ same. absurd cc;
    leads = leads_to_leads (still read.found.looks absent);
    others = record { leads_to = λ other found _ knows. still read.found.looks knows; has = λ other _ knows. still read.found.looks knows };
  }

  pub absent_now : Knows (Lacks id) old → entry_for bucket.entries id ≡ None
  absent_now absent =
      let led = absent.always (committed mid) may_have_been in
      ap (λ entries. entry_for entries id) (now_entries led.vertices led.led) ∙ none-entries old.shape led.vertices id led.is

  pub few_left : Knows (Has id) old → length (bucket_words (record { entries = without_entry id bucket.entries })) ≤ most_words
  few_left present =
      let led = present.always (committed mid) may_have_been in
      few_without old.shape (overlay (committed mid) old.writes) led.vertices id id bucket read.found.ranges led.led (now_entries led.vertices led.led)

  -- where the bucket's new words are written
  module _ {new : StoreState N} (made : BucketHolder) (wrote : WritesObject (bucket_of mid.shape id) (bucket_words made) mid new) (stays : StaysBegun mid new) where
    writes_are : new.writes ≡ with_words old.writes (bucket_of old.shape id) (bucket_words made)
    writes_are = wrote.writes ∙ (ap (λ shape. with_words mid.writes (bucket_of shape id) (bucket_words made)) read.found.looks.stays.shape
        ∙ ap (λ (w : Contents). with_words w (bucket_of old.shape id) (bucket_words made)) read.found.looks.writes)

    ordered : IsByRisingObject new.writes
    ordered = subst IsByRisingObject (sym writes_are) (in_order-with_words old.writes (bucket_of old.shape id) (bucket_words made) read.found.in_order)

    agreed : (store : Contents) → Agrees new.reads store → Agrees mid.reads store
    agreed store agrees = subst (λ (reads : Contents). Agrees reads store) wrote.reads agrees

    -- what is known of all vertices to which the buckets then lead
    known_then : {Before After : Shape → Contents → Type 0} → Knows Before old
        → ((store : Contents) → Agrees mid.reads store → Before old.shape (overlay store old.writes) → After old.shape (overlay store new.writes)) → Knows After new
    known_then knows then = knows_after (stays-then read.found.looks.stays stays) ordered (λ store may agrees. then store (agreed store agrees) (knows.always store may))

    -- two facts of the vertices are of the same vertices
    same_led : (store : Contents) (one other : VertexObjects) → BucketsLead old.shape (overlay store old.writes) one → BucketsLead old.shape (overlay store old.writes) other → one ≡ other
    same_led store one other = buckets_fix_objects old.shape (overlay store old.writes) one other read.found.ranges

    module _ (object : Place) (small : id < 2 ^ 64) (fits : FitsOneWord object) (room : not (is_too_large (2 * (length bucket.entries + 1))) ≡ true)
        (is : made ≡ (record { entries = with_entry (record { id = id; at = object }) bucket.entries })) (absent : Knows (Lacks id) old) where
      led_with : (store : Contents) (vertices : VertexObjects) → Agrees mid.reads store → BucketsLead old.shape (overlay store old.writes) vertices → at vertices id ≡ None
          → BucketsLead old.shape (overlay store new.writes) (with_at vertices id object)
      led_with store vertices agrees led lacks =
          subst (λ (w : Contents). BucketsLead old.shape (overlay store w) (with_at vertices id object)) (sym writes_are)
          (leads_with old.shape store old.writes vertices id object bucket small fits read.found.ranges read.found.in_order led (read.entries store vertices agrees led) lacks (bucket_words made) (ap bucket_words is)
          (few_made is (few_with bucket (record { id = id; at = object }) room)))

      leads_to : Knows (LeadsTo id (Some object)) new
      leads_to = known_then absent (λ store agrees led.
          record { vertices = with_at led.vertices id object; led = led_with store led.vertices agrees led.led led.is; is = at-put-here id object led.vertices })

      -- the vertices of another fact lack the identifier too
      lacks_too : (store : Contents) (vertices : VertexObjects) → Lacks id old.shape (overlay store old.writes) → BucketsLead old.shape (overlay store old.writes) vertices → at vertices id ≡ None
      lacks_too store vertices lacks led = ap (λ (vs : VertexObjects). at vs id) (same_led store vertices lacks.vertices led lacks.led) ∙ lacks.is

      others_with : StaysKnown (λ other. other ≢ id) old new
      others_with = record {
        leads_to = λ other found apart knows. knows_after (stays-then read.found.looks.stays stays) ordered (λ store may agrees.
            let led = knows.always store may in
            record {
              vertices = with_at led.vertices id object;
              led = led_with store led.vertices (agreed store agrees) led.led (lacks_too store led.vertices (absent.always store may) led.led);
              is = at-put-other other id object led.vertices apart ∙ led.is;
            });
        has = λ other apart knows. knows_after (stays-then read.found.looks.stays stays) ordered (λ store may agrees.
            let led = knows.always store may in
            record {
              vertices = with_at led.vertices id object;
              led = led_with store led.vertices (agreed store agrees) led.led (lacks_too store led.vertices (absent.always store may) led.led);
              present = subst IsSome (sym (at-put-other other id object led.vertices apart)) led.present;
            });
      }

      pub adds : Adds id object old new true
      adds = record {
        answer = λ store vertices agrees led _. sym room ∙ room_answer store vertices (agreed store agrees) led;
        leads_to = λ _ store vertices agrees led lacks. led_with store vertices (agreed store agrees) led lacks;
        unchanged = λ same. absurd cc;
        known = leads_to;
        present = λ _. leads_to_has leads_to;
        leads = leads_to_leads leads_to;
        others = others_with;
      }

    module _ (is : made ≡ (record { entries = without_entry id bucket.entries })) (present : Knows (Has id) old) where
      led_without : (store : Contents) (vertices : VertexObjects) → Agrees mid.reads store → BucketsLead old.shape (overlay store old.writes) vertices
          → BucketsLead old.shape (overlay store new.writes) (without vertices id)
      led_without store vertices agrees led =
          subst (λ (w : Contents). BucketsLead old.shape (overlay store w) (without vertices id)) (sym writes_are)
          (leads_without old.shape store old.writes vertices id bucket read.found.ranges read.found.in_order led (read.entries store vertices agrees led) (bucket_words made) (ap bucket_words is) (few_made is (few_left present)))

      absent_after : Knows (Lacks id) new
      absent_after = known_then present (λ store agrees led.
          record { vertices = without led.vertices id; led = led_without store led.vertices agrees led.led; is = at-without led.vertices id })

      pub removes : Removes id old new
      removes = record {
        removed = λ store vertices agrees led. led_without store vertices (agreed store agrees) led;
        absent = absent_after;
        leads = leads_to_leads absent_after;
        others = record {
          leads_to = λ other found apart knows. known_then knows (λ store agrees led.
              record { vertices = without led.vertices id; led = led_without store led.vertices agrees led.led; is = at-without-other led.vertices id other apart ∙ led.is });
          has = λ other apart knows. known_then knows (λ store agrees led.
              record { vertices = without led.vertices id; led = led_without store led.vertices agrees led.led; present = subst IsSome (sym (at-without-other led.vertices id other apart)) led.present });
        };
      }
