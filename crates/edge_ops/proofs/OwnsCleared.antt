-- The own objects of several edges are read, and then emptied.
use Rattle.std.proofs.Common.{◌≡◌, ◌≢◌, ◌∙◌, ℕ, zero, suc, true, false, cond, List, [], ◌∷◌, ◌++◌, Option, Some, None, refl, sym, ap, subst, IsSome, ◌⊎◌, inl, inr, arith}
use Rattle.std.specs.List.{Contains}
use Rattle.std.specs.Option.{unwrap_or}
use Rattle.std.specs.Ordering.{eq_by_cmp}
use Rattle.std.proofs.lemmas.List.Elements.{Contains-append_cases}
use Rattle.rma_layout.specs.Placement.{IsReserved, Place}
use Rattle.object_words.specs.Contents.{Contents, content_of, place_cmp, words_at}
use Rattle.object_words.proofs.Places.{words_at-with_words, words_at_here}
use Rattle.object_store.specs.State.{StoreState}
use Rattle.object_store.specs.Calls.{MayWrite, WritesObject}
use Rattle.object_store.specs.Works.{Looks, Reaches}
use Rattle.object_store.proofs.Works.{looks-then}
use Rattle.object_store.proofs.Working.{stays-same}
use Rattle.holder_codec.specs.declared.edge_form.EdgeForm.{EdgeForm}
use Rattle.holder_codec.specs.declared.edge_form.EdgeForm.TheVariants.{Plain, Labelled, Heavy}
use Rattle.holder_codec.specs.declared.edge_holder.EdgeHolder.{EdgeHolder}
use Rattle.holder_codec.specs.declared.edge_record.EdgeRecord.{EdgeRecord}
use Rattle.holder_codec.specs.EdgeObject.{edge_object_words}
use Rattle.held_objects.proofs.Knows.{still}
use Rattle.edge_ops.specs.Opening.{ClearsOwn, OwnIsBlock}
use Rattle.edge_ops.specs.Parting.{ClearsOwns, OpensOwns, OwnIsKnown, OwnMayWrite}
use Rattle.edge_ops.proofs.Finding.{may_write_still}

pub own_some : (holder : EdgeHolder) → edge_object_words holder ≢ []
own_some holder none = cc none

pub one_of : {X : Type 0} (x y : X) → Contains (x ∷ []) y → y ≡ x
one_of x y (zero, within, is) = sym is
one_of x y (suc k, within, is) = absurd (omega (arith, within))

none_of : {X : Type 0} (y : X) → Contains {X = X} [] y → ⊥
none_of y (k, within, is) = omega (arith, within)

module _ {N : Type 0} where
  -- what may be written may be written while the transaction looks on
  pub may_write_on : {old new : StoreState N} (object : Place) → Looks old new → MayWrite old object → MayWrite new object
  may_write_on {old} {new} object looks may = elim may [
    | inl reserved ↦ inl (subst (λ shape. IsReserved shape object.block) (sym looks.stays.shape) reserved)
    | inr (inl own) ↦ inr (inl (subst (λ (w : Contents). IsSome (words_at w object)) (sym looks.writes) own))
    | inr (inr some) ↦ inr (inr (λ empty. some (cases (words_at old.reads object) refl empty)))
  ]
    where
      cases : (o : Option (List ℕ)) → words_at old.reads object ≡ o → content_of new.reads object ≡ [] → content_of old.reads object ≡ []
      cases None is empty = ap (λ (o : Option (List ℕ)). unwrap_or o []) is
      cases (Some ws) is empty = ap (λ (o : Option (List ℕ)). unwrap_or o []) is ∙ (sym (ap (λ (o : Option (List ℕ)). unwrap_or o []) (looks.stays.reads object ws is)) ∙ empty)

  own_may_on : {old new : StoreState N} (form : EdgeForm) → Looks old new → OwnMayWrite form old → OwnMayWrite form new
  own_may_on Plain looks may = tt
  own_may_on (Labelled l) looks may = tt
  own_may_on (Heavy own) looks may = may_write_on own looks may

  pub own_known_on : {old new : StoreState N} (form : EdgeForm) → Looks old new → OwnIsKnown form old → OwnIsKnown form new
  own_known_on form looks known = record { block = subst (OwnIsBlock form) (sym looks.stays.shape) known.block; spelled = still looks known.spelled }

  pub opens_none : {old new : StoreState N} → new ≡ old → OpensOwns [] old new
  opens_none {old} same = record { looks = subst (Looks old) (sym same) (record { stays = stays-same; writes = refl }); may = λ edge never. absurd (none_of edge never) }

  pub opens_more : {old mid new : StoreState N} {done : List EdgeRecord} (edge : EdgeRecord) → OpensOwns done old mid → Looks mid new → OwnMayWrite edge.form new → OpensOwns (done ++ edge ∷ []) old new
  opens_more {new = new} {done = done} edge opens looks may = record {
    looks = looks-then opens.looks looks;
    may = λ one is. elim (Contains-append_cases done (edge ∷ []) one is) [
      | inl before ↦ own_may_on one.form looks (opens.may one before)
      | inr last ↦ subst (λ (r : EdgeRecord). OwnMayWrite r.form new) (sym (one_of edge one last)) may
    ];
  }

  -- ---- they are emptied

  pub may_still_cleared : (mid new : StoreState N) (form other : EdgeForm) → ClearsOwn form mid new → OwnMayWrite other mid → OwnMayWrite other new
  may_still_cleared mid new form Plain cleared may = tt
  may_still_cleared mid new form (Labelled l) cleared may = tt
  may_still_cleared mid new Plain (Heavy own) same may = subst (λ (s : StoreState N). MayWrite s own) (sym same) may
  may_still_cleared mid new (Labelled l) (Heavy own) same may = subst (λ (s : StoreState N). MayWrite s own) (sym same) may
  may_still_cleared mid new (Heavy at) (Heavy own) wrote may = may_write_still own wrote may

  pub clears_none : {old new : StoreState N} → new ≡ old → ClearsOwns [] old new
  clears_none same = record {
    cleared = λ edge own never. absurd (none_of edge never);
    others = λ place. inr (ap (λ (s : StoreState N). words_at s.writes place) same);
    reads = ap (λ (s : StoreState N). s.reads) same;
  }

  module _ {old mid new : StoreState N} {done : List EdgeRecord} (clears : ClearsOwns done old mid) where
    nothing_more : (edge : EdgeRecord) → new ≡ mid → ((own : Place) → edge.form ≡ Heavy own → ⊥) → ClearsOwns (done ++ edge ∷ []) old new
    nothing_more edge same light = record {
      cleared = λ one own is heavy. elim (Contains-append_cases done (edge ∷ []) one is) [
        | inl before ↦ ap (λ (s : StoreState N). words_at s.writes own) same ∙ clears.cleared one own before heavy
        | inr last ↦ absurd (light own (sym (ap (λ (r : EdgeRecord). r.form) (one_of edge one last)) ∙ heavy))
      ];
      others = λ place. subst (λ (s : StoreState N). (words_at s.writes place ≡ Some []) ⊎ (words_at s.writes place ≡ words_at old.writes place)) (sym same) (clears.others place);
      reads = ap (λ (s : StoreState N). s.reads) same ∙ clears.reads;
    }

    one_more : (edge : EdgeRecord) (at : Place) → edge.form ≡ Heavy at → WritesObject at [] mid new → ClearsOwns (done ++ edge ∷ []) old new
    one_more edge at form wrote = record {
      cleared = λ one own is heavy. elim (Contains-append_cases done (edge ∷ []) one is) [
        | inl before ↦ put own ∙ elim (eq_by_cmp place_cmp own at) as (λ b. cond b (Some []) (words_at mid.writes own) ≡ Some []) [ true ↦ refl | false ↦ clears.cleared one own before heavy ]
        | inr last ↦
            let same : Heavy own ≡ Heavy at = sym heavy ∙ (ap (λ (r : EdgeRecord). r.form) (one_of edge one last) ∙ form) in
            let here : own ≡ at = cc same in
            subst (λ (p : Place). words_at new.writes p ≡ Some []) (sym here) (ap (λ (w : Contents). words_at w at) wrote.writes ∙ words_at_here mid.writes at [])
      ];
      others = λ place.
          subst (λ (o : Option (List ℕ)). (o ≡ Some []) ⊎ (o ≡ words_at old.writes place)) (sym (put place))
          (elim (eq_by_cmp place_cmp place at) as (λ b. (cond b (Some []) (words_at mid.writes place) ≡ Some []) ⊎ (cond b (Some []) (words_at mid.writes place) ≡ words_at old.writes place)) [ true ↦ inl refl | false ↦ clears.others place ]);
      reads = wrote.reads ∙ clears.reads;
    }
      where
        put : (place : Place) → words_at new.writes place ≡ cond (eq_by_cmp place_cmp place at) (Some []) (words_at mid.writes place)
        put place = ap (λ (w : Contents). words_at w place) wrote.writes ∙ words_at-with_words mid.writes at [] place

    pub clears_more : (edge : EdgeRecord) → ClearsOwn edge.form mid new → ClearsOwns (done ++ edge ∷ []) old new
    clears_more edge did = cases edge.form refl did
      where
        cases : (form : EdgeForm) → edge.form ≡ form → ClearsOwn form mid new → ClearsOwns (done ++ edge ∷ []) old new
        cases Plain is same = nothing_more edge same (λ own heavy. let no : Plain ≡ Heavy own = sym is ∙ heavy in cc no)
        cases (Labelled l) is same = nothing_more edge same (λ own heavy. let no : Labelled l ≡ Heavy own = sym is ∙ heavy in cc no)
        cases (Heavy at) is wrote = one_more edge at is wrote

-- what may be written may be written after calls that reach other objects
pub may_write_past : {N : Type 0} {old new : StoreState N} {Reached : Place → Type 0} {Makes : ℕ → Type 0} (object : Place) → Reaches Reached Makes old new → (Reached object → ⊥) → MayWrite old object → MayWrite new object
may_write_past {N} {old} {new} {Reached} object reaches apart may = elim may [
  | inl reserved ↦ inl (subst (λ shape. IsReserved shape object.block) (sym reaches.stays.shape) reserved)
  | inr (inl own) ↦ inr (inl (written own (reaches.writes object)))
  | inr (inr some) ↦ inr (inr (λ empty. some (cases (words_at old.reads object) refl empty)))
]
  where
    written : IsSome (words_at old.writes object) → Reached object ⊎ (words_at new.writes object ≡ words_at old.writes object) → IsSome (words_at new.writes object)
    written own (inl reached) = absurd (apart reached)
    written own (inr same) = subst IsSome (sym same) own

    cases : (o : Option (List ℕ)) → words_at old.reads object ≡ o → content_of new.reads object ≡ [] → content_of old.reads object ≡ []
    cases None is empty = ap (λ (o : Option (List ℕ)). unwrap_or o []) is
    cases (Some ws) is empty = ap (λ (o : Option (List ℕ)). unwrap_or o []) is ∙ (sym (ap (λ (o : Option (List ℕ)). unwrap_or o []) (reaches.stays.reads object ws is)) ∙ empty)

pub own_may_past : {N : Type 0} {old new : StoreState N} {Reached : Place → Type 0} {Makes : ℕ → Type 0} (form : EdgeForm) → Reaches Reached Makes old new → ((own : Place) → form ≡ Heavy own → Reached own → ⊥) → OwnMayWrite form old → OwnMayWrite form new
own_may_past Plain reaches apart may = tt
own_may_past (Labelled l) reaches apart may = tt
own_may_past (Heavy own) reaches apart may = may_write_past own reaches (apart own refl) may

pub only_light : (form : EdgeForm) → ((at : Place) → form ≡ Heavy at → ⊥) → {N : Type 0} (state : StoreState N) → OwnMayWrite form state
only_light Plain light state = tt
only_light (Labelled l) light state = tt
only_light (Heavy at) light state = absurd (light at refl)
