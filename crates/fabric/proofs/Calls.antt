-- What a call of a step on one word owes to the table, from what the window and the rank are.
use Rattle.std.proofs.Common.{◌≡◌, ℕ, ◌<◌, Bool, List, [], set, sym, ap, refl, ◌∙◌, subst, arith, length-set, slice_index}
use Rattle.atomic_table.specs.Table.{Me, Allows, keeps}
use Rattle.atomic_table.specs.Seated.{TableId}
use Rattle.object_words.specs.Entries.{Entry}
use Rattle.rma_layout.specs.declared.word.Word.{Word}
use Rattle.rma_layout.specs.Shape.{Shape}
use Rattle.rma_layout.specs.Ranges.{IsInRange}
use Rattle.rma_layout.specs.Words.{IsWord, number_of}
use Rattle.rma_layout.proofs.WordLemmas.{number_of-lt}
use Rattle.window_rule.specs.View.{View}
use Rattle.window_rule.specs.Words.{words_in, with_word}
use Rattle.window_rule.specs.Lawful.{IsLawful, IsRuled}
use Rattle.window_rule.specs.Permits.{Permits}
use Rattle.window_rule.specs.Steps.{Tells}
use Rattle.window_rule.specs.Spares.{SpareEnds}
use Rattle.window_rule.specs.Trails.{SparesStay}
use Rattle.fabric.specs.Window.{WindowModel, RankModel, AreRights, IsSized, IsRank}
use Rattle.window_rule.proofs.WordFunctions.{words_in-set, words_in-word}

-- a rank as its contract sees it
abbrev pub IsSeen : {N : Type 0} → Me (Unit {0}) (View N) → TableId → Shape → SpareEnds
    → RankModel N → Type 0
IsSeen {N} me seat shape ends rank =
    let seen : RankModel N =
    record { window = record { id = seat; shape = shape }; view = me.0; spares = ends } in
    seen ≡ rank

module _ {N : Type 0} (fits : Shape → Entry N → Type 0) (slots id : ℕ) (me : Me (Unit {0}) (View N))
    (f : ℕ → ℕ) (Told : View N → ℕ → View N → Type 0) where
  -- a step that is permitted is one that the table allows
  permitted : (shape : Shape) (word : Word) → IsWord shape word → IsInRange shape
      → ¬ me.0.rights ≡ [] → Permits fits shape word f me.0 (Told me.0)
      → Allows (IsRuled fits shape) slots id me (number_of shape word) f (Tells Told me)
  permitted shape word is_w in_range live permits state h homes there small =
      let number = number_of shape word in
      let words = words_in shape state.words in
      let here : words word ≡ slice_index state.words number =
      words_in-word shape state.words word is_w in
      let gone = permits.goes words state.views id
      (record { lawful = h.lawful; there = there; live = live; in_range = in_range })
      (omega arith) in (
        gone.after,
        keeps,
        tt,
        record {
          sized = length-set state.words number _ ∙ h.sized;
          lawful = subst (λ w. IsLawful fits shape w (set state.views id gone.after))
              (sym (words_in-set shape state.words word
              (f (slice_index state.words number)) h.sized is_w))
              (subst (λ found. IsLawful fits shape (with_word words word (f found))
              (set state.views id gone.after)) here gone.lawful);
        },
        (subst (λ found. Told me.0 found gone.after) here gone.told, gone.same_rights, refl),
      )

  -- what the table asks of a step
  abbrev pub Asked : TableId → TableId → Shape → ℕ → Type 0
  Asked table seat key number =
      (seat ≡ table) × (number < table.words)
      × Allows (IsRuled fits key) slots id me number f (Tells Told me)

  pub step_call : (word : Word) (table seat : TableId) (key geometry shape : Shape)
      (ends : SpareEnds) (window : WindowModel) (rank : RankModel N) (number : ℕ)
      → (let seen : WindowModel = record { id = table; shape = geometry } in seen ≡ window)
      → IsSized table key geometry → IsSeen me seat shape ends rank → ¬ me.0.rights ≡ []
      → rank.window ≡ window → IsWord window.shape word → number ≡ number_of window.shape word
      → Permits fits window.shape word f rank.view (Told rank.view)
      → Asked table seat key number
  step_call word table seat key geometry shape ends window rank number window_is sized rank_is live
      of_window is_word number_is permits =
      let shape_is : geometry ≡ window.shape = ap (λ (w : WindowModel). w.shape) window_is in
      let view_is : me.0 ≡ rank.view = ap (λ (r : RankModel N). r.view) rank_is in
      let word_here : IsWord geometry word = subst (λ s. IsWord s word) (sym shape_is) is_word in
      let numbered : number ≡ number_of geometry word = number_is
      ∙ ap (λ s. number_of s word) (sym shape_is) in
      let permits_here : Permits fits geometry word f me.0 (Told me.0) =
      subst (λ v. Permits fits geometry word f v (Told v)) (sym view_is)
      (subst (λ s. Permits fits s word f rank.view (Told rank.view))
      (sym shape_is) permits) in (
        ap (λ (r : RankModel N). r.window.id) rank_is
            ∙ (ap (λ (w : WindowModel). w.id) of_window
            ∙ sym (ap (λ (w : WindowModel). w.id) window_is)),
        omega (arith, number_of-lt geometry word word_here, sized.words),
        subst (λ k. Allows (IsRuled fits k) slots id me number f (Tells Told me)) (sym sized.same)
            (subst (λ n. Allows (IsRuled fits geometry) slots id me n f (Tells Told me))
            (sym numbered)
            (permitted geometry word word_here sized.in_range live permits_here)),
      )

-- after a step that keeps the spares, a rank is one still
pub rank_keeps : {N : Type 0} {held : List Bool} (me after : Me (Unit {0}) (View N)) (seat : TableId) (shape : Shape)
    (ends : SpareEnds) (window : WindowModel) (rank : RankModel N) (Told : View N → Type 0)
    → IsSeen me seat shape ends rank → rank.window ≡ window → IsRank shape me ends held
    → Told me.0 × (after.0.rights ≡ me.0.rights) × (after.1 ≡ me.1)
    → (Told rank.view → SparesStay window.shape rank.spares rank.view after.0) → IsRank shape after ends held
rank_keeps {N} {held} me after seat shape ends window rank Told rank_is of_window was told stay =
    let shape_is : shape ≡ window.shape = ap (λ (r : RankModel N). r.window.shape) rank_is
    ∙ ap (λ (w : WindowModel). w.shape) of_window in
    let ends_is : ends ≡ rank.spares = ap (λ (r : RankModel N). r.spares) rank_is in
    let view_is : me.0 ≡ rank.view = ap (λ (r : RankModel N). r.view) rank_is in
    let stay_here : SparesStay shape ends me.0 after.0 =
    subst (λ s. SparesStay s ends me.0 after.0) (sym shape_is)
    (subst (λ e. SparesStay window.shape e me.0 after.0) (sym ends_is)
    (subst (λ v. SparesStay window.shape rank.spares v after.0) (sym view_is)
    (stay (subst Told view_is told.0)))) in
    record {
      slots = told.2 ∙ was.slots;
      live = λ none. was.live (sym told.1 ∙ none);
      rights = subst (AreRights held) (sym told.1) was.rights;
      has = stay_here was.has;
    }

-- the same of a seat that is no rank's
pub seat_call : {N : Type 0} (fits : Shape → Entry N → Type 0) (slots id : ℕ)
    (me : Me (Unit {0}) (View N)) (f : ℕ → ℕ) (Told : View N → ℕ → View N → Type 0) (word : Word)
    (table seat : TableId) (key geometry : Shape) (window : WindowModel) (number : ℕ)
    → (let seen : WindowModel = record { id = table; shape = geometry } in seen ≡ window)
    → IsSized table key geometry → ¬ me.0.rights ≡ [] → seat ≡ window.id
    → IsWord window.shape word → number ≡ number_of window.shape word
    → Permits fits window.shape word f me.0 (Told me.0)
    → Asked fits slots id me f Told table seat key number
seat_call {N} fits slots id me f Told word table seat key geometry window number window_is sized
    live of_window is_word number_is permits =
    let ends : SpareEnds = record { firsts = []; lasts = [] } in
    let rank : RankModel N =
    record { window = record { id = seat; shape = window.shape }; view = me.0; spares = ends } in
    step_call fits slots id me f Told word table seat key geometry window.shape ends window rank
    number window_is sized refl live
    (λ i. record { id = of_window i; shape = window.shape })
    is_word number_is permits
