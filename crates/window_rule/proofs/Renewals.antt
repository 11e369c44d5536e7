-- After its head was loaded a rank that is alone may renew the tag.
use Rattle.std.proofs.Common.{◌≡◌, ℕ, cond, sym, ap, refl, subst, Some, None, eq-eqb}
use Rattle.object_words.specs.Entries.{Entry}
use Rattle.rma_layout.specs.declared.word.Word.TheVariants.{Head}
use Rattle.rma_layout.specs.Shape.{Shape}
use Rattle.window_rule.specs.View.{View}
use Rattle.window_rule.specs.RightsHold.{IsAlone}
use Rattle.window_rule.specs.Objects.{first_of}
use Rattle.window_rule.specs.Permits.{Permits}
use Rattle.window_rule.specs.Pool.{Heads, MayRenew, note_of, renewed, without_note}
use Rattle.window_rule.proofs.NoteSteps.{renew_permitted}

pub renew_after : {N : Type 0} (shape : Shape) (rank : ℕ) (before : View N) (found : ℕ)
    (after : View N) → IsAlone shape before → Heads shape rank before found after
    → MayRenew shape after rank found
renew_after {N} shape rank before found after alone told = subst
    (λ (v : View N). MayRenew shape v rank found) (sym told.view) (record {
      alone = alone;
      knows = record {
        note = record { rank = rank; head = found; next = None; list = told.list };
        noted = ap (λ b. cond b
            (Some (record { rank = rank; head = found; next = None; list = told.list }))
            (note_of (without_note before.notes rank) rank)) (eq-eqb rank rank refl);
        head_is = refl;
      };
    })

-- the word that is stored is the head with the tag 0
pub renew_permitted_at : {N : Type 0} (fits : Shape → Entry N → Type 0) (shape : Shape)
    (before : View N) (rank head new : ℕ) → MayRenew shape before rank head → new ≡ first_of head
    → Permits fits shape (Head rank) (λ _. new) before (λ _ after. after ≡ renewed rank before)
renew_permitted_at {N} fits shape before rank head new may new_is = subst
    (λ n. Permits fits shape (Head rank) (λ _. n) before (λ _ after. after ≡ renewed rank before))
    (sym new_is) (renew_permitted fits shape before rank head may)
