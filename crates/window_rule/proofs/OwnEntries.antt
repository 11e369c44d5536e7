-- The numbers of the entries that ranks made, once there is one more entry.
use Rattle.std.proofs.Common.{◌≡◌, ℕ, suc, ◌+◌, Bool, true, false, cond, List, [], ◌∷◌, ◌++◌, append-nil, length, refl, sym, ap, ◌∙◌, arith}
use Rattle.std.specs.List.{AllByRecursion}
use Rattle.object_words.specs.Entries.{Entry}
use Rattle.window_rule.specs.View.{Chronicle}
use Rattle.window_rule.specs.HistoryHolds.{IsChronicle, is_among, numbers_from}

step_number : (b : Bool) (k : ℕ) (more rest : List ℕ)
    → cond b (k ∷ (more ++ rest)) (more ++ rest) ≡ cond b (k ∷ more) more ++ rest
step_number true k more rest = refl
step_number false k more rest = refl

module _ {N : Type 0} (rights : List ℕ) (entry : Entry N) where
  pub numbers-push : (k : ℕ) (history : List (Entry N))
      → numbers_from k rights (history ++ entry ∷ []) ≡ numbers_from k rights history ++ cond
      (is_among entry.rank rights) ((k + length history) ∷ []) []
  numbers-push k [] = let same : k + 0 ≡ k = omega arith in ap
      (λ n. cond (is_among entry.rank rights) (n ∷ []) []) (sym same)
  numbers-push k (one ∷ more) =
      let next : (k + 1) + length more ≡ k + suc (length more) = omega arith in
      let rest = numbers-push (k + 1) more
      ∙ ap (λ n. numbers_from (k + 1) rights more ++ cond (is_among entry.rank rights) (n ∷ [])
      []) next in
      ap (λ l. cond (is_among one.rank rights) (k ∷ l) l) rest
      ∙ step_number (is_among one.rank rights) k (numbers_from (k + 1) rights more) _

abbrev pub OfOthers : {N : Type 0} → List ℕ → List (Entry N) → Type 0
OfOthers {N} rights entries = AllByRecursion
    (λ (entry : Entry N). is_among entry.rank rights ≡ false) entries

module _ {N : Type 0} (rights : List ℕ) where
  pub numbers-append : (k : ℕ) (xs ys : List (Entry N))
      → numbers_from k rights (xs ++ ys) ≡ numbers_from k rights xs ++ numbers_from
      (k + length xs) rights ys
  numbers-append k [] ys = let same : k + 0 ≡ k = omega arith in ap (λ n. numbers_from n rights ys)
      (sym same)
  numbers-append k (one ∷ more) ys =
      let next : (k + 1) + length more ≡ k + suc (length more) = omega arith in
      let rest = numbers-append (k + 1) more ys
      ∙ ap (λ n. numbers_from (k + 1) rights more ++ numbers_from n rights ys) next in
      ap (λ l. cond (is_among one.rank rights) (k ∷ l) l) rest
      ∙ step_number (is_among one.rank rights) k (numbers_from (k + 1) rights more) _

  pub numbers-none : (k : ℕ) (xs : List (Entry N)) → OfOthers rights xs
      → numbers_from k rights xs ≡ []
  numbers-none k [] h = refl
  numbers-none k (one ∷ more) h = ap
      (λ b. cond b (k ∷ numbers_from (k + 1) rights more) (numbers_from (k + 1) rights more)) h.0
      ∙ numbers-none (k + 1) more h.1

  pub numbers-rest : (seen rest history : List (Entry N)) → seen ++ rest ≡ history
      → OfOthers rights rest → numbers_from 0 rights seen ≡ numbers_from 0 rights history
  numbers-rest seen rest history e h =
      sym (append-nil (numbers_from 0 rights seen))
      ∙ (ap (λ l. numbers_from 0 rights seen ++ l) (sym (numbers-none (0 + length seen) rest h))
      ∙ (sym (numbers-append 0 seen rest) ∙ ap (numbers_from 0 rights) e))

-- its own entries, among all
pub own_in_history : {N : Type 0} (history : List (Entry N)) (one : Chronicle N)
    → IsChronicle history one → one.own ≡ numbers_from 0 one.rights history
own_in_history history one h = h.own
    ∙ numbers-rest one.rights one.seen h.begins.0 history h.begins.1 h.rest
