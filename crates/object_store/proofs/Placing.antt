-- The step that places an entry keeps the rule.
use Rattle.std.proofs.Common.{◌≡◌, ℕ, zero, suc, false, add-one, ◌+◌, ◌%◌, ◌^◌, ◌<◌, [], ◌∷◌, ◌++◌, length, refl, sym, ap, ◌∙◌, subst, arith, length-append, Option, Some, slice_set, slice_index}
use Rattle.std.specs.List.{range_with_len}
use mathlib.Core.Option.{some}
use lib.ListN.{get_elem?}
use Rattle.std.proofs.lemmas.List.Elements.{All-append}
use Rattle.atomic_table.specs.Table.{Me, Allows, keeps}
use Rattle.rma_layout.specs.Shape.{Shape}
use Rattle.object_words.specs.Contents.{Agrees}
use Rattle.object_words.specs.Entries.{Entry, HasMaps, store_after}
use Rattle.object_words.proofs.Histories.{All-one, legal-push}
use Rattle.object_store.specs.Ledger.{Account, IsHistory, IsKept, Places, account_with}

range-push : (start n last : ℕ) → start + n ≡ last → range_with_len start n ++ last ∷ [] ≡ range_with_len start (n + 1)
range-push start zero last e = ap (λ x. x ∷ []) (omega arith)
range-push start (suc n) last e =
    ap (λ rest. start ∷ rest) (range-push (start + 1) n last (omega arith) ∙ ap (range_with_len (start + 1)) (add-one n))
    ∙ ap (range_with_len start) (sym (add-one (suc n)))

pub history-push : {N : Type 0} (fits : Shape → Entry N → Type 0) (account : Account N) (entry : Entry N)
    → IsHistory fits account → fits account.shape entry → HasMaps entry → Agrees entry.reads (store_after account.seen) → length account.seen < 2 ^ 62
    → IsHistory fits (account_with account entry)
history-push fits account entry h fit maps agrees room = record {
  legal = legal-push false account.shape account.seen entry h.legal maps agrees (λ never. absurd (cc never));
  fit = All-append (fits account.shape) account.seen (entry ∷ []) h.fit (All-one (fits account.shape) entry fit);
  own = ap (λ xs. xs ++ length account.seen ∷ []) h.own ∙ (range-push 0 (length account.seen) (length account.seen) (omega arith) ∙ ap (range_with_len 0) (sym (length-append account.seen (entry ∷ []))));
  few = omega (arith, length-append account.seen (entry ∷ []));
}

pub placing : {S N : Type 0} (fits : Shape → Entry N → Type 0) (slots : ℕ) (placed : Option (Entry N)) (entry : Entry N) (me : Me S (Account N))
    → placed ≡ Some entry → fits me.0.shape entry → HasMaps entry → Agrees entry.reads (store_after me.0.seen) → length me.0.seen < 2 ^ 62
    → Allows (IsKept fits) slots 0 me 0 (λ n. (n + 1) % 2 ^ 64) (λ found after. Places placed fits me found after)
placing {S} {N} fits slots placed entry me said fit maps agrees room s kept homes view word =
    let shown : some kept.account ≡ some me.0 = sym (ap (λ vs. get_elem? vs 0) kept.views) ∙ view in
    let same : kept.account ≡ me.0 = cc shown in
    let history : IsHistory fits me.0 = subst (IsHistory fits) same kept.history in
    let next : IsHistory fits (account_with me.0 entry) = history-push fits me.0 entry history fit maps agrees room in
    let words : s.words ≡ length me.0.seen ∷ [] = kept.words ∙ ap (λ account. length account.seen ∷ []) same in
    let found : slice_index s.words 0 ≡ length me.0.seen = ap (λ ws. slice_index ws 0) words in
    let counted : (length me.0.seen + 1) % 2 ^ 64 ≡ length (me.0.seen ++ entry ∷ []) = omega (arith, length-append me.0.seen (entry ∷ [])) in (
      account_with me.0 entry,
      keeps,
      tt,
      record {
        account = account_with me.0 entry;
        words = ap (λ ws. slice_set ws 0 ((slice_index ws 0 + 1) % 2 ^ 64)) words ∙ ap (λ n. n ∷ []) counted;
        views = ap (λ vs. slice_set vs 0 (account_with me.0 entry)) kept.views;
        history = next;
      },
      record { entry = entry; said = said; same = refl; length_is = found; history = next },
    )
