-- Reading items one after the other, as a loop does.
use Rattle.std.proofs.Common.{◌≡◌, ℕ, suc, ◌-◌, ◌+◌, ◌≤◌, ◌<◌, List, [], ◌∷◌, ◌++◌, Option, Some, None, refl, sym, ap, ◌∙◌, append_assoc, arith}
use Rattle.std.proofs.lemmas.List.{append-nil}
use Rattle.holder_codec.specs.declared.unread.Unread.{Unread}
use Rattle.holder_codec.specs.declared.unread.Unread.TheVariants.{NotSpelled, NoMemory}
use Rattle.holder_codec.specs.Reading.{◌>>=◌, Fails, many_at}

-- what was read before, and what is still read
abbrev pub with_front : {X : Type 0} → List X → Option (List X × List ℕ) → Option (List X × List ℕ)
with_front front read = read >>= λ x. Some (front ++ x.0, x.1)

regroup : {X : Type 0} (front : List X) (n : X) (read : Option (List X × List ℕ)) → with_front front (read >>= λ x. Some (n ∷ x.0, x.1)) ≡ with_front (front ++ n ∷ []) read
regroup front n (Some x) = ap (λ (ns : List _). Some (ns, x.1)) (simp append_assoc)
regroup front n None = refl

module _ {X : Type 0} (one_at : List ℕ → Option (X × List ℕ)) where
  pub goes_on : (front : List X) (count i : ℕ) (words : List ℕ) (n : X) (after : List ℕ) (total : Option (List X × List ℕ)) → i < count → one_at words ≡ Some (n, after)
      → with_front front (many_at one_at (count - i) words) ≡ total → with_front (front ++ n ∷ []) (many_at one_at (count - (i + 1)) after) ≡ total
  unfolding many_at
  goes_on front count i words n after total lt h so_far =
      let k : count - i ≡ suc (count - (i + 1)) = omega arith in
      let one : with_front front (many_at one_at (count - i) words) ≡ with_front (front ++ n ∷ []) (many_at one_at (count - (i + 1)) after) = rw (k, h) (regroup front n (many_at one_at (count - (i + 1)) after)) in
      sym one ∙ so_far

  pub ends : (e : Unread) (front : List X) (count i : ℕ) (words : List ℕ) (total : Option (List X × List ℕ)) → i < count → Fails e (one_at words)
      → with_front front (many_at one_at (count - i) words) ≡ total → Fails e total
  unfolding many_at
  ends NoMemory front count i words total lt h so_far = tt
  ends NotSpelled front count i words total lt h so_far =
      let k : count - i ≡ suc (count - (i + 1)) = omega arith in
      let one : with_front front (many_at one_at (count - i) words) ≡ None = rw (k, h) refl in
      sym so_far ∙ one

  pub is_done : (front : List X) (count i : ℕ) (words : List ℕ) (total : Option (List X × List ℕ)) → count ≤ i → with_front front (many_at one_at (count - i) words) ≡ total → total ≡ Some (front, words)
  unfolding many_at
  is_done front count i words total le so_far =
      let k : count - i ≡ 0 = omega arith in
      let one : with_front front (many_at one_at (count - i) words) ≡ Some (front, words) = rw k (ap (λ (ns : List X). Some (ns, words)) (append-nil front)) in
      sym so_far ∙ one
