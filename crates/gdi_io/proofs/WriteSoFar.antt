-- What a loop of writes keeps.
use Rattle.std.proofs.Common.{◌≡◌, ℕ, ◌+◌, ◌≤◌, List, ◌++◌, length, take, drop, Option, Some, None, IsSome, IfSome, Ok, refl, ◌∙◌, ap, arith, append_assoc, length-drop, take-add}
use Rattle.gdi_io.specs.Sink.{Taken, Takes, KeepsTold, Writes}

-- the first n bytes are taken, where told
pub record HasTaken (old now : Taken) (bytes : List ℕ) (n : ℕ) : Type 0 where
  pub later : old.faults ≤ now.faults
  pub told : KeepsTold old now
  pub bound : n ≤ length bytes
  pub takes : Takes old now (take n bytes)

-- what was taken in two steps, each told of
takes_both : (old now new : Option (List ℕ)) (first next : List ℕ) → (IsSome new → IsSome now) → IfSome now (λ y. IfSome old (λ x. y ≡ x ++ first)) → IfSome new (λ z. IfSome now (λ y. z ≡ y ++ next)) → IfSome new (λ z. IfSome old (λ x. z ≡ x ++ (first ++ next)))
takes_both old now None first next told p q = tt
takes_both old None (Some z) first next told p q = let e : IsSome {T = List ℕ} None = told refl in absurd (cc)
takes_both None (Some y) (Some z) first next told p q = tt
takes_both (Some x) (Some y) (Some z) first next told p q = q ∙ ap (λ l. l ++ next) p ∙ append_assoc x first next

pub has_taken_on : {E : Type 0} (old now new : Taken) (bytes piece : List ℕ) (n m : ℕ) → HasTaken old now bytes n → piece ≡ drop n bytes → Writes {E = E} now new piece (Ok m) → HasTaken old new bytes (n + m)
has_taken_on old now new bytes piece n m h e w =
    let next : Takes now new (take m (drop n bytes)) = rw e at w.ok in
    record {
      later = omega arith;
      told = λ t. h.told (w.told t);
      bound = omega (arith, length-drop n bytes, ap length e, w.most);
      takes = rw (take-add n m bytes) (takes_both old.taken now.taken new.taken (take n bytes) (take m (drop n bytes)) w.told h.takes next);
    }
