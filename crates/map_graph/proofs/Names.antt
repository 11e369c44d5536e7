-- The names and the kinds of a constraint, list by list.
use Rattle.std.proofs.Common.{◌≡◌, ℕ, suc, ◌+◌, ◌<◌, length, get_or, drop, arith, Bool, true, false, ◌||◌, List, [], ◌∷◌, ◌++◌, Ok, Err, is_ok, true≢false, refl, sym, ap, ◌∙◌}
use Rattle.std.specs.Prelude.{is_none}
use Rattle.std.specs.List.{list_any, flat_map}
use Rattle.std.proofs.lemmas.List.Folds.{list_any-append}
use Rattle.std.proofs.Math.Seq.{drop-cons}
use Rattle.gdi_kinds.specs.declared.constraint.Atom.{Atom}
use Rattle.gdi_kinds.specs.declared.constraint.Atom.TheVariants.{Has, Lacks, Prop}
use Rattle.gdi_kinds.specs.declared.reply.Reply.{Reply}
use Rattle.gdi_kinds.specs.declared.reply.Reply.TheVariants as reply
use Rattle.graph_model.specs.Graph.{Graph}
use Rattle.graph_model.specs.Lookups.{label_number, type_number}
use Rattle.graph_model.specs.Steps.{◌>>=◌, Step, refused_if}
use Rattle.graph_model.specs.ListCalls.{names_known}

abbrev pub Told : Type 0
Told = Unit {0}

abbrev pub known : Step Told
known = Ok tt

either : (b : Bool) (r : Reply) (rest : Step Told) → known ≡ (refused_if b r >>= (λ _. known)) → (refused_if b r >>= (λ _. rest)) ≡ rest
either true r rest is = absurd (true≢false (ap is_ok is))
either false r rest is = refl

abbrev pub failed : Reply → Step Told
failed s = Err s

stops : (b : Bool) (r s : Reply) (rest : Step Told) → failed s ≡ (refused_if b r >>= (λ _. known)) → failed s ≡ (refused_if b r >>= (λ _. rest))
stops true r s rest is = is
stops false r s rest is = absurd (true≢false (sym (ap is_ok is)))

-- the item at a place, and those behind it
pub split_at : {X : Type 0} (xs : List X) (i : ℕ) (x : X) → i < length xs → x ≡ get_or xs i x → drop i xs ≡ x ∷ drop (i + 1) xs
split_at xs i x below is =
    let one_more : suc i ≡ i + 1 = omega arith in
    drop-cons xs i x below ∙ ap (λ y. y ∷ drop (suc i) xs) (sym is) ∙ ap (λ n. x ∷ drop n xs) one_more

module _ (g : Graph) where
  -- one atom that is known
  pub known_one : (a : Atom) (rest : List Atom) → known ≡ names_known g (a ∷ []) → names_known g (a ∷ rest) ≡ names_known g rest
  known_one (Has name) rest is = either (is_none (label_number g name)) reply.NoLabel (names_known g rest) is
  known_one (Lacks name) rest is = either (is_none (label_number g name)) reply.NoLabel (names_known g rest) is
  known_one (Prop name op value) rest is = either (is_none (type_number g name)) reply.NoType (names_known g rest) is

  pub unknown_one : (a : Atom) (s : Reply) (rest : List Atom) → failed s ≡ names_known g (a ∷ []) → failed s ≡ names_known g (a ∷ rest)
  unknown_one (Has name) s rest unknown = stops (is_none (label_number g name)) reply.NoLabel s (names_known g rest) unknown
  unknown_one (Lacks name) s rest unknown = stops (is_none (label_number g name)) reply.NoLabel s (names_known g rest) unknown
  unknown_one (Prop name op value) s rest unknown = stops (is_none (type_number g name)) reply.NoType s (names_known g rest) unknown

  after_one : (b : Bool) (r : Reply) (x y : Step Told) → x ≡ y → (refused_if b r >>= (λ _. x)) ≡ (refused_if b r >>= (λ _. y))
  after_one b r x y same = ap (λ s. refused_if b r >>= (λ _. s)) same

  assoc : (b : Bool) (r : Reply) (x y : Step Told) → ((refused_if b r >>= (λ _. x)) >>= (λ _. y)) ≡ (refused_if b r >>= (λ _. x >>= (λ _. y)))
  assoc true r x y = refl
  assoc false r x y = refl

  -- a list and then another
  pub both-lists : (xs ys : List Atom) → names_known g (xs ++ ys) ≡ names_known g xs >>= (λ _. names_known g ys)
  both-lists [] ys = refl
  both-lists (Has name ∷ xs) ys =
      after_one (is_none (label_number g name)) reply.NoLabel _ _ (both-lists xs ys) ∙ sym (assoc (is_none (label_number g name)) reply.NoLabel (names_known g xs) (names_known g ys))
  both-lists (Lacks name ∷ xs) ys =
      after_one (is_none (label_number g name)) reply.NoLabel _ _ (both-lists xs ys) ∙ sym (assoc (is_none (label_number g name)) reply.NoLabel (names_known g xs) (names_known g ys))
  both-lists (Prop name op value ∷ xs) ys =
      after_one (is_none (type_number g name)) reply.NoType _ _ (both-lists xs ys) ∙ sym (assoc (is_none (type_number g name)) reply.NoType (names_known g xs) (names_known g ys))

  pub known_list : (xs ys : List Atom) → known ≡ names_known g xs → names_known g (xs ++ ys) ≡ names_known g ys
  known_list xs ys is = both-lists xs ys ∙ ap (λ s. s >>= (λ _. names_known g ys)) (sym is)

  pub unknown_list : (xs ys : List Atom) (s : Reply) → failed s ≡ names_known g xs → failed s ≡ names_known g (xs ++ ys)
  unknown_list xs ys s unknown = ap (λ r. r >>= (λ _. names_known g ys)) unknown ∙ sym (both-lists xs ys)

pub any-flat : {X : Type 0} (p : X → Bool) (xss : List (List X)) → list_any (list_any p) xss ≡ list_any p (flat_map (λ xs. xs) xss)
any-flat p [] = refl
any-flat p (xs ∷ xss) = ap (λ b. list_any p xs || b) (any-flat p xss) ∙ sym (list_any-append p xs (flat_map (λ ys. ys) xss))
