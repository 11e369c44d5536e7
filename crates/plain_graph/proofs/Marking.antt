-- Marks of objects: one more, and several.
use Rattle.std.proofs.Common.{◌≡◌, Bool, true, false, cond, not, ◌&&◌, ◌||◌, List, [], ◌∷◌, ◌++◌, map, Option, Some, None, is_some, refl, sym, ap, subst, ◌∙◌, arith}
use Rattle.std.specs.Ordering.{is_eq}
use Rattle.std.specs.Prelude.{◌==◌}
use Rattle.std.specs.List.{AllByRecursion, IsDistinct}
use Rattle.std.specs.List.Sorted.{IsStrictlySortedBy}
use Rattle.std.specs.Map.{lookup, keys_of}
use Rattle.std.specs.Option.{unwrap_or}
use Rattle.std.specs.BTreeMap.{BTreeMap, get}
use Rattle.std.proofs.lemmas.Bool.{and_parts, eqb-true}
use Rattle.std.proofs.lemmas.Bool.Decides.{nat_tests}
use Rattle.std.proofs.lemmas.Map.Keys.{IsDistinct-from_sorted, IsDistinct-head, IsDistinct-tail}
use Rattle.rma_layout.specs.Shape.{Shape}
use Rattle.graph_model.specs.Capacity.Object.{Reserved as OfReserved, OfVertex, OfHeavyEdge}
use Rattle.touched_objects.specs.Touched.{Spot, is_same_spot, is_touched}
use Rattle.touched_objects.specs.Weights.{AreApart}
use Rattle.map_graph.specs.declared.object_name.ObjectName.{ObjectName}
use Rattle.map_graph.specs.declared.object_name.ObjectName.TheVariants.{Reserved, Vertex, HeavyEdge}
use Rattle.map_graph.specs.contracts.object_name.ObjectNameOrd.TheImpl as ord
use Rattle.plain_graph.specs.Touching.{spot_named, is_same_name, Marks, mark_of, AreTold}

-- ---- names

-- the order of names tells the same names
pub ordered : (a b : ObjectName) → is_eq (ord.cmp-value.it a b) ≡ is_same_name b a
ordered (Reserved r i) (Reserved s j) = grind (arith, nat_tests)
ordered (Reserved r i) (Vertex j) = refl
ordered (Reserved r i) (HeavyEdge s j) = refl
ordered (Vertex i) (Reserved s j) = refl
ordered (Vertex i) (Vertex j) = grind (arith, nat_tests)
ordered (Vertex i) (HeavyEdge s j) = refl
ordered (HeavyEdge r i) (Reserved s j) = refl
ordered (HeavyEdge r i) (Vertex j) = refl
ordered (HeavyEdge r i) (HeavyEdge s j) = grind (arith, nat_tests)

pub turned : (a b : ObjectName) → is_same_name a b ≡ is_same_name b a
turned (Reserved r i) (Reserved s j) = grind (arith, nat_tests)
turned (Reserved r i) (Vertex j) = refl
turned (Reserved r i) (HeavyEdge s j) = refl
turned (Vertex i) (Reserved s j) = refl
turned (Vertex i) (Vertex j) = grind (arith, nat_tests)
turned (Vertex i) (HeavyEdge s j) = refl
turned (HeavyEdge r i) (Reserved s j) = refl
turned (HeavyEdge r i) (Vertex j) = refl
turned (HeavyEdge r i) (HeavyEdge s j) = grind (arith, nat_tests)

pub got : (m : BTreeMap ObjectName Bool) (name : ObjectName) → get ord.cmp-value.it m name ≡ mark_of m.entries name
got m name = ap (λ (test : ObjectName → Bool). lookup test m.entries) (λ i other. ordered name other i)

pub once-from_sorted : (names : List ObjectName) → IsStrictlySortedBy ord.cmp-value.it names → IsDistinct is_same_name names
once-from_sorted names sorted = subst (λ (e : ObjectName → ObjectName → Bool). IsDistinct e names) (λ i a b. (ordered a b ∙ turned b a) i) (IsDistinct-from_sorted ord.cmp-value.it names sorted)

-- names are the same where their spots are
pub same_spot : (shape : Shape) (a b : ObjectName) → is_same_spot (spot_named shape a) (spot_named shape b) ≡ is_same_name a b
same_spot shape (Reserved r i) (Reserved s j) = refl
same_spot shape (Reserved r i) (Vertex j) = refl
same_spot shape (Reserved r i) (HeavyEdge s j) = refl
same_spot shape (Vertex i) (Reserved s j) = refl
same_spot shape (Vertex i) (Vertex j) = refl
same_spot shape (Vertex i) (HeavyEdge s j) = refl
same_spot shape (HeavyEdge r i) (Reserved s j) = refl
same_spot shape (HeavyEdge r i) (Vertex j) = refl
same_spot shape (HeavyEdge r i) (HeavyEdge s j) = refl

pub name_same : (a b : ObjectName) → is_same_name a b ≡ true → a ≡ b
name_same (Reserved r i) (Reserved s j) is = let parts = and_parts (r == s) (i == j) is in λ k. Reserved (eqb-true r s parts.0 k) (eqb-true i j parts.1 k)
name_same (Reserved r i) (Vertex j) is = cc
name_same (Reserved r i) (HeavyEdge s j) is = cc
name_same (Vertex i) (Reserved s j) is = cc
name_same (Vertex i) (Vertex j) is = λ k. Vertex (eqb-true i j is k)
name_same (Vertex i) (HeavyEdge s j) is = cc
name_same (HeavyEdge r i) (Reserved s j) is = cc
name_same (HeavyEdge r i) (Vertex j) is = cc
name_same (HeavyEdge r i) (HeavyEdge s j) is = let parts = and_parts (r == s) (i == j) is in λ k. HeavyEdge (eqb-true r s parts.0 k) (eqb-true i j parts.1 k)

-- ---- marks

is_touched-append : (xs ys : List Spot) (spot : Spot) → is_touched (xs ++ ys) spot ≡ (is_touched xs spot || is_touched ys spot)
is_touched-append [] ys spot = refl
is_touched-append (x ∷ xs) ys spot = ap (λ b. is_same_spot x spot || b) (is_touched-append xs ys spot) ∙ or_assoc (is_same_spot x spot) (is_touched xs spot) (is_touched ys spot)
  where
    or_assoc : (a b c : Bool) → (a || (b || c)) ≡ ((a || b) || c)
    or_assoc true b c = refl
    or_assoc false b c = refl

pub told_none : (shape : Shape) (marks : Marks) → AreTold shape marks marks [] (λ _. true)
told_none shape marks = record { touched = λ name. refl; had = λ name. and_true (unwrap_or (mark_of marks name) true) }
  where
    and_true : (b : Bool) → b ≡ (b && true)
    and_true true = refl
    and_true false = refl

pub told_more : (shape : Shape) (a b c : Marks) (xs ys : List Spot) (h k : ObjectName → Bool) → AreTold shape a b xs h → AreTold shape b c ys k → AreTold shape a c (xs ++ ys) (λ name. h name && k name)
told_more shape a b c xs ys h k one other = record {
  touched = λ name. other.touched name ∙ ap (λ t. is_touched ys (spot_named shape name) || t) (one.touched name) ∙ turn (is_touched ys (spot_named shape name)) (is_touched xs (spot_named shape name)) (is_some (mark_of a name))
      ∙ ap (λ t. t || is_some (mark_of a name)) (sym (is_touched-append xs ys (spot_named shape name)));
  had = λ name. other.had name ∙ ap (λ t. t && k name) (one.had name) ∙ and_assoc (unwrap_or (mark_of a name) true) (h name) (k name);
}
  where
    turn : (p q r : Bool) → (p || (q || r)) ≡ ((q || p) || r)
    turn true true r = refl
    turn true false r = refl
    turn false true r = refl
    turn false false r = refl

    and_assoc : (p q r : Bool) → ((p && q) && r) ≡ (p && (q && r))
    and_assoc true q r = refl
    and_assoc false q r = refl

pub told_as : (shape : Shape) (a b : Marks) (xs : List Spot) (h k : ObjectName → Bool) → ((name : ObjectName) → h name ≡ k name) → AreTold shape a b xs h → AreTold shape a b xs k
told_as shape a b xs h k same told = record { touched = told.touched; had = λ name. told.had name ∙ ap (λ t. unwrap_or (mark_of a name) true && t) (same name) }

-- one more object
pub told_one : (shape : Shape) (a b : Marks) (object : ObjectName) (had now : Bool) → now ≡ (unwrap_or (mark_of a object) true && had) → ((name : ObjectName) → mark_of b name ≡ cond (is_same_name object name) (Some now) (mark_of a name))
    → AreTold shape a b (spot_named shape object ∷ []) (λ name. not (is_same_name object name) || had)
told_one shape a b object had now is updated = record {
  touched = λ name. ap is_some (updated name) ∙ here (is_same_name object name) (mark_of a name) ∙ ap (λ t. (t || false) || is_some (mark_of a name)) (sym (same_spot shape object name));
  had = λ name. ap (λ o. unwrap_or o true) (updated name) ∙ kept (is_same_name object name) (mark_of a name) (λ same. ap (mark_of a) (name_same object name same));
}
  where
    here : (t : Bool) (o : Option Bool) → is_some (cond t (Some now) o) ≡ ((t || false) || is_some o)
    here true o = refl
    here false o = refl

    kept : (t : Bool) (o : Option Bool) → (t ≡ true → mark_of a object ≡ o) → unwrap_or (cond t (Some now) o) true ≡ (unwrap_or o true && (not t || had))
    kept true o at = is ∙ ap (λ p. unwrap_or p true && had) (at refl)
    kept false None at = refl
    kept false (Some true) at = refl
    kept false (Some false) at = refl

-- ---- the spots of marked objects

abbrev pub spots_of : Shape → Marks → List Spot
spots_of shape marks = map (λ mark. spot_named shape mark.0) marks

pub touched-marks : (shape : Shape) (marks : Marks) (name : ObjectName) → is_touched (spots_of shape marks) (spot_named shape name) ≡ is_some (mark_of marks name)
touched-marks shape [] name = refl
touched-marks shape (mark ∷ marks) name =
    (λ i. same_spot shape mark.0 name i || touched-marks shape marks name i) ∙ met (is_same_name mark.0 name) (mark_of marks name)
  where
    met : (b : Bool) (o : Option Bool) → (b || is_some o) ≡ is_some (cond b (Some mark.1) o)
    met true o = refl
    met false o = refl

-- a name of a spot's object
abbrev pub name_for : Spot → ObjectName
name_for (r, OfReserved block) = Reserved r block
name_for (r, OfVertex id) = Vertex id
name_for (r, OfHeavyEdge source ordinal) = HeavyEdge source ordinal

same-name_for : (shape : Shape) (one spot : Spot) → is_same_spot one spot ≡ is_same_spot one (spot_named shape (name_for spot))
same-name_for shape (r, OfReserved i) (s, OfReserved j) = refl
same-name_for shape (r, OfReserved i) (s, OfVertex j) = refl
same-name_for shape (r, OfReserved i) (s, OfHeavyEdge j m) = refl
same-name_for shape (r, OfVertex i) (s, OfReserved j) = refl
same-name_for shape (r, OfVertex i) (s, OfVertex j) = refl
same-name_for shape (r, OfVertex i) (s, OfHeavyEdge j m) = refl
same-name_for shape (r, OfHeavyEdge i n) (s, OfReserved j) = refl
same-name_for shape (r, OfHeavyEdge i n) (s, OfVertex j) = refl
same-name_for shape (r, OfHeavyEdge i n) (s, OfHeavyEdge j m) = refl

pub touched-name_for : (shape : Shape) (spots : List Spot) (spot : Spot) → is_touched spots spot ≡ is_touched spots (spot_named shape (name_for spot))
touched-name_for shape [] spot = refl
touched-name_for shape (one ∷ spots) spot = λ i. same-name_for shape one spot i || touched-name_for shape spots spot i

unmarked : (marks : Marks) (name : ObjectName) → AllByRecursion (λ other. is_same_name name other ≡ false) (keys_of marks) → mark_of marks name ≡ None
unmarked [] name other = refl
unmarked (mark ∷ marks) name other = ap (λ b. cond b (Some mark.1) (mark_of marks name)) (turned mark.0 name ∙ other.0) ∙ unmarked marks name other.1

pub apart-marks : (shape : Shape) (marks : Marks) → IsDistinct is_same_name (keys_of marks) → AreApart (spots_of shape marks)
apart-marks shape [] once = tt
apart-marks shape (mark ∷ marks) once = (
  touched-marks shape marks mark.0 ∙ ap is_some (unmarked marks mark.0 (IsDistinct-head is_same_name mark.0 (keys_of marks) once)),
  apart-marks shape marks (IsDistinct-tail is_same_name mark.0 (keys_of marks) once),
)

itself : (name : ObjectName) → is_same_name name name ≡ true
itself (Reserved r i) = grind (arith, nat_tests)
itself (Vertex i) = grind (arith, nat_tests)
itself (HeavyEdge r i) = grind (arith, nat_tests)

-- each object has its mark
pub each_marked : (marks : Marks) → IsDistinct is_same_name (keys_of marks) → AllByRecursion (λ mark. mark_of marks mark.0 ≡ Some mark.1) marks
each_marked [] once = tt
each_marked (mark ∷ marks) once = (
  ap (λ b. cond b (Some mark.1) (mark_of marks mark.0)) (itself mark.0),
  others marks (IsDistinct-head is_same_name mark.0 (keys_of marks) once) (each_marked marks (IsDistinct-tail is_same_name mark.0 (keys_of marks) once)),
)
  where
    others : (rest : Marks) → AllByRecursion (λ other. is_same_name mark.0 other ≡ false) (keys_of rest) → AllByRecursion (λ other. mark_of marks other.0 ≡ Some other.1) rest
        → AllByRecursion (λ other. mark_of (mark ∷ marks) other.0 ≡ Some other.1) rest
    others [] apart each = tt
    others (other ∷ rest) apart each = (ap (λ b. cond b (Some mark.1) (mark_of marks other.0)) apart.0 ∙ each.0, others rest apart.1 each.1)
